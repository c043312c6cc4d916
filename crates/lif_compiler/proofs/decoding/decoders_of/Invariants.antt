use Rattle.std.proofs.Common.{◌≡◌, length}
use Rattle.lif_compiler.specs.Decoders.{AreReadOff}
use Rattle.lif_compiler.proofs.decoding.decoders_of.Given as goal

-- the decoders of the bases before this one
abbrev pub invariant-loop-basis : goal.invariant-loop-basis
invariant-loop-basis g l = record {
  count : length l.decoders.items ≡ l.basis-index;
  each : AreReadOff l.bases l.decoders.items;
}
