use Rattle.std.proofs.Common.{◌≡◌, map, take}
use Rattle.two_sources.specs.Separated.{separated_decoder}
use Rattle.two_sources.proofs.decoders.separated_decoders.Given as goal

-- the decoders so far are made
abbrev pub invariant-loop-decoder : goal.invariant-loop-decoder
invariant-loop-decoder l = l.decoders.items ≡ map (separated_decoder l.code) (take l.decoder-index l.decoder-items)
