-- What is filled was consumed, and what stands behind it stays.
use Rattle.std.proofs.Common.{◌≡◌, ◌≤◌, ◌-◌, length, take, drop}
use Rattle.std.specs.Io.KnownBytes.{Consumes}
use Rattle.system_files.proofs.pieces.read_full.Given as goal

abbrev pub invariant-loop-filled : goal.invariant-loop-filled
invariant-loop-filled g l = record {
  within : l.filled ≤ length l.into;
  rest : drop l.filled l.into ≡ drop l.filled l.initial.into;
  bytes : Consumes (g.F.Read.remaining l.initial.file) (g.F.Read.remaining l.file) (take l.filled l.into);
}

abbrev pub decreases-loop-filled : goal.decreases-loop-filled
decreases-loop-filled g l = length l.initial.into - l.filled
