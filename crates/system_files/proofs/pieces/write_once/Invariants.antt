-- A write that was interrupted wrote nothing.
use Rattle.std.specs.Io.KnownBytes.{Keeps}
use Rattle.system_files.proofs.pieces.write_once.Given as goal

abbrev pub invariant-loop : goal.invariant-loop
invariant-loop g l = Keeps (g.F.Write.contents l.initial.file) (g.F.Write.contents l.file)
