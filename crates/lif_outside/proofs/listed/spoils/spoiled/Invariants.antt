-- The changes so far were made.
use Rattle.std.proofs.Common.{◌≡◌, take}
use Rattle.lif_outside.specs.Spoils.{spoiled}
use Rattle.lif_outside.proofs.listed.spoils.spoiled.Given as goal

abbrev pub invariant-loop-spoil : goal.invariant-loop-spoil
invariant-loop-spoil l = l.given ≡ spoiled (take l.spoil-index l.spoils) l.nth l.initial.given
