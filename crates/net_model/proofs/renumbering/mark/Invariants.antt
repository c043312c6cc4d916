use Rattle.std.proofs.Common.{take}
use Rattle.net_model.specs.Renumbering.{AreMarked}
use Rattle.net_model.proofs.renumbering.mark.Given as goal

abbrev pub invariant-loop-link : goal.invariant-loop-link
invariant-loop-link l = AreMarked (take l.link-index l.links) l.is_marked l.initial.marks l.marks
