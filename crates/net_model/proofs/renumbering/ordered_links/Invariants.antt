use Rattle.std.proofs.Common.{◌≡◌, take}
use Rattle.net_model.specs.Renumbering.{renumbered_links}
use Rattle.net_model.proofs.renumbering.ordered_links.Given as goal

abbrev pub invariant-loop-old : goal.invariant-loop-old
invariant-loop-old l = l.ordered.items ≡ renumbered_links l.links (take l.old-index l.order)
