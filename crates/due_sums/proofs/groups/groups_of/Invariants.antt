use Rattle.std.proofs.Common.{◌++◌, ◌∷◌, []}
use Rattle.due_sums.specs.Groups.{AreFirstGroups}
use Rattle.due_sums.proofs.groups.groups_of.Given as goal

-- the groups of the sums before this one
abbrev pub invariant-loop-sum : goal.invariant-loop-sum
invariant-loop-sum l = AreFirstGroups l.sum l.sums l.inputs.items (l.starts.items ++ l.sum ∷ [])
