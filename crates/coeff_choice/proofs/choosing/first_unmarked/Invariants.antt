use Rattle.std.proofs.Common.{◌≡◌, ◌<◌, ℕ, true, get_or}
use Rattle.coeff_choice.proofs.choosing.first_unmarked.Given as goal

-- the numbers before are marked
abbrev pub invariant-loop-number : goal.invariant-loop-number
invariant-loop-number l = (n : ℕ) → n < l.number → get_or l.marks n true ≡ true
