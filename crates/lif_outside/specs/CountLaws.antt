-- What follows of counts that rose and never fall.
use Rattle.std.specs.Prelude.{◌≡◌, ℕ, ◌+◌, ◌-◌, ◌^◌, ◌≤◌}
use Rattle.std.proofs.Common.{sym, subst}
use Rattle.std.proofs.Math.Nat.{le_refl, le_trans, add-le-add, le-min, min-le_left, min-le_right}
use Rattle.lif_outside.specs.Counts.{one_more, Rose}

-- a count that rose has risen, also where it grew before or grows afterwards
pub rose_then : (a b c : ℕ) → Rose a b → b ≤ c → Rose a c
rose_then a b c rose later = le_trans rose later

pub then_rose : (a b c : ℕ) → a ≤ b → Rose b c → Rose a c
then_rose a b c earlier rose =
    le_trans (le-min (le_trans (min-le_left (a + 1) (2 ^ 64 - 1)) (add-le-add earlier (le_refl 1))) (min-le_right (a + 1) (2 ^ 64 - 1))) rose

-- one more is a rise
pub one_more-rose : (a b : ℕ) → b ≡ one_more a → Rose a b
one_more-rose a b e = subst (λ n. one_more a ≤ n) (sym e) (le_refl (one_more a))
