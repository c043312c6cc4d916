-- A number above the last of a list, by looking at the last.
use Rattle.std.proofs.Common.{◌≡◌, ℕ, suc, ◌-◌, true, List, [], ◌∷◌, length, map, slice_get, refl, arith}
use Rattle.std.specs.Prelude.{nat_lt}
use Rattle.std.specs.Option.{option_map_or}
use Rattle.code_items.specs.Reading.{is_above_last}

pub above_last_by : {X : Type 0} (f : X → ℕ) (xs : List X) (number : ℕ) → is_above_last (map f xs) number ≡ option_map_or (λ x. nat_lt (f x) number) (slice_get xs (length xs - 1)) true
above_last_by f [] number = refl
above_last_by f (x ∷ []) number = refl
above_last_by f (x ∷ y ∷ ys) number =
    let place : length (x ∷ y ∷ ys) - 1 ≡ suc (length (y ∷ ys) - 1) = omega arith in
    rw place (above_last_by f (y ∷ ys) number)
