-- The places of numbers in lists.
use Rattle.std.specs.Prelude.{◌≡◌, ◌<◌, ◌==◌, ℕ, Contains, List, length}
use Rattle.std.specs.List.{position_or_len}
use Rattle.std.proofs.Common.{sym, ◌∙◌, arith, get_or, inl, inr}
use Rattle.std.proofs.lemmas.Bool.{cases_lt, eq-eqb, eqb-true, true≢false}
use Rattle.std.proofs.lemmas.List.Sums.{fails_before_first, passes_at_first}

-- the place of a number
abbrev pub place_in : List ℕ → ℕ → ℕ
place_in xs x = position_or_len (λ one. one == x) xs

-- a place within a list is that of the number
pub place_in-found : (xs : List ℕ) (x d : ℕ) → place_in xs x < length xs → get_or xs (place_in xs x) d ≡ x
place_in-found xs x d within = eqb-true (get_or xs (place_in xs x) d) x (passes_at_first (λ one. one == x) xs d within)

-- so the number stands in the list
pub Contains-place_in : (xs : List ℕ) (x : ℕ) → place_in xs x < length xs → Contains xs x
Contains-place_in xs x within = (place_in xs x, within, place_in-found xs x x within)

-- a number of the list has a place
pub place_in-within : (xs : List ℕ) (x : ℕ) → Contains xs x → place_in xs x < length xs
place_in-within xs x stands = elim (cases_lt (place_in xs x) (length xs)) [
  | inl within ↦ within
  | inr past ↦
      let passes = eq-eqb (get_or xs stands.0 x) x stands.2 in
      let fails = fails_before_first (λ one. one == x) xs stands.0 x (omega (arith, past, stands.1)) in
      absurd (true≢false (sym passes ∙ fails))
]
