-- Laws of the last link of a path below a bound.
use Rattle.std.specs.Prelude.{◌≡◌, ◌≢◌, ◌<◌, ◌≤◌, ◌+◌, ◌-◌, ℕ, zero, suc, true, false, ◌==◌, nat_lt, IsTrue, List, [], ◌∷◌, All, length, slice_index, Some, None}
use Rattle.std.specs.List.{list_all}
use Rattle.std.proofs.Common.{refl, sym, ◌∙◌, ap, arith, inl, inr}
use Rattle.std.proofs.lemmas.Bool.{and_parts, cases_lt, eqb-false, eqb-true, le-ltb, lt-ltb, ltb-true, or_cases, or_parts}
use Rattle.std.proofs.lemmas.List.Elements.{All-tail}
use Rattle.std.proofs.lemmas.List.Sums.{AllPass-from_list_all}
use Rattle.net_model.specs.Lists.{is_among, is_rising}
use Rattle.lif_compiler.specs.Frontier.{last_below}

-- where all links are above a number, none is below a bound that is at most the next
none_above : (bound number : ℕ) (path : List ℕ) → bound ≤ number + 1 → list_all (nat_lt number) path ≡ true → last_below bound path ≡ None
none_above bound number [] most above = refl
none_above bound number (link ∷ path) most above =
    let parts = and_parts _ _ above in
    let past = ltb-true number link parts.0 in
    rw (none_above bound number path most parts.1, le-ltb link bound (omega arith)) refl

-- below 0 there is none
pub last_below-none : (path : List ℕ) → last_below 0 path ≡ None
last_below-none [] = refl
last_below-none (link ∷ path) = rw (last_below-none path, le-ltb link 0 (omega arith)) refl

-- below a bound on all links of a path it is the last
pub last_below-whole : (bound : ℕ) (path : List ℕ) → All (λ link. link < bound) path → 0 < length path → last_below bound path ≡ Some (slice_index path (length path - 1))
last_below-whole bound [] below some = absurd (omega arith)
last_below-whole bound (link ∷ []) below some = rw (lt-ltb link bound (below 0 0 some)) refl
last_below-whole bound (link ∷ next ∷ path) below some =
    let rest = All-tail (λ one. one < bound) link (next ∷ path) below in
    let place : suc (length (next ∷ path) - 1) ≡ length (link ∷ next ∷ path) - 1 = omega arith in
    rw (last_below-whole bound (next ∷ path) rest (omega arith)) (ap (λ k. Some (slice_index (link ∷ next ∷ path) k)) place)

-- below the number after that of a link on a rising path it is that link
pub last_below-next : (n : ℕ) (path : List ℕ) → IsTrue (is_rising path) → is_among path n ≡ true → last_below (n + 1) path ≡ Some n
last_below-next n [] rising among = absurd cc
last_below-next n (link ∷ path) rising among =
    let parts = and_parts _ _ rising in
    elim (or_cases _ _ among) [
      | inl here ↦
          let same = eqb-true link n here in
          rw (none_above (n + 1) link path (omega arith) parts.0, lt-ltb link (n + 1) (omega arith)) (ap Some same)
      | inr later ↦ rw (last_below-next n path parts.1 later) refl
    ]

-- below the number after one that isn't on the path it is the same as below that number
pub last_below-next_other : (n : ℕ) (path : List ℕ) → is_among path n ≡ false → last_below (n + 1) path ≡ last_below n path
last_below-next_other n [] other = refl
last_below-next_other n (link ∷ path) other =
    let parts = or_parts (link == n) (is_among path n) other in
    let same : nat_lt link (n + 1) ≡ nat_lt link n = elim (cases_lt link n) [
      | inl below ↦ lt-ltb link (n + 1) (omega arith) ∙ sym (lt-ltb link n below)
      | inr past ↦
          let apart : link ≢ n = eqb-false link n parts.0 in
          le-ltb link (n + 1) (omega arith) ∙ sym (le-ltb link n past)
    ] in
    rw (last_below-next_other n path parts.1, same) refl

-- below the first link of a rising path there is none
pub last_below-before_first : (n : ℕ) (path : List ℕ) → IsTrue (is_rising path) → slice_index path 0 ≡ n → last_below n path ≡ None
last_below-before_first n [] rising first = refl
last_below-before_first n (link ∷ path) rising first =
    rw (none_above n link path (omega arith) (and_parts _ _ rising).0, le-ltb link n (omega arith)) refl

-- below any other link of a rising path it is the link before that one
pub last_below-before : (n : ℕ) (path : List ℕ) (i : ℕ) → IsTrue (is_rising path) → 0 < i → i < length path → slice_index path i ≡ n → last_below n path ≡ Some (slice_index path (i - 1))
last_below-before n path zero rising some within at = absurd (omega arith)
last_below-before n [] (suc i) rising some within at = absurd (omega arith)
last_below-before n (link ∷ path) (suc zero) rising some within at =
    let parts = and_parts (list_all (nat_lt link) path) (is_rising path) rising in
    let below : link < n = omega (arith, ltb-true _ _ (AllPass-from_list_all (nat_lt link) path parts.0 0 0 (omega arith)), at) in
    rw (last_below-before_first n path parts.1 at, lt-ltb link n below) refl
last_below-before n (link ∷ path) (suc (suc i)) rising some within at =
    let place : suc (suc i - 1) ≡ suc (suc i) - 1 = omega arith in
    rw (last_below-before n path (suc i) (and_parts (list_all (nat_lt link) path) (is_rising path) rising).1 (omega arith) (omega arith) at) (ap (λ k. Some (slice_index (link ∷ path) k)) place)
