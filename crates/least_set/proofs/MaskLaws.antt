-- Bits of a word: those between two places, and each eighth of them.
use Rattle.std.specs.Prelude.{◌≡◌, ◌≢◌, ◌<◌, ◌≤◌, ◌⊎◌, ◌+◌, ◌-◌, ◌*◌, ◌/◌, ◌%◌, ◌^◌, ◌==◌, ℕ, Bool, true, cond, suc, List, length, slice_index_or, bit_and, bit_or, min, max}
use Rattle.std.specs.Int.{bit_at}
use Rattle.std.specs.List.{list_all, range_with_len}
use Rattle.std.proofs.Common.{refl, sym, ap, subst, ◌∙◌, arith, inl, inr}
use Rattle.std.proofs.Math.Nat.{pow-le-pow_right, pow-suc}
use Rattle.std.proofs.Math.Pow.{pow-lt}
use Rattle.std.proofs.lemmas.Bool.{cases_eq, cases_lt, eq-eqb, eqb-true, ne_eqb}
use Rattle.std.proofs.lemmas.Nat.{pow_pos}
use Rattle.std.proofs.lemmas.Nat.Bits.{bit_at-lt, bit_at-zero, bit_at_and, bit_at_mask_above, bit_at_mask_below, bit_at_mask_inside, bit_at_or, same_from_bits}
use Rattle.item_list.proofs.Ranges.{at_below}
use Rattle.least_set.specs.Members.{AreEighths, IsEighth, SetsBits, SetsEighths, bit_of}
use Rattle.least_set.proofs.WordLaws.{some_from_bit}

-- a bit of a word by its place
pub bit_fits : (place : ℕ) → place < 64 → 1 * 2 ^ place % 2 ^ 64 ≡ 2 ^ place
bit_fits place low = omega (arith, pow-lt {i = place} {j = 64} low)

-- the bits below one place, less those below another
pub between_is : (from to : ℕ) → from ≤ to → to < 64
    → ((1 * 2 ^ to % 2 ^ 64 - 1) * 2 + 1 - (1 * 2 ^ from % 2 ^ 64 - 1) ≡ 2 ^ suc to - 2 ^ from) × (1 * 2 ^ from % 2 ^ 64 - 1 ≤ (1 * 2 ^ to % 2 ^ 64 - 1) * 2 + 1)
between_is from to order low =
    let one = pow_pos from in
    let more = pow-le-pow_right {n = 2} (omega arith) {i = from} {j = to} order in
    let first = bit_fits from (omega (arith, order, low)) in
    let last = bit_fits to low in
    (omega (arith, pow-suc 2 to), omega arith)

pub between_inside : (from to i : ℕ) → from ≤ to → to < 64 → from ≤ i → i ≤ to
    → bit_at ((1 * 2 ^ to % 2 ^ 64 - 1) * 2 + 1 - (1 * 2 ^ from % 2 ^ 64 - 1)) i ≡ 1
between_inside from to i order low above below =
    ap (λ n. bit_at n i) (between_is from to order low).0 ∙ bit_at_mask_inside from (suc to) i above (omega (arith, below))

pub between_outside : (from to i : ℕ) → from ≤ to → to < 64 → (i < from) ⊎ (to < i)
    → bit_at ((1 * 2 ^ to % 2 ^ 64 - 1) * 2 + 1 - (1 * 2 ^ from % 2 ^ 64 - 1)) i ≡ 0
between_outside from to i order low (inl less) =
    ap (λ n. bit_at n i) (between_is from to order low).0 ∙ bit_at_mask_below from (suc to) i less
between_outside from to i order low (inr more) =
    ap (λ n. bit_at n i) (between_is from to order low).0 ∙ bit_at_mask_above from (suc to) i (omega (arith, more))

-- each eighth bit of a word, from a place on
abbrev pub eighths : ℕ → ℕ
eighths piece = 72340172838076673 * 2 ^ piece % 2 ^ 64

abbrev is_eighth : ℕ → ℕ → Bool
is_eighth piece i = bit_at (eighths piece) i == cond (i % 8 == piece) 1 0

-- tried for each place and each bit
all_eighths : list_all (λ piece. list_all (is_eighth piece) (range_with_len 0 64)) (range_with_len 0 8) ≡ true
all_eighths = refl

pub eighth_bit : (piece i : ℕ) → piece < 8 → i < 64 → bit_at (eighths piece) i ≡ cond (i % 8 == piece) 1 0
eighth_bit piece i low inside =
    eqb-true _ _ (at_below (is_eighth piece) 64 i (at_below (λ p. list_all (is_eighth p) (range_with_len 0 64)) 8 piece all_eighths low) inside)

-- one of two bits, and both of them
either_set : (a b : ℕ) → a < 2 → b ≡ 1 → max a b ≡ 1
either_set a b low set = omega (arith, low, set)

either_left : (a b : ℕ) → b ≡ 0 → max a b ≡ a
either_left a b none = omega (arith, none)

no_either : (a b : ℕ) → max a b ≡ 0 → b ≡ 0
no_either a b none = omega (arith, none)

both_set : (a b : ℕ) → a ≡ 1 → b ≡ 1 → min a b ≡ 1
both_set a b one other = omega (arith, one, other)

first_none : (a b : ℕ) → a ≡ 0 → min a b ≡ 0
first_none a b none = omega (arith, none)

second_none : (a b : ℕ) → b ≡ 0 → min a b ≡ 0
second_none a b none = omega (arith, none)

-- a word that bits were set in has some
pub some_set : (old bits : ℕ) → bits ≢ 0 → bit_or old bits ≢ 0
some_set old bits some none =
    some (same_from_bits bits 0 (λ i. no_either (bit_at old i) (bit_at bits i) (sym (bit_at_or old bits i) ∙ ap (λ n. bit_at n i) none ∙ bit_at-zero i) ∙ sym (bit_at-zero i)))

-- the bits of such numbers in one word: each eighth of those between two places
module _ (word first last from to between : ℕ) (after : first / 64 ≤ word) (before : word ≤ last / 64) (order : first ≤ last) (step : last % 8 ≡ first % 8)
    (from_first : word ≡ first / 64 → from ≡ first % 64) (from_start : word ≢ first / 64 → from ≡ 0)
    (to_last : word ≡ last / 64 → to ≡ last % 64) (to_end : word ≢ last / 64 → to ≡ 63)
    (inside : (i : ℕ) → from ≤ i → i ≤ to → bit_at between i ≡ 1) (outside : (i : ℕ) → (i < from) ⊎ (to < i) → bit_at between i ≡ 0) where
  in_step : (place : ℕ) → place < 64 → place % 8 ≡ first % 8 → bit_at (eighths (first % 8)) place ≡ 1
  in_step place low is = eighth_bit (first % 8) place (omega arith) low ∙ ap (λ b. cond b 1 0) (eq-eqb _ _ is)

  off_step : (place : ℕ) → place < 64 → place % 8 ≢ first % 8 → bit_at (eighths (first % 8)) place ≡ 0
  off_step place low is = eighth_bit (first % 8) place (omega arith) low ∙ ap (λ b. cond b 1 0) (ne_eqb _ _ is)

  above : (place : ℕ) → place < 64 → first ≤ word * 64 + place → from ≤ place
  above place low least = elim (cases_eq word (first / 64)) [
    | inl same ↦ omega (arith, from_first same, same, least, low)
    | inr differs ↦ omega (arith, from_start differs)
  ]

  below : (place : ℕ) → place < 64 → word * 64 + place ≤ last → place ≤ to
  below place low most = elim (cases_eq word (last / 64)) [
    | inl same ↦ omega (arith, to_last same, same, most, low)
    | inr differs ↦ omega (arith, to_end differs, low)
  ]

  above_back : (place : ℕ) → place < 64 → from ≤ place → first ≤ word * 64 + place
  above_back place low least = elim (cases_eq word (first / 64)) [
    | inl same ↦ omega (arith, from_first same, same, least)
    | inr differs ↦ omega (arith, differs, after)
  ]

  below_back : (place : ℕ) → place < 64 → place ≤ to → word * 64 + place ≤ last
  below_back place low most = elim (cases_eq word (last / 64)) [
    | inl same ↦ omega (arith, to_last same, same, most)
    | inr differs ↦ omega (arith, differs, before, low)
  ]

  pub are_eighths : AreEighths first last word (bit_and (72340172838076673 * 2 ^ (first % 8) % 2 ^ 64) between)
  are_eighths = record {
    set = λ place low is.
        let here : place % 8 ≡ first % 8 = omega (arith, is.step) in
        bit_at_and (eighths (first % 8)) between place
        ∙ both_set _ _ (in_step place low here) (inside place (above place low is.from) (below place low is.to));
    others = λ place low isnt. bit_at_and (eighths (first % 8)) between place ∙ none place low isnt;
  }
    where
      none : (place : ℕ) → place < 64 → (IsEighth first last (word * 64 + place) → ⊥) → min (bit_at (eighths (first % 8)) place) (bit_at between place) ≡ 0
      none place low isnt = elim (cases_eq (place % 8) (first % 8)) [
        | inr off ↦ first_none _ _ (off_step place low off)
        | inl on ↦ second_none _ _ (elim (cases_lt place from) [
          | inl less ↦ outside place (inl less)
          | inr least ↦ (elim (cases_lt to place) [
            | inl more ↦ outside place (inr more)
            | inr most ↦ absurd (isnt (record { from = above_back place low least; to = below_back place low most; step = omega (arith, on) }))
          ])
        ])
      ]

-- a word between them has some
pub some_eighths : (word first last bits : ℕ) → first / 64 ≤ word → word ≤ last / 64 → first ≤ last → last % 8 ≡ first % 8 → AreEighths first last word bits → bits ≢ 0
some_eighths word first last bits after before order step are = elim (cases_eq word (first / 64)) [
  | inl same ↦
      some_from_bit bits (first % 64) (are.set (first % 64) (omega arith)
      (record { from = omega (arith, same); to = omega (arith, same, order); step = omega arith }))
  | inr differs ↦
      some_from_bit bits (first % 8) (are.set (first % 8) (omega arith)
      (record { from = omega (arith, differs, after); to = omega (arith, before, step); step = omega arith }))
]

-- the numbers of the words before one were added
pub record Added (first last word : ℕ) (old new : List ℕ) : Type 0 where
  pub here : (number : ℕ) → IsEighth first last number → number / 64 < word → bit_of new number ≡ 1
  pub others : (other : ℕ) → (IsEighth first last other → other / 64 < word → ⊥) → bit_of new other ≡ bit_of old other
  pub long : length new ≡ length old

-- one word more
module _ (first last word bits : ℕ) (old now new : List ℕ) (so_far : Added first last word old now) (sets : SetsBits word bits now new) (are : AreEighths first last word bits) where
  place_of : (number : ℕ) → number / 64 ≡ word → word * 64 + number % 64 ≡ number
  place_of number in_word = omega (arith, in_word)

  here_is : (number : ℕ) → number / 64 ≡ word → bit_of new number ≡ max (bit_of now number) (bit_at bits (number % 64))
  here_is number in_word =
      ap (λ w. bit_at (slice_index_or new w 0) (number % 64)) in_word ∙ ap (λ n. bit_at n (number % 64)) sets.here ∙ bit_at_or _ _ (number % 64)
      ∙ ap (λ w. max (bit_at (slice_index_or now w 0) (number % 64)) (bit_at bits (number % 64))) (sym in_word)

  elsewhere : (number : ℕ) → number / 64 ≢ word → bit_of new number ≡ bit_of now number
  elsewhere number differs = ap (λ n. bit_at n (number % 64)) (sets.elsewhere (number / 64) differs)

  pub added-more : Added first last (word + 1) old new
  added-more = record {
    here = λ number is earlier. elim (cases_eq (number / 64) word) [
      | inl in_word ↦
          let at : IsEighth first last (word * 64 + number % 64) = subst (IsEighth first last) (sym (place_of number in_word)) is in
          here_is number in_word ∙ either_set _ _ (bit_at-lt _ _) (are.set (number % 64) (omega arith) at)
      | inr differs ↦ elsewhere number differs ∙ so_far.here number is (omega (arith, earlier, differs))
    ];
    others = λ other isnt.
        let before = so_far.others other (λ is earlier. isnt is (omega (arith, earlier))) in
        elim (cases_eq (other / 64) word) [
          | inl in_word ↦
              let off : IsEighth first last (word * 64 + other % 64) → ⊥ = λ is. isnt (subst (IsEighth first last) (place_of other in_word) is) (omega (arith, in_word)) in
              here_is other in_word ∙ either_left _ _ (are.others (other % 64) (omega arith) off) ∙ before
          | inr differs ↦ elsewhere other differs ∙ before
        ];
    long = sets.long ∙ so_far.long;
  }

-- in the end all were
pub added-all : (first last word : ℕ) (old new : List ℕ) → last / 64 < word → Added first last word old new
    → ((number : ℕ) → IsEighth first last number → bit_of new number ≡ 1) × ((other : ℕ) → (IsEighth first last other → ⊥) → bit_of new other ≡ bit_of old other)
added-all first last word old new past added = (
  λ number is. added.here number is (omega (arith, is.to, past)),
  λ other isnt. added.others other (λ is earlier. isnt is),
)

-- what was in a set stays in it
pub eighths-stay : (first last : ℕ) (old new : List ℕ) → SetsEighths first last old new → (number : ℕ) → bit_of old number ≡ 1 → bit_of new number ≡ 1
eighths-stay first last old new sets number has = elim (cases_lt number first) [
  | inl less ↦ sets.others number (λ is. omega (arith, is.from, less)) ∙ has
  | inr least ↦ elim (cases_lt last number) [
    | inl more ↦ sets.others number (λ is. omega (arith, is.to, more)) ∙ has
    | inr most ↦ elim (cases_eq (number % 8) (first % 8)) [
      | inl on ↦ sets.here number (record { from = least; to = most; step = on })
      | inr off ↦ sets.others number (λ is. off is.step) ∙ has
    ]
  ]
]
