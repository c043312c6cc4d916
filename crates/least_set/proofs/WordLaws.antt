-- A bit that is set or cleared in words of 64, and the first of a word.
use Rattle.std.specs.Prelude.{◌≡◌, ◌≢◌, ◌<◌, ◌*◌, ◌+◌, ◌/◌, ◌%◌, ◌^◌, ◌==◌, ℕ, List, length, slice_index_or, slice_set, bit_and, bit_or, min, nat_lt}
use Rattle.std.specs.Int.{bit_at, bit_not, w64}
use Rattle.std.proofs.Common.{sym, ap, ◌∙◌, arith, inl, inr}
use Rattle.std.proofs.lemmas.Bool.{cases_Bool, eqb-false, eqb-true, ltb-false, ltb-true}
use Rattle.std.proofs.lemmas.List.{get_or-set_same, get_or-set_other, length-set}
use Rattle.std.proofs.lemmas.Nat.Bits.{bit_at-zero, bit_at_clear_other, bit_at_clear_same, bit_at_set_other, bit_at_set_same, bit_at_above, bit_at_and}
use Rattle.least_set.specs.Members.{bit_of, SameElsewhere, SetsBit, ClearsBit, IsFirstBit}

-- a word with a bit isn't 0
pub some_from_bit : (n i : ℕ) → bit_at n i ≡ 1 → n ≢ 0
some_from_bit n i set none = let zero_bit : bit_at n i ≡ 0 = ap (λ m. bit_at m i) none ∙ bit_at-zero i in absurd (omega (arith, set, zero_bit))

-- a bit of a word that is 0
pub no_bit : (n i : ℕ) → n ≡ 0 → bit_at n i ≡ 0
no_bit n i none = ap (λ m. bit_at m i) none ∙ bit_at-zero i

-- what stands in a word that was changed, and in another
changed : (words : List ℕ) (word value : ℕ) → word < length words → slice_index_or (slice_set words word value) word 0 ≡ value
changed words word value within = get_or-set_same words word value 0 within

pub same_elsewhere : (words : List ℕ) (word value : ℕ) → SameElsewhere word words (slice_set words word value)
same_elsewhere words word value other apart = get_or-set_other words word other value 0 apart

-- numbers of one word differ in their places
apart_in : (number other : ℕ) → other ≢ number → other / 64 ≡ number / 64 → other % 64 ≢ number % 64
apart_in number other apart same place = apart (omega (arith, same, place))

-- the bits but one are as they were, where they are in the word that was changed
other_bits : (words : List ℕ) (number value : ℕ) → number < 64 * length words
    → ((i : ℕ) → i < 64 → i ≢ number % 64 → bit_at value i ≡ bit_at (slice_index_or words (number / 64) 0) i)
    → (other : ℕ) → other ≢ number → bit_of (slice_set words (number / 64) value) other ≡ bit_of words other
other_bits words number value within keeps other apart = elim (cases_Bool (other / 64 == number / 64)) [
  | inl same ↦
      let here : other / 64 ≡ number / 64 = eqb-true _ _ same in
      ap (λ word. bit_at (slice_index_or (slice_set words (number / 64) value) word 0) (other % 64)) here
      ∙ ap (λ n. bit_at n (other % 64)) (changed words (number / 64) value (omega (arith, within)))
      ∙ keeps (other % 64) (omega arith) (apart_in number other apart here)
      ∙ ap (λ word. bit_at (slice_index_or words word 0) (other % 64)) (sym here)
  | inr differs ↦ ap (λ n. bit_at n (other % 64)) (same_elsewhere words (number / 64) value (other / 64) (eqb-false _ _ differs))
]

pub sets_bit : (words : List ℕ) (number : ℕ) → number < 64 * length words
    → SetsBit number words (slice_set words (number / 64) (bit_or (slice_index_or words (number / 64) 0) (1 * 2 ^ (number % 64) % 2 ^ 64)))
sets_bit words number within = record {
  here = ap (λ n. bit_at n (number % 64)) (changed words (number / 64) _ (omega (arith, within))) ∙ bit_at_set_same w64 _ (number % 64) (omega arith);
  others = other_bits words number _ within (λ i below apart. bit_at_set_other w64 _ (number % 64) (omega arith) i apart);
  long = length-set words (number / 64) _;
}

pub clears_bit : (words : List ℕ) (number : ℕ) → number < 64 * length words
    → ClearsBit number words (slice_set words (number / 64) (bit_and (slice_index_or words (number / 64) 0) (bit_not w64 (1 * 2 ^ (number % 64) % 2 ^ 64))))
clears_bit words number within = record {
  here = ap (λ n. bit_at n (number % 64)) (changed words (number / 64) _ (omega (arith, within))) ∙ bit_at_clear_same w64 _ (number % 64) (omega arith);
  others = other_bits words number _ within (λ i below apart. bit_at_clear_other w64 _ (number % 64) (omega arith) i below apart);
  long = length-set words (number / 64) _;
}

pub is_first_bit : (words : List ℕ) (word place : ℕ) → place < 64 → bit_at (slice_index_or words word 0) place ≡ 1
    → ((i : ℕ) → i < place → bit_at (slice_index_or words word 0) i ≡ 0) → IsFirstBit word (word * 64 + place) words
is_first_bit words word place low set before =
    let value = slice_index_or words word 0 in
    let in_word : (word * 64 + place) / 64 ≡ word = omega (arith, low) in
    let rest : (word * 64 + place) % 64 ≡ place = omega (arith, low) in
    record {
      place = in_word;
      set = ap (λ w. bit_at (slice_index_or words w 0) ((word * 64 + place) % 64)) in_word ∙ ap (λ i. bit_at value i) rest ∙ set;
      before = λ other same less.
          let earlier : other % 64 < place = omega (arith, same, less) in
          ap (λ w. bit_at (slice_index_or words w 0) (other % 64)) same ∙ before (other % 64) earlier;
    }

min_zero : (n : ℕ) → min 0 n ≡ 0
min_zero n = omega arith

-- the bits but one of a word that has one cleared
pub clear_other : (n k : ℕ) → n < 2 ^ 64 → k < 64 → (i : ℕ) → i ≢ k → bit_at (bit_and n (bit_not w64 (1 * 2 ^ k % 2 ^ 64))) i ≡ bit_at n i
clear_other n k fits low i apart = elim (cases_Bool (nat_lt i 64)) [
  | inl below ↦ bit_at_clear_other w64 n k low i (ltb-true i 64 below) apart
  | inr above ↦
      let none : bit_at n i ≡ 0 = bit_at_above n 64 i fits (ltb-false i 64 above) in
      bit_at_and n (bit_not w64 (1 * 2 ^ k % 2 ^ 64)) i ∙ ap (λ b. min b (bit_at (bit_not w64 (1 * 2 ^ k % 2 ^ 64)) i)) none ∙ min_zero _ ∙ sym none
]
