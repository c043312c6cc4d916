-- The words over the words of a set: what they say after a change, and that they lead to the least number.
use Rattle.std.specs.Prelude.{◌≡◌, ◌≢◌, ◌<◌, ◌≤◌, ◌*◌, ◌/◌, ◌%◌, ◌^◌, ◌==◌, ℕ, List, ◌++◌, length, take, drop, replicate, slice_index_or, min, bit_or}
use Rattle.std.specs.Int.{bit_at, w64}
use Rattle.std.proofs.Common.{refl, sym, ap, subst, ◌∙◌, arith, inl, inr}
use Rattle.std.proofs.lemmas.Bool.{cases_Bool, cases_lt, eqb-false, eqb-true}
use Rattle.std.proofs.lemmas.List.{get_or-replicate, length-replicate}
use Rattle.std.proofs.lemmas.Nat.Bits.{bit_at_set_other, bit_at_set_same}
use Rattle.std.proofs.Math.ListN.{get_or-eq_default}
use Rattle.item_list.proofs.Writes.{written_back}
use Rattle.least_set.specs.Members.{bit_of, most, SameElsewhere, SetsBit, HasLeast, IsFirstBit, IsLeast, IsOver, Tells}
use Rattle.least_set.proofs.WordLaws.{no_bit, some_from_bit}

-- words of zeros
pub zeros : (count word : ℕ) → slice_index_or (replicate {A = ℕ} count 0) word 0 ≡ 0
zeros count word = elim (cases_lt word count) [
  | inl below ↦ get_or-replicate count word 0 0 below
  | inr above ↦ let all : List ℕ = replicate count 0 in get_or-eq_default all 0 {n = word} (omega (arith, above, length-replicate {A = ℕ} count 0))
]

pub no_bits : (words : List ℕ) (count : ℕ) → words ≡ replicate count 0 → (number : ℕ) → bit_of words number ≡ 0
no_bits words count is number = no_bit _ (number % 64) (ap (λ ws. slice_index_or ws (number / 64) 0) is ∙ zeros count (number / 64))

pub over_zeros : (words over_words : List ℕ) (count count_over : ℕ) → words ≡ replicate count 0 → over_words ≡ replicate count_over 0
    → length words ≤ 64 * length over_words → length words ≤ 4096 → length over_words ≤ 64 → IsOver words over_words 0
over_zeros words over_words count count_over is is_over room few few_over = record {
  first = λ word. no_bits over_words count_over is_over word ∙ sym (ap (min 1) (ap (λ ws. slice_index_or ws word 0) is ∙ zeros count word));
  second = λ word. no_bit 0 word refl ∙ sym (ap (min 1) (ap (λ ws. slice_index_or ws word 0) is_over ∙ zeros count_over word));
  room = room;
  few_words = few;
  few_over = few_over;
}

-- one of a number that isn't 0, and of 0
pub min_some : (n : ℕ) → n ≢ 0 → 1 ≡ min 1 n
min_some n some = omega (arith, some)

none_from_min : (n : ℕ) → min 1 n ≡ 0 → n ≡ 0
none_from_min n e = omega (arith, e)

module _ (lower lower' : List ℕ) (bit bit' : ℕ → ℕ) (word : ℕ) (tells : Tells lower bit) (elsewhere : SameElsewhere word lower lower')
    (others : (other : ℕ) → other ≢ word → bit' other ≡ bit other) where
  at_other : (other : ℕ) → other ≢ word → bit' other ≡ min 1 (slice_index_or lower' other 0)
  at_other other apart = others other apart ∙ tells other ∙ ap (min 1) (sym (elsewhere other apart))

  at_all : bit' word ≡ min 1 (slice_index_or lower' word 0) → Tells lower' bit'
  at_all here w = elim (cases_Bool (w == word)) [
    | inl same ↦ subst (λ x. bit' x ≡ min 1 (slice_index_or lower' x 0)) (sym (eqb-true w word same)) here
    | inr differs ↦ at_other w (eqb-false w word differs)
  ]

  -- a word has a bit, and the level above tells so
  pub tells_some : slice_index_or lower' word 0 ≢ 0 → bit' word ≡ 1 → Tells lower' bit'
  tells_some some set = at_all (set ∙ min_some _ some)

  -- a word has no bit left, and the level above tells so
  pub tells_none : slice_index_or lower' word 0 ≡ 0 → bit' word ≡ 0 → Tells lower' bit'
  tells_none none cleared = at_all (cleared ∙ ap (min 1) (sym none))

pub none_told : (words : List ℕ) (bit : ℕ → ℕ) (word : ℕ) → Tells words bit → bit word ≡ 0 → slice_index_or words word 0 ≡ 0
none_told words bit word tells cleared = none_from_min _ (sym (tells word) ∙ cleared)

-- the level above tells of a number's word
pub told : (words : List ℕ) (bit : ℕ → ℕ) (number : ℕ) → Tells words bit → bit_of words number ≡ 1 → bit (number / 64) ≡ 1
told words bit number tells within = tells (number / 64) ∙ sym (min_some _ (some_from_bit _ (number % 64) within))

-- a set has no number below its least one, nor any where that is too great to be one
pub none_below : (least : ℕ) (words : List ℕ) → HasLeast least words → (other : ℕ) → other < least → bit_of words other ≡ 0
none_below least words has other less = elim (cases_lt least most) [
  | inl under ↦ (has.some under).least other less
  | inr over ↦ has.none over other
]

-- a number was added, and maybe greater ones: the lesser of it and the least one is the least
pub least_insert : (least number lesser : ℕ) (words words' : List ℕ) → HasLeast least words → number < most → bit_of words' number ≡ 1
    → ((other : ℕ) → other ≢ number → bit_of words other ≡ 1 → bit_of words' other ≡ 1) → ((other : ℕ) → other < number → bit_of words' other ≡ bit_of words other)
    → lesser ≡ min least number → HasLeast lesser words'
least_insert least number lesser words words' has low here stays below is = record {
  some = λ under. elim (cases_lt least number) [
    | inl less ↦
        let was : IsLeast least (record { words = words }) = has.some (omega (arith, less, low)) in
        let same : least ≡ lesser = omega (arith, less, is) in
        subst (λ n. IsLeast n (record { words = words' })) same (record {
          within = stays least (omega (arith, less)) was.within;
          least = λ other lower. below other (omega (arith, lower, less)) ∙ was.least other lower;
        })
    | inr more ↦
        let same : number ≡ lesser = omega (arith, more, is) in
        subst (λ n. IsLeast n (record { words = words' })) same (record {
          within = here;
          least = λ other lower. below other lower ∙ none_below least words has other (omega (arith, lower, more));
        })
  ];
  none = λ over. absurd (omega (arith, over, low, is));
}

-- the first bit of a word is the least number where no word before has any
pub first_is_least : (words : List ℕ) (word number : ℕ) → IsFirstBit word number words → ((other : ℕ) → other / 64 < word → bit_of words other ≡ 0)
    → IsLeast number (record { words = words })
first_is_least words word number first earlier = record {
  within = first.set;
  least = λ other less. elim (cases_Bool (other / 64 == word)) [
    | inl same ↦ first.before other (eqb-true _ _ same) less
    | inr differs ↦
        let apart : other / 64 ≢ word = eqb-false _ _ differs in
        earlier other (omega (arith, less, first.place, apart))
  ];
}

-- the first bit of each level leads to the least number
pub is_least : (words over_words : List ℕ) (over_all top word number : ℕ) → IsOver words over_words over_all
    → ((i : ℕ) → i < top → bit_at over_all i ≡ 0) → IsFirstBit top word over_words → IsFirstBit word number words
    → IsLeast number (record { words = words })
is_least words over_words over_all top word number over before first second =
    first_is_least words word number second
    (λ other less. no_bit _ (other % 64) (none_told words (bit_of over_words) (other / 64) over.first (earlier_word (other / 64) less)))
  where
    earlier_word : (w : ℕ) → w < word → bit_of over_words w ≡ 0
    earlier_word w less = elim (cases_Bool (w / 64 == top)) [
      | inl same ↦ first.before w (eqb-true _ _ same) less
      | inr differs ↦
          let apart : w / 64 ≢ top = eqb-false _ _ differs in
          let above : w / 64 < top = omega (arith, less, first.place, apart) in
          no_bit _ (w % 64) (none_told over_words (bit_at over_all) (w / 64) over.second (before (w / 64) above))
    ]

-- a number of the set is in one of its words
pub within_words : (words : List ℕ) (number : ℕ) → bit_of words number ≡ 1 → number / 64 < length words
within_words words number set = elim (cases_lt (number / 64) (length words)) [
  | inl below ↦ below
  | inr above ↦ absurd (some_from_bit _ (number % 64) set (get_or-eq_default words 0 {n = number / 64} above))
]

-- where there are few words, the first bit of such a word is below the most
pub word_least : (words : List ℕ) (word number : ℕ) → length words ≤ 4096 → word < length words → IsFirstBit word number words
    → ((other : ℕ) → other / 64 < word → bit_of words other ≡ 0) → HasLeast number words
word_least words word number few within first earlier = record {
  some = λ under. first_is_least words word number first earlier;
  none = λ over. absurd (omega (arith, over, first.place, few, within));
}

-- numbers were added to a word
pub over_word : (words words' over_words over_words' : List ℕ) (over_all word : ℕ) → IsOver words over_words over_all → word < length words
    → length words' ≡ length words → SameElsewhere word words words' → slice_index_or words' word 0 ≢ 0 → SetsBit word over_words over_words' → SameElsewhere (word / 64) over_words over_words'
    → IsOver words' over_words' (bit_or over_all (1 * 2 ^ (word / 64) % 2 ^ 64))
over_word words words' over_words over_words' over_all word over below long rest some sets_over rest_over =
    let few = over.few_words in
    let low : word / 64 < 64 = omega (arith, below, few) in
    record {
      first = tells_some words words' (bit_of over_words) (bit_of over_words') word over.first rest sets_over.others some sets_over.here;
      second = tells_some over_words over_words' (bit_at over_all) (bit_at (bit_or over_all (1 * 2 ^ (word / 64) % 2 ^ 64))) (word / 64) over.second rest_over
          (λ other apart. bit_at_set_other w64 over_all (word / 64) low other apart) (some_from_bit _ (word % 64) sets_over.here) (bit_at_set_same w64 over_all (word / 64) low);
      room = omega (arith, over.room, long, sets_over.long);
      few_words = omega (arith, over.few_words, long);
      few_over = omega (arith, over.few_over, sets_over.long);
    }

-- a number was taken from a word that has others, or numbers were added to one that has any, and a number was taken from one
-- that had it alone
pub over_kept : (words words' over_words : List ℕ) (over_all word : ℕ) → IsOver words over_words over_all → length words' ≡ length words
    → SameElsewhere word words words' → bit_of over_words word ≡ 1 → slice_index_or words' word 0 ≢ 0 → IsOver words' over_words over_all
over_kept words words' over_words over_all word over long rest set some = record {
  first = tells_some words words' (bit_of over_words) (bit_of over_words) word over.first rest (λ other apart. refl) some set;
  second = over.second;
  room = omega (arith, over.room, long);
  few_words = omega (arith, over.few_words, long);
  few_over = over.few_over;
}

pub over_more : (words words' over_words : List ℕ) (over_all word : ℕ) → IsOver words over_words over_all → length words' ≡ length words
    → SameElsewhere word words words' → slice_index_or words word 0 ≢ 0 → slice_index_or words' word 0 ≢ 0 → IsOver words' over_words over_all
over_more words words' over_words over_all word over long rest some more =
    over_kept words words' over_words over_all word over long rest (over.first word ∙ sym (min_some _ some)) more

-- both lists were changed in place
pub in_place : (count : ℕ) (words words' : List ℕ) (count_over : ℕ) (over_words over_words' : List ℕ) (over_all : ℕ)
    → count ≡ length words → length words' ≡ length words → count_over ≡ length over_words → length over_words' ≡ length over_words → IsOver words' over_words' over_all
    → IsOver (take count (words' ++ drop (length words') words)) (take count_over (over_words' ++ drop (length over_words') over_words)) over_all
in_place count words words' count_over over_words over_words' over_all is long is_over long_over over =
    subst (λ ws. IsOver ws (take count_over (over_words' ++ drop (length over_words') over_words)) over_all) (sym (written_back words words' count is long))
    (subst (λ ws. IsOver words' ws over_all) (sym (written_back over_words over_words' count_over is_over long_over)) over)
