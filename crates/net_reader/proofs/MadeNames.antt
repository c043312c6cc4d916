-- The names that a bundle makes: which of them are names, and that no two of them are the same.
use Rattle.std.proofs.Common.{◌≡◌, ℕ, zero, suc, ◌+◌, ◌/◌, ◌%◌, ◌<◌, ◌≤◌, ◌^◌, Bool, true, false, ◌&&◌, List, [], ◌∷◌, ◌++◌, length, map, Option, None, Some, inl, inr, refl, sym, ap, ◌∙◌, arith, length-append, drop}
use Rattle.std.specs.Prelude.{IfSome, decimal, nat_le}
use Rattle.std.specs.List.{list_all, list_any, range_with_len}
use Rattle.std.specs.Str.{bytes_eq}
use Rattle.std.specs.Str.Parse.{AllDigits}
use Rattle.std.proofs.lemmas.Bool.{and_from, and_parts, cases_lt, false_from_ne_true, le-leb, leb-true, not_from_false, or_from, or_left}
use Rattle.std.proofs.lemmas.Fmt.{decimal_by_steps, decimal_digit, decimal_injective, decimal_is_IsNumeral, decimal_step}
use Rattle.std.proofs.lemmas.List.{append_cancel_left}
use Rattle.std.proofs.lemmas.List.Folds.{list_all-append, list_all-map}
use Rattle.std.proofs.lemmas.Slice.Eq.{bytes_eq-Decides}
use Rattle.std.proofs.lemmas.Str.Parse.{digit_from_value}
use Rattle.net_model.specs.Limits.{most_links}
use Rattle.net_model.specs.Lists.{are_distinct}
use Rattle.net_model.specs.Name.{is_name, is_name_byte}
use Rattle.net_reader.specs.Bundles.{made_name, made_names}
use Rattle.net_reader.specs.Statements.{links_named, names_made}

-- ---- digits

-- a greater number has as many digits, or more
length-decimal-rises : (m n : ℕ) → m ≤ n → n < 2 ^ 64 → length (decimal m) ≤ length (decimal n)
length-decimal-rises m n within small =
    decimal_by_steps (λ most digits. most < 2 ^ 64 → (k : ℕ) → k ≤ most → length (decimal k) ≤ length digits) one more n small small m within
  where
    one : (most : ℕ) → most < 10 → most < 2 ^ 64 → (k : ℕ) → k ≤ most → length (decimal k) ≤ 1
    one most few fits k le = rw (decimal_digit k (omega arith)) (omega arith)

    more : (most : ℕ) (digits : List ℕ) → 10 ≤ most → (most / 10 < 2 ^ 64 → (k : ℕ) → k ≤ most / 10 → length (decimal k) ≤ length digits)
        → most < 2 ^ 64 → (k : ℕ) → k ≤ most → length (decimal k) ≤ length (digits ++ (48 + most % 10) ∷ [])
    more most digits ten rest fits k le =
        elim (cases_lt k 10) [
          | inl few ↦ omega (arith, ap length (decimal_digit k few), length-append digits ((48 + most % 10) ∷ []))
          | inr many ↦
              omega (
                arith,
                ap length (decimal_step k many (omega arith)),
                length-append (decimal (k / 10)) ((48 + k % 10) ∷ []),
                length-append digits ((48 + most % 10) ∷ []),
                rest (omega arith) (k / 10) (omega arith),
              )
        ]

-- each digit may stand in a name
digits-are_name_bytes : (digits : List ℕ) → AllDigits 10 digits → list_all is_name_byte digits ≡ true
digits-are_name_bytes [] all = refl
digits-are_name_bytes (digit ∷ digits) all =
    let among = digit_from_value digit all.0 in
    and_from _ _
    (or_left _ _ (or_left _ _ (or_left _ _ (or_left _ _ (or_left _ _ (and_from _ _ (le-leb _ _ among.0) (le-leb _ _ among.1)))))))
    (digits-are_name_bytes digits all.1)

-- ---- one made name

-- it's longer than the bundle's name, and the digits come on top
length-made_name : (name : List ℕ) (number : ℕ) → length (made_name name number) ≡ length name + 1 + length (decimal number)
length-made_name name number = omega (arith, length-append name (46 ∷ decimal number))

-- it's a name where it's short enough
pub is_name-made : (name : List ℕ) (number : ℕ) → is_name name ≡ true → number < 2 ^ 64 → is_name (made_name name number) ≡ nat_le (length name + 1 + length (decimal number)) 32
is_name-made name number is small =
    let some : nat_le 1 (length (made_name name number)) ≡ true = le-leb _ _ (omega (arith, length-made_name name number)) in
    let bytes : list_all is_name_byte name ≡ true = (and_parts _ _ is).1 in
    let all : list_all is_name_byte (made_name name number) ≡ true =
    list_all-append is_name_byte name (46 ∷ decimal number)
    ∙ and_from _ _ bytes (and_from _ _ refl (digits-are_name_bytes (decimal number) (decimal_is_IsNumeral number small).0.1)) in
    (λ i. (some i && nat_le (length-made_name name number i) 32) && all i) ∙ only (nat_le (length name + 1 + length (decimal number)) 32)
  where
    only : (b : Bool) → ((true && b) && true) ≡ b
    only true = refl
    only false = refl

-- so it is where one of a greater number is
is_name-made-less : (name : List ℕ) (less more : ℕ) → is_name name ≡ true → less ≤ more → more < 2 ^ 64 → is_name (made_name name more) ≡ true → is_name (made_name name less) ≡ true
is_name-made-less name less more is within small named =
    let short = leb-true _ _ (sym (is_name-made name more is small) ∙ named) in
    is_name-made name less is (omega arith) ∙ le-leb _ _ (omega (arith, length-decimal-rises less more within small, short))

-- two of different numbers differ
made_name-apart : (name : List ℕ) (one other : ℕ) → one < other → other < 2 ^ 64 → bytes_eq (made_name name one) (made_name name other) ≡ false
made_name-apart name one other less small =
    false_from_ne_true _ (λ same.
    let texts : made_name name one ≡ made_name name other = (bytes_eq-Decides (made_name name one) (made_name name other)).0 same in
    omega (arith, decimal_injective one other (omega arith) small (ap (drop 1) (append_cancel_left name _ _ texts))))

-- ---- numbers that follow each other

and_later : (x y : Bool) → (y ≡ true → x ≡ true) → (x && y) ≡ y
and_later true y first = refl
and_later false true first = first refl
and_later false false first = refl

-- where a test that a number passes is passed by each lower one, the last of numbers decides
all_pass-by_last : (test : ℕ → Bool) (bound : ℕ) → ((less more : ℕ) → less ≤ more → more < bound → test more ≡ true → test less ≡ true)
    → (first count : ℕ) → first + count < bound → list_all test (range_with_len first (suc count)) ≡ test (first + count)
all_pass-by_last test bound falls first zero within = and_true (test first) ∙ ap test (omega arith)
  where
    and_true : (b : Bool) → (b && true) ≡ b
    and_true true = refl
    and_true false = refl
all_pass-by_last test bound falls first (suc count) within =
    let last : first + 1 + count ≡ first + suc count = omega arith in
    ap (λ b. test first && b) (all_pass-by_last test bound falls (first + 1) count (omega arith) ∙ ap test last)
    ∙ and_later (test first) (test (first + suc count)) (falls first (first + suc count) (omega arith) within)

module _ {X : Type 0} (same : X → X → Bool) (made : ℕ → X) (bound : ℕ) (apart : (one other : ℕ) → one < other → other < bound → same (made one) (made other) ≡ false) where
  -- what is made of a number is none of what is made of greater ones
  made-new : (number first count : ℕ) → number < first → first + count ≤ bound → list_any (same (made number)) (map made (range_with_len first count)) ≡ false
  made-new number first zero less within = refl
  made-new number first (suc count) less within = or_from _ _ (apart number first less (omega arith)) (made-new number (first + 1) count (omega arith) (omega arith))

  -- what is made of numbers that follow each other is distinct, where what is made of any two differs
  made-distinct : (first count : ℕ) → first + count ≤ bound → are_distinct same (map made (range_with_len first count)) ≡ true
  made-distinct first zero within = refl
  made-distinct first (suc count) within =
      and_from _ _ (not_from_false _ (made-new first (first + 1) count (omega arith) (omega arith))) (made-distinct (first + 1) count (omega arith))

-- ---- the names of a bundle

-- they are distinct
pub made_names-distinct : (name : List ℕ) (count : ℕ) → count < 2 ^ 64 → are_distinct bytes_eq (made_names name count) ≡ true
made_names-distinct name count small = made-distinct bytes_eq (made_name name) (2 ^ 64) (made_name-apart name) 1 count (omega arith)

-- all are names where that of the last link is short enough
pub made_names-are_names : (name : List ℕ) (count : ℕ) → is_name name ≡ true → 1 ≤ count → count < 2 ^ 64
    → list_all is_name (made_names name count) ≡ nat_le (length name + 1 + length (decimal count)) 32
made_names-are_names name zero is some small = absurd (omega arith)
made_names-are_names name (suc count) is some small =
    list_all-map is_name (made_name name) (range_with_len 1 (suc count))
    ∙ all_pass-by_last (λ number. is_name (made_name name number)) (2 ^ 64) (λ less more within below. is_name-made-less name less more is within below) 1 count (omega arith)
    ∙ ap (λ (number : ℕ). is_name (made_name name number)) (omega arith)
    ∙ is_name-made name (suc count) is small

-- ---- the names of a link line

-- they are distinct
pub links_named-distinct : (name : List ℕ) (bundle : Option ℕ) → IfSome bundle (λ count. count ≤ most_links) → are_distinct bytes_eq (links_named name bundle) ≡ true
links_named-distinct name None counted = refl
links_named-distinct name (Some count) counted = made_names-distinct name count (omega (arith, counted))

-- they are names, where the line's own is, and each that its bundle makes
pub links_named-are_names : (name : List ℕ) (bundle : Option ℕ) → list_all is_name (name ∷ names_made name bundle) ≡ true → list_all is_name (links_named name bundle) ≡ true
links_named-are_names name None all = all
links_named-are_names name (Some count) all = (and_parts _ _ all).1
