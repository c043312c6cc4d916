-- Laws of names that are letters with numbers: they are names, and different numbers give different ones.
use Rattle.std.specs.Prelude.{◌≡◌, ℕ, ◌+◌, ◌-◌, ◌%◌, ◌^◌, ◌<◌, ◌≤◌, Bool, true, false, not, ◌&&◌, ◌==◌, List, [], ◌∷◌, ◌++◌, decimal, length}
use Rattle.std.specs.List.{list_all}
use Rattle.std.specs.Str.{bytes_eq}
use Rattle.std.proofs.Common.{refl, sym, ap, ◌∙◌, arith}
use Rattle.std.proofs.lemmas.Bool.{agree_below_at, and_from, and_parts, false_from_ne_true, le-leb}
use Rattle.std.proofs.lemmas.Fmt.{decimal_by_steps, decimal_injective, length-decimal-le}
use Rattle.std.proofs.lemmas.List.{append_assoc, length-append}
use Rattle.std.proofs.lemmas.List.Folds.{list_all-append}
use Rattle.std.proofs.lemmas.Slice.Eq.{bytes_eq-Decides}
use Rattle.item_list.proofs.Tests.{list_all-implied}
use Rattle.net_model.specs.Name.{is_name, is_name_byte}
use Rattle.net_maker.specs.Combination.{numbered, pair_name}
use Rattle.net_maker.specs.Names.{IsLetter}

-- ---- digits

-- a digit: a byte of a name, and no dash
abbrev is_digit : ℕ → Bool
is_digit byte = is_name_byte byte && not (byte == 45)

digit : (d : ℕ) → d < 10 → is_digit (48 + d) ≡ true
digit d below = agree_below_at (λ d. is_digit (48 + d)) (λ _. true) 10 d refl below

digits : (n : ℕ) → n < 2 ^ 64 → list_all is_digit (decimal n) ≡ true
digits n small =
    decimal_by_steps (λ _ ds. list_all is_digit ds ≡ true) (λ n below. and_from _ _ (digit n below) refl)
    (λ n ds high so_far. list_all-append is_digit ds ((48 + n % 10) ∷ []) ∙ and_from _ _ so_far (and_from _ _ (digit (n % 10) (omega arith)) refl)) n small

name_bytes : (n : ℕ) → n < 2 ^ 64 → list_all is_name_byte (decimal n) ≡ true
name_bytes n small = list_all-implied is_digit is_name_byte (decimal n) (λ d is. (and_parts _ _ is).0) (digits n small)

letter_byte : (letter : ℕ) → IsLetter letter → is_name_byte letter ≡ true
letter_byte letter is =
    let back : 97 + (letter - 97) ≡ letter = omega (arith, is.0) in
    ap is_name_byte (sym back) ∙ agree_below_at (λ d. is_name_byte (97 + d)) (λ _. true) 26 (letter - 97) refl (omega (arith, is.0, is.1))

-- ---- they are names

is_name-from : (bytes : List ℕ) → 1 ≤ length bytes → length bytes ≤ 32 → list_all is_name_byte bytes ≡ true → is_name bytes ≡ true
is_name-from bytes some few each =
    and_from _ _ (and_from _ _ (le-leb 1 (length bytes) some) (le-leb (length bytes) 32 few)) each

pub is_name-numbered : (letter number : ℕ) → IsLetter letter → number < 2 ^ 32 → is_name (numbered letter number) ≡ true
is_name-numbered letter number is small =
    let short : length (decimal number) ≤ 10 = length-decimal-le 10 number (omega arith) (omega arith) (omega arith) in
    is_name-from (numbered letter number) (omega arith) (omega arith) (and_from _ _ (letter_byte letter is) (name_bytes number (omega arith)))

pub is_name-pair : (sink middle : ℕ) → sink < 2 ^ 32 → middle < 2 ^ 32 → is_name (pair_name sink middle) ≡ true
is_name-pair sink middle few small =
    let short : length (decimal middle) ≤ 10 = length-decimal-le 10 middle (omega arith) (omega arith) (omega arith) in
    let brief : length (decimal sink) ≤ 10 = length-decimal-le 10 sink (omega arith) (omega arith) (omega arith) in
    let size = length-append (numbered 98 sink) (45 ∷ decimal middle) in
    is_name-from (pair_name sink middle) (omega (arith, size)) (omega (arith, size))
    (list_all-append is_name_byte (numbered 98 sink) (45 ∷ decimal middle)
    ∙ and_from _ _ (and_from _ _ refl (name_bytes sink (omega arith))) (and_from _ _ refl (name_bytes middle (omega arith))))

-- ---- different numbers give different ones

differ : (a b : List ℕ) → (a ≡ b → ⊥) → bytes_eq a b ≡ false
differ a b apart = false_from_ne_true _ (λ same. apart ((bytes_eq-Decides a b).0 same))

heads : (x y : ℕ) (xs ys : List ℕ) → x ∷ xs ≡ y ∷ ys → x ≡ y
heads x y xs ys same = cc

tails : (x y : ℕ) (xs ys : List ℕ) → x ∷ xs ≡ y ∷ ys → xs ≡ ys
tails x y xs ys same = cc

pub numbered-apart : (letter a b : ℕ) → a < 2 ^ 64 → b < 2 ^ 64 → (a ≡ b → ⊥) → bytes_eq (numbered letter a) (numbered letter b) ≡ false
numbered-apart letter a b small few apart =
    differ (numbered letter a) (numbered letter b) (λ same. apart (decimal_injective a b small few (tails letter letter (decimal a) (decimal b) same)))

pub letters-apart : (x y : ℕ) (xs ys : List ℕ) → (x ≡ y → ⊥) → bytes_eq (x ∷ xs) (y ∷ ys) ≡ false
letters-apart x y xs ys apart = differ (x ∷ xs) (y ∷ ys) (λ same. apart (heads x y xs ys same))

-- what stands before the first dash, and what behind it
before_dash : (xs ys zs ws : List ℕ) → list_all is_digit xs ≡ true → list_all is_digit ys ≡ true → xs ++ 45 ∷ zs ≡ ys ++ 45 ∷ ws → (xs ≡ ys) × (zs ≡ ws)
before_dash [] [] zs ws whole too same = (refl, cc)
before_dash [] (y ∷ ys) zs ws whole too same =
    let dash : 45 ≡ y = cc in
    let no : is_digit 45 ≡ true = ap is_digit dash ∙ (and_parts _ _ too).0 in absurd (cc)
before_dash (x ∷ xs) [] zs ws whole too same =
    let dash : 45 ≡ x = cc in
    let no : is_digit 45 ≡ true = ap is_digit dash ∙ (and_parts _ _ whole).0 in absurd (cc)
before_dash (x ∷ xs) (y ∷ ys) zs ws whole too same =
    let parts = before_dash xs ys zs ws (and_parts _ _ whole).1 (and_parts _ _ too).1 (tails x y (xs ++ 45 ∷ zs) (ys ++ 45 ∷ ws) same) in
    (ap (λ (l : List ℕ). x ∷ l) parts.0 ∙ ap (λ (z : ℕ). z ∷ ys) (heads x y (xs ++ 45 ∷ zs) (ys ++ 45 ∷ ws) same), parts.1)

pub pair_name-injective : (a b i j : ℕ) → a < 2 ^ 64 → b < 2 ^ 64 → i < 2 ^ 64 → j < 2 ^ 64 → pair_name a i ≡ pair_name b j → (a ≡ b) × (i ≡ j)
pair_name-injective a b i j sa sb si sj same =
    let behind = tails 98 98 (decimal a ++ 45 ∷ decimal i) (decimal b ++ 45 ∷ decimal j) same in
    let parts = before_dash (decimal a) (decimal b) (decimal i) (decimal j) (digits a sa) (digits b sb) behind in
    (decimal_injective a b sa sb parts.0, decimal_injective i j si sj parts.1)

pub pairs-apart : (a b i j : ℕ) → a < 2 ^ 64 → b < 2 ^ 64 → i < 2 ^ 64 → j < 2 ^ 64 → ((a ≡ b) × (i ≡ j) → ⊥) → bytes_eq (pair_name a i) (pair_name b j) ≡ false
pairs-apart a b i j sa sb si sj apart = differ (pair_name a i) (pair_name b j) (λ same. apart (pair_name-injective a b i j sa sb si sj same))

-- the text that is made piece by piece
pub pair_text : (letter first middle dash whole : List ℕ) (a b : ℕ) (more last : List ℕ) → letter ≡ 98 ∷ [] → more ≡ decimal a → first ≡ letter ++ more → dash ≡ first ++ 45 ∷ [] → last ≡ decimal b
    → middle ≡ dash ++ last → whole ≡ middle → whole ≡ pair_name a b
pair_text letter first middle dash whole a b more last one two three four five six seven =
    seven ∙ six ∙ ap (λ (l : List ℕ). dash ++ l) five ∙ ap (λ (l : List ℕ). l ++ decimal b) (four ∙ ap (λ (l : List ℕ). l ++ 45 ∷ []) (three ∙ ap (λ (l : List ℕ). letter ++ l) two ∙ ap (λ (l : List ℕ). l ++ decimal a) one))
    ∙ append_assoc (numbered 98 a) (45 ∷ []) (decimal b)
