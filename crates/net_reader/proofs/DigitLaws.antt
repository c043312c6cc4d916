-- Values of decimal digits.
use Rattle.std.proofs.Common.{◌≡◌, ◌≤◌, ◌<◌, ◌+◌, ◌-◌, ◌*◌, ℕ, List, [], ◌∷◌, length, take, drop, get_or, fold, sym, ap, ◌∙◌, arith}
use Rattle.std.proofs.Math.Nat.{le_refl, le_trans}
use Rattle.std.proofs.lemmas.List.{take-append-drop}
use Rattle.std.proofs.lemmas.List.Sums.{fold-append, fold_more}
use Rattle.net_reader.specs.Digits.{value_of_digits}

-- the value with one more digit
abbrev step : ℕ → ℕ → ℕ
step value digit = value * 10 + (digit - 48)

-- more digits give no lesser value
grows : (digits : List ℕ) (value : ℕ) → value ≤ fold step value digits
grows [] value = le_refl value
grows (digit ∷ digits) value =
    let once : value ≤ step value digit = omega arith in
    le_trans once (grows digits (step value digit))

-- the value of the digits as far as one of them is no greater than that of all
pub value_more : (digits : List ℕ) (i : ℕ) → i < length digits → step (value_of_digits (take i digits)) (get_or digits i 0) ≤ value_of_digits digits
value_more digits i within =
    let more : value_of_digits (take (i + 1) digits) ≡ step (value_of_digits (take i digits)) (get_or digits i 0) = fold_more step 0 digits i 0 within in
    let all : fold step (value_of_digits (take (i + 1) digits)) (drop (i + 1) digits) ≡ value_of_digits digits =
    sym (fold-append step 0 (take (i + 1) digits) (drop (i + 1) digits)) ∙ ap value_of_digits (take-append-drop (i + 1) digits) in
    omega (arith, more, all, grows (drop (i + 1) digits) (value_of_digits (take (i + 1) digits)))
