-- Numbers in decimal digits, with any number of leading zeros.
use Rattle.std.specs.Prelude.{ℕ, ◌+◌, ◌-◌, ◌*◌, ◌^◌, ◌&&◌, Bool, nat_le, nat_lt, if◌then◌else◌, fold, List, length, Option, Some, None}
use Rattle.std.specs.Char.{is_ascii_digit}
use Rattle.std.specs.List.{list_all}

-- the value of decimal digits
abbrev pub value_of_digits : List ℕ → ℕ
value_of_digits digits = fold (λ value digit. value * 10 + (digit - 48)) 0 digits

-- one or more digits
abbrev pub are_digits : List ℕ → Bool
are_digits word = nat_lt 0 (length word) && list_all is_ascii_digit word

-- the number that a word is, if it is one, with a value below 2^64
abbrev pub number_of : List ℕ → Option ℕ
number_of word = if are_digits word && nat_lt (value_of_digits word) (2 ^ 64) then Some (value_of_digits word) else None

-- the number from 1 to the greatest that a word is, if it is one
abbrev pub number_to : ℕ → List ℕ → Option ℕ
number_to greatest word =
    if are_digits word && nat_le 1 (value_of_digits word) && nat_le (value_of_digits word) greatest
    then Some (value_of_digits word) else None
