-- What holds of a statement that words are, whatever comes before it.
use Rattle.std.specs.Prelude.{◌≡◌, ℕ, ◌≤◌, ◌<◌, ◌==◌, ◌&&◌, Bool, true, false, nat_le, List, [], ◌∷◌, length, codes, Option, Some, None, IfSome, if◌then◌else◌}
use Rattle.std.specs.Option.{option_map}
use Rattle.std.specs.Str.{bytes_eq}
use Rattle.std.proofs.Common.{refl, arith}
use Rattle.std.proofs.lemmas.Bool.{and_parts, leb-true}
use Rattle.net_model.specs.Limits.{highest_rate, most_links}
use Rattle.net_reader.specs.Digits.{are_digits, number_to, value_of_digits}
use Rattle.net_reader.specs.Statements.{IsCounted, Statement, count_of, fail_each_is, fail_each_of, field_is, field_of, link_is, link_of, pattern_is, pattern_of, rate_is, rate_of, sink_is, sink_of, source_is, source_of, statement_of}

-- a wanted rate is within the limits, a bundle has as many links as it may, and a pattern names some
abbrev pub IsWithinLimits : Statement → Type 0
IsWithinLimits (rate_is rate) = (1 ≤ rate) × (rate ≤ highest_rate)
IsWithinLimits (pattern_is name links) = 0 < length links
IsWithinLimits statement = IsCounted statement

-- so its links are counted
pub IsCounted-within_limits : (statement : Statement) → IsWithinLimits statement → IsCounted statement
IsCounted-within_limits (rate_is rate) within = tt
IsCounted-within_limits (pattern_is name links) within = tt
IsCounted-within_limits (field_is bits) within = within
IsCounted-within_limits (source_is node) within = within
IsCounted-within_limits (sink_is node) within = within
IsCounted-within_limits (link_is name tail head bundle) within = within
IsCounted-within_limits fail_each_is within = within

-- of two that may be said each is so
either : (b : Bool) (x y : Option Statement) → IfSome x IsWithinLimits → IfSome y IsWithinLimits → IfSome (if b then x else y) IsWithinLimits
either true x y is_x is_y = is_x
either false x y is_x is_y = is_y

-- a number to a greatest is from 1 on
number_to-within : (greatest : ℕ) (word : List ℕ) → IfSome (number_to greatest word) (λ number. (1 ≤ number) × (number ≤ greatest))
number_to-within greatest word = by (are_digits word && nat_le 1 (value_of_digits word) && nat_le (value_of_digits word) greatest) (λ is. is)
  where
    value : ℕ
    value = value_of_digits word

    by : (b : Bool) → (b ≡ true → (are_digits word && nat_le 1 value && nat_le value greatest) ≡ true) → IfSome (if b then Some value else None) (λ number. (1 ≤ number) × (number ≤ greatest))
    by true is =
        let parts = and_parts (are_digits word && nat_le 1 value) (nat_le value greatest) (is refl) in
        (leb-true _ _ (and_parts (are_digits word) (nat_le 1 value) parts.0).1, leb-true _ _ parts.1)
    by false is = tt

-- what is made of a number that is found
mapped : (P : ℕ → Type 0) (makes : ℕ → Statement) → ((number : ℕ) → P number → IsWithinLimits (makes number)) → (found : Option ℕ) → IfSome found P → IfSome (option_map makes found) IsWithinLimits
mapped P makes good None is = tt
mapped P makes good (Some number) is = good number is

count_of-within : (word : List ℕ) → IfSome (count_of word) (λ count. (1 ≤ count) × (count ≤ most_links))
count_of-within [] = tt
count_of-within (letter ∷ digits) = by (letter == 120) (number_to-within most_links digits)
  where
    by : (b : Bool) → IfSome (number_to most_links digits) (λ count. (1 ≤ count) × (count ≤ most_links)) → IfSome (if b then number_to most_links digits else None) (λ count. (1 ≤ count) × (count ≤ most_links))
    by true within = within
    by false within = tt

field-within : (words : List (List ℕ)) → IfSome (field_of words) IsWithinLimits
field-within [] = tt
field-within (bits ∷ []) =
    either (bytes_eq bits (codes "8")) (Some (field_is 8)) (if bytes_eq bits (codes "16") then Some (field_is 16) else None) tt
    (either (bytes_eq bits (codes "16")) (Some (field_is 16)) None tt tt)
field-within (bits ∷ more ∷ words) = tt

rate-within : (words : List (List ℕ)) → IfSome (rate_of words) IsWithinLimits
rate-within [] = tt
rate-within (rate ∷ []) = mapped (λ number. (1 ≤ number) × (number ≤ highest_rate)) rate_is (λ number within. within) (number_to highest_rate rate) (number_to-within highest_rate rate)
rate-within (rate ∷ more ∷ words) = tt

source-within : (words : List (List ℕ)) → IfSome (source_of words) IsWithinLimits
source-within [] = tt
source-within (node ∷ []) = tt
source-within (node ∷ more ∷ words) = tt

sink-within : (words : List (List ℕ)) → IfSome (sink_of words) IsWithinLimits
sink-within [] = tt
sink-within (node ∷ []) = tt
sink-within (node ∷ more ∷ words) = tt

link-within : (words : List (List ℕ)) → IfSome (link_of words) IsWithinLimits
link-within [] = tt
link-within (name ∷ []) = tt
link-within (name ∷ tail ∷ []) = tt
link-within (name ∷ tail ∷ head ∷ []) = tt
link-within (name ∷ tail ∷ head ∷ count ∷ []) =
    mapped (λ links. (1 ≤ links) × (links ≤ most_links)) (λ links. link_is name tail head (Some links)) (λ links within. within) (count_of count) (count_of-within count)
link-within (name ∷ tail ∷ head ∷ count ∷ more ∷ words) = tt

pattern-within : (words : List (List ℕ)) → IfSome (pattern_of words) IsWithinLimits
pattern-within [] = tt
pattern-within (name ∷ []) = tt
pattern-within (name ∷ link ∷ links) = omega arith

fail_each-within : (words : List (List ℕ)) → IfSome (fail_each_of words) IsWithinLimits
fail_each-within [] = tt
fail_each-within (word ∷ words) = tt

-- a statement that words are is within the limits
pub IsWithinLimits-statement_of : (first : List ℕ) (words : List (List ℕ)) → IfSome (statement_of first words) IsWithinLimits
IsWithinLimits-statement_of first words =
    either (bytes_eq first (codes "field")) _ _ (field-within words)
    (either (bytes_eq first (codes "rate")) _ _ (rate-within words)
    (either (bytes_eq first (codes "source")) _ _ (source-within words)
    (either (bytes_eq first (codes "sink")) _ _ (sink-within words)
    (either (bytes_eq first (codes "link")) _ _ (link-within words)
    (either (bytes_eq first (codes "pattern")) _ _ (pattern-within words)
    (either (bytes_eq first (codes "fail-each")) _ None (fail_each-within words) tt))))))
