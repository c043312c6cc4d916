-- Laws of patterns whose links have higher numbers.
use Rattle.std.specs.Prelude.{◌≡◌, ℕ, ◌+◌, ◌≤◌, true, nat_eq, nat_lt, List, [], ◌∷◌, map}
use Rattle.std.specs.List.{list_all}
use Rattle.std.proofs.Common.{refl, ap, ◌∙◌, arith}
use Rattle.std.proofs.lemmas.Bool.{and_from, and_parts, lt-ltb, ltb-true}
use Rattle.std.proofs.lemmas.List.{length-map}
use Rattle.std.proofs.lemmas.List.Folds.{list_all-map}
use Rattle.item_list.proofs.Tests.{list_all-implied}
use Rattle.net_model.specs.Lists.{is_rising}
use Rattle.net_model.specs.Network.{are_patterns, is_listed_pattern}
use Rattle.net_model.specs.declared.Pattern.{Pattern}
use Rattle.two_sources.specs.Joined.{moved_pattern}

-- numbers below a bound are below a higher one when they're moved
pub below-moved : (by links bound : ℕ) (numbers : List ℕ) → by + links ≤ bound
    → list_all (λ link. nat_lt link links) numbers ≡ true → list_all (λ number. nat_lt (by + number) bound) numbers ≡ true
below-moved by links bound numbers fits =
    list_all-implied (λ link. nat_lt link links) (λ number. nat_lt (by + number) bound) numbers
    (λ link below. lt-ltb _ _ (omega (arith, ltb-true link links below)))

-- moved numbers rise where the numbers do
is_rising-moved : (by : ℕ) (numbers : List ℕ) → is_rising numbers ≡ true → is_rising (map (λ number. by + number) numbers) ≡ true
is_rising-moved by [] rising = refl
is_rising-moved by (number ∷ numbers) rising =
    let parts = and_parts _ _ rising in
    and_from _ _
    (list_all-map (nat_lt (by + number)) (λ (one : ℕ). by + one) numbers
    ∙ list_all-implied (nat_lt number) (λ one. nat_lt (by + number) (by + one)) numbers
    (λ one above. lt-ltb _ _ (omega (arith, ltb-true number one above))) parts.0)
    (is_rising-moved by numbers parts.1)

-- a moved pattern is a listed one of as many links more
is_listed_pattern-moved : (by links : ℕ) (pattern : Pattern) → is_listed_pattern links pattern ≡ true
    → is_listed_pattern (by + links) (moved_pattern by pattern) ≡ true
is_listed_pattern-moved by links pattern good =
    let parts = and_parts _ _ good in
    let first = and_parts _ _ parts.0 in
    let moved : ℕ → ℕ = λ link. by + link in
    and_from _ _
    (and_from _ _ (ap (nat_lt 0) (length-map pattern.links moved) ∙ first.0) (is_rising-moved by pattern.links first.1))
    (list_all-map (λ link. nat_lt link (by + links)) moved pattern.links
    ∙ below-moved by links (by + links) pattern.links (omega arith) parts.1)

-- the patterns of a network, moved, are patterns of as many links more
pub are_patterns-moved : (by links : ℕ) (patterns : List Pattern) → are_patterns links patterns ≡ true
    → are_patterns (by + links) (map (moved_pattern by) patterns) ≡ true
are_patterns-moved by links [] good = good
are_patterns-moved by links (none ∷ listed) good =
    let parts = and_parts _ _ good in
    let first = and_parts _ _ parts.0 in
    and_from _ _
    (and_from _ _ first.0 (ap (λ (count : ℕ). nat_eq count 0) (length-map none.links (λ link. by + link)) ∙ first.1))
    (list_all-map (is_listed_pattern (by + links)) (moved_pattern by) listed
    ∙ list_all-implied (is_listed_pattern links) (λ pattern. is_listed_pattern (by + links) (moved_pattern by pattern)) listed
    (is_listed_pattern-moved by links) parts.1)

-- their names stay
pub name-moved_pattern : (by : ℕ) (patterns : List Pattern)
    → map (λ pattern. pattern.name) (map (moved_pattern by) patterns) ≡ map (λ pattern. pattern.name) patterns
name-moved_pattern by [] = refl
name-moved_pattern by (pattern ∷ patterns) =
    ap (λ (names : List (List ℕ)). pattern.name ∷ names) (name-moved_pattern by patterns)
