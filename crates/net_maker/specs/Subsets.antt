-- Sets of numbers as rising lists, in lexicographic order, and how many of them there are.
use Rattle.std.specs.Prelude.{ℕ, zero, suc, ◌+◌, ◌-◌, ◌<◌, ◌≤◌, List, [], ◌∷◌, ◌++◌, length, map, slice_index}

-- how many sets of k out of n there are, by Pascal's rule
unfoldable pub binomial : ℕ → ℕ → ℕ
binomial n zero = 1
binomial zero (suc k) = 0
binomial (suc n) (suc k) = binomial n k + binomial n (suc k)

-- the sets of k of the `count` numbers from `first` on: those that begin with the first, then the others
unfoldable pub subsets_of : ℕ → ℕ → ℕ → List (List ℕ)
subsets_of first count zero = [] ∷ []
subsets_of first zero (suc k) = []
subsets_of first (suc count) (suc k) = map (λ rest. first ∷ rest) (subsets_of (first + 1) count k) ++ subsets_of (first + 1) count (suc k)

-- of the sets of numbers below a bound with as many members as this one: this one and those after it
unfoldable pub subsets_from : ℕ → List ℕ → List (List ℕ)
subsets_from bound [] = [] ∷ []
subsets_from bound (x ∷ rest) = map (λ others. x ∷ others) (subsets_from bound rest) ++ subsets_of (x + 1) (bound - (x + 1)) (length rest + 1)

-- no member of a set is so great that those behind it have no room up to a number
pub record HasRoom (most : ℕ) (subset : List ℕ) : Type 0 where
  pub each : (i : ℕ) → i < length subset → slice_index subset i + length subset ≤ most + 1 + i
