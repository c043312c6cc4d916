-- How the entries of rows at a column are written, one after another, with zeros behind them.
use Rattle.std.specs.Prelude.{◌≡◌, ℕ, suc, ◌+◌, ◌-◌, ◌<◌, List, [], ◌∷◌, ◌++◌, length, set, take}
use Rattle.std.proofs.Common.{arith, sym, ap, ◌∙◌, get_or}
use Rattle.std.proofs.lemmas.List.{append_assoc, length-take-le, set-append_left, set_at, take_all, take_more}
use Rattle.linear_algebra.specs.Rows.{zero_row}

-- the first entries, with zeros behind them, so many in all
abbrev pub first_entries : ℕ → List ℕ → ℕ → List ℕ
first_entries count entries k = take k entries ++ zero_row (count - k)

-- none are written
pub entries_none : (count : ℕ) (entries : List ℕ) → zero_row count ≡ first_entries count entries 0
entries_none count entries = let same : count ≡ count - 0 = omega arith in ap zero_row same

-- one more is written
pub entries_more : (count : ℕ) (entries : List ℕ) (k entry : ℕ) → k < length entries → k < count → entry ≡ get_or entries k 0
    → set (first_entries count entries k) k entry ≡ first_entries count entries (k + 1)
entries_more count entries k entry inside room is =
    let left : count - k ≡ suc (count - (k + 1)) = omega arith in
    let rest = zero_row (count - (k + 1)) in
    ap (λ n. set (take k entries ++ zero_row n) k entry) left
    ∙ set_at (take k entries) 0 rest entry k (length-take-le k entries (omega arith))
    ∙ sym (append_assoc (take k entries) (entry ∷ []) rest)
    ∙ ap (λ x. (take k entries ++ x ∷ []) ++ rest) is
    ∙ ap (λ xs. xs ++ rest) (sym (take_more entries k 0 inside))

-- all are written, and then one of them again
pub entries_all : (count : ℕ) (entries : List ℕ) (k place entry : ℕ) → length entries ≡ k → place < k
    → set (first_entries count entries k) place entry ≡ set entries place entry ++ zero_row (count - k)
entries_all count entries k place entry all inside =
    ap (λ xs. set (xs ++ zero_row (count - k)) place entry) (take_all k entries (omega arith))
    ∙ set-append_left entries (zero_row (count - k)) place entry (omega arith)
