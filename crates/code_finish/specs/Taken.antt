-- Links into a sink, taken in one by one: which are kept, and the rows that stand of them.
use Rattle.std.specs.Prelude.{◌≡◌, ◌-◌, ◌*◌, ◌∷◌, ◌++◌, ℕ, if◌then◌else◌, List, [], drop, length, map, take}
use Rattle.std.specs.List.{AllByRecursion}
use Rattle.gf_tables.specs.Product.{bytes_of_element}
use Rattle.gf_tables.specs.declared.kind.FieldKind.{FieldKind}
use Rattle.linear_algebra.specs.Rows.{AreRows, combination, unit_row, zero_row}
use Rattle.row_spans.specs.Decided.{is_sum}
use Rattle.row_spans.specs.Spans.{HaveSameSums, vectors}

-- of links, the last one first, those whose vector isn't a sum of multiples of the vectors of earlier ones, in their order
abbrev pub raising : FieldKind → ℕ → (ℕ → List ℕ) → List ℕ → List ℕ
raising field rate vector [] = []
raising field rate vector (link ∷ earlier) =
    raising field rate vector earlier ++ (if is_sum field rate (map vector earlier) (vector link) then [] else link ∷ [])

-- a row has 32 elements of a vector, with zeros behind it, and 32 coefficients

-- its bytes
abbrev pub taken_bytes : FieldKind → ℕ
taken_bytes field = 64 * bytes_of_element field

-- its coefficients, and so many of them
abbrev pub behind : List ℕ → List ℕ
behind row = drop 32 row

abbrev pub coefficients_of : ℕ → List ℕ → List ℕ
coefficients_of count row = take count (behind row)

-- the vector of a row is the sum of vectors, each times its coefficient behind it, and behind those stand zeros
pub record AddsUp (field : FieldKind) (rate : ℕ) (kept : List (List ℕ)) (row : List ℕ) : Type 0 where
  pub sum : take rate row ≡ combination field rate (coefficients_of (length kept) row) kept
  pub zeros : drop (length kept) (behind row) ≡ zero_row (32 - length kept)

-- what stands of links, the last one first: the links that were kept, and rows with the sums of all vectors, each of which adds up
pub record AreTaken (field : FieldKind) (rate : ℕ) (vector : ℕ → List ℕ) (earlier kept : List ℕ) (rows : List (List ℕ)) : Type 0 where
  pub are : AreRows field 64 rows
  pub count : length rows ≡ length kept
  pub kept_are : kept ≡ raising field rate vector earlier
  pub sums : HaveSameSums field rate (vectors rate rows) (map vector earlier)
  pub add_up : AllByRecursion (AddsUp field rate (map vector kept)) rows

-- the row of a link that comes behind so many kept ones: its vector, and one at their number behind it
abbrev pub IsRowOf : List ℕ → ℕ → List ℕ → Type 0
IsRowOf vector count row = row ≡ (vector ++ zero_row (32 - length vector)) ++ unit_row 32 count
