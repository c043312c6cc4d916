-- What the links of a network carry, by the operands of each link.
use Rattle.std.specs.Prelude.{ℕ, zero, suc, Bool, false, not, ◌&&◌, ◌||◌, ◌==◌, List, [], ◌∷◌, length, map, slice_get, unwrap_or, if◌then◌else◌}
use Rattle.std.specs.List.{list_any, range_with_len}
use Rattle.gf_tables.specs.declared.kind.FieldKind.{FieldKind}
use Rattle.net_model.specs.Lists.{is_among}
pub use Rattle.net_model.specs.Walks.{leaves_source}
use Rattle.net_model.specs.declared.net.Net.{Net}
use Rattle.linear_algebra.specs.Rows.{combination, unit_row, zero_row}
use Rattle.node_program.specs.declared.Operand.{Operand}

-- the length of a block's rows
abbrev pub width_of : List (List ℕ) → ℕ
width_of [] = 0
width_of (row ∷ rows) = length row

-- the row of a number
abbrev pub row_at : List (List ℕ) → ℕ → List ℕ
row_at rows i = unwrap_or (slice_get rows i) []

-- the operands of a link
abbrev pub operands_at : List (List Operand) → ℕ → List Operand
operands_at operands link = unwrap_or (slice_get operands link) []

-- The value of a link on a block where links fail, by the values of the links that it reads: zero where it fails
-- itself, else the sum over its operands of the coefficient times the operand's row of the block, or its link's value.
abbrev pub value_from : Net → FieldKind → List (List Operand) → List ℕ → List (List ℕ) → (ℕ → List ℕ) → ℕ → List ℕ
value_from net field operands failed block values link =
    if is_among failed link then zero_row (width_of block)
    else combination field (width_of block)
    (map (λ operand. operand.times) (operands_at operands link))
    (map (λ operand. if leaves_source net link then row_at block operand.from else values operand.from) (operands_at operands link))

-- The value of a link. An operand's link has a lower number than the link, so a bound above the link's number is enough.
unfoldable pub value_within : ℕ → Net → FieldKind → List (List Operand) → List ℕ → List (List ℕ) → ℕ → List ℕ
value_within zero net field operands failed block link = zero_row (width_of block)
value_within (suc bound) net field operands failed block link =
    value_from net field operands failed block (λ from. value_within bound net field operands failed block from) link

abbrev pub value : Net → FieldKind → List (List Operand) → List ℕ → List (List ℕ) → ℕ → List ℕ
value net field operands failed block link = value_within (suc link) net field operands failed block link

-- the block whose row i is the i-th unit vector
abbrev pub unit_block : ℕ → List (List ℕ)
unit_block rate = map (λ i. map (λ j. if i == j then 1 else 0) (range_with_len 0 rate)) (range_with_len 0 rate)

-- the global coding vector of a link
abbrev pub global_vector : Net → FieldKind → List (List Operand) → List ℕ → ℕ → ℕ → List ℕ
global_vector net field operands failed rate link = value net field operands failed (unit_block rate) link

-- The global coding vector of a link, by the vectors of the links that it reads: zero where it fails itself, else the
-- sum over its operands of the coefficient times the unit vector of the operand's row, or its link's vector.
abbrev pub vector_from : Net → FieldKind → List (List Operand) → List ℕ → ℕ → (ℕ → List ℕ) → ℕ → List ℕ
vector_from net field operands failed rate vectors link =
    if is_among failed link then zero_row rate
    else combination field rate
    (map (λ operand. operand.times) (operands_at operands link))
    (map (λ operand. if leaves_source net link then unit_row rate operand.from else vectors operand.from) (operands_at operands link))

-- Whether a link is live, by which links are that it reads: it doesn't fail, and some operand is a source row or a
-- live link.
abbrev pub is_live_from : Net → List (List Operand) → List ℕ → (ℕ → Bool) → ℕ → Bool
is_live_from net operands failed live link =
    not (is_among failed link) && list_any (λ operand. leaves_source net link || live operand.from) (operands_at operands link)

-- whether a link is live, under a bound as for the value
unfoldable pub is_live_within : ℕ → Net → List (List Operand) → List ℕ → ℕ → Bool
is_live_within zero net operands failed link = false
is_live_within (suc bound) net operands failed link =
    is_live_from net operands failed (λ from. is_live_within bound net operands failed from) link

abbrev pub is_live : Net → List (List Operand) → List ℕ → ℕ → Bool
is_live net operands failed link = is_live_within (suc link) net operands failed link
