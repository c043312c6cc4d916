-- What the links of a draft carry, and which of them are live, by the links that they read. A link that isn't live
-- carries zeros, and each link carries a row of elements as wide as the block.
use Rattle.std.specs.Prelude.{◌≡◌, ℕ, zero, suc, ◌<◌, Bool, true, false, not, ◌&&◌, ◌||◌, List, [], ◌∷◌, length, map, if◌then◌else◌}
use Rattle.std.specs.List.{All, list_any}
use Rattle.std.proofs.Common.{refl, ap, arith, inl, inr}
use Rattle.std.proofs.lemmas.Bool.{cases_Bool, or_parts, true≢false}
use Rattle.std.proofs.lemmas.List.Elements.{All-nil, All-cons, All-head, All-tail, All-get_or, All-map, All-weaker, recursion_from_All}
use Rattle.std.proofs.lemmas.Option.{unwrap_or-slice_get}
pub use Rattle.item_list.proofs.Maps.{map-agree}
use Rattle.gf_tables.specs.Product.{size_of}
use Rattle.gf_tables.specs.declared.kind.FieldKind.{FieldKind}
use Rattle.net_model.specs.Lists.{is_among}
use Rattle.net_model.specs.declared.net.Net.{Net}
use Rattle.node_program.specs.Code.{IsDraft}
use Rattle.linear_algebra.proofs.CombinationLaws.{combination-zero_rows, combination-IsRow}
use Rattle.linear_algebra.proofs.RowLaws.{zero_row-IsRow}
use Rattle.linear_algebra.specs.Rows.{combination, zero_row, IsRow}
use Rattle.node_program.specs.Decoding.{IsBlock}
use Rattle.node_program.proofs.OperandLaws.{operands_of_draft}
use Rattle.node_program.specs.Operands.{IsOperand}
use Rattle.net_model.specs.Walks.{leaves_source}
use Rattle.node_program.specs.Value.{width_of, row_at, operands_at, value_from, value_within, value, is_live_from, is_live_within, is_live}
use Rattle.node_program.specs.declared.Operand.{Operand}

-- two tests that agree on each item
list_any-agree : {X : Type 0} (f g : X → Bool) (P : X → Type 0) → ((x : X) → P x → f x ≡ g x) → (xs : List X) → All P xs → list_any f xs ≡ list_any g xs
list_any-agree f g P agree [] all = refl
list_any-agree f g P agree (x ∷ xs) all =
    rw (agree x (All-head P x xs all), list_any-agree f g P agree xs (All-tail P x xs all)) refl

-- a choice whose second answers are equal where it comes to them
same_if : {X : Type 0} (test : Bool) (x y z : X) → (test ≡ false → y ≡ z) → (if test then x else y) ≡ (if test then x else z)
same_if true x y z same = refl
same_if false x y z same = same refl

-- the same of an alternative
same_or : (test y z : Bool) → (test ≡ false → y ≡ z) → (test || y) ≡ (test || z)
same_or true y z same = refl
same_or false y z same = same refl

-- values of links that agree below a link give it one value
pub value_from-agree : {net : Net} {rate : ℕ} {field : FieldKind} {operands : List (List Operand)} → IsDraft net rate field operands
    → (failed : List ℕ) (block : List (List ℕ)) (values others : ℕ → List ℕ) (link : ℕ) → ((from : ℕ) → from < link → values from ≡ others from)
    → value_from net field operands failed block values link ≡ value_from net field operands failed block others link
value_from-agree {net} {rate} {field} {operands} draft failed block values others link agree =
    let P : Operand → Type 0 = IsOperand net rate field link in
    let rows = map-agree
    (λ operand. if leaves_source net link then row_at block operand.from else values operand.from)
    (λ operand. if leaves_source net link then row_at block operand.from else others operand.from)
    P
    (λ operand is. same_if (leaves_source net link) (row_at block operand.from) (values operand.from) (others operand.from) (λ inner. agree operand.from (is.earlier_link inner)))
    (operands_at operands link) (operands_of_draft draft link) in
    ap (λ (rows : List (List ℕ)).
    if is_among failed link then zero_row (width_of block)
    else combination field (width_of block) (map (λ operand. operand.times) (operands_at operands link)) rows)
    rows

-- bounds above a link give it one value
pub value_within-agree : {net : Net} {rate : ℕ} {field : FieldKind} {operands : List (List Operand)} → IsDraft net rate field operands
    → (failed : List ℕ) (block : List (List ℕ)) (bound other link : ℕ) → link < bound → link < other
    → value_within bound net field operands failed block link ≡ value_within other net field operands failed block link
unfolding value_within
value_within-agree draft failed block zero other link below below_other = absurd (omega arith)
value_within-agree draft failed block (suc bound) zero link below below_other = absurd (omega arith)
value_within-agree {net} {rate} {field} {operands} draft failed block (suc bound) (suc other) link below below_other =
    value_from-agree draft failed block
    (λ from. value_within bound net field operands failed block from)
    (λ from. value_within other net field operands failed block from)
    link (λ from before. value_within-agree draft failed block bound other from (omega arith) (omega arith))

-- a bound above a link is enough
pub value_within-value : {net : Net} {rate : ℕ} {field : FieldKind} {operands : List (List Operand)} → IsDraft net rate field operands
    → (failed : List ℕ) (block : List (List ℕ)) (bound link : ℕ) → link < bound
    → value_within bound net field operands failed block link ≡ value net field operands failed block link
value_within-value draft failed block bound link below = value_within-agree draft failed block bound (suc link) link below (omega arith)

-- the value of a link, by the values of the links that it reads
pub value-equation : {net : Net} {rate : ℕ} {field : FieldKind} {operands : List (List Operand)} → IsDraft net rate field operands
    → (failed : List ℕ) (block : List (List ℕ)) (link : ℕ)
    → value net field operands failed block link
    ≡ value_from net field operands failed block (λ from. value net field operands failed block from) link
unfolding value_within
value-equation {net} {rate} {field} {operands} draft failed block link =
    value_from-agree draft failed block
    (λ from. value_within link net field operands failed block from)
    (λ from. value net field operands failed block from)
    link (λ from before. value_within-value draft failed block link from before)

-- tests of links that agree below a link give it one answer
pub is_live_from-agree : {net : Net} {rate : ℕ} {field : FieldKind} {operands : List (List Operand)} → IsDraft net rate field operands
    → (failed : List ℕ) (live others : ℕ → Bool) (link : ℕ) → ((from : ℕ) → from < link → live from ≡ others from)
    → is_live_from net operands failed live link ≡ is_live_from net operands failed others link
is_live_from-agree {net} {rate} {field} {operands} draft failed live others link agree =
    let P : Operand → Type 0 = IsOperand net rate field link in
    let tests = list_any-agree
    (λ operand. leaves_source net link || live operand.from)
    (λ operand. leaves_source net link || others operand.from)
    P
    (λ operand is. same_or (leaves_source net link) (live operand.from) (others operand.from) (λ inner. agree operand.from (is.earlier_link inner)))
    (operands_at operands link) (operands_of_draft draft link) in
    ap (λ (any : Bool). not (is_among failed link) && any) tests

-- bounds above a link give it one answer
pub is_live_within-agree : {net : Net} {rate : ℕ} {field : FieldKind} {operands : List (List Operand)} → IsDraft net rate field operands
    → (failed : List ℕ) (bound other link : ℕ) → link < bound → link < other
    → is_live_within bound net operands failed link ≡ is_live_within other net operands failed link
unfolding is_live_within
is_live_within-agree draft failed zero other link below below_other = absurd (omega arith)
is_live_within-agree draft failed (suc bound) zero link below below_other = absurd (omega arith)
is_live_within-agree {net} {rate} {field} {operands} draft failed (suc bound) (suc other) link below below_other =
    is_live_from-agree draft failed
    (λ from. is_live_within bound net operands failed from)
    (λ from. is_live_within other net operands failed from)
    link (λ from before. is_live_within-agree draft failed bound other from (omega arith) (omega arith))

-- a bound above a link is enough
pub is_live_within-is_live : {net : Net} {rate : ℕ} {field : FieldKind} {operands : List (List Operand)} → IsDraft net rate field operands
    → (failed : List ℕ) (bound link : ℕ) → link < bound
    → is_live_within bound net operands failed link ≡ is_live net operands failed link
is_live_within-is_live draft failed bound link below = is_live_within-agree draft failed bound (suc link) link below (omega arith)

-- whether a link is live, by the links that it reads
pub is_live-equation : {net : Net} {rate : ℕ} {field : FieldKind} {operands : List (List Operand)} → IsDraft net rate field operands
    → (failed : List ℕ) (link : ℕ)
    → is_live net operands failed link ≡ is_live_from net operands failed (λ from. is_live net operands failed from) link
unfolding is_live_within
is_live-equation {net} {rate} {field} {operands} draft failed link =
    is_live_from-agree draft failed
    (λ from. is_live_within link net operands failed from)
    (λ from. is_live net operands failed from)
    link (λ from before. is_live_within-is_live draft failed link from before)

-- coefficients of a link of a draft are elements
pub coefficients-elements : {net : Net} {rate : ℕ} {field : FieldKind} {operands : List (List Operand)} → IsDraft net rate field operands
    → (link : ℕ) → All (λ element. element < size_of field) (map (λ operand. operand.times) (operands_at operands link))
coefficients-elements {net} {rate} {field} {operands} draft link =
    All-map (λ element. element < size_of field) (λ operand. operand.times) (operands_at operands link)
    (All-weaker (IsOperand net rate field link) (λ operand. operand.times < size_of field) (λ operand is. is.coefficient)
    (operands_at operands link) (operands_of_draft draft link))

-- where no operand is of a live link, each row is zeros
dead_rows : (leaves : Bool) (width : ℕ) (rows : ℕ → List ℕ) (live : ℕ → Bool) (values : ℕ → List ℕ)
    → ((from : ℕ) → live from ≡ false → values from ≡ zero_row width) → (operands : List Operand)
    → list_any (λ operand. leaves || live operand.from) operands ≡ false
    → All (λ row. row ≡ zero_row width) (map (λ operand. if leaves then rows operand.from else values operand.from) operands)
dead_rows leaves width rows live values zeros [] dead = All-nil (λ row. row ≡ zero_row width)
dead_rows true width rows live values zeros (operand ∷ operands) dead = absurd (true≢false dead)
dead_rows false width rows live values zeros (operand ∷ operands) dead =
    let parts = or_parts _ _ dead in
    All-cons (λ row. row ≡ zero_row width) (values operand.from) (map (λ o. values o.from) operands) (zeros operand.from parts.0)
    (dead_rows false width rows live values zeros operands parts.1)

-- a link that isn't live within a bound carries zeros within it
pub value_within-dead : {net : Net} {rate : ℕ} {field : FieldKind} {operands : List (List Operand)} → IsDraft net rate field operands
    → (failed : List ℕ) (block : List (List ℕ)) (bound link : ℕ) → is_live_within bound net operands failed link ≡ false
    → value_within bound net field operands failed block link ≡ zero_row (width_of block)
unfolding value_within is_live_within
value_within-dead draft failed block zero link dead = refl
value_within-dead {net} {rate} {field} {operands} draft failed block (suc bound) link dead = elim (cases_Bool (is_among failed link)) [
  | inl fails ↦ rw fails refl
  | inr whole ↦
      let none : list_any (λ operand. leaves_source net link || is_live_within bound net operands failed operand.from) (operands_at operands link) ≡ false = rw whole at dead in
      let rows = dead_rows (leaves_source net link) (width_of block) (row_at block)
      (λ from. is_live_within bound net operands failed from)
      (λ from. value_within bound net field operands failed block from)
      (λ from not_live. value_within-dead draft failed block bound from not_live)
      (operands_at operands link) none in
      rw whole (combination-zero_rows field (width_of block) _ _ (coefficients-elements draft link) rows)
]

-- a link that isn't live carries zeros
pub value-dead : {net : Net} {rate : ℕ} {field : FieldKind} {operands : List (List Operand)} → IsDraft net rate field operands
    → (failed : List ℕ) (block : List (List ℕ)) (link : ℕ) → is_live net operands failed link ≡ false
    → value net field operands failed block link ≡ zero_row (width_of block)
value-dead draft failed block link dead = value_within-dead draft failed block (suc link) link dead

-- a row of a block
pub IsRow-row_at : {field : FieldKind} {rate : ℕ} {block : List (List ℕ)} → IsBlock field rate block
    → (i : ℕ) → i < rate → IsRow field (width_of block) (row_at block i)
IsRow-row_at {field} {rate} {block} is i below =
    let within : i < length block = omega (arith, is.rows) in
    rw (unwrap_or-slice_get block i []) (record {
      width = All-get_or (λ row. length row ≡ width_of block) block i [] within is.widths;
      elements = All-get_or (λ (row : List ℕ). All (λ element. element < size_of field) row) block i [] within is.elements;
    })

-- either of two rows is a row
pub either_row : (field : FieldKind) (width : ℕ) (test : Bool) (x y : List ℕ) → (test ≡ true → IsRow field width x) → IsRow field width y
    → IsRow field width (if test then x else y)
either_row field width true x y first second = first refl
either_row field width false x y first second = second

-- within each bound a link carries a row of elements as wide as the block
pub IsRow-value_within : {net : Net} {rate : ℕ} {field : FieldKind} {operands : List (List Operand)} {block : List (List ℕ)} → IsDraft net rate field operands
    → IsBlock field rate block → (failed : List ℕ) (bound link : ℕ) → IsRow field (width_of block) (value_within bound net field operands failed block link)
unfolding value_within
IsRow-value_within {net} {rate} {field} {operands} {block} draft is failed zero link = zero_row-IsRow field (width_of block)
IsRow-value_within {net} {rate} {field} {operands} {block} draft is failed (suc bound) link = elim (cases_Bool (is_among failed link)) [
  | inl fails ↦ rw fails (zero_row-IsRow field (width_of block))
  | inr whole ↦
      let P : Operand → Type 0 = IsOperand net rate field link in
      let row : Operand → List ℕ =
      λ operand. if leaves_source net link then row_at block operand.from else value_within bound net field operands failed block operand.from in
      let rows = All-map (IsRow field (width_of block)) row (operands_at operands link)
      (All-weaker P (λ operand. IsRow field (width_of block) (row operand))
      (λ operand is_operand. either_row field (width_of block) (leaves_source net link) _ _
      (λ leaves. IsRow-row_at is operand.from (is_operand.source_row leaves))
      (IsRow-value_within draft is failed bound operand.from))
      (operands_at operands link) (operands_of_draft draft link)) in
      rw whole (combination-IsRow field (width_of block) _ _ (coefficients-elements draft link) (recursion_from_All (IsRow field (width_of block)) _ rows))
]

-- a link carries a row of elements as wide as the block
pub IsRow-value : {net : Net} {rate : ℕ} {field : FieldKind} {operands : List (List Operand)} {block : List (List ℕ)} → IsDraft net rate field operands
    → IsBlock field rate block → (failed : List ℕ) (link : ℕ) → IsRow field (width_of block) (value net field operands failed block link)
IsRow-value draft is failed link = IsRow-value_within draft is failed (suc link) link
