-- A sum of rows that admit a block admits it, and so do rows that have the same sums.
use Rattle.std.specs.Prelude.{◌≡◌, ◌≤◌, ◌-◌, ◌/◌, ℕ, List, [], ◌∷◌, map, take, drop, get_or}
use Rattle.std.specs.List.{AllByRecursion}
use Rattle.std.proofs.Common.{arith, refl, sym, ap, ◌∙◌, subst}
use Rattle.std.proofs.Math.Path.{ap₂}
use Rattle.std.proofs.lemmas.Simd.{map-map}
use Rattle.gf_tables.specs.Product.{width_of, bytes_of_width}
use Rattle.gf_tables.specs.declared.kind.FieldKind.{FieldKind}
use Rattle.gf_tables.specs.declared.kind.Width.TheVariants.{One, Two}
use Rattle.linear_algebra.proofs.CombinationLaws.{take-combination, drop-combination}
use Rattle.linear_algebra.proofs.MatrixLaws.{combination-times_rows}
use Rattle.linear_algebra.specs.Matrices.{times_rows}
use Rattle.linear_algebra.specs.Rows.{combination, AreElements, AreRows}
use Rattle.row_spans.proofs.SumLaws.{all_by_places, AreRows-vectors, IsSum-get_or}
use Rattle.row_spans.specs.Spans.{HaveSameSums, IsSum, vectors}
use Rattle.field_rows.specs.Widths.{width_in}
use Rattle.vector_headers.specs.Held.{coded, held_bytes, vector_bytes}
use Rattle.vector_headers.specs.Rows.{Admits, AdmitTheSame, CodedRow, IsPieceOfBlock, combination_of, payloads_of, payload_width, vectors_of}

-- a held row is a vector's place and a payload
pub payload_behind : (field : FieldKind) → width_in field held_bytes - width_in field vector_bytes ≡ payload_width field
payload_behind field = elim (width_of field) as (λ width. 192 / bytes_of_width width - 64 / bytes_of_width width ≡ 128 / bytes_of_width width) [ One ↦ refl | Two ↦ refl ]

-- a vector of at most 32 elements has its place
pub vector_within : (field : FieldKind) (rate : ℕ) → rate ≤ 32 → rate ≤ width_in field vector_bytes
vector_within field rate low = elim (width_of field) as (λ width. rate ≤ 64 / bytes_of_width width) [ One ↦ omega arith | Two ↦ omega arith ]

pub vector_in_row : (field : FieldKind) (rate : ℕ) → rate ≤ 32 → rate ≤ width_in field held_bytes
vector_in_row field rate low = elim (width_of field) as (λ width. rate ≤ 192 / bytes_of_width width) [ One ↦ omega arith | Two ↦ omega arith ]

-- what holds of f of each item holds of each item of the map
pub all_of_map : {X Y : Type 0} (P : Y → Type 0) (f : X → Y) (xs : List X) → AllByRecursion (λ x. P (f x)) xs → AllByRecursion P (map f xs)
all_of_map P f [] each = tt
all_of_map P f (x ∷ xs) each = (each.0, all_of_map P f xs each.1)

-- the vectors of coded rows
pub vectors_of-coded : (field : FieldKind) (rate : ℕ) (rows : List (List ℕ)) → vectors_of (map (coded field rate) rows) ≡ vectors rate rows
vectors_of-coded field rate rows = map-map (λ row. row.vector) (coded field rate) rows

module _ (field : FieldKind) (rate : ℕ) (low : rate ≤ 32) (block : List (List ℕ)) (is : IsPieceOfBlock field rate block) where
  -- the payloads of rows that admit a block
  payloads : (rows : List CodedRow) → AllByRecursion (Admits field block) rows → times_rows field (payload_width field) (vectors_of rows) block ≡ payloads_of rows
  payloads [] each = refl
  payloads (row ∷ rows) each = ap₂ ◌∷◌ each.0 (payloads rows each.1)

  -- a sum of multiples of rows that admit a block admits it
  pub Admits-combination : (rows : List CodedRow) → AreRows field rate (vectors_of rows) → AllByRecursion (Admits field block) rows → (coefficients : List ℕ) → AreElements field coefficients
      → Admits field block (combination_of field rate coefficients rows)
  Admits-combination rows are each coefficients elements =
      sym (combination-times_rows field (payload_width field) rate coefficients (vectors_of rows) block elements are is.rows)
      ∙ ap (combination field (payload_width field) coefficients) (payloads rows each)

  -- so does a held row that is a sum of held rows
  pub Admits-IsSum : (rows : List (List ℕ)) → AreRows field (width_in field held_bytes) rows → AllByRecursion (Admits field block) (map (coded field rate) rows)
      → (row : List ℕ) → IsSum field (width_in field held_bytes) rows row → Admits field block (coded field rate row)
  Admits-IsSum rows are each row sum =
      let wide = width_in field held_bytes in
      let place = width_in field vector_bytes in
      let times = sum.coefficients in
      let within = vector_in_row field rate low in
      let shown = map (coded field rate) rows in
      let vectors_are : vectors_of shown ≡ vectors rate rows = vectors_of-coded field rate rows in
      let vector : combination field rate times (vectors_of shown) ≡ take rate row =
      ap (combination field rate times) vectors_are ∙ sym (take-combination field wide rate times rows within) ∙ ap (take rate) sum.sum
      in
      let payload : combination field (payload_width field) times (payloads_of shown) ≡ drop place row =
      ap (combination field (payload_width field) times) (map-map (λ row. row.payload) (coded field rate) rows)
      ∙ ap (λ n. combination field n times (map (drop place) rows)) (sym (payload_behind field)) ∙ sym (drop-combination field wide place times rows are) ∙ ap (drop place) sum.sum
      in
      let Rows : List (List ℕ) → Type 0 = AreRows field rate in
      let law = Admits-combination shown (subst Rows (sym vectors_are) (AreRows-vectors field wide rate rows within are)) each times sum.elements in
      ap (λ (v : List ℕ). combination field (payload_width field) v block) (sym vector) ∙ law ∙ payload

  -- rows that are sums of such rows
  each_admits : (rows others : List (List ℕ)) → AreRows field (width_in field held_bytes) rows → AreRows field (width_in field held_bytes) others
      → HaveSameSums field (width_in field held_bytes) rows others
      → AllByRecursion (Admits field block) (map (coded field rate) rows) → AllByRecursion (Admits field block) (map (coded field rate) others)
  each_admits rows others are others_are same each =
      all_of_map (Admits field block) (coded field rate) others
      (all_by_places (λ row. Admits field block (coded field rate row)) others
      (λ i below. Admits-IsSum rows are each (get_or others i []) ((same (get_or others i [])).1 (IsSum-get_or field (width_in field held_bytes) others others_are i below))))

-- rows with the same sums admit the same of blocks
pub AdmitTheSame-sums : (field : FieldKind) (rate : ℕ) → rate ≤ 32 → (rows others : List (List ℕ)) → AreRows field (width_in field held_bytes) rows → AreRows field (width_in field held_bytes) others
    → HaveSameSums field (width_in field held_bytes) rows others → AdmitTheSame field rate (map (coded field rate) rows) (map (coded field rate) others)
AdmitTheSame-sums field rate low rows others are others_are same block is = (
  each_admits field rate low block is rows others are others_are same,
  each_admits field rate low block is others rows others_are are (λ row. ((same row).1, (same row).0)),
)
