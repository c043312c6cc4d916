-- What becomes of the rows of a piece when one comes.
use Rattle.std.specs.Prelude.{◌≡◌, ◌↔◌, ◌≤◌, ◌*◌, ◌-◌, ◌/◌, ℕ, suc, Bool, true, false, List, ◌∷◌, ◌++◌, length, map, take, drop, replicate}
use Rattle.std.proofs.Common.{arith, refl, sym, ap, subst, ◌∙◌, inl, inr}
use Rattle.std.proofs.Math.Nat.{mul-le-mul_left}
use Rattle.std.proofs.Math.Path.{ap₂}
use Rattle.std.proofs.lemmas.List.{append_assoc, drop_at, length-append, length-map, length-replicate, take_at}
use Rattle.gf_tables.specs.Product.{bytes_of_element, bytes_of_width, width_of}
use Rattle.gf_tables.specs.declared.kind.FieldKind.{FieldKind}
use Rattle.gf_tables.specs.declared.kind.Width.TheVariants.{One, Two}
use Rattle.linear_algebra.proofs.ElementsLaws.{elements_of-append, elements_of-bytes_of_row, length-bytes_of_row, length-elements_of}
use Rattle.linear_algebra.specs.Elements.{bytes_of_row, elements_of}
use Rattle.linear_algebra.specs.Rows.{AreRows, IsRow}
use Rattle.row_spans.proofs.SumLaws.{AreRows-vectors, HaveSameSums-vectors, IsRow-take, HaveSameSums-sum}
use Rattle.row_spans.specs.Spans.{HaveSameSums, IsSum, vectors}
use Rattle.field_rows.specs.Widths.{width_in}
use Rattle.vector_headers.proofs.AdmitLaws.{AdmitTheSame-sums, vector_in_row, vector_within, vectors_of-coded}
use Rattle.vector_headers.specs.Heads.{width_of_bytes}
use Rattle.vector_headers.specs.Held.{IsTaken, coded, gain_of, held_bytes, held_row, vector_bytes}
use Rattle.row_spans.specs.Decided.{IsSum-decided}
use Rattle.vector_headers.specs.Rows.{CodedRow, row_of_bytes}
use Rattle.vector_headers.specs.declared.blind.Gain.TheVariants.{Raised, Same}

-- the width of a field's elements
pub width_of_field : (field : FieldKind) → width_of_bytes (bytes_of_element field) ≡ width_of field
width_of_field field = elim (width_of field) as (λ width. width_of_bytes (bytes_of_width width) ≡ width) [ One ↦ refl | Two ↦ refl ]

-- whole elements have their bytes
pub vector_place : (field : FieldKind) → 64 ≡ bytes_of_element field * width_in field vector_bytes
vector_place field = elim (width_of field) as (λ width. 64 ≡ bytes_of_width width * (64 / bytes_of_width width)) [ One ↦ refl | Two ↦ refl ]

-- a held row has the vector and the payload
pub coded-held_row : (field : FieldKind) (rate bytes : ℕ) (vector payload : List ℕ) → bytes ≡ bytes_of_element field → rate ≤ 32 → length vector ≡ rate
    → coded field rate (elements_of field (held_row bytes vector payload)) ≡ row_of_bytes field vector payload
coded-held_row field rate bytes vector payload wide low count =
    let made = bytes_of_row field vector in
    let zeros = replicate (64 - length made) 0 in
    let front = made ++ zeros in
    let written : held_row bytes vector payload ≡ front ++ payload = rw (wide, width_of_field field) refl in
    let long : length made ≡ bytes_of_element field * rate = length-bytes_of_row field vector ∙ ap (λ n. bytes_of_element field * n) count in
    let within : rate ≤ width_in field vector_bytes = vector_within field rate low in
    let place = width_in field vector_bytes in
    let room : bytes_of_element field * place ≡ 64 = sym (vector_place field) in
    let whole : length front ≡ bytes_of_element field * place =
    omega (arith, length-append made zeros, length-replicate {A = ℕ} (64 - length made) 0, long, room, mul-le-mul_left (bytes_of_element field) within)
    in
    let vector_is : take rate (elements_of field (front ++ payload)) ≡ vector =
    ap (λ (row : List ℕ). take rate (elements_of field row)) (append_assoc made zeros payload)
    ∙ ap (take rate) (elements_of-append field rate made (zeros ++ payload) long ∙ ap (λ (row : List ℕ). row ++ elements_of field (zeros ++ payload)) (elements_of-bytes_of_row field vector))
    ∙ take_at vector (elements_of field (zeros ++ payload)) rate count
    in
    let payload_is : drop place (elements_of field (front ++ payload)) ≡ elements_of field payload =
    ap (drop place) (elements_of-append field place front payload whole)
    ∙ drop_at (elements_of field front) (elements_of field payload) place (length-elements_of field place front whole)
    in
    ap (λ (row : List ℕ). coded field rate (elements_of field row)) written
    ∙ ap₂ (λ (v p : List ℕ). let row : CodedRow = record { vector = v; payload = p } in row) vector_is payload_is

module _ (field : FieldKind) (rate : ℕ) (low : rate ≤ 32) (old new : List (List ℕ)) (row : List ℕ) (old_are : AreRows field (width_in field held_bytes) old) (is : IsRow field (width_in field held_bytes) row) where
  -- a row came whose vector is no sum of the vectors
  taken_raised : ¬ IsSum field rate (vectors rate old) (take rate row) → HaveSameSums field (width_in field held_bytes) new (row ∷ old) → length new ≡ suc (length old)
      → AreRows field (width_in field held_bytes) new → IsTaken field rate (map (coded field rate) old) (map (coded field rate) new) (coded field rate row) Raised
  taken_raised raised sums count are =
      let within = vector_in_row field rate low in
      let P : List (List ℕ) → Type 0 = λ vectors. ¬ IsSum field rate vectors (take rate row) in
      let same = HaveSameSums-vectors field (width_in field held_bytes) rate new (row ∷ old) within are (is, old_are) sums in
      record {
        raised = (λ _. subst P (sym (vectors_of-coded field rate old)) raised, λ _. refl);
        spans = rw (vectors_of-coded field rate new, vectors_of-coded field rate old) same;
        count = λ _. length-map new (coded field rate) ∙ count ∙ ap suc (sym (length-map old (coded field rate)));
        admits = λ _. AdmitTheSame-sums field rate low new (row ∷ old) are (is, old_are) sums;
      }

  -- a row came whose vector is such a sum
  taken_same : IsSum field rate (vectors rate old) (take rate row) → new ≡ old
      → IsTaken field rate (map (coded field rate) old) (map (coded field rate) new) (coded field rate row) Same
  taken_same sum unchanged =
      let within = vector_in_row field rate low in
      let P : List (List ℕ) → Type 0 = λ vectors. IsSum field rate vectors (take rate row) in
      let same = HaveSameSums-sum field rate (vectors rate old) (take rate row) (AreRows-vectors field (width_in field held_bytes) rate old within old_are) (IsRow-take field (width_in field held_bytes) rate row within is) sum in
      record {
        raised = (λ e. absurd (cc), λ other. absurd (other (subst P (sym (vectors_of-coded field rate old)) sum)));
        spans = rw (unchanged, vectors_of-coded field rate old) same;
        count = λ e. absurd (cc);
        admits = λ e. absurd (cc);
      }

  -- a row came
  pub taken : (b : Bool) → (b ≡ true ↔ ¬ IsSum field rate (vectors rate old) (take rate row)) → (b ≡ false → new ≡ old)
      → (b ≡ true → HaveSameSums field (width_in field held_bytes) new (row ∷ old)) → (b ≡ true → length new ≡ suc (length old))
      → AreRows field (width_in field held_bytes) new
      → IsTaken field rate (map (coded field rate) old) (map (coded field rate) new) (coded field rate row) (gain_of b)
  taken true raised same sums count are = taken_raised (raised.0 refl) (sums refl) (count refl) are
  taken false raised same sums count are =
      elim (IsSum-decided field rate (vectors rate old) (take rate row)) [
        | inl sum ↦ taken_same sum (same refl)
        | inr other ↦ let wrong : false ≡ true = raised.1 other in absurd (cc)
      ]
