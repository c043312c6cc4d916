-- Steps of the choice of a link's operands.
use Rattle.std.specs.Prelude.{◌≡◌, ◌≢◌, ◌<◌, ◌≤◌, ℕ, Bool, true, false, List, All, length, map, slice_index, if◌then◌else◌}
use Rattle.std.proofs.Common.{sym, ap, ◌∙◌, arith, get_or, inl, inr, subst}
use Rattle.std.proofs.lemmas.Bool.{cases_lt}
use Rattle.std.proofs.lemmas.List.{get_or-map, get_or_default, length-map}
use Rattle.std.proofs.lemmas.Option.{slice_get-get_or, slice_get_within}
use Rattle.coeff_choice.specs.Choice.{HasNonzeroAt, IsChoice}
use Rattle.field_vectors.proofs.DotOfLaws.{dot_of-element}
use Rattle.field_vectors.specs.Elements.{dot_of}
use Rattle.field_vectors.specs.Grid.{Grid, IsMatrix, entry_of, row_of}
use Rattle.field_vectors.proofs.GridLaws.{row_of-elements}
use Rattle.field_vectors.proofs.NumberLaws.{get_or-numbers, number-dot_of, numbers-AreElements}
use Rattle.std.specs.declared.cmp.PartialEq.{Ghosts as EqualityWords}
use Rattle.gf_tables.specs.declared.field.Field.{Ghosts as FieldWords}
use Rattle.gf_tables.specs.Field.{IsField, IsNumbering}
use Rattle.gf_tables.specs.Kind.{IsOfKind}
use Rattle.gf_tables.specs.declared.kind.FieldKind.{FieldKind}
use Rattle.linear_algebra.specs.Elements.{numbers}
use Rattle.linear_algebra.specs.Rows.{dot}
use Rattle.net_model.specs.Lists.{is_among}
use Rattle.net_model.specs.declared.net.Net.{Net}
use Rattle.node_program.specs.Value.{leaves_source}
use Rattle.node_program.specs.declared.Operand.{Operand}
use Rattle.lif_compiler.specs.Operands.{ArePlaces, AreSources, befores, operands_of}
use Rattle.net_model.proofs.RisingLaws.{is_among-from_Contains, place-from_is_among, rising-place}
use Rattle.lif_compiler.specs.Compiled.{marked_kind}
use Rattle.lif_compiler.specs.PartialCodes.{AreChosenBy, HaveProducts, IsTable, product_of}
use Rattle.lif_compiler.specs.declared.partial_code.PartialCode.{PartialCode}
use Rattle.lif_compiler.proofs.BasesLaws.{LawsOf}
use Rattle.lif_compiler.specs.declared.hops.Hop.{Hop}

-- what holds of all numbers holds of the sources among them
pub All-sources : (P : ℕ → Type 0) (numbers sources : List ℕ) → AreSources numbers sources → All P numbers → All P sources
All-sources P numbers sources are all k d within =
    let here : is_among sources (get_or sources k d) ≡ true = is_among-from_Contains sources (get_or sources k d) (k, within, get_or_default sources k (get_or sources k d) d within) in
    let found = place-from_is_among numbers (get_or sources k d) (sym (are.same (get_or sources k d)) ∙ here) in
    subst P found.2 (all found.0 0 found.1)

-- there are no more sources than numbers below a bound on them
pub few_sources : (numbers sources : List ℕ) (bound : ℕ) → AreSources numbers sources → All (λ number. number < bound) numbers → length sources ≤ bound
few_sources numbers sources bound are below = elim (cases_lt bound (length sources)) [
  | inl more ↦
      (let last = All-sources (λ number. number < bound) numbers sources are below bound 0 more in
      absurd (omega (arith, rising-place sources bound are.rising more)))
  | inr few ↦ few
]

-- what comes before the hops, by the hops
pub All-befores : (P : ℕ → Type 0) (hops : List Hop) → All (λ hop. P hop.before) hops → All P (befores hops)
All-befores P hops all k d within =
    let before : Hop → ℕ = λ hop. hop.before in
    let none : Hop = record { demand = 0; path = 0; before = d } in
    let inside : k < length hops = omega (arith, length-map hops before) in
    subst P (sym (get_or-map before hops k none d inside)) (all k none inside)

module _ {A : Type 0} {P : A → Type 0} {nought one : A} {add mul : A → A → A} {inv : A → A} (F : IsField P nought one add mul inv)
    {number : A → ℕ} {of_number : ℕ → A} {size : ℕ} {product : ℕ → ℕ → ℕ} (N : IsNumbering P nought one add mul number of_number size product)
    (kind : FieldKind) {bytes mark : ℕ} (K : IsOfKind kind size bytes mark product) where
  -- an element is zero exactly where its number is
  pub nonzero-from_number : (x : A) → number x ≢ 0 → x ≢ nought
  nonzero-from_number x nonzero is = nonzero (ap number is ∙ N.number_zero)

  pub number-nonzero : (x : A) → P x → x ≢ nought → number x ≢ 0
  number-nonzero x p nonzero is =
      nonzero (sym (N.of_number_number x p) ∙ ap of_number (is ∙ sym N.number_zero) ∙ N.of_number_number nought F.zero_element)

module _ {X : Type 0} {F : FieldWords X} {E : EqualityWords X} (L : LawsOf F) {net : Net} {link : ℕ} {sources : List ℕ} {hops : List Hop} {code : PartialCode X F E} (table : Grid X)
    (made : IsTable (marked_kind F.MARK) net link sources hops code table) where
  -- in each row the product of what comes before the link isn't zero
  pub nonzero_at : (places : List ℕ) → ArePlaces (befores hops) sources places
      → HaveProducts net link hops code → HasNonzeroAt F.zero table places
  nonzero_at places are own =
      let before : Hop → ℕ = λ hop. hop.before in
      let size : length (befores hops) ≡ length hops = length-map hops before in
      record {
        each_row = are.each ∙ size ∙ sym made.height;
        within = λ row below. omega (arith, are.within row (omega (arith, size, made.height)), made.columns);
        nonzero = λ row below.
            let none : Hop = record { demand = 0; path = 0; before = 0 } in
            let inside : row < length hops = omega (arith, made.height) in
            let among : row < length (befores hops) = omega (arith, size) in
            let hop = get_or hops row none in
            let here = slice_get-get_or hops row none inside in
            let place = slice_index places row in
            let source : slice_index sources place ≡ hop.before = are.there row among ∙ get_or-map before hops row none 0 inside in
            let f : ℕ → ℕ = product_of (marked_kind F.MARK) (leaves_source net link) code hop in
            let entry : F.number (entry_of F.zero table row place) ≡ f hop.before =
            sym (get_or-numbers L.field L.numbering (marked_kind F.MARK) L.of_kind (row_of table row) place) ∙ ap (λ xs. slice_index xs place) (made.row row hop here) ∙ get_or-map f sources place 0 0 (are.within row among) ∙ ap f source in
            nonzero-from_number L.field L.numbering (marked_kind F.MARK) L.of_kind (entry_of F.zero table row place) (λ is. own row hop here (sym entry ∙ is));
      }

  -- the coefficients that were chosen
  pub chosen_by : (choice : List X) (operands : List Operand) → IsMatrix F.is_element table → AreSources (befores hops) sources → IsChoice F.is_element F.zero F.add F.mul table choice
      → operands ≡ operands_of sources (map F.number choice) → AreChosenBy net link hops code operands
  chosen_by choice operands kept are chosen is = record {
    sources = sources;
    are_sources = are;
    times = numbers F.number choice;
    each_source = length-map choice F.number ∙ chosen.each_column ∙ made.columns;
    elements = numbers-AreElements L.field L.numbering (marked_kind F.MARK) L.of_kind choice chosen.elements;
    operands_are = is;
    nonzero = λ k hop here zero.
        let row = row_of table k in
        let below : k < length table.rows = omega (arith, slice_get_within hops k hop here, made.height) in
        let elements = row_of-elements table k kept below in
        let value = dot_of F.zero F.add F.mul choice row in
        number-nonzero L.field L.numbering (marked_kind F.MARK) L.of_kind value (dot_of-element L.field choice row chosen.elements elements) (chosen.nonzero k below)
        (number-dot_of L.field L.numbering (marked_kind F.MARK) L.of_kind choice row chosen.elements elements ∙ ap (dot (marked_kind F.MARK) (numbers F.number choice)) (made.row k hop here) ∙ zero);
  }

-- the lesser of two bounds, or the greater, is at most a bound on both
pub few_either : (test : Bool) (x y bound : ℕ) → x ≤ bound → y ≤ bound → (if test then x else y) ≤ bound
few_either true x y bound few many = few
few_either false x y bound few many = many
