use Rattle.std.proofs.Common.{arith, ◌≡◌, ◌*◌, ◌<◌, ℕ, List, Some, ap, length, map, subst, sym, ◌∙◌}
use Rattle.std.specs.Prelude.{reverse, slice_get, slice_index}
use Rattle.std.proofs.lemmas.Option.{get_or_from_slice_get}
use Rattle.code_file.specs.declared.draft.Draft.{Draft}
use Rattle.failure_patterns.proofs.DemandLaws.{demand_of_number}
use Rattle.failure_patterns.specs.Demands.{number_of}
use Rattle.gf_tables.specs.declared.kind.FieldKind.{FieldKind}
use Rattle.linear_algebra.proofs.MatrixLaws.{length-rows_of}
use Rattle.linear_algebra.specs.Matrices.{rows_of, times_rows}
use Rattle.linear_algebra.specs.Rows.{AreElements, IsRow}
use Rattle.net_model.specs.Demands.{pattern_of_demand, sink_of_demand}
use Rattle.net_model.specs.Failed.{failed_links}
use Rattle.net_model.specs.declared.Demand.{Demand}
use Rattle.node_program.proofs.VectorLaws.{IsRow-global_vector}
use Rattle.node_program.specs.declared.Decoder.{Decoder}
use Rattle.row_spans.specs.Spans.{IsHidden, vectors}
use Rattle.code_finish.specs.Solved.{AreUnitSums, IsConfused, IsDecoderOf, ins_to, vectors_under}
use Rattle.code_finish.specs.Taken.{AreTaken}
use Rattle.code_finish.proofs.DecoderLaws.{Contains-ins_to, Contains-reverse}
use Rattle.code_finish.proofs.DecodesLaws.{zeros_carried}
use Rattle.code_finish.proofs.TakenLaws.{taken_hidden, taken_identity}
use Rattle.code_finish.proofs.solving.solve.Goals as goal

module _ (draft : Draft) (demand : Demand) (pattern : demand.pattern < length draft.net.patterns) (node : ℕ) (at : slice_get draft.net.sinks demand.sink ≡ Some node) (kept : List ℕ) (rows : List (List ℕ))
    (took : AreTaken draft.field draft.rate (vectors_under draft demand.pattern) (reverse (ins_to draft.net node)) kept rows) where
  abbrev number : ℕ
  number = number_of draft.net demand

  abbrev failed : List ℕ
  failed = failed_links draft.net.patterns (pattern_of_demand draft.net number)

  abbrev vector : ℕ → List ℕ
  vector = vectors_under draft (pattern_of_demand draft.net number)

  abbrev ins : List ℕ
  ins = ins_to draft.net (sink_of_demand draft.net number)

  are : (link : ℕ) → IsRow draft.field draft.rate (vector link)
  are = IsRow-global_vector draft.draft failed

  -- the links that were taken in are those into the sink of the demand with the number
  taken : AreTaken draft.field draft.rate vector (reverse ins) kept rows
  taken =
      let Are : ℕ → ℕ → Type 0 = λ pattern sink. AreTaken draft.field draft.rate (vectors_under draft pattern) (reverse (ins_to draft.net sink)) kept rows in
      subst (λ (one : Demand). Are one.pattern (slice_index draft.net.sinks one.sink)) (sym (demand_of_number draft.net demand pattern))
      (subst (Are demand.pattern) (sym (get_or_from_slice_get draft.net.sinks demand.sink node 0 at)) took)

  -- all of them carry a hidden block as zero
  confused_by : (block : List ℕ) → IsHidden draft.field draft.rate (vectors draft.rate rows) block → IsConfused draft number block
  confused_by block hidden = record {
    elements = hidden.is;
    nonzero = hidden.nonzero;
    zeros = λ link into.
        zeros_carried draft.draft failed block hidden.is link
        (taken_hidden draft.field draft.rate draft.draft.low_rate vector are (reverse ins) kept rows taken block hidden link
        (Contains-reverse ins link (Contains-ins_to draft.net (sink_of_demand draft.net number) link into)));
  }

  -- the kept links and the coefficients behind unit rows are the decoder
  decoder_of : length rows ≡ draft.rate → (decoder : Decoder) → decoder.links ≡ kept → length decoder.entries ≡ draft.rate * draft.rate → AreElements draft.field decoder.entries
      → AreUnitSums draft.field draft.rate rows (rows_of draft.rate draft.rate decoder.entries) → IsDecoderOf draft number decoder
  decoder_of full decoder links count elements sums =
      let matrix : List (List ℕ) = rows_of draft.rate draft.rate decoder.entries in
      let square = length-rows_of draft.rate draft.rate decoder.entries in
      record {
        links = links ∙ taken.kept_are;
        full = ap length links ∙ sym taken.count ∙ full;
        count = count;
        elements = elements;
        identity = ap (λ (links : List ℕ). times_rows draft.field draft.rate matrix (map vector links)) links
            ∙ taken_identity draft.field draft.rate draft.draft.low_rate vector are (reverse ins) kept rows taken (sym taken.count ∙ full) matrix square
            (λ k below. sums k (omega (arith, below, square)));
      }

pub returns-then-rank-draft-clause-solved : goal.returns-then-rank-draft-clause-solved
returns-then-rank-draft-clause-solved g c =
    let draft = c.args.draft.now in
    let taken = c.take_links.new.taken in
    let rows = taken.span.rows in
    let Hidden : FieldKind → ℕ → List ℕ → Type 0 = λ field rate block. IsHidden field rate (vectors rate rows) block in
    let hidden : Hidden draft.field draft.rate c.of.result =
    subst (λ field. Hidden field draft.rate c.of.result) (c.take_links.ensures.field ∙ c.requires.field)
    (subst (λ rate. Hidden taken.field rate c.of.result) (c.take_links.ensures.rate ∙ c.requires.rate) (subst (Hidden taken.field taken.rate) (sym c.of.ensures) c.in_ok-hidden.ensures))
    in
    confused_by draft c.args.demand c.requires.pattern c.at-node.result.now c.at-node.ensures taken.links.items rows (c.in_ok-take_links.ensures.taken c.args.demand.pattern c.requires.vectors) c.of.result hidden

pub returns-clause-solved : goal.returns-clause-solved
returns-clause-solved g c =
    let draft = c.args.draft.now in
    let taken = c.take_links.new.taken in
    let rows = taken.span.rows in
    let field = c.take_links.ensures.field ∙ c.requires.field in
    let rate = c.take_links.ensures.rate ∙ c.requires.rate in
    let told = c.in_ok-entries.ensures in
    let Told : FieldKind → ℕ → List ℕ → Type 0 = λ field rate entries. (length entries ≡ rate * rate) × AreElements field entries × AreUnitSums field rate rows (rows_of rate rate entries) in
    let entries : Told draft.field draft.rate c.of-3.result =
    subst (λ field. Told field draft.rate c.of-3.result) field
    (subst (λ rate. Told taken.field rate c.of-3.result) rate (subst (Told taken.field taken.rate) (sym c.of-3.ensures) (told.count, told.elements, told.sums)))
    in
    let full : length rows ≡ draft.rate = omega (arith, c.rank.ensures.value, c.rank.ensures.most, c.if-rank-draft.false, taken.span_rate, rate) in
    let links = c.of-2.ensures ∙ c.in_ok-to_vec.ensures.items_if_clones_equal (λ x y is. is) ∙ c.as_slice.ensures.value in
    decoder_of draft c.args.demand c.requires.pattern c.at-node.result.now c.at-node.ensures taken.links.items rows (c.in_ok-take_links.ensures.taken c.args.demand.pattern c.requires.vectors) full
    record { links = c.of-2.result; entries = c.of-3.result } links entries.0 entries.1 entries.2
