use Rattle.std.proofs.Common.{◌≡◌, ◌∙◌, List, ℕ, ap, sym, subst, length, map}
use Rattle.std.proofs.Math.Path.{ap₂}
use Rattle.std.proofs.lemmas.List.{length-map}
use Rattle.gf_tables.specs.declared.kind.FieldKind.{FieldKind}
use Rattle.linear_algebra.specs.Elements.{elements_of, numbers}
use Rattle.row_spans.specs.Spans.{Span}
use Rattle.vector_headers.proofs.TakenLaws.{coded-held_row, taken}
use Rattle.vector_headers.specs.Held.{IsTaken, coded, coded_rows, gain_of}
use Rattle.vector_headers.specs.Rows.{CodedRow, row_of_bytes}
use Rattle.vector_headers.specs.declared.blind.Gain.{Gain}
use Rattle.vector_headers.proofs.blind.take_in.Goals as goal

pub returns-clause-taken : goal.returns-clause-taken
returns-clause-taken g c =
    let span = c.args.span.now in
    let field = span.field in
    let rate = span.rate in
    let new = c.take_in.new.self in
    let row = elements_of field c.row_of.result in
    let vector = numbers g.F.Field.number c.args.vector.now in
    let payload = c.args.payload.now in
    let told = c.take_in.ensures in
    let law =
    taken field rate c.requires.low_rate span.rows new.rows row c.requires.rows told.row c.take_in.result told.raised
    (λ e. ap (λ (s : Span). s.rows) (told.same e)) told.sums told.count told.rows
    in
    let count : length vector ≡ rate = length-map c.args.vector.now g.F.Field.number ∙ c.requires.width in
    let came : coded field rate row ≡ row_of_bytes field vector payload =
    ap (λ (bytes : List ℕ). coded field rate (elements_of field bytes)) c.row_of.ensures
    ∙ coded-held_row field rate g.F.Field.BYTES vector payload c.requires.wide c.requires.low_rate count
    in
    let rows : map (coded field rate) new.rows ≡ coded_rows new =
    ap₂ (λ (f : FieldKind) (r : ℕ). map (coded f r) new.rows) (sym told.field) (sym told.rate)
    in
    let Taken : List CodedRow → CodedRow → Gain → Type 0 = IsTaken field rate (coded_rows span) in
    subst (λ (gain : Gain). Taken (coded_rows new) (row_of_bytes field vector payload) gain) (sym c.gain_of.ensures)
    (subst (λ (came : CodedRow). Taken (coded_rows new) came (gain_of c.take_in.result)) came
    (subst (λ (rows : List CodedRow). Taken rows (coded field rate row) (gain_of c.take_in.result)) rows law))
