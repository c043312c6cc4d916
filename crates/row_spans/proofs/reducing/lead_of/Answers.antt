use Rattle.std.proofs.Common.{◌≡◌, ◌≢◌, ap, arith, length, List, ℕ, slice_index, subst, sym, take, ◌∙◌}
use Rattle.gf_tables.specs.Product.{product}
use Rattle.linear_algebra.specs.Elements.{elements_of}
use Rattle.linear_algebra.specs.Rows.{scale_row}
use Rattle.row_spans.proofs.KeptLaws.{marked_from_all}
use Rattle.row_spans.proofs.LeadSteps.{IsNewLead-divided}
use Rattle.row_spans.proofs.ReducedLaws.{sum_from_nothing, sum_where_marked}
use Rattle.row_spans.specs.Reduced.{cleared, kept, IsNewLead}
use Rattle.field_rows.proofs.ElementLaws.{IsRow-elements_in}
use Rattle.field_rows.specs.Widths.{rows_in, width_in}
use Rattle.row_spans.proofs.reducing.lead_of.Goals as goal

pub returns-then-rank-marks-clause-row : goal.returns-then-rank-marks-clause-row
returns-then-rank-marks-clause-row g c =
    IsRow-elements_in c.args.field g.row.W c.args.row.now c.requires.even c.requires.length (λ i. omega (arith, c.type_inv.row i))

pub returns-then-rank-marks-clause-none : goal.returns-then-rank-marks-clause-none
returns-then-rank-marks-clause-none g c =
    let field = c.args.field in
    let marks = c.args.marks.now in
    let rows = rows_in field c.args.rows.now in
    let row = elements_of field c.args.row.now in
    let count : length rows ≡ length marks = c.requires.reduced.count in
    let whole : length (kept marks rows) ≡ length rows = sym c.requires.rank ∙ omega (arith, c.if-rank-marks.true, c.requires.few) ∙ sym count in
    sum_where_marked field (width_in field g.row.W) (length marks) marks rows c.requires.reduced row (returns-then-rank-marks-clause-row g c)
    (λ p below. marked_from_all marks rows p count whole below)

pub returns-in-None-clause-none : goal.returns-in-None-clause-none
returns-in-None-clause-none g c =
    let field = c.args.field in
    let rate = length c.args.marks.now in
    let rows = rows_in field c.args.rows.now in
    let row = elements_of field c.args.row.now in
    sum_from_nothing field (width_in field g.row.W) rate c.args.marks.now rows c.requires.reduced row c.cleared-left.ensures.row
    (ap (take rate) (sym c.cleared-left.ensures.value) ∙ c.in-None.ensures.none)

pub returns-in-Some-clause-some : goal.returns-in-Some-clause-some
returns-in-Some-clause-some g c =
    let field = c.args.field in
    let width = width_in field g.row.W in
    let rate = length c.args.marks.now in
    let rows = rows_in field c.args.rows.now in
    let row = elements_of field c.args.row.now in
    let left = cleared field width rate rows row in
    let column = c.in-Some.column in
    let by = c.inverse-by.result in
    let value : elements_of field c.cleared-left.result ≡ left = c.cleared-left.ensures.value in
    let found = c.in-Some.ensures.some in
    let nonzero : slice_index left column ≢ 0 = λ none. found.1 (ap (λ xs. slice_index xs column) value ∙ none) in
    let entry : c.element_at.result ≡ slice_index left column = c.element_at.ensures.value ∙ ap (λ xs. slice_index xs column) value in
    let divides : product field (slice_index left column) by ≡ 1 = ap (λ x. product field x by) (sym entry) ∙ c.inverse-by.ensures.inverse in
    let made : elements_of field c.scaled-row.result ≡ scale_row field by left = c.scaled-row.ensures ∙ ap (scale_row field by) value in
    let P : List ℕ → Type 0 = IsNewLead field width rate c.args.marks.now rows row column in
    subst P (sym made) (IsNewLead-divided field width rate c.args.marks.now rows c.requires.reduced row c.cleared-left.ensures.row column by found.0 c.inverse-by.ensures.below nonzero divides)
