use Rattle.std.proofs.Common.{◌≡◌, ◌<◌, [], ap, arith, get_or, length, ℕ, List, subst, sym, take, ◌∙◌}
use Rattle.std.proofs.lemmas.List.{length-map}
use Rattle.linear_algebra.specs.Elements.{elements_of}
use Rattle.linear_algebra.specs.Rows.{unit_row}
use Rattle.field_rows.proofs.ElementLaws.{get_or-rows_in}
use Rattle.row_spans.proofs.HiddenLaws.{unit_vector}
use Rattle.row_spans.proofs.KeptLaws.{HaveSameSums-kept}
use Rattle.row_spans.proofs.SpanSteps.{all_marked}
use Rattle.row_spans.proofs.SumLaws.{IsSum-get_or}
use Rattle.row_spans.specs.Reduced.{kept}
use Rattle.row_spans.specs.Spans.{IsSum, Span}
use Rattle.field_rows.specs.Widths.{rows_in, width_in}
use Rattle.row_spans.proofs.span.RowSpan.row.Goals as goal
use Rattle.row_spans.proofs.span.RowSpan.row.Goals.{After-index}

-- there is a row for the place
place_within : (g : _) (c : After-index g) → c.args.k < c.self.inside.rate
place_within g c =
    let P : Span → Type 0 = λ span. c.args.k < span.rate in
    subst P (sym c.self.view_is) c.requires.place

-- the row that is given
row_is : (g : _) (c : After-index g) → get_or (rows_in c.self.inside.field c.self.inside.rows.items) c.args.k [] ≡ elements_of c.self.inside.field c.index.result.now
row_is g c =
    let s = c.self.inside in
    get_or-rows_in s.field s.rows.items c.args.k c.index.result.now
    (omega (arith, place_within g c, c.self.invariant.reduced.count, length-map s.rows.items (elements_of s.field))) c.index.ensures

pub returns-clause-unit : goal.returns-clause-unit
returns-clause-unit g c =
    let s = c.self.inside in
    let rows = rows_in s.field s.rows.items in
    let h = c.self.invariant in
    let Whole : Span → Type 0 = λ span. length span.rows ≡ span.rate in
    let whole = subst Whole (sym c.self.view_is) c.requires.whole in
    let P : Span → Type 0 = λ span. take span.rate (elements_of span.field c.index.result.now) ≡ unit_row span.rate c.args.k in
    subst P c.self.view_is
    (ap (take s.rate) (sym (row_is g c))
    ∙ unit_vector s.field (width_in s.field g.row.W) s.rate s.marks.items rows h.reduced (all_marked s.field g.row.W s.rate s.rank s.marks.items rows h whole) c.args.k (place_within g c))

pub returns-clause-sum : goal.returns-clause-sum
returns-clause-sum g c =
    let s = c.self.inside in
    let rows = rows_in s.field s.rows.items in
    let width = width_in s.field g.row.W in
    let h = c.self.invariant in
    let P : Span → Type 0 = λ span. IsSum span.field (width_in span.field g.row.W) span.rows (elements_of span.field c.index.result.now) in
    let Of : List ℕ → Type 0 = IsSum s.field width (kept s.marks.items rows) in
    subst P c.self.view_is
    (subst Of (row_is g c) ((HaveSameSums-kept s.field width s.rate s.marks.items rows h.reduced (get_or rows c.args.k [])).1
    (IsSum-get_or s.field width rows h.reduced.are c.args.k (omega (arith, place_within g c, h.reduced.count)))))
