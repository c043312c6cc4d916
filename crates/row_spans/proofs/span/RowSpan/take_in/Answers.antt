use Rattle.std.proofs.Common.{◌≡◌, ◌∷◌, ℕ, List, Bool, ap, arith, false, length, refl, set, subst, suc, sym, take, true, ◌∙◌}
use Rattle.std.proofs.lemmas.List.{with_items_is}
use Rattle.std.specs.Vec.{with_items}
use Rattle.linear_algebra.specs.Elements.{elements_of}
use Rattle.linear_algebra.specs.Rows.{AreRows}
use Rattle.row_spans.proofs.KeptLaws.{AreRows-kept}
use Rattle.row_spans.proofs.SpanSteps.{AreRows-kept_new, HaveSameSums-new, IsHeld-new, IsNewLead-same, length-kept_new, rank_less, vectors_kept}
use Rattle.row_spans.specs.Reduced.{kept, with_lead, IsNewLead}
use Rattle.row_spans.specs.Spans.{HaveSameSums, IsSum, Span, vectors}
use Rattle.field_rows.specs.Widths.{rows_in, width_in}
use Rattle.row_spans.proofs.span.RowSpan.take_in.Goals as goal
use Rattle.row_spans.proofs.span.RowSpan.take_in.Goals.{After-keep}

pub returns-in-None-clause-raised : goal.returns-in-None-clause-raised
returns-in-None-clause-raised g c =
    let s = c.self.inside in
    let rows = rows_in s.field s.rows.items in
    let row = elements_of s.field c.args.row.now in
    let Marks : List Bool → Type 0 = λ marks. IsSum s.field (length marks) (vectors (length marks) (rows_in s.field c.as_slice-2.result.now)) (take (length marks) row) in
    let Rows : List (List ℕ) → Type 0 = λ items. IsSum s.field (length s.marks.items) (vectors (length s.marks.items) (rows_in s.field items)) (take (length s.marks.items) row) in
    let Rate : ℕ → Type 0 = λ rate. IsSum s.field rate (vectors rate rows) (take rate row) in
    let sum = subst Rate c.self.invariant.reduced.columns (subst Rows c.as_slice-2.ensures.value (subst Marks c.as_slice.ensures.value c.in-None.ensures.none)) in
    let of_kept = (vectors_kept s.field g.row.W s.rate s.rank s.marks.items rows c.self.invariant (take s.rate row)).1 sum in
    let P : Span → Type 0 = λ span. IsSum span.field span.rate (vectors span.rate span.rows) (take span.rate (elements_of span.field c.args.row.now)) in
    let at_old = subst P c.self.view_is of_kept in
    (λ (no : false ≡ true). cc, λ raises. absurd (raises at_old))

pub returns-in-None-clause-rows : goal.returns-in-None-clause-rows
returns-in-None-clause-rows g c =
    let s = c.self.inside in
    let P : Span → Type 0 = λ span. AreRows span.field (width_in span.field g.row.W) span.rows in
    subst P c.self.view_is (AreRows-kept s.field (width_in s.field g.row.W) s.rate s.marks.items (rows_in s.field s.rows.items) c.self.invariant.reduced)

pub overflow_add-self : goal.overflow_add-self
overflow_add-self g c =
    let s = c.self.inside in
    let rows = rows_in s.field s.rows.items in
    let row = elements_of s.field c.args.row.now in
    let lead = elements_of s.field c.in-Some.lead.row in
    let h = c.self.invariant in
    let new = IsNewLead-same s.field (width_in s.field g.row.W) s.rate s.marks.items c.as_slice.result.now s.rows.items c.as_slice-2.result.now row c.in-Some.lead.column lead
    c.as_slice.ensures.value c.as_slice-2.ensures.value h.reduced.columns c.in-Some.ensures.some in
    omega (arith, rank_less s.field g.row.W s.rate s.rank s.marks.items rows h row c.lead_of.ensures.row c.in-Some.lead.column lead new, h.low_rate)

module _ (g : _) (c : After-keep g) where
  abbrev column : ℕ
  column = c.in-Some.lead.column

  abbrev lead : List ℕ
  lead = elements_of c.self.inside.field c.in-Some.lead.row

  -- the row that leads, of what was held
  new_lead : IsNewLead c.self.inside.field (width_in c.self.inside.field g.row.W) c.self.inside.rate c.self.inside.marks.items (rows_in c.self.inside.field c.self.inside.rows.items)
      (elements_of c.self.inside.field c.args.row.now) column lead
  new_lead =
      let s = c.self.inside in
      IsNewLead-same s.field (width_in s.field g.row.W) s.rate s.marks.items c.as_slice.result.now s.rows.items c.as_slice-2.result.now (elements_of s.field c.args.row.now) column lead
      c.as_slice.ensures.value c.as_slice-2.ensures.value c.self.invariant.reduced.columns c.in-Some.ensures.some

  -- the marks afterwards
  marks_are : (with_items c.self.inside.marks c.keep.new.marks).items ≡ set c.self.inside.marks.items column true
  marks_are =
      with_items_is c.self.inside.marks c.keep.new.marks (omega (arith, c.keep.auto.marks, c.as_mut_slice.ensures.len)) ∙ c.keep.ensures.marks
      ∙ ap (λ marks. set marks column true) c.as_mut_slice.ensures.value

  -- and the rows
  rows_are : rows_in c.self.inside.field (with_items c.self.inside.rows c.keep.new.rows).items ≡ with_lead c.self.inside.field column lead (rows_in c.self.inside.field c.self.inside.rows.items)
  rows_are =
      let field = c.self.inside.field in
      ap (rows_in field) (with_items_is c.self.inside.rows c.keep.new.rows (omega (arith, c.keep.auto.rows, c.as_mut_slice-in-Some.ensures.len))) ∙ c.keep.ensures.rows
      ∙ ap (λ items. with_lead field column lead (rows_in field items)) c.as_mut_slice-in-Some.ensures.value

pub invariant_of-self : goal.invariant_of-self
invariant_of-self g c =
    let k = (goal.at.invariant_of-self g c).After-keep in
    let s = c.self.inside in
    rw (marks_are g k, rows_are g k)
    (IsHeld-new s.field g.row.W s.rate s.rank s.marks.items (rows_in s.field s.rows.items) c.self.invariant (elements_of s.field c.args.row.now) c.lead_of.ensures.row
    (column g k) (lead g k) (new_lead g k))

pub returns-in-Some-clause-raised : goal.returns-in-Some-clause-raised
returns-in-Some-clause-raised g c =
    let k = (goal.at.returns-in-Some-clause-raised g c).After-keep in
    let s = c.self.inside in
    let rows = rows_in s.field s.rows.items in
    let row = elements_of s.field c.args.row.now in
    let Old : Span → Type 0 = λ span. IsSum span.field span.rate (vectors span.rate span.rows) (take span.rate (elements_of span.field c.args.row.now)) in
    (λ raised sum. (new_lead g k).raises ((vectors_kept s.field g.row.W s.rate s.rank s.marks.items rows c.self.invariant (take s.rate row)).0 (subst Old (sym c.self.view_is) sum)), λ raises. refl)

pub returns-in-Some-clause-sums : goal.returns-in-Some-clause-sums
returns-in-Some-clause-sums g c raised =
    let k = (goal.at.returns-in-Some-clause-sums g c).After-keep in
    let s = c.self.inside in
    let rows = rows_in s.field s.rows.items in
    let P : Span → Type 0 = λ span. HaveSameSums span.field (width_in span.field g.row.W) (kept (set s.marks.items (column g k) true) (with_lead s.field (column g k) (lead g k) rows))
    (elements_of span.field c.args.row.now ∷ span.rows) in
    rw (marks_are g k, rows_are g k)
    (subst P c.self.view_is
    (HaveSameSums-new s.field g.row.W s.rate s.rank s.marks.items rows c.self.invariant (elements_of s.field c.args.row.now) c.lead_of.ensures.row (column g k) (lead g k) (new_lead g k)))

pub returns-in-Some-clause-count : goal.returns-in-Some-clause-count
returns-in-Some-clause-count g c raised =
    let k = (goal.at.returns-in-Some-clause-count g c).After-keep in
    let s = c.self.inside in
    let rows = rows_in s.field s.rows.items in
    let P : Span → Type 0 = λ span. length (kept (set s.marks.items (column g k) true) (with_lead s.field (column g k) (lead g k) rows)) ≡ suc (length span.rows) in
    rw (marks_are g k, rows_are g k)
    (subst P c.self.view_is
    (length-kept_new s.field g.row.W s.rate s.rank s.marks.items rows c.self.invariant (elements_of s.field c.args.row.now) c.lead_of.ensures.row (column g k) (lead g k) (new_lead g k)))

pub returns-in-Some-clause-rows : goal.returns-in-Some-clause-rows
returns-in-Some-clause-rows g c =
    let k = (goal.at.returns-in-Some-clause-rows g c).After-keep in
    let s = c.self.inside in
    let rows = rows_in s.field s.rows.items in
    let P : Span → Type 0 = λ span. AreRows span.field (width_in span.field g.row.W) (kept (set s.marks.items (column g k) true) (with_lead s.field (column g k) (lead g k) rows)) in
    rw (marks_are g k, rows_are g k)
    (subst P c.self.view_is
    (AreRows-kept_new s.field g.row.W s.rate s.rank s.marks.items rows c.self.invariant (elements_of s.field c.args.row.now) c.lead_of.ensures.row (column g k) (lead g k) (new_lead g k)))
