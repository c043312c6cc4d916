use Rattle.std.proofs.Common.{◌≡◌, ◌∙◌, ◌<◌, ◌++◌, ◌∷◌, [], false, true, ap, arith, inl, inr, length, subst, suc, sym, take}
use Rattle.std.proofs.lemmas.Bool.{both_ways, false_from_ne_true, true_from_ne_false}
use Rattle.linear_algebra.specs.Elements.{elements_of}
use Rattle.field_rows.specs.Widths.{width_in}
use Rattle.linear_algebra.specs.Rows.{AreRows, IsRow, unit_row}
use Rattle.row_spans.specs.Decided.{IsSum-decided}
use Rattle.row_spans.specs.Spans.{HaveSameSums, IsSum, Span, vectors}
use Rattle.code_finish.proofs.TakingLaws.{IsTakenIn, taken_in_more, taken_in_same, taken_width}
use Rattle.code_finish.proofs.taking.Taken.take_in.Goals as goal

pub returns-in_ok-push-clause-taken : goal.returns-in_ok-push-clause-taken
returns-in_ok-push-clause-taken g c =
    let taken = c.args.self.now in
    let span = taken.span in
    let bytes = c.args.vector.now in
    let row = c.row_of-row.result in
    let kept = taken.links.items in
    let new = c.take_in.new.self in
    let made : elements_of span.field row ≡ take 32 (elements_of span.field bytes) ++ unit_row 32 c.min.result =
    subst (λ field. elements_of field row ≡ take 32 (elements_of field bytes) ++ unit_row 32 c.min.result) (sym taken.span_field) c.row_of-row.ensures
    in
    let raised : c.take_in.result ≡ true =
    true_from_ne_false c.take_in.result
    (λ no. let same : length new.rows ≡ length span.rows = ap (λ (s : Span). length s.rows) (c.take_in.ensures.same no) in absurd (omega arith))
    in
    let more = c.take_in.ensures.count raised in
    let few : length span.rows < span.rate = omega (arith, more, c.take_in.ensures.rate) in
    let here : c.min.result ≡ length span.rows = omega arith in
    let wide : width_in span.field g.row.W ≡ 64 = ap (λ field. width_in field g.row.W) taken.span_field ∙ taken_width taken.field g.row.W taken.bytes in
    let is : IsRow span.field 64 (elements_of span.field row) = subst (λ n. IsRow span.field n (elements_of span.field row)) wide c.take_in.ensures.row in
    let are : AreRows span.field 64 new.rows = subst (λ n. AreRows span.field n new.rows) wide c.take_in.ensures.rows in
    let sums : HaveSameSums span.field 64 new.rows (elements_of span.field row ∷ span.rows) =
    subst (λ n. HaveSameSums span.field n new.rows (elements_of span.field row ∷ span.rows)) wide (c.take_in.ensures.sums raised) in
    let all : IsTakenIn span.field span.rate bytes c.args.link kept span.rows (kept ++ c.args.link ∷ []) new.rows =
    taken_in_more span.field span.rate (omega arith) bytes c.min.result (elements_of span.field row) made c.args.link kept span.rows new.rows here (omega (arith, here, few))
    is (c.take_in.ensures.raised.0 raised) are sums more
    in
    subst (λ field. IsTakenIn field taken.rate bytes c.args.link kept span.rows c.push.new.self.items new.rows) taken.span_field
    (subst (λ rate. IsTakenIn span.field rate bytes c.args.link kept span.rows c.push.new.self.items new.rows) taken.span_rate
    (subst (λ links. IsTakenIn span.field span.rate bytes c.args.link kept span.rows links new.rows) (sym c.in_ok-push.ensures.items) all))

pub returns-else-rank-kept-clause-taken : goal.returns-else-rank-kept-clause-taken
returns-else-rank-kept-clause-taken g c =
    let taken = c.args.self.now in
    let span = taken.span in
    let bytes = c.args.vector.now in
    let row = c.row_of-row.result in
    let kept = taken.links.items in
    let made : elements_of span.field row ≡ take 32 (elements_of span.field bytes) ++ unit_row 32 c.min.result =
    subst (λ field. elements_of field row ≡ take 32 (elements_of field bytes) ++ unit_row 32 c.min.result) (sym taken.span_field) c.row_of-row.ensures
    in
    let no : c.take_in.result ≡ false =
    false_from_ne_true c.take_in.result (λ raised. let more : length c.take_in.new.self.rows ≡ suc (length span.rows) = c.take_in.ensures.count raised in absurd (omega arith))
    in
    let sum : IsSum span.field span.rate (vectors span.rate span.rows) (take span.rate (elements_of span.field row)) =
    elim (IsSum-decided span.field span.rate (vectors span.rate span.rows) (take span.rate (elements_of span.field row))) [
      | inl is ↦ is
      | inr other ↦ absurd (both_ways c.take_in.result no (c.take_in.ensures.raised.1 other))
    ]
    in
    let same : IsTakenIn span.field span.rate bytes c.args.link kept span.rows kept span.rows =
    taken_in_same span.field span.rate (omega arith) bytes c.min.result (elements_of span.field row) made c.args.link kept span.rows sum
    in
    subst (λ field. IsTakenIn field taken.rate bytes c.args.link kept span.rows kept c.take_in.new.self.rows) taken.span_field
    (subst (λ rate. IsTakenIn span.field rate bytes c.args.link kept span.rows kept c.take_in.new.self.rows) taken.span_rate
    (subst (λ (s : Span). IsTakenIn span.field span.rate bytes c.args.link kept span.rows kept s.rows) (sym (c.take_in.ensures.same no)) same))
