use Rattle.std.proofs.Common.{◌≡◌, ◌/◌, ◌-◌, ◌<◌, ◌++◌, ◌∙◌, List, ℕ, ap, arith, drop, length, subst, take}
use Rattle.std.proofs.lemmas.List.{length-drop, take_all}
use Rattle.std.proofs.lemmas.List.Elements.{All-take}
use Rattle.field_rows.proofs.ElementLaws.{length-elements_in}
use Rattle.field_rows.specs.Widths.{width_in}
use Rattle.gf_tables.specs.Product.{size_of}
use Rattle.linear_algebra.proofs.ElementsLaws.{elements_of-drop}
use Rattle.linear_algebra.specs.Elements.{elements_of}
use Rattle.linear_algebra.specs.Rows.{AreElements, unit_row}
use Rattle.row_spans.specs.Spans.{IsSum}
use Rattle.code_finish.proofs.TakingLaws.{AreEntries, entries_more, entries_sums, half_bytes, taken_width}
use Rattle.code_finish.specs.Taken.{behind}
use Rattle.code_finish.proofs.taking.Taken.entries.Goals as goal

-- all behind a place
rest : (xs : List ℕ) (n : ℕ) → take (length xs - n) (drop n xs) ≡ drop n xs
rest xs n = take_all (length xs - n) (drop n xs) (omega (arith, length-drop n xs))

pub elements_in-coefficients-requires : goal.elements_in-coefficients-requires
elements_in-coefficients-requires g c =
    let row = c.row.result.now in
    omega (arith, ap (length {A = ℕ}) (rest row (g.row.W / 2)), length-drop (g.row.W / 2) row, half_bytes c.args.self.now.field g.row.W c.args.self.now.bytes, c.args.self.now.bytes)

pub loop-k-preserved : goal.loop-k-preserved
loop-k-preserved g c =
    let taken = c.args.self.now in
    let span = taken.span in
    let field = taken.field in
    let rate = taken.rate in
    let bytes = c.row.result.now in
    let row = elements_of field bytes in
    let k = c.loop-k.k in
    let old = c.loop-k.entries.items in
    let new = c.extend_from_slice.new.self.items in
    let wide = taken_width field g.row.W taken.bytes in
    let half = half_bytes field g.row.W taken.bytes in
    let long : length row ≡ 64 = length-elements_in field g.row.W bytes (omega (arith, taken.bytes)) (omega arith) ∙ wide in
    let sum : IsSum field 64 span.rows row =
    subst (λ n. IsSum field n span.rows row) wide
    (subst (λ f. IsSum f (width_in f g.row.W) span.rows (elements_of f bytes)) taken.span_field c.row.ensures.sum) in
    let unit : take rate row ≡ unit_row rate k =
    subst (λ f. take rate (elements_of f bytes) ≡ unit_row rate k) taken.span_field
    (subst (λ r. take r (elements_of span.field bytes) ≡ unit_row r k) taken.span_rate c.row.ensures.unit)
    in
    let added : elements_of field (take (length bytes - g.row.W / 2) (drop (g.row.W / 2) bytes)) ≡ behind row =
    ap (elements_of field) (rest bytes (g.row.W / 2)) ∙ ap (λ (n : ℕ). elements_of field (drop n bytes)) half ∙ elements_of-drop field 32 bytes
    in
    let value : c.elements_in-coefficients.result ≡ behind row = c.elements_in-coefficients.ensures.value ∙ added in
    entries_more field rate span.rows k old c.loop-k.invariant taken.low_rate row new long
    (All-take (λ element. element < size_of field) rate (behind row) (subst (AreElements field) value c.elements_in-coefficients.ensures.elements)) sum unit
    (c.in_ok-extend_from_slice.ensures.items ∙ ap (λ (some : List ℕ). old ++ take rate some) value)

pub returns-clause-sums : goal.returns-clause-sums
returns-clause-sums g c =
    let taken = c.args.self.now in
    let last : c.loop-k.k ≡ taken.rate = omega arith in
    entries_sums taken.field taken.rate taken.span.rows c.loop-k.entries.items
    (subst (λ k. AreEntries taken.field taken.rate taken.span.rows k c.loop-k.entries.items) last c.loop-k.invariant)
