-- The rows of a piece, in the spans of all pieces.
use Rattle.std.specs.Prelude.{◌≡◌, ◌<◌, ◌≢◌, ℕ, List, [], length, map, get_or, set}
use Rattle.std.proofs.Common.{arith, sym, ap, subst, ◌∙◌}
use Rattle.std.proofs.Math.Path.{ap₂}
use Rattle.std.proofs.lemmas.List.{get_or-map, map-set, length-map, get_or-set_other, get_or-set_same, length-set}
use Rattle.std.proofs.lemmas.List.Elements.{All-map}
use Rattle.gf_tables.specs.declared.kind.FieldKind.{FieldKind}
use Rattle.linear_algebra.specs.Rows.{AreRows}
use Rattle.row_spans.specs.Spans.{Span}
use Rattle.field_rows.specs.Widths.{width_in}
use Rattle.vector_headers.specs.Held.{coded, coded_rows, emptied, holding_of, held_bytes, AreHeldSpans, IsHeldSpan, IsTaken, Shows}
use Rattle.vector_headers.specs.Rows.{CodedRow, Holding, row_of_bytes, rows_of_piece}
use Rattle.vector_headers.specs.declared.blind.Gain.{Gain}

-- emptied spans are held as before
pub AreHeldSpans-emptied : (bytes : ℕ) (field : FieldKind) (rate : ℕ) (spans : List Span) → AreHeldSpans bytes field rate spans → AreHeldSpans bytes field rate (map emptied spans)
AreHeldSpans-emptied bytes field rate spans held = record {
  wide = held.wide;
  some_rate = held.some_rate;
  low_rate = held.low_rate;
  count = length-map spans emptied ∙ held.count;
  each = All-map (IsHeldSpan field rate) emptied spans
      (λ k d below. let span = held.each k d below in record { same_field = span.same_field; same_rate = span.same_rate; are = tt });
}

-- the rows of a piece are those of its span
pub rows_of_piece-span : (field : FieldKind) (rate : ℕ) (spans : List Span) (piece : ℕ) (span : Span) → piece < length spans → rows_of_piece (holding_of field rate spans) piece ≡ map (coded field rate) (get_or spans piece span).rows
rows_of_piece-span field rate spans piece span below = get_or-map (λ (span : Span). map (coded field rate) span.rows) spans piece span [] below

-- another span for a piece changes the rows of no other piece
pub rows_of_piece-others : (field : FieldKind) (rate : ℕ) (spans : List Span) (piece : ℕ) (new : Span) (other : ℕ) → other ≢ piece
    → rows_of_piece (holding_of field rate (set spans piece new)) other ≡ rows_of_piece (holding_of field rate spans) other
rows_of_piece-others field rate spans piece new other apart =
    let shown : Span → List CodedRow = λ span. map (coded field rate) span.rows in
    ap (λ (rows : List (List CodedRow)). get_or rows other []) (map-set shown spans piece new) ∙ get_or-set_other (map shown spans) piece other (shown new) [] apart

-- the spans of all pieces have the field and the rate
pub IsHeldSpan-here : (bytes : ℕ) (field : FieldKind) (rate : ℕ) (spans : List Span) (piece : ℕ) (span : Span) → AreHeldSpans bytes field rate spans → piece < 8 → span ≡ get_or spans piece span
    → IsHeldSpan field rate span
IsHeldSpan-here bytes field rate spans piece span held below is =
    let P : Span → Type 0 = IsHeldSpan field rate in
    subst P (sym is) (held.each piece span (let count = held.count in omega arith))

-- a row came to the span of its piece
pub IsTaken-piece : (bytes : ℕ) (field : FieldKind) (rate : ℕ) (spans : List Span) (piece : ℕ) (span new : Span) (vector payload : List ℕ) (gain : Gain) → AreHeldSpans bytes field rate spans → piece < 8
    → span ≡ get_or spans piece span → IsHeldSpan span.field span.rate new
    → IsTaken span.field span.rate (coded_rows span) (coded_rows new) (row_of_bytes span.field vector payload) gain
    → IsTaken field rate (rows_of_piece (holding_of field rate spans) piece) (rows_of_piece (holding_of field rate (set spans piece new)) piece) (row_of_bytes field vector payload) gain
IsTaken-piece bytes field rate spans piece span new vector payload gain held below is new_held taken =
    let here = IsHeldSpan-here bytes field rate spans piece span held below is in
    let within : piece < length spans = let count = held.count in omega arith in
    let still : piece < length (set spans piece new) = simp length-set within in
    let old_rows : map (coded span.field span.rate) span.rows ≡ rows_of_piece (holding_of field rate spans) piece =
    ap₂ (λ (f : FieldKind) (r : ℕ). map (coded f r) span.rows) here.same_field here.same_rate
    ∙ ap (λ (s : Span). map (coded field rate) s.rows) is
    ∙ sym (rows_of_piece-span field rate spans piece span within)
    in
    let new_rows : map (coded new.field new.rate) new.rows ≡ rows_of_piece (holding_of field rate (set spans piece new)) piece =
    ap₂ (λ (f : FieldKind) (r : ℕ). map (coded f r) new.rows) (new_held.same_field ∙ here.same_field) (new_held.same_rate ∙ here.same_rate)
    ∙ ap (λ (s : Span). map (coded field rate) s.rows) (sym (get_or-set_same spans piece new new within))
    ∙ sym (rows_of_piece-span field rate (set spans piece new) piece new still)
    in
    let First : FieldKind → ℕ → Type 0 = λ f r. IsTaken f r (coded_rows span) (coded_rows new) (row_of_bytes f vector payload) gain in
    let Then : List CodedRow → List CodedRow → Type 0 = λ old later. IsTaken field rate old later (row_of_bytes field vector payload) gain in
    subst (λ (rows : List CodedRow). Then rows (rows_of_piece (holding_of field rate (set spans piece new)) piece)) old_rows
    (subst (λ (rows : List CodedRow). Then (coded_rows span) rows) new_rows
    (subst (λ (r : ℕ). First field r) here.same_rate (subst (λ (f : FieldKind). First f span.rate) here.same_field taken)))

-- the span of a piece shows what is held of it
pub Shows-here : (bytes : ℕ) (field : FieldKind) (rate : ℕ) (spans : List Span) (holding : Holding) (piece : ℕ) (span : Span) → AreHeldSpans bytes field rate spans → holding_of field rate spans ≡ holding
    → piece < 8 → span ≡ get_or spans piece span → Shows holding piece span
Shows-here bytes field rate spans holding piece span held view below is =
    let here = IsHeldSpan-here bytes field rate spans piece span held below is in
    let within : piece < length spans = let count = held.count in omega arith in
    let Are : FieldKind → Type 0 = λ f. AreRows f (width_in f held_bytes) span.rows in
    let P : Holding → Type 0 = λ held. Shows held piece span in
    subst P view (record {
      same_field = here.same_field;
      same_rate = here.same_rate;
      low_rate = let low = held.low_rate in let same = here.same_rate in omega arith;
      are = subst Are (sym here.same_field) here.are;
      shown = ap₂ (λ (f : FieldKind) (r : ℕ). map (coded f r) span.rows) here.same_field here.same_rate
          ∙ ap (λ (s : Span). map (coded field rate) s.rows) is
          ∙ sym (rows_of_piece-span field rate spans piece span within);
    })
