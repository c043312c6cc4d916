use Rattle.std.proofs.Common.{◌≡◌, ◌∙◌, ℕ, List, ap, sym, get_or, set}
use Rattle.std.proofs.lemmas.List.Edits.{map_over_more}
use Rattle.row_spans.specs.Spans.{Span}
use Rattle.vector_headers.specs.Held.{emptied}
use Rattle.vector_headers.proofs.blind.clear_spans.Goals as goal

pub loop-span-preserved : goal.loop-span-preserved
loop-span-preserved c =
    let at = c.loop-span.span-index in
    let spans = c.loop-span.spans in
    let span = c.span-item.result in
    let same : get_or spans at span ≡ span = sym c.span-item.is in
    let new : c.clear.new.self ≡ emptied span =
    ap (λ field. let s : Span = record { field = field; rate = c.clear.new.self.rate; rows = c.clear.new.self.rows } in s) (c.clear.ensures.field ∙ ap (λ (s : Span). s.field) same)
    ∙ ap (λ rate. let s : Span = record { field = span.field; rate = rate; rows = c.clear.new.self.rows } in s) (c.clear.ensures.rate ∙ ap (λ (s : Span). s.rate) same)
    ∙ ap (λ (rows : List (List ℕ)). let s : Span = record { field = span.field; rate = span.rate; rows = rows } in s) c.clear.ensures.none
    in
    ap (set spans at) new ∙ map_over_more emptied c.args.spans.now spans at span c.loop-span-test.true c.loop-span.invariant c.span-item.is
