use Rattle.std.proofs.Common.{◌≡◌, ◌∙◌, ◌++◌, List, ap, sym, subst, map, take, drop, length}
use Rattle.std.proofs.lemmas.List.{take_at}
use Rattle.row_spans.specs.Spans.{Span}
use Rattle.vector_headers.specs.Held.{emptied, AreHeldSpans}
use Rattle.vector_headers.proofs.HeldLaws.{AreHeldSpans-emptied}
use Rattle.vector_headers.proofs.blind.Blind.clear.Goals as goal

pub invariant_of-self : goal.invariant_of-self
invariant_of-self g c =
    let items = c.self.inside.spans.items in
    let Held : List Span → Type 0 = AreHeldSpans g.F.Field.BYTES c.self.inside.field c.self.inside.rate in
    let same : take c.self.inside.spans.len (c.clear_spans.new.spans ++ drop (length c.clear_spans.new.spans) items) ≡ map emptied items =
    take_at c.clear_spans.new.spans (drop (length c.clear_spans.new.spans) items) c.self.inside.spans.len (c.clear_spans.auto.spans ∙ c.as_mut_slice.ensures.len)
    ∙ c.clear_spans.ensures ∙ ap (map emptied) c.as_mut_slice.ensures.value
    in
    subst Held (sym same) (AreHeldSpans-emptied g.F.Field.BYTES c.self.inside.field c.self.inside.rate items c.self.invariant)
