use Rattle.std.proofs.Common.{◌≡◌, ◌==◌, ◌∷◌, ◌++◌, [], ◌∙◌, drop, take, ℕ, List, Option, Some, if◌then◌else◌, sym, ap, subst, length}
use Rattle.std.proofs.lemmas.List.{with_items_is}
use Rattle.link_streams.specs.Held.{AreHeld, number_at, packets_held}
use Rattle.link_streams.specs.Streams.{Stream, has_place, place_of, put_in}
use Rattle.link_streams.proofs.HeldLaws.{AreHeld-pushed, held-pushed}
use Rattle.link_streams.proofs.stream.Stream.put.Goals as goal

pub invariant_of-self-2 : goal.invariant_of-self-2
invariant_of-self-2 c =
    let early = c.self.inside.early.items in
    let late = c.self.inside.late.entries in
    let packets = c.self.inside.packets.items in
    let packet = c.args.packet in
    let number : c.in-Ok.number ≡ length packets = c.in-Ok.ensures.1 ∙ c.len.ensures ∙ c.self.inside.packets.ok.0 in
    let early_is = with_items_is c.self.inside.early c.note_number.new.early (c.note_number.auto.early ∙ c.deref_mut.ensures.len) in
    let new = ap (λ (stream : Stream). has_place stream.packets (place_of packet)) c.self.view_is ∙ c.requires.new in
    let link : packet.link ≡ c.self.inside.link = c.requires.link ∙ sym (ap (λ (stream : Stream). stream.link) c.self.view_is) in
    let noted : (place : ℕ) → number_at c.note_number.new.early c.note_number.new.late.entries place ≡ (if place == place_of packet then Some (length packets) else number_at early late place) = λ place.
    c.in-Ok-note_number.ensures.noted place
    ∙ ap (λ at. if place == at then Some c.in-Ok.number else number_at c.deref_mut.result.now late place) c.place_of-place.ensures
    ∙ ap (λ (number : ℕ). if place == place_of packet then Some number else number_at c.deref_mut.result.now late place) number
    ∙ ap (λ (early : List (Option ℕ)). if place == place_of packet then Some (length packets) else number_at early late place) c.deref_mut.ensures.value
    in
    subst (λ after. AreHeld c.self.inside.link after (take c.self.inside.early.len (c.note_number.new.early ++ drop (length c.note_number.new.early) early)) c.note_number.new.late.entries c.max-generations.result) (sym (c.in_ok-push.ensures.items))
    (subst (λ (after : List (Option ℕ)). AreHeld c.self.inside.link (packets ++ packet ∷ []) after c.note_number.new.late.entries c.max-generations.result) (sym early_is)
    (AreHeld-pushed c.self.inside.link packets early late c.self.inside.generations c.self.invariant packet c.requires.fits link new c.note_number.new.early c.note_number.new.late.entries c.max-generations.result
    noted c.max-generations.ensures))

pub returns-clause-packets : goal.returns-clause-packets
returns-clause-packets c =
    let packets = c.self.inside.packets.items in
    ap packets_held c.in_ok-push.ensures.items
    ∙ held-pushed c.self.inside.link packets c.self.inside.early.items c.self.inside.late.entries c.self.inside.generations c.self.invariant c.args.packet c.requires.fits
    (c.requires.link ∙ sym (ap (λ (stream : Stream). stream.link) c.self.view_is))
    (ap (λ (stream : Stream). has_place stream.packets (place_of c.args.packet)) c.self.view_is ∙ c.requires.new)
    ∙ ap (λ (stream : Stream). put_in c.args.packet stream.packets) c.self.view_is
