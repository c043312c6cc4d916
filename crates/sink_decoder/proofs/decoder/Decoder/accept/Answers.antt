use Rattle.std.proofs.Common.{◌≡◌, ◌-◌, ℕ, true, subst, sym, ◌∙◌}
use Rattle.std.proofs.Math.ListN.{set}
use Rattle.std.proofs.lemmas.List.{get_or_default}
use Rattle.held_rows.specs.Held.{Held, Holds}
use Rattle.sink_decoder.proofs.KeptLaws.{begun-place, gains, nothing}
use Rattle.sink_decoder.proofs.PlaceLaws.{place_of-found}
use Rattle.sink_decoder.specs.Receiving.{Gains, IsBegun, Receiver, came_of, place_of, receiver_of, wants}
use Rattle.sink_decoder.proofs.decoder.Decoder.accept.Goals as goal

pub returns-clause-new : goal.returns-clause-new
returns-clause-new g c new =
    let inside = c.self.inside in
    let packet = c.args.packet.now in
    let at = packet.generation - inside.first in
    let receiver : Receiver = receiver_of inside.field inside.rate inside.links.items inside.live.items inside.entries.items inside.first inside.count inside.came.items in
    let seen : receiver ≡ c.args.self.now = c.self.view_is in
    let begun : IsBegun receiver packet.generation = subst (λ (r : Receiver). IsBegun r packet.generation) (sym seen) c.requires.begun in
    let wanted : wants receiver.plan packet.link ≡ true = subst (λ (r : Receiver). wants r.plan packet.link ≡ true) (sym seen) c.requires.wanted in
    let place : c.unwrap_or-place.result ≡ place_of receiver.plan packet.link =
    place_of-found receiver.plan packet.link c.unwrap_or-place.result c.len.result c.place_among.result c.deref.result.now
    c.unwrap_or-place.ensures c.place_among.ensures c.deref.ensures.value (c.len.ensures ∙ inside.links.ok.0) in
    let held : c.index_mut.result.now ≡ came_of receiver packet.generation =
    c.index_mut.ensures.value ∙ get_or_default inside.came.items at _ nothing (begun-place receiver packet.generation c.self.invariant begun) in
    let Holding : ℕ → Held → Type 0 = λ at old. Holds at packet.piece packet.payload old c.hold.new.self in
    let holds : Holding (place_of receiver.plan packet.link) (came_of receiver packet.generation) =
    subst (Holding (place_of receiver.plan packet.link)) held (subst (λ (n : ℕ). Holding n c.index_mut.result.now) place (c.hold.ensures.new new)) in
    subst (λ (r : Receiver). Gains packet.generation packet.link packet.piece packet.payload r (record receiver { came = set inside.came.items at c.hold.new.self })) seen
    (gains receiver c.self.invariant packet.generation packet.link packet.piece packet.payload c.hold.new.self begun wanted c.requires.piece holds)
