use Rattle.std.proofs.Common.{◌≡◌, ◌<◌, ◌*◌, ◌-◌, ap, subst, sym, ◌∙◌, length}
use Rattle.std.proofs.lemmas.List.{get_or_default}
use Rattle.std.proofs.lemmas.List.Elements.{All-from_get_or}
use Rattle.linear_algebra.specs.Elements.{AreBytes}
use Rattle.generation_frame.specs.Blocks.{row_bytes}
use Rattle.held_rows.specs.Held.{row_count}
use Rattle.sink_decoder.proofs.KeptLaws.{begun-place, begun-rows, nothing}
use Rattle.sink_decoder.proofs.TrafficLaws.{decoded-elements, decoded-traffic}
use Rattle.sink_decoder.specs.Receiving.{IsBegun, Receiver, came_of, decoded, receiver_of}
use Rattle.sink_decoder.proofs.decoder.Decoder.block.Goals as goal

pub returns-clause-value : goal.returns-clause-value
returns-clause-value g c =
    let inside = c.self.inside in
    let generation = c.args.generation in
    let into = c.decode_rows.new.into in
    let receiver : Receiver = receiver_of inside.field inside.rate inside.links.items inside.live.items inside.entries.items inside.first inside.count inside.came.items in
    let seen : receiver ≡ c.args.self.now = c.self.view_is in
    let begun : IsBegun receiver generation = subst (λ (r : Receiver). IsBegun r generation) (sym seen) c.requires.begun in
    let held : c.index-held.result.now ≡ came_of receiver generation =
    c.index-held.ensures ∙ get_or_default inside.came.items (generation - inside.first) _ nothing (begun-place receiver generation c.self.invariant begun) in
    let bytes : AreBytes into = All-from_get_or (λ byte. byte < 256) into 0 (λ k within. (c.type_inv.into k).fits) in
    let size : length into ≡ receiver.plan.rate * row_bytes =
    c.decode_rows.ensures.count ∙ c.requires.room ∙ ap (λ (r : Receiver). r.plan.rate * row_bytes) (sym seen) in
    subst (λ (r : Receiver). into ≡ decoded r generation) seen
    (decoded-elements receiver generation into c.deref-3.result.now c.deref-2.result.now c.index-held.result.now c.self.invariant
    c.deref-3.ensures.value c.deref-2.ensures.value held bytes size c.decode_rows.ensures.value)

pub returns-clause-traffic : goal.returns-clause-traffic
returns-clause-traffic g c code demand window accepted within takes =
    let inside = c.self.inside in
    let generation = c.args.generation in
    let now : Receiver = c.args.self.now in
    let receiver : Receiver = receiver_of inside.field inside.rate inside.links.items inside.live.items inside.entries.items inside.first inside.count inside.came.items in
    let HasRows : Receiver → Type 0 = λ r. IsBegun r generation → row_count (came_of r generation) ≡ r.plan.rate in
    let rows : HasRows now = subst HasRows c.self.view_is (λ begun. begun-rows receiver generation c.self.invariant begun) in
    let value : c.decode_rows.new.into ≡ decoded now generation = returns-clause-value g c in
    value ∙ decoded-traffic code demand window now generation accepted within (rows c.requires.begun) c.requires.begun c.requires.whole takes
