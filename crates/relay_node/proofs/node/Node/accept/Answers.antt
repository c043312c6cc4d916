-- A piece of a link's input is taken in.
use Rattle.std.proofs.Common.{◌-◌, ℕ, Contains, arith, subst, sym}
use Rattle.due_sums.specs.Waiting as waiting
use Rattle.relay_node.specs.Relay.{IsBegun, Relay}
use Rattle.relay_node.proofs.WorkLaws.{gained, input-within}
use Rattle.relay_node.proofs.node.Node.accept.Goals as goal

pub accept-requires-clause-input : goal.accept-requires-clause-input
accept-requires-clause-input g c =
    let inside = c.self.inside in
    let packet = c.args.packet.now in
    let stands = subst (λ (r : Relay). Contains r.plan.ins packet.link) (sym c.self.view_is) c.requires.link in
    omega (arith, input-within inside.plan _ inside.first inside.count inside.sums c.self.invariant.0 packet.link stands, c.input_place-input.ensures)

pub returns-clause-new : goal.returns-clause-new
returns-clause-new g c = λ new.
    let inside = c.self.inside in
    let packet = c.args.packet.now in
    let stands = subst (λ (r : Relay). Contains r.plan.ins packet.link) (sym c.self.view_is) c.requires.link in
    let begun = subst (λ (r : Relay). IsBegun r packet.generation) (sym c.self.view_is) c.requires.begun in
    let came = subst (λ (input : ℕ). waiting.Gains (packet.generation - inside.first) input packet.piece packet.payload inside.sums c.accept.new.self) c.input_place-input.ensures (c.accept.ensures.new new) in
    rw (← c.self.view_is) (gained inside.plan _ inside.first inside.count inside.sums c.self.invariant.0 c.accept.new.self packet stands begun c.requires.piece came)
