-- The least packet that is due is given, and where none is, nothing is due.
use Rattle.std.proofs.Common.{◌+◌, ◌∙◌, refl, subst, sym}
use Rattle.std.proofs.lemmas.Option.{get_or_from_slice_get}
use Rattle.generation_frame.specs.declared.frame.Packet.{Packet}
use Rattle.node_plans.specs.Plans.{IsPlan}
use Rattle.relay_node.specs.Relay.{IsDue, Relay}
use Rattle.relay_node.proofs.GivingLaws.{gives, none-due}
use Rattle.relay_node.proofs.SummandLaws.{due-can, due-sum}
use Rattle.relay_node.proofs.TrafficLaws.{gives-traffic}
use Rattle.relay_node.proofs.node.Node.next_out.Goals as goal

pub returns-in_err-due-clause-none : goal.returns-in_err-due-clause-none
returns-in_err-due-clause-none g c = λ none key due.
    let inside = c.self.inside in
    none-due inside.plan _ inside.first inside.count inside.sums c.self.invariant.0 (c.in_err-due.ensures.none refl) key (subst (λ (r : Relay). IsDue r key) (sym c.self.view_is) due)

pub payload_of-payload-requires : goal.payload_of-payload-requires
payload_of-payload-requires g c =
    let inside = c.self.inside in
    let due = c.in_ok-due.due in
    due-can inside.plan _ inside.first inside.count inside.sums c.take_due.new.self c.self.invariant.0 due.generation due.sum due.piece c.in_ok-due.ensures.least _ c.at-summands.result.now c.self.invariant.1 c.at-summands.ensures

pub returns-clause-given : goal.returns-clause-given
returns-clause-given g c =
    let inside = c.self.inside in
    let due = c.in_ok-due.due in
    let made = c.payload_of-payload.ensures
    ∙ due-sum inside.plan _ inside.first inside.count inside.sums c.take_due.new.self c.self.invariant.0 due.generation due.sum due.piece c.in_ok-due.ensures.least _ c.at-summands.result.now c.self.invariant.1 c.at-summands.ensures in
    let packet : Packet = record { link = c.at.result.now; generation = inside.first + due.generation; piece = due.piece; payload = c.payload_of-payload.result } in
    let link = sym (get_or_from_slice_get inside.plan.outs due.sum c.at.result.now 0 c.at.ensures) in
    rw (← c.self.view_is)
    (gives inside.plan _ inside.first inside.count inside.sums c.self.invariant.0 c.take_due.new.self due.generation due.sum due.piece packet c.in_ok-due.ensures.least link refl refl made)

pub returns-clause-traffic : goal.returns-clause-traffic
returns-clause-traffic g c = λ code pattern node window takes.
    let inside = c.self.inside in
    let is_plan = subst (λ (r : Relay). IsPlan r.plan) c.self.view_is c.self.invariant.0.is_plan in
    gives-traffic code pattern node window c.args.self.now takes is_plan _ _ (returns-clause-given g c)
