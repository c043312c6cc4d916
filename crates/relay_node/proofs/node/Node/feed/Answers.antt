-- The rows of a block are taken in.
use Rattle.std.proofs.Common.{◌≡◌, ◌<◌, ◌-◌, ◌∙◌, ℕ, ap, subst, sym, true}
use Rattle.due_sums.specs.Waiting as waiting
use Rattle.relay_node.specs.Relay.{IsBegun, Relay, has_input}
use Rattle.relay_node.proofs.WorkLaws.{fed, row_place}
use Rattle.relay_node.proofs.node.Node.feed.Goals as goal

pub take_rows-requires-clause-none : goal.take_rows-requires-clause-none
take_rows-requires-clause-none g c = λ row p below low.
    let inside = c.self.inside in
    let source = subst (λ (r : Relay). r.plan.is_source ≡ true) (sym c.self.view_is) c.requires.source in
    let generation = c.args.generation in
    ap (λ (input : ℕ). waiting.has_input inside.sums (generation - inside.first) input p) (sym (row_place inside.plan _ inside.first inside.count inside.sums c.self.invariant.0 source row))
    ∙ ap (λ (r : Relay). has_input r generation row p) c.self.view_is
    ∙ c.requires.unfed row p (subst (λ (r : Relay). row < r.plan.rate) c.self.view_is below) low

pub returns : goal.returns
returns g c =
    let inside = c.self.inside in
    let source = subst (λ (r : Relay). r.plan.is_source ≡ true) (sym c.self.view_is) c.requires.source in
    let begun = subst (λ (r : Relay). IsBegun r c.args.generation) (sym c.self.view_is) c.requires.begun in
    rw (← c.self.view_is) (fed inside.plan _ inside.first inside.count inside.sums c.self.invariant.0 c.take_rows.new.sums c.args.generation c.args.block.now source begun c.take_rows.ensures)
