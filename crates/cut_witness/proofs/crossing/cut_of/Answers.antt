use Rattle.std.proofs.Common.{sym, ◌∙◌, ap, Vec, Global, ℕ}
use Rattle.net_model.specs.Flows.{flow_network, leaves}
use Rattle.net_model.specs.declared.Demand.{Demand}
use Rattle.cut_witness.proofs.CrossingSteps.{fails_more, passes_more}
use Rattle.cut_witness.proofs.crossing.cut_of.Goals as goal
use Rattle.cut_witness.proofs.crossing.cut_of.Goals.{then-leaves+in_ok-push, else-leaves}

pub loop-link-preserved : goal.loop-link-preserved
loop-link-preserved c =
    let test = leaves (flow_network c.args.net.now c.args.demand) c.args.side.now in
    let same = sym (ap (λ (demand : Demand). leaves (flow_network c.args.net.now demand) c.args.side.now c.loop-link.link) c.in_ok-residual.ensures.demand) ∙ sym c.leaves.ensures in
    elim c.if-leaves.branch [
      | then-leaves+in_ok-push w ↦
          ap (λ (cut : Vec ℕ Global). cut.items) w.cut-is ∙ w.in_ok-push.ensures.items
          ∙ passes_more test c.loop-link.link c.loop-link.cut.items (same ∙ w.if-leaves.true) c.loop-link.invariant
      | else-leaves w ↦
          ap (λ (cut : Vec ℕ Global). cut.items) w.cut-is
          ∙ fails_more test c.loop-link.link c.loop-link.cut.items (same ∙ w.if-leaves.false) c.loop-link.invariant
    ]
