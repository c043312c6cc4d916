use Rattle.std.proofs.Common.{rules, ◌≡◌, ℕ, Vec, Global, ap, sym, ◌∙◌}
use Rattle.std.specs.Prelude.{◌==◌, ◌&&◌, Bool}
use Rattle.std.proofs.lemmas.List.Elements.{All-same}
use Rattle.net_model.specs.Walks.{head_of}
use Rattle.vector_headers.specs.Fabric.{is_live_at}
use Rattle.vector_headers.specs.Receiving.{IsLiveLink, ins_where}
use Rattle.vector_headers.proofs.ReceivingLaws.{AreLiveLinks-into, fails_more, passes_more}
use Rattle.vector_headers.proofs.receiving.ins_where.Goals as goal
use Rattle.vector_headers.proofs.receiving.ins_where.Goals.{then-leads_into+in_ok-push, else-leads_into}

pub loop-link-preserved : goal.loop-link-preserved
loop-link-preserved g c =
    let fabric = c.args.fabric.now in
    let node = c.args.node in
    let test : ℕ → Bool = λ link. is_live_at fabric link && (head_of fabric.code.net.links link == node) in
    elim c.if-leads_into.branch [
      | then-leads_into+in_ok-push w ↦
          ap (λ (ins : Vec ℕ Global). ins.items) w.ins-is ∙ w.in_ok-push.ensures.items
          ∙ passes_more test c.loop-link.link c.loop-link.ins.items (sym c.leads_into.ensures ∙ w.if-leads_into.true) c.loop-link.invariant
      | else-leads_into w ↦
          ap (λ (ins : Vec ℕ Global). ins.items) w.ins-is
          ∙ fails_more test c.loop-link.link c.loop-link.ins.items (sym c.leads_into.ensures ∙ w.if-leads_into.false) c.loop-link.invariant
    ]

pub returns-clause-live : goal.returns-clause-live
returns-clause-live g c =
    let fabric = c.args.fabric.now in
    let are : c.loop-link.ins.items ≡ ins_where fabric.code fabric.failed c.args.node = search rules in
    All-same (IsLiveLink fabric.code fabric.failed) c.loop-link.ins.items (ins_where fabric.code fabric.failed c.args.node) are (AreLiveLinks-into fabric.code fabric.failed c.args.node)
