use Rattle.std.proofs.Common.{◌≡◌, ◌∷◌, [], ◌++◌, ◌∙◌, ap}
use Rattle.net_model.specs.Flows.{is_on}
use Rattle.name_texts.specs.Names.{node_name}
use Rattle.name_texts.proofs.SideLaws.{one_named_more, none_named_more}
use Rattle.name_texts.proofs.texts.push_side.Goals as goal
use Rattle.name_texts.proofs.texts.push_side.Goals.{then-is_on+in_ok-push+in_ok-extend_from_slice, else-is_on}

pub loop-node-preserved : goal.loop-node-preserved
loop-node-preserved c =
    let net = c.args.net.now in
    let side = c.args.side.now in
    let before = c.args.text.now.items in
    let node = c.loop-node.node in
    let text = c.loop-node.text.items in
    elim c.if-is_on.branch [
      | then-is_on+in_ok-push+in_ok-extend_from_slice w ↦
          let written : c.if-is_on.text.items ≡ (text ++ 32 ∷ []) ++ node_name net node =
          rw (w.text-is, w.in_ok-extend_from_slice.ensures.items, w.in_ok-push.ensures.items, w.node_name.ensures.value) in
          written ∙ one_named_more (is_on side) (node_name net) before node text w.if-is_on.true c.loop-node.invariant
      | else-is_on w ↦ ap (λ v. v.items) w.text-is ∙ none_named_more (is_on side) (node_name net) before node text w.if-is_on.false c.loop-node.invariant
    ]
