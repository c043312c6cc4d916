use Rattle.std.proofs.Common.{◌≡◌, ◌<◌, List, ℕ, length, sym, ◌∙◌, arith, subst, slice_index, slice_set}
use Rattle.std.proofs.lemmas.List.{get_or_read}
use Rattle.topo_order.proofs.BackSteps.{IsPathBack, path_more, turn_found}
use Rattle.topo_order.proofs.going_back.path_back.Goals as goal

pub returns-then-from-ne0-clause-turn : goal.returns-then-from-ne0-clause-turn
returns-then-from-ne0-clause-turn c =
    let net = c.args.net.now in
    let seen = c.loop-path.seen.items in
    let node = c.tail-node.result in
    let from = c.index-from.result.now in
    let path = c.loop-path.invariant.0 in
    let inside : node < length seen = omega (arith, path.each_node, c.tail-node.ensures.below) in
    let at : slice_index seen node ≡ from = sym (get_or_read seen node from inside c.index-from.ensures 0) in
    turn_found net.links (length net.nodes) c.loop-path.path.items seen c.loop-path.link node from path c.tail-node.ensures.value c.tail-node.ensures.below at (omega arith)

pub loop-path-preserved : goal.loop-path-preserved
loop-path-preserved c =
    let net = c.args.net.now in
    let seen = c.loop-path.seen.items in
    let node = c.tail-node.result in
    let path = c.loop-path.invariant.0 in
    let inside : node < length seen = omega (arith, path.each_node, c.tail-node.ensures.below) in
    let unseen : slice_index seen node ≡ 0 = sym (get_or_read seen node c.index-from.result.now inside c.index-from.ensures 0) ∙ c.if-from-ne0.false in
    let Path : List ℕ → ℕ → Type 0 = λ path place. IsPathBack net.links (length net.nodes) path (slice_set seen node place) c.back-link.result in
    let count : length c.loop-path.path.items ≡ c.len-in-loop-path.result = omega (arith, c.loop-path.path.ok.0, c.len-in-loop-path.ensures) in (
      subst (λ p. Path p c.len-in-loop-path.result) (sym c.in_ok-push.ensures.items) (subst (Path _) count
          (path_more net.links (length net.nodes) c.loop-path.path.items seen c.loop-path.link c.back-link.result node path c.tail-node.ensures.value c.tail-node.ensures.below unseen
          c.back-link.ensures.within c.back-link.ensures.leads)),
      c.back-link.ensures.within,
      c.back-link.ensures.unplaced,
    )
