use Rattle.std.proofs.Common.{◌<◌, ◌+◌, length, sym, ◌∙◌, arith, subst}
use Rattle.std.specs.Ordering.{nat_cmp}
use Rattle.std.specs.BTreeSet.{BTreeSet, contains}
use Rattle.topo_order.specs.Queue.{AreReady}
use Rattle.topo_order.proofs.PlacingSteps.{ready, blocked, placed}
use Rattle.topo_order.proofs.QueueSteps.{ready_more, ready_skip}
use Rattle.topo_order.proofs.queue.first_ready.Goals as goal
use Rattle.topo_order.proofs.queue.first_ready.Goals.{then-not-index+then-index-count+in_ok-insert, else-not-index, else-not-index-via-then-not-index+else-index-count, else-not-index-via-else-not-index}

pub loop-link-preserved : goal.loop-link-preserved
loop-link-preserved c =
    let net = c.args.net.now in
    let placing = c.args.placing.now in
    let link = c.loop-link.link in
    let order = placing.order.items in
    let within : link < length net.links = omega (arith, c.len-count.ensures, c.loop-link-test.true) in
    let Ready : BTreeSet _ → Type 0 = λ set. AreReady net.links order (link + 1) (contains nat_cmp set) in
    elim c.if-not-index.branch [
      | then-not-index+then-index-count+in_ok-insert w ↦
          subst Ready (sym w.ready-is) (ready_more net.links order link (contains nat_cmp c.loop-link.ready) (contains nat_cmp w.insert.new.self) c.loop-link.invariant
          (ready net.links (length net.nodes) placing c.requires link within w.tail.result w.index-then-not-index.result.now w.tail.ensures.value w.tail.ensures.below
          w.index-then-not-index.ensures c.index.result.now c.index.ensures w.if-not-index.true (w.if-index-count.true ∙ c.len-count.ensures))
          w.in_ok-insert.ensures.updates.0)
      | else-not-index w ↦
          subst Ready (sym w.ready-is) (ready_skip net.links order link (contains nat_cmp c.loop-link.ready) c.loop-link.invariant (elim w.else-not-index.branch [
            | else-not-index-via-then-not-index+else-index-count v ↦
                blocked net.links (length net.nodes) placing c.requires link within v.tail.result v.index-then-not-index.result.now v.tail.ensures.value v.tail.ensures.below
                v.index-then-not-index.ensures (λ all. v.if-index-count.false (all ∙ sym c.len-count.ensures))
            | else-not-index-via-else-not-index v ↦ placed net.links (length net.nodes) placing c.requires link within c.index.result.now c.index.ensures v.if-not-index.false
          ]))
    ]
