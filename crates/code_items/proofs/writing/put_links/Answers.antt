use Rattle.code_items.specs.Items.{link_items}
use Rattle.code_items.proofs.Joined.{items_more}
use Rattle.code_items.proofs.writing.put_links.Goals as goal

pub loop-link-preserved : goal.loop-link-preserved
loop-link-preserved c =
    rw (c.in_ok-put_link.ensures, c.loop-link.invariant, c.link-item.is) (items_more c.args.links.now c.loop-link.link-index c.link-item.result c.args.out.now.items link_items c.loop-link-test.true)
