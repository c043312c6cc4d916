use Rattle.std.proofs.Common.{sym, ap, length, [], arith}
use Rattle.std.proofs.lemmas.List.{append-nil}
use Rattle.code_items.specs.Items.{shared_table_items}
use Rattle.code_items.proofs.SharedItems.{shared_items_more, sames-count}
use Rattle.code_items.proofs.writing.put_shared_decoders.Goals as goal

pub loop-demand-init : goal.loop-demand-init
unfolding shared_table_items
loop-demand-init c = sym (append-nil c.args.out.now.items)

pub bounds-sames-demand : goal.bounds-sames-demand
bounds-sames-demand c = omega (arith, sames-count [] c.args.decoders.now, ap length c.requires.sames)

pub loop-demand-preserved : goal.loop-demand-preserved
loop-demand-preserved c =
    rw (c.in_ok-put_demand.ensures, c.loop-demand.invariant, c.requires.sames, c.index-decoders-demand.is)
    (shared_items_more c.args.field c.args.decoders.now c.loop-demand.demand c.index-decoders-demand.result c.args.out.now.items c.loop-demand-test.true)
