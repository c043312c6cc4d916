use Rattle.std.proofs.Common.{ℕ, [], ◌+◌, ◌-◌, ◌^◌, length, get_or, take, ap, arith}
use Rattle.code_items.specs.Items.{demand_items, shared_table_items}
use Rattle.code_items.specs.Room.{size_of_items}
use Rattle.code_items.specs.Sharing.{sames_after}
use Rattle.code_items.proofs.SharedItems.{shared-size-more, sames-count}
use Rattle.code_items.proofs.Sizes.{size-nil, sum_capped}
use Rattle.code_items.proofs.room.shared_decoders_room.Goals as goal

pub loop-demand-init : goal.loop-demand-init
unfolding shared_table_items
loop-demand-init c = omega (arith, size-nil)

pub bounds-sames-demand : goal.bounds-sames-demand
bounds-sames-demand c = omega (arith, sames-count [] c.args.decoders.now, ap length c.requires)

pub loop-demand-preserved : goal.loop-demand-preserved
loop-demand-preserved c =
    let decoders = c.args.decoders.now in
    let demand = c.loop-demand.demand in
    let table = λ (n : ℕ). size_of_items (shared_table_items c.args.field [] (take n decoders)) in
    sum_capped (2 ^ 64 - 1) c.saturating_add-room.result c.loop-demand.room c.demand_room.result (table demand)
    (size_of_items (demand_items c.args.field (get_or (sames_after [] decoders) demand 0) (get_or decoders demand c.index-decoders-demand.result))) (table (demand + 1))
    c.saturating_add-room.ensures c.loop-demand.invariant (rw (← c.requires, ← c.index-decoders-demand.is) c.demand_room.ensures)
    (shared-size-more c.args.field decoders demand c.index-decoders-demand.result c.loop-demand-test.true)
