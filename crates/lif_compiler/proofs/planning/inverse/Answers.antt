use Rattle.std.proofs.Common.{◌^◌, ℕ, arith, length-set}
use Rattle.lif_compiler.proofs.RouteSteps.{inverse_all, inverse_more, places_fit}
use Rattle.lif_compiler.proofs.planning.inverse.Goals as goal

pub overflow_cast-new : goal.overflow_cast-new
overflow_cast-new c = omega (arith, places_fit c.args.order.now (2 ^ 32) c.loop-new.new c.requires (λ k. omega (arith, c.type_inv.order k)) (omega arith))

pub loop-new-preserved : goal.loop-new-preserved
loop-new-preserved c =
    let order = c.args.order.now in
    let table = c.loop-new.new_numbers.items in
    record {
      whole = omega (arith, length-set {A = ℕ}, c.loop-new.invariant.whole);
      each = inverse_more order table c.loop-new.new c.requires c.loop-new.invariant.whole c.loop-new.invariant.each (omega arith);
    }

pub returns : goal.returns
returns c =
    let order = c.args.order.now in
    inverse_all order c.loop-new.new_numbers.items c.requires c.loop-new.invariant.whole (λ k within. c.loop-new.invariant.each k (omega (arith, c.loop-new-test.false)))
