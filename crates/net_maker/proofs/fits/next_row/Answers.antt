use Rattle.std.proofs.Common.{◌+◌, ◌-◌, get_or, arith, refl}
use Rattle.net_maker.proofs.SubsetLaws.{binomial-few, row-done, row-new, row-old}
use Rattle.net_maker.proofs.fits.next_row.Goals as goal

pub overflow_add-row : goal.overflow_add-row
overflow_add-row c =
    let n = c.args.above in
    let k = c.loop-k.k in
    let old = c.loop-k.invariant.old in
    omega (arith, old (k - 1) (omega arith) (omega arith), old (k - 1 - 1) (omega arith) (omega arith), binomial-few n (k - 1) (omega arith), binomial-few n (k - 1 - 1) (omega arith))

pub loop-k-preserved : goal.loop-k-preserved
loop-k-preserved c =
    let row = c.loop-k.row in
    let k = c.loop-k.k in
    record {
      old = row-old row c.args.above k (get_or row (k - 1) 0 + get_or row (k - 1 - 1) 0) c.loop-k.invariant.old;
      new = row-new row c.args.above k (get_or row (k - 1) 0 + get_or row (k - 1 - 1) 0) (omega arith) (omega arith) refl c.loop-k.invariant.old c.loop-k.invariant.new;
    }

pub returns : goal.returns
returns c = row-done c.loop-k.row c.args.above c.loop-k.k (omega arith) c.loop-k.invariant.old c.loop-k.invariant.new
