use Rattle.std.proofs.Common.{◌+◌, ◌-◌, arith}
use Rattle.net_maker.proofs.SubsetLaws.{subsets_from-last, subsets_from-next}
use Rattle.net_maker.proofs.subsets.advance.Goals as goal

pub returns-then-place-eq0-clause-next : goal.returns-then-place-eq0-clause-next
returns-then-place-eq0-clause-next c =
    subsets_from-last (c.args.most + 1) c.args.subset.now (λ i within. c.first_full-place.ensures.full i (omega arith) within)

pub returns-clause-next : goal.returns-clause-next
returns-clause-next c =
    let place = c.first_full-place.result in
    let ends = c.first_full-place.ensures in
    let free = ends.free (omega arith) in
    subsets_from-next (c.args.most + 1) c.args.subset.now c.restart.new.subset (place - 1) (omega arith) (omega arith)
    (λ i below. c.restart.ensures.before i below)
    (λ i from within. omega (arith, c.restart.ensures.after i from within))
    (λ i behind within. ends.full i (omega arith) within)
    (omega (arith, free))
