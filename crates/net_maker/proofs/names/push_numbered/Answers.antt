use Rattle.std.proofs.Common.{◌+◌, [], ◌∷◌, map, arith}
use Rattle.std.specs.List.{range_with_len}
use Rattle.std.proofs.lemmas.List.{append_assoc}
use Rattle.std.proofs.lemmas.List.FromFn.{map-range_with_len_more}
use Rattle.net_maker.specs.Combination.{numbered}
use Rattle.net_maker.proofs.names.push_numbered.Goals as goal

pub loop-before-preserved : goal.loop-before-preserved
loop-before-preserved c =
    let name = numbered c.args.letter in
    let before = c.loop-before.before in
    let more = map-range_with_len_more name 1 before (before + 1) (omega arith) in
    let group = append_assoc c.args.names.now.items (map name (range_with_len 1 before)) (name (before + 1) ∷ []) in
    cc (more, group, c.in_ok-push.ensures.items, c.in_ok-numbered.ensures, c.loop-before.invariant)
