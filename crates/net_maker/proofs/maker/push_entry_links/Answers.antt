use Rattle.std.proofs.Common.{◌+◌, [], ◌∷◌, map, arith}
use Rattle.std.specs.List.{range_with_len}
use Rattle.std.proofs.lemmas.List.{append_assoc}
use Rattle.std.proofs.lemmas.List.FromFn.{map-range_with_len_more}
use Rattle.net_maker.specs.Combination.{entry_link}
use Rattle.net_maker.proofs.maker.push_entry_links.Goals as goal

pub loop-before-preserved : goal.loop-before-preserved
loop-before-preserved c =
    let before = c.loop-before.before in
    let more = map-range_with_len_more entry_link 1 before (before + 1) (omega arith) in
    let group = append_assoc c.args.links.now.items (map entry_link (range_with_len 1 before)) (entry_link (before + 1) ∷ []) in
    cc (more, group, c.in_ok-push.ensures.items, c.in_ok-name.ensures, c.loop-before.invariant)
