use Rattle.std.proofs.Common.{◌≡◌, ◌≤◌, flat_map, length, map, string_bytes, sym, ap, subst, ◌∙◌, arith}
use Rattle.std.proofs.lemmas.List.{take_all}
use Rattle.failure_patterns.proofs.DemandLaws.{few_sinks}
use Rattle.lif_outside.specs.Files.{AreDistinct}
use Rattle.name_texts.specs.Names.{node_name}
use Rattle.top_base.specs.Paths.{both_of, both_paths, dotted_path}
use Rattle.top_base.proofs.BothPathLaws.{distinct_both}
use Rattle.top_base.proofs.paths.both_output_paths.Goals as goal

-- there are at most as many sinks as nodes
pub overflow_mul-len : goal.overflow_mul-len
overflow_mul-len c = omega (arith, c.len.ensures, few_sinks c.args.net.now, c.args.net.now.network.few_nodes)

pub returns-clause-distinct : goal.returns-clause-distinct
returns-clause-distinct c =
    let prefix = c.args.prefix.now in
    let net = c.args.net.now in
    let ended : length net.sinks ≤ c.loop-place.place = omega arith in
    let all : map string_bytes c.loop-place.both.items ≡ both_paths prefix net =
    c.loop-place.invariant ∙ ap (λ sinks. flat_map both_of (map (λ sink. dotted_path prefix (node_name net sink)) sinks)) (take_all c.loop-place.place net.sinks ended) in
    subst AreDistinct (sym all) (distinct_both prefix net)
