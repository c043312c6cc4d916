use Rattle.std.proofs.Common.{◌≡◌, ◌≤◌, length, map, string_bytes, sym, ap, subst, ◌∙◌, arith}
use Rattle.std.proofs.lemmas.List.{take_all}
use Rattle.lif_outside.specs.Files.{AreDistinct}
use Rattle.name_texts.specs.Names.{node_name}
use Rattle.top_base.specs.Paths.{dotted_path, output_paths}
use Rattle.top_base.proofs.SinkPathLaws.{distinct_outputs}
use Rattle.top_base.proofs.paths.output_paths.Goals as goal

pub returns-clause-distinct : goal.returns-clause-distinct
returns-clause-distinct c =
    let prefix = c.args.prefix.now in
    let net = c.args.net.now in
    let ended : length net.sinks ≤ c.loop-place.place = omega arith in
    let all : map string_bytes c.loop-place.paths.items ≡ output_paths prefix net =
    c.loop-place.invariant ∙ ap (map (λ sink. dotted_path prefix (node_name net sink))) (take_all c.loop-place.place net.sinks ended) in
    subst AreDistinct (sym all) (distinct_outputs prefix net)
