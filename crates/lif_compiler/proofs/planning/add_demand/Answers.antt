use Rattle.std.proofs.Common.{◌≡◌, ◌<◌, List, [], ℕ, length, map, slice_get, slice_index, unwrap_or, ◌∙◌, ap, arith, subst}
use Rattle.std.proofs.lemmas.List.{length-map}
use Rattle.lif_compiler.specs.Planning.{Gains, hops_of_path, hops_on_paths}
use Rattle.lif_compiler.proofs.PlanningLaws.{Gains_next, mapped_read}
use Rattle.lif_compiler.specs.declared.hops.Hop.{Hop}
use Rattle.lif_compiler.proofs.planning.add_demand.Goals as goal

pub loop-path-preserved : goal.loop-path-preserved
loop-path-preserved c =
    let renumbered : List ℕ → List ℕ = map (slice_index c.args.new_numbers.now) in
    let paths = map renumbered c.args.paths.now in
    let path = c.loop-path.path in
    let within : path < length c.args.paths.now = omega arith in
    let hops : ℕ → List (ℕ × Hop) = λ path. hops_of_path c.args.demand path (unwrap_or (slice_get paths path) []) in
    let links = ap renumbered c.as_slice.ensures ∙ mapped_read renumbered c.args.paths.now path [] c.index-paths-path.result within c.index-paths-path.is in
    Gains_next hops path c.args.hops.now c.loop-path.hops c.add_path.new.hops c.loop-path.invariant
    (subst (λ links. Gains (hops_of_path c.args.demand path links) c.loop-path.hops c.add_path.new.hops) links c.in_ok-add_path.ensures)

pub returns : goal.returns
returns c =
    let paths = map (map (slice_index c.args.new_numbers.now)) c.args.paths.now in
    let all : c.loop-path.path ≡ length paths = omega (arith, length-map c.args.paths.now (map (slice_index c.args.new_numbers.now))) in
    subst (λ count. Gains (hops_on_paths c.args.demand paths count) c.args.hops.now c.loop-path.hops) all c.loop-path.invariant
