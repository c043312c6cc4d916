-- A node has at most as many links into it as there are.
use Rattle.std.proofs.Common.{◌≡◌, ◌≤◌, ap, arith, length}
use Rattle.std.specs.List.{range_with_len}
use Rattle.node_plans.specs.Plans.{ins_of}
use Rattle.node_plans.specs.declared.plan.Plan.{Plan}
use Rattle.node_program.specs.declared.code.Code.{Code}
use Rattle.std.proofs.lemmas.List.FromFn.{length-range_with_len}
use Rattle.node_plans.proofs.ListLaws.{length-filter-le}
use Rattle.relay_node.proofs.node.planned.Goals as goal

pub work_of-requires-clause-few_links : goal.work_of-requires-clause-few_links
work_of-requires-clause-few_links c =
    let code : Code = c.args.code.now in
    let same : length c.in_ok-plan.plan.ins ≡ length (ins_of code c.args.pattern c.args.node) = ap (λ (plan : Plan). length plan.ins) c.in_ok-plan.ensures.value in
    let few : length (ins_of code c.args.pattern c.args.node) ≤ length (range_with_len 0 (length code.net.links)) =
    length-filter-le _ (range_with_len 0 (length code.net.links)) in
    let all : length (range_with_len 0 (length code.net.links)) ≡ length code.net.links = length-range_with_len 0 (length code.net.links) in
    let most : length code.net.links ≤ 8192 = code.net.network.few_links in
    omega (arith, same, few, all, most)
