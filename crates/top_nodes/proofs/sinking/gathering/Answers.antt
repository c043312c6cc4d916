use Rattle.std.proofs.Common.{◌≡◌, ◌<◌, All, length, sym, subst, ap, ◌∙◌, arith}
use Rattle.failure_patterns.specs.Demands.{number_of}
use Rattle.link_streams.proofs.WantedLaws.{wanted_within}
use Rattle.link_streams.specs.Gathering.{wanted_links}
use Rattle.node_program.specs.declared.code.Code.{Code}
use Rattle.sink_decoder.specs.Receiving.{SinkPlan, sink_plan_of}
use Rattle.top_nodes.proofs.ReadingLaws.{few_generations}
use Rattle.top_nodes.specs.Files.{first_lacking}
use Rattle.top_nodes.proofs.sinking.gathering.Goals as goal

pub see_whole-requires-clause-links : goal.see_whole-requires-clause-links
see_whole-requires-clause-links g c =
    subst (λ (code : Code). All (λ link. link < length code.net.links) c.args.links.now) (sym c.code.ensures.value)
    (wanted_within c.args.code.now c.args.demand c.args.links.now c.requires.sink c.requires.pattern c.requires.links)

pub see_whole-requires-clause-count : goal.see_whole-requires-clause-count
see_whole-requires-clause-count g c = omega (arith, c.generations_of-generations.ensures.value, few_generations c.args.streams c.requires.are)

pub invariant_of-result : goal.invariant_of-result
invariant_of-result g c =
    let code = c.args.code.now in
    let generations = c.generations_of-generations.result in
    let same = c.code.ensures.value in
    let gather : c.in_ok-gather.gather ≡ sink_plan_of code (number_of code.net c.args.demand) = c.in_ok-gather.ensures in
    let rate : c.in_ok-gather.gather.rate ≡ code.rate = ap (λ (plan : SinkPlan). plan.rate) gather in
    record {
      plan = gather ∙ ap (sink_plan_of code) (ap (λ (code : Code). number_of code.net c.args.demand) (sym same) ∙ sym c.number_of.ensures.value);
      links = c.requires.streams ∙ c.requires.links ∙ ap wanted_links (sym gather);
      all = c.generations_of-generations.ensures.value;
      few = omega (arith, c.generations_of-generations.ensures.value, few_generations c.args.streams c.requires.are);
      whole = ap (λ (code : Code). first_lacking code.net generations c.args.streams) (sym same) ∙ c.in_ok-see_whole.ensures.whole;
      room = omega (arith, c.in_ok-block.ensures.len, rate, ap (λ (code : Code). code.rate) c.code-2.ensures.value);
    }
