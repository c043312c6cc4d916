use Rattle.std.proofs.Common.{◌≡◌, ◌%◌, ℕ, ap, length, subst, sym, ◌∙◌}
use Rattle.std.specs.Prelude.{Option, IfNone, IfSome}
use Rattle.failure_patterns.proofs.FirstLaws.{clear_more, pattern_here}
use Rattle.code_checker.specs.Checking.{demand_product, AreVectorsIn, DiffersFirst, IsIdentity}
use Rattle.code_checker.specs.declared.products.Failure.{Failure}
use Rattle.code_checker.proofs.patterns.first_of_sinks.Goals as goal

pub difference-requires-clause-vectors : goal.difference-requires-clause-vectors
difference-requires-clause-vectors c =
    let code = c.args.code.now in
    let Vectors : ℕ → Type 0 = λ pattern. AreVectorsIn code pattern c.in_ok-vectors.vectors in
    let here = ap (λ n. n % length code.net.patterns) c.number_of-demand.ensures.value in
    subst Vectors (sym (here ∙ pattern_here code.net c.args.pattern c.requires.pattern c.loop-sink.sink)) c.in_ok-vectors.ensures

pub loop-sink-preserved : goal.loop-sink-preserved
loop-sink-preserved c =
    let code = c.args.code.now in
    let If : Option Failure → Type 0 = λ answer. IfNone answer (IsIdentity code c.number_of-demand.result) in
    clear_more code.net (IsIdentity code) c.args.pattern c.args.begin c.loop-sink.sink c.number_of-demand.result c.number_of-demand.ensures.value
    (subst If c.in_default.is c.difference.ensures.none) c.loop-sink.invariant

pub returns-in-Some : goal.returns-in-Some
returns-in-Some c =
    let code = c.args.code.now in
    let failure = c.in-Some.failure in
    let If : Option Failure → Type 0 = λ answer. IfSome answer (λ f. (f.demand ≡ c.number_of-demand.result)
    × DiffersFirst code.rate (demand_product code c.number_of-demand.result) f.row f.column f.found) in
    let found = subst If c.in-Some.is c.difference.ensures.some in
    let Differs : ℕ → Type 0 = λ n. DiffersFirst code.rate (demand_product code n) failure.row failure.column failure.found in (
      c.loop-sink.sink,
      record {
        from_on = c.loop-sink.auto.sink;
        within = c.loop-sink-test.true;
        demand = found.0 ∙ c.number_of-demand.ensures.value;
        before = c.loop-sink.invariant;
        shown = subst Differs (sym found.0) found.1;
      },
    )
