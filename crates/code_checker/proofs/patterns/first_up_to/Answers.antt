use Rattle.std.proofs.Common.{◌≡◌, ap, arith, length, subst, ◌∙◌}
use Rattle.std.specs.Prelude.{Option}
use Rattle.failure_patterns.proofs.FirstLaws.{first_found, first_kept, first_of, limit_within, sinks_within}
use Rattle.failure_patterns.specs.First.{sinks_below}
use Rattle.code_checker.specs.Checking.{IsIdentity}
use Rattle.code_checker.specs.First.{IsFailure, IsFirstOf, failed_demand, limit_of}
use Rattle.code_checker.specs.declared.products.Failure.{Failure}
use Rattle.code_checker.proofs.patterns.first_up_to.Goals as goal

pub sinks_below-end-requires-clause-number : goal.sinks_below-end-requires-clause-number
sinks_below-end-requires-clause-number c =
    let code = c.args.code.now in
    let few = limit_within code.net (IsIdentity code) failed_demand (IsFailure code) c.args.from c.args.to c.args.pattern c.args.first c.requires.before in
    omega (arith, c.limit_of.ensures, few, c.requires.within, code.code.draft.few_demands)

pub first_of_sinks-requires-clause-sinks : goal.first_of_sinks-requires-clause-sinks
first_of_sinks-requires-clause-sinks c =
    let code = c.args.code.now in
    let few = limit_within code.net (IsIdentity code) failed_demand (IsFailure code) c.args.from c.args.to c.args.pattern c.args.first c.requires.before in
    let end = c.sinks_below-end.ensures ∙ ap (sinks_below (length code.net.patterns) c.args.pattern) c.limit_of.ensures in
    let limit = limit_of c.args.to c.args.first in
    omega (arith, end, sinks_within code.net c.args.pattern c.requires.pattern limit (omega (arith, few, c.requires.within)))

pub returns-then-end-begin : goal.returns-then-end-begin
returns-then-end-begin c =
    let code = c.args.code.now in
    let patterns = length code.net.patterns in
    let end : c.sinks_below-end.result ≡ sinks_below patterns c.args.pattern (limit_of c.args.to c.args.first) =
    c.sinks_below-end.ensures ∙ ap (sinks_below patterns c.args.pattern) c.limit_of.ensures in
    let begin : c.sinks_below-begin.result ≡ sinks_below patterns c.args.pattern c.args.from = c.sinks_below-begin.ensures in
    first_kept code.net (IsIdentity code) failed_demand (IsFailure code) c.args.pattern c.requires.pattern c.args.from c.args.to c.args.first c.requires.before
    (λ sink begun before. absurd (omega (arith, begun, before, begin, end, c.if-end-begin.true)))

pub returns-in-Some : goal.returns-in-Some
returns-in-Some c =
    let code = c.args.code.now in
    let patterns = length code.net.patterns in
    let limit = limit_of c.args.to c.args.first in
    let end = c.sinks_below-end.ensures ∙ ap (sinks_below patterns c.args.pattern) c.limit_of.ensures in
    let Of : Option Failure → Type 0 = IsFirstOf code c.args.pattern (sinks_below patterns c.args.pattern c.args.from) (sinks_below patterns c.args.pattern limit) in
    let first = subst Of c.in-Some.is
    (first_of code.net (IsIdentity code) failed_demand (IsFailure code) c.args.pattern c.sinks_below-begin.result c.sinks_below-end.result c.args.from limit c.in_ok-failure.field-0
    c.sinks_below-begin.ensures end c.in_ok-failure.ensures) in
    first_found code.net (IsIdentity code) failed_demand (IsFailure code) c.args.pattern c.requires.pattern c.args.from c.args.to c.args.first first.0 c.in-Some.failure
    (limit_within code.net (IsIdentity code) failed_demand (IsFailure code) c.args.from c.args.to c.args.pattern c.args.first c.requires.before) c.requires.before first.1

pub returns-in-None : goal.returns-in-None
returns-in-None c =
    let code = c.args.code.now in
    let patterns = length code.net.patterns in
    let limit = limit_of c.args.to c.args.first in
    let end = c.sinks_below-end.ensures ∙ ap (sinks_below patterns c.args.pattern) c.limit_of.ensures in
    let Of : Option Failure → Type 0 = IsFirstOf code c.args.pattern (sinks_below patterns c.args.pattern c.args.from) (sinks_below patterns c.args.pattern limit) in
    first_kept code.net (IsIdentity code) failed_demand (IsFailure code) c.args.pattern c.requires.pattern c.args.from c.args.to c.args.first c.requires.before
    (subst Of c.in-None.is
    (first_of code.net (IsIdentity code) failed_demand (IsFailure code) c.args.pattern c.sinks_below-begin.result c.sinks_below-end.result c.args.from limit c.in_ok-failure.field-0
    c.sinks_below-begin.ensures end c.in_ok-failure.ensures))
