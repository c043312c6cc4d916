use Rattle.std.proofs.Common.{subst}
use Rattle.std.specs.Prelude.{Option}
use Rattle.cut_bound.proofs.RateLaws.{accepted-within_cuts}
use Rattle.net_model.specs.Demands.{demand_count}
use Rattle.code_checker.proofs.BatchSteps.{accepted}
use Rattle.code_checker.proofs.CheckingLaws.{FailsFirst-refuses}
use Rattle.code_checker.specs.First.{IsFirstIn}
use Rattle.code_checker.specs.declared.products.Failure.{Failure}
use Rattle.code_checker.proofs.checking.verdict.Goals as goal

pub of-requires : goal.of-requires
of-requires c =
    let First : Option Failure → Type 0 = IsFirstIn c.args.code 0 (demand_count c.args.code.net) in
    accepted c.args.code (subst First c.in-None.is c.requires)

pub returns-in-None-clause-cuts : goal.returns-in-None-clause-cuts
returns-in-None-clause-cuts c =
    let First : Option Failure → Type 0 = IsFirstIn c.args.code 0 (demand_count c.args.code.net) in
    accepted-within_cuts c.args.code (accepted c.args.code (subst First c.in-None.is c.requires))

pub returns-in-Some-clause-rejected : goal.returns-in-Some-clause-rejected
returns-in-Some-clause-rejected c =
    let failure = c.in-Some.failure in
    let First : Option Failure → Type 0 = IsFirstIn c.args.code 0 (demand_count c.args.code.net) in
    λ other. FailsFirst-refuses c.args.code failure.demand failure.row failure.column failure.found
    (subst First c.in-Some.is c.requires)
