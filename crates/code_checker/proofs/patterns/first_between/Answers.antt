use Rattle.std.proofs.Common.{arith}
use Rattle.failure_patterns.proofs.FirstLaws.{first_last, first_none}
use Rattle.code_checker.specs.Checking.{IsIdentity}
use Rattle.code_checker.specs.First.{IsFailure, failed_demand}
use Rattle.code_checker.proofs.patterns.first_between.Goals as goal

pub loop-pattern-init : goal.loop-pattern-init
loop-pattern-init c = let code = c.args.code.now in first_none code.net (IsIdentity code) failed_demand (IsFailure code) c.args.from c.args.to

pub returns : goal.returns
returns c =
    let code = c.args.code.now in
    first_last code.net (IsIdentity code) failed_demand (IsFailure code) c.args.from c.args.to c.loop-pattern.pattern c.loop-pattern.first c.requires.within
    (omega (arith, c.loop-pattern-test.false)) c.loop-pattern.invariant
