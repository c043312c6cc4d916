use Rattle.code_checker.proofs.ProductSteps.{IsIdentityBefore}
use Rattle.code_checker.proofs.products.difference.Given as goal

-- the rows so far are those of the identity
abbrev pub invariant-loop-row : goal.invariant-loop-row
invariant-loop-row l = IsIdentityBefore l.code l.demand l.row
