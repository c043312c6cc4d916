use Rattle.std.proofs.Common.{arith, subst}
use Rattle.code_checker.specs.Checking.{IsRefusal}
use Rattle.open_nodes.proofs.opening.unaccepted.Goals as goal

pub returns-in-NotIdentity : goal.returns-in-NotIdentity
returns-in-NotIdentity c = λ bytes code file refusal rejected. record {
  code = code;
  file = file;
  fails = subst (IsRefusal code) c.in-NotIdentity.is refusal;
  unaccepted = rejected (grind (arith, c.in-NotIdentity.is));
}
