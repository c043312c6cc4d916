use Rattle.std.proofs.Common.{inl, subst}
use Rattle.code_checker.specs.Checking.{IsRefusal}
use Rattle.top_base.proofs.accepting.unaccepted.Goals as goal

pub returns-in-NotIdentity : goal.returns-in-NotIdentity
returns-in-NotIdentity c = λ bytes is.
    inl (c.args.refused.now.code, is, subst (IsRefusal c.args.refused.now.code) c.in-NotIdentity.is c.requires, c.check_failed.ensures)
