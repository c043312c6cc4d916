use Rattle.std.proofs.Common.{subst}
use Rattle.lif_outside.proofs.CallLaws.{calls_weaker}
use Rattle.code_file.specs.Limits.{code_limit}
use Rattle.top_base.specs.Accepting.{IsCodeOf, RefusesCode, RefusesCodeOrLosesIt}
use Rattle.top_base.proofs.AcceptingLaws.{code_input}
use Rattle.top_base.proofs.Exits.{err_weaker, ok_weaker}
use Rattle.top_base.proofs.InputLaws.{lost_bytes}
use Rattle.top_base.proofs.accepting.read_accepted.Goals as goal

pub returns-clause-had : goal.returns-clause-had
returns-clause-had g c =
    let bytes = c.in_ok-bytes.bytes.items in
    ok_weaker _ _ c.accept.result
    (λ checked code. calls_weaker _ _ c.in_ok-bytes.ensures.whole (λ made whole. (bytes, whole, subst (λ bytes. IsCodeOf bytes checked) c.deref.ensures.value code)))
    c.accept.ensures.code

pub returns-clause-lost : goal.returns-clause-lost
returns-clause-lost g c =
    let bytes = c.in_ok-bytes.bytes.items in
    err_weaker _ _ c.accept.result
    (λ outcome refused. calls_weaker _ _ c.in_ok-bytes.ensures.whole
    (λ made whole. lost_bytes code_limit IsCodeOf RefusesCode code_input c.args.path.now bytes made whole outcome (subst (λ bytes. RefusesCodeOrLosesIt bytes outcome) c.deref.ensures.value refused)))
    c.accept.ensures.refused
