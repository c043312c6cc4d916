use Rattle.std.proofs.Common.{sym, subst}
use Rattle.code_file.specs.Items.{IsFileOf}
use Rattle.top_base.specs.Accepting.{IsCodeOf}
use Rattle.top_base.proofs.accepting.accept.Goals as goal

pub returns-in-Err-clause-refused : goal.returns-in-Err-clause-refused
returns-in-Err-clause-refused g c =
    let bytes = c.args.bytes.now in
    c.unaccepted.ensures bytes (subst (IsFileOf bytes) (sym c.in-Err.ensures.returned) c.in_ok-code.ensures.code)

pub returns-in-Ok-clause-code : goal.returns-in-Ok-clause-code
returns-in-Ok-clause-code g c =
    let is = c.in-Ok.ensures in
    subst (IsCodeOf c.args.bytes.now) (sym is.checked) (record {
      spelled = c.in_ok-code.ensures.code;
      accepted = is.accepted;
      within_cuts = is.cuts;
    })
