use Rattle.std.proofs.Common.{subst, sym}
use Rattle.code_file.specs.Items.{IsFileOf}
use Rattle.cut_bound.specs.Cuts.{IsWithinCuts}
use Rattle.node_program.specs.Decoding.{IsAccepted}
use Rattle.node_program.specs.declared.code.Code.{Code}
use Rattle.open_nodes.proofs.opening.accept.Goals as goal

pub returns-in-Ok : goal.returns-in-Ok
returns-in-Ok c = λ bytes file. let same = sym c.in-Ok.ensures.checked in record {
  file = subst (IsFileOf bytes) same file;
  accepted = subst IsAccepted same c.in-Ok.ensures.accepted;
  cuts = subst (λ (code : Code). IsWithinCuts code.net code.rate) same c.in-Ok.ensures.cuts;
}

pub returns-in-Err : goal.returns-in-Err
returns-in-Err c = λ bytes file. c.unaccepted.ensures bytes c.args.code file c.in-Err.ensures.refused c.in-Err.ensures.rejected
