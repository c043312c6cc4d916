use Rattle.std.proofs.Common.{rules, ℕ, subst, sym}
use Rattle.lif_c.specs.Calls.{OpensBytes}
use Rattle.lif_c.specs.Held.{held}
use Rattle.lif_c.specs.Refusals.{refusal_of}
use Rattle.lif_c.specs.declared.refusal.Refusal.{Refusal}
use Rattle.lif_c.proofs.CallLaws.{opens-bytes, refuses-bytes}
use Rattle.lif_c.proofs.codes.lif_code_open.Goals as goal

pub returns-in-Ok : goal.returns-in-Ok
returns-in-Ok c = opens-bytes _ _ _ c.in-Ok.opened.value _ (search rules) (search rules) (search rules)

pub returns-in-Err : goal.returns-in-Err
returns-in-Err c =
    let old = held c.args.code.now in let bytes = c.args.bytes.now in
    subst (λ (r : Refusal). OpensBytes bytes old old c.args.why.now r c.open_status.result) (sym c.refusal_of.ensures)
    (subst (λ (s : ℕ). OpensBytes bytes old old c.args.why.now (refusal_of c.in-Err.refusal) s) (sym c.open_status.ensures)
    (refuses-bytes bytes old c.args.why.now c.in-Err.refusal (search rules) (search rules)))
