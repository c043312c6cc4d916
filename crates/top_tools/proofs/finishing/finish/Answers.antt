use Rattle.std.proofs.Common.{[], ◌∷◌, refl, sym, ◌∙◌}
use Rattle.code_file.specs.Drafts.{IsDraftFileOf}
use Rattle.code_file.specs.Limits.{code_limit}
use Rattle.lif_outside.proofs.CallLaws.{calls_weaker}
use Rattle.lif_outside.specs.Calls.{store_calls}
use Rattle.top_base.proofs.ActingLaws.{runs_had, runs_lost}
use Rattle.top_base.proofs.MakingLaws.{runs_apart}
use Rattle.top_base.specs.DraftFiles.{RefusesDraft}
use Rattle.top_base.specs.Given.{finish_given_in}
use Rattle.top_base.specs.Making.{RunsMaking, Writes}
use Rattle.top_tools.proofs.CodeWritingLaws.{none_shared}
use Rattle.top_tools.specs.Finish.{CanFinish, DeclinesDraft, IsMadeOf}
use Rattle.top_tools.proofs.finishing.finish.Goals as goal

pub returns-in-Ok : goal.returns-in-Ok
returns-in-Ok g c =
    let given = finish_given_in c.args.words.now in
    let draft = c.in-Ok.draft in
    let outcome = c.finish_by_field.result in
    let apart = none_shared given.draft given.code (sym c.eq.ensures ∙ c.if-eq.false) in
    let writes = Writes code_limit IsDraftFileOf RefusesDraft (IsMadeOf given) CanFinish DeclinesDraft in
    runs_apart code_limit IsDraftFileOf RefusesDraft (IsMadeOf given) CanFinish DeclinesDraft given.draft (given.code ∷ []) outcome apart
    (runs_had code_limit IsDraftFileOf RefusesDraft given.draft g.met.S.Store.more_calls writes draft outcome c.in-Ok.ensures.had
    (calls_weaker (RunsMaking code_limit IsDraftFileOf RefusesDraft (IsMadeOf given) CanFinish DeclinesDraft draft outcome.status outcome.line) (λ events. writes draft outcome (store_calls events))
    c.finish_by_field.ensures (λ made is. (is, refl))))

pub returns-in-Err : goal.returns-in-Err
returns-in-Err g c =
    let given = finish_given_in c.args.words.now in
    let apart = none_shared given.draft given.code (sym c.eq.ensures ∙ c.if-eq.false) in
    let writes = Writes code_limit IsDraftFileOf RefusesDraft (IsMadeOf given) CanFinish DeclinesDraft in
    runs_apart code_limit IsDraftFileOf RefusesDraft (IsMadeOf given) CanFinish DeclinesDraft given.draft (given.code ∷ []) c.in-Err.refused apart
    (runs_lost code_limit IsDraftFileOf RefusesDraft given.draft writes c.in-Err.refused c.in-Err.ensures.lost)
