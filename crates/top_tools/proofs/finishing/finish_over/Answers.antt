use Rattle.std.proofs.Common.{◌≡◌, [], refl, sym, ap, subst, ◌∙◌}
use Rattle.code_file.specs.Drafts.{IsDraftFileOf}
use Rattle.code_file.specs.Limits.{code_limit}
use Rattle.code_file.specs.declared.draft.Draft.{Draft}
use Rattle.code_finish.specs.Finished.{IsUnfinished}
use Rattle.lif_outside.proofs.CallLaws.{calls_of, calls_weaker}
use Rattle.lif_outside.specs.Calls.{MakesCalls}
use Rattle.net_model.specs.Demands.{demand_count}
use Rattle.top_base.specs.DraftFiles.{RefusesDraft}
use Rattle.top_base.specs.Given.{finish_given_in}
use Rattle.top_base.specs.Lines.{finished_line, not_decoding_line}
use Rattle.top_base.specs.Making.{RunsMaking}
use Rattle.top_tools.proofs.CodeWritingLaws.{writes_made}
use Rattle.top_tools.specs.CodeWriting.{WritesCode}
use Rattle.top_tools.specs.Finish.{CanFinish, DeclinesDraft, IsMadeOf}
use Rattle.top_tools.proofs.finishing.finish_over.Goals as goal

pub returns-in-Ok : goal.returns-in-Ok
returns-in-Ok g c =
    let given = finish_given_in c.args.words.now in
    let draft = c.args.draft in
    let code = c.in-Ok.code in
    let finished = c.in-Ok.ensures.finished in
    let outcome = c.write_code_file.result in
    let line = finished_line draft.rate draft.field (demand_count draft.net) in
    let said : c.finished.result ≡ line =
    c.finished.ensures ∙ ap (λ rate. finished_line rate code.field (demand_count code.net)) finished.rate
    ∙ ap (λ field. finished_line draft.rate field (demand_count code.net)) finished.field ∙ ap (λ net. finished_line draft.rate draft.field (demand_count net)) finished.net in
    let written = subst (λ said. MakesCalls g.S.Store c.args.store.now c.write_code_file.new.store (WritesCode given.code said code outcome.status outcome.line)) said c.write_code_file.ensures in
    calls_weaker (WritesCode given.code line code outcome.status outcome.line)
    (RunsMaking code_limit IsDraftFileOf RefusesDraft (IsMadeOf given) CanFinish DeclinesDraft draft outcome.status outcome.line) written
    (λ events is. writes_made code_limit IsDraftFileOf RefusesDraft (IsMadeOf given) CanFinish DeclinesDraft draft given.code line code
    (λ files line is. record { code = code; finished = finished; written = is }) (λ line long. (code, finished, long)) outcome.status outcome.line events is)

pub returns-in-Confused : goal.returns-in-Confused
returns-in-Confused g c =
    let draft = c.args.draft in
    let unfinished = subst (IsUnfinished draft) c.in-Confused.is c.in-Err.ensures.unfinished in
    let line = c.not_decoding-line.ensures ∙ ap (λ (draft : Draft). not_decoding_line draft.net c.in-Confused.demand c.as_slice.result.now) c.in-Err.ensures.back
    ∙ ap (not_decoding_line draft.net c.in-Confused.demand) c.as_slice.ensures in
    calls_of _ [] (g.met.S.Store.no_calls c.args.store.now) ((unfinished, line), refl)

pub returns : goal.returns
returns g c =
    let given = finish_given_in c.args.words.now in
    let lost = c.out_of_memory.ensures in
    calls_of _ [] (g.met.S.Store.no_calls c.args.store.now)
    (subst (λ status. RunsMaking code_limit IsDraftFileOf RefusesDraft (IsMadeOf given) CanFinish DeclinesDraft c.args.draft status c.out_of_memory.result.line []) (sym lost.status) (refl, lost.line))
