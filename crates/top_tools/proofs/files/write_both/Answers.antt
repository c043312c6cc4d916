use Rattle.std.proofs.Common.{◌++◌, ◌∷◌, [], ap, subst, sym, ◌∙◌}
use Rattle.std.proofs.lemmas.Result.{on_err_weaker, on_ok_weaker}
use Rattle.item_list.proofs.Results.{on_err}
use Rattle.lif_outside.proofs.CallLaws.{calls_then, calls_weaker}
use Rattle.lif_outside.specs.FileCalls.{StopsWithin}
use Rattle.lif_outside.proofs.SequenceLaws.{stops_behind, stops_first}
use Rattle.lif_outside.specs.Writes.{writes_of}
use Rattle.top_tools.proofs.files.write_both.Goals as goal

pub returns-in_err-write_file-clause-stopped : goal.returns-in_err-write_file-clause-stopped
returns-in_err-write_file-clause-stopped g c =
    let code = writes_of ((c.args.code.0.now, c.args.code.1.now) ∷ []) in
    let report = writes_of ((c.args.report.0.now, c.args.report.1.now) ∷ []) in
    on_err c.from_residual.result (calls_weaker _ _ c.in_err-write_file.ensures.stopped (λ made stop. stops_first code report made stop))

pub returns-clause-written : goal.returns-clause-written
returns-clause-written g c =
    let code = writes_of ((c.args.code.0.now, c.args.code.1.now) ∷ []) in
    on_ok_weaker c.write_file-2.result
    (λ last. calls_then g.met.S.Store.more_calls _ _ _ c.in_ok-write_file.ensures.written last
    (λ first later one other. ap (λ calls. calls ++ later) one ∙ ap (λ calls. code ++ calls) other))
    c.write_file-2.ensures.written

pub returns-clause-stopped : goal.returns-clause-stopped
returns-clause-stopped g c =
    let code = writes_of ((c.args.code.0.now, c.args.code.1.now) ∷ []) in
    let report = writes_of ((c.args.report.0.now, c.args.report.1.now) ∷ []) in
    let Stops = StopsWithin (code ++ report) in
    on_err_weaker c.write_file-2.result
    (λ last. calls_then g.met.S.Store.more_calls _ _ Stops c.in_ok-write_file.ensures.written last
    (λ first later one other. subst (λ calls. Stops (calls ++ later)) (sym one) (stops_behind code report later other)))
    c.write_file-2.ensures.stopped
