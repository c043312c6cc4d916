use Rattle.std.proofs.Common.{◌∷◌, []}
use Rattle.item_list.proofs.Results.{on_err}
use Rattle.lif_outside.proofs.CallLaws.{calls_of}
use Rattle.lif_outside.specs.Events.{appended, created}
use Rattle.lif_outside.specs.FileCalls.{StopsWithin}
use Rattle.lif_outside.proofs.SequenceLaws.{stops_here}
use Rattle.lif_outside.specs.Writes.{writes_of}
use Rattle.top_tools.proofs.Writing.{append_if_err, append_if_ok}
use Rattle.top_tools.proofs.files.write_file.Goals as goal

pub returns-in_err-create-clause-stopped : goal.returns-in_err-create-clause-stopped
returns-in_err-create-clause-stopped g c =
    let path = c.args.path.now in
    let bytes = c.args.bytes.now in
    on_err c.from_residual.result
    (calls_of (StopsWithin (writes_of ((path, bytes) ∷ []))) _ c.in_err-create.ensures (stops_here (created path) (appended path bytes ∷ [])))

pub returns-clause-written : goal.returns-clause-written
returns-clause-written g c = append_if_ok g.met.S.Store.more_calls _ _ _ c.args.path.now c.args.bytes.now c.in_ok-create.ensures c.append.result c.append.ensures

pub returns-clause-stopped : goal.returns-clause-stopped
returns-clause-stopped g c = append_if_err g.met.S.Store.more_calls _ _ _ c.args.path.now c.args.bytes.now c.in_ok-create.ensures c.append.result c.append.ensures
