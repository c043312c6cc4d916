use Rattle.system_files.proofs.Handles.{one_taken}
use Rattle.system_files.proofs.kept.KeptFiles.close_first.Goals as goal

pub returns-in-Some-clause-rest : goal.returns-in-Some-clause-rest
returns-in-Some-clause-rest g c =
    one_taken c.args.self.now.files c.shift_remove_index.new.self c.shift_remove_index.result c.shift_remove_index.ensures.updates c.shift_remove_index.ensures.unchanged
