use Rattle.system_files.proofs.Handles.{others_stay}
use Rattle.system_files.proofs.kept.KeptFiles.close.Goals as goal

pub returns-clause-others : goal.returns-clause-others
returns-clause-others g c = others_stay c.args.self.now.files c.swap_remove-closed.new.self c.args.path.now _ c.swap_remove-closed.ensures.updates
