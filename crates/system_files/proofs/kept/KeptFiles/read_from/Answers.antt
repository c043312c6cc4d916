use Rattle.std.proofs.Common.{◌∙◌, rules}
use Rattle.system_files.proofs.Handles.{others_stay, if_ok_then}
use Rattle.system_files.proofs.kept.KeptFiles.read_from.Goals as goal

pub returns-then-is_err-clause-others : goal.returns-then-is_err-clause-others
returns-then-is_err-clause-others g c = λ other apart.
    c.close.ensures.others other apart
    ∙ others_stay c.args.self.now.files (c.get_mut.follows.lender c.read_from-outcome.new.self) c.args.path.now _
    ((c.get_mut.follows.holds c.read_from-outcome.new.self).3 (search rules)) other apart

pub returns-else-is_err-clause-others : goal.returns-else-is_err-clause-others
returns-else-is_err-clause-others g c =
    others_stay c.args.self.now.files (c.get_mut.follows.lender c.read_from-outcome.new.self) c.args.path.now _
    ((c.get_mut.follows.holds c.read_from-outcome.new.self).3 (search rules))

pub returns-else-is_err-clause-gives : goal.returns-else-is_err-clause-gives
returns-else-is_err-clause-gives g c = if_ok_then c.read_from-outcome.result c.read_from-outcome.ensures.bytes (λ n gave. record {
  before = c.in_ok-handle.handle.now;
  after = c.read_from-outcome.new.self;
  was = search rules;
  is = search rules;
  gave = gave;
})
