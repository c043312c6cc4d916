use Rattle.std.proofs.Common.{◌∙◌, rules}
use Rattle.std.proofs.lemmas.Result.{on_ok_weaker}
use Rattle.system_files.proofs.Handles.{others_stay}
use Rattle.system_files.proofs.kept.KeptFiles.append.Goals as goal

pub returns-then-is_err-clause-others : goal.returns-then-is_err-clause-others
returns-then-is_err-clause-others g c = λ other apart.
    c.close.ensures.others other apart
    ∙ others_stay c.args.self.now.files (c.get_mut.follows.lender c.append-outcome.new.self) c.args.path.now _
    ((c.get_mut.follows.holds c.append-outcome.new.self).3 (search rules)) other apart

pub returns-else-is_err-clause-others : goal.returns-else-is_err-clause-others
returns-else-is_err-clause-others g c =
    others_stay c.args.self.now.files (c.get_mut.follows.lender c.append-outcome.new.self) c.args.path.now _
    ((c.get_mut.follows.holds c.append-outcome.new.self).3 (search rules))

pub returns-else-is_err-clause-gains : goal.returns-else-is_err-clause-gains
returns-else-is_err-clause-gains g c = on_ok_weaker c.append-outcome.result (λ gained. record {
  before = c.in_ok-handle.handle.now;
  after = c.append-outcome.new.self;
  was = search rules;
  is = search rules;
  gained = gained;
}) c.append-outcome.ensures.ok
