use Rattle.std.proofs.Common.{◌∙◌}
use Rattle.relay_runner.proofs.runner.Runner.block.Goals as goal

pub returns-clause-value : goal.returns-clause-value
returns-clause-value g c = λ moves by. c.copy_from_slice.ensures.after ∙ c.decoded_block.ensures.value moves by

pub returns-clause-carried : goal.returns-clause-carried
returns-clause-carried g c = λ window run state running faithful.
    c.copy_from_slice.ensures.after ∙ c.decoded_block.ensures.carried window run state running faithful
