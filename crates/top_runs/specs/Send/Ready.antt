-- What `send` has before it makes anything.
use Rattle.std.specs.Prelude.{◌≡◌, false, [], Some}
use Rattle.node_program.specs.declared.code.Code.{Code}
use Rattle.top_runs.specs.Send.Given.{IsClear, outputs_of, pattern_of}
use Rattle.top_base.specs.Words.{Send}
use Rattle.source_delivery.specs.Delivery.{outputs_in}
use Rattle.source_delivery.specs.Turns.{one_each}
use Rattle.source_delivery.specs.declared.delivery.SourceDelivery.{SourceDelivery}

-- the code is at work under the pattern and begins with the number 0, the paths are those of its sinks' files, and nothing is
-- gathered yet
pub record IsReady {F : Type 0} (send : Send) (code : Code) (delivery : SourceDelivery F) : Type 0 where
  pub clear : IsClear send code
  pub at_work : delivery.runner.code ≡ code
  pub pattern : pattern_of send code ≡ Some delivery.runner.pattern
  pub from_start : delivery.runner.next ≡ 0
  pub works : delivery.runner.has_failed ≡ false
  pub outputs : outputs_in delivery ≡ one_each (outputs_of send code)
  pub nothing : delivery.gathered.items ≡ []
