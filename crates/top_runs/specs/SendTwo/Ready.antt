-- What `sendtwo` has before it makes anything.
use Rattle.std.specs.Prelude.{◌≡◌, false, Some}
use Rattle.node_program.specs.declared.code.Code.{Code}
use Rattle.source_delivery.specs.Delivery.{outputs_in}
use Rattle.source_delivery.specs.Reading.{IsUnread, source_of}
use Rattle.source_delivery.specs.Twin.{AreSources}
use Rattle.source_delivery.specs.declared.twin.TwinDelivery.{TwinDelivery}
use Rattle.top_base.specs.Words.{SendTwo}
use Rattle.top_runs.specs.SendTwo.Given.{IsClear, first_of, pattern_of, second_of, sending_of}

-- the code is at work under the pattern and begins with the number 0, the paths are those of its sinks' files, and of the sources, which
-- have rows of their own, nothing was read yet
pub record IsReady {F : Type 0} (send : SendTwo) (code : Code) (twin : TwinDelivery F) : Type 0 where
  pub clear : IsClear send code
  pub at_work : twin.delivery.runner.code ≡ code
  pub pattern : pattern_of send code ≡ Some twin.delivery.runner.pattern
  pub from_start : twin.delivery.runner.next ≡ 0
  pub works : twin.delivery.runner.has_failed ≡ false
  pub outputs : outputs_in twin.delivery ≡ (sending_of send code).outputs
  pub sources : AreSources twin.delivery twin.first twin.second
  pub first_is : source_of twin.first ≡ first_of send
  pub second_is : source_of twin.second ≡ second_of send code
  pub first_unread : IsUnread twin.first
  pub second_unread : IsUnread twin.second
