-- What `demo` has before a block is carried.
use Rattle.std.specs.Prelude.{◌≡◌, ◌*◌, false, [], length, replicate}
use Rattle.coded_traffic.specs.Traffic.{live_links_of}
use Rattle.generation_frame.specs.Blocks.{pieces}
use Rattle.node_program.specs.declared.code.Code.{Code}
use Rattle.top_base.specs.Words.{Demo}
use Rattle.top_runs.specs.Demo.Given.{source_of}
use Rattle.source_delivery.specs.Delivery.{outputs_in}
use Rattle.source_delivery.specs.Turns.{one_each}
use Rattle.top_runs.specs.declared.showing.Begun.{Begun}

-- the code is at work under the pattern `none` and begins with the number 0, there is the source, and how many frames a block takes
pub record IsBegun {F : Type 0} (demo : Demo) (code : Code) (begun : Begun F) : Type 0 where
  pub at_work : begun.delivery.runner.code ≡ code
  pub pattern : begun.delivery.runner.pattern ≡ 0
  pub from_start : begun.delivery.runner.next ≡ 0
  pub works : begun.delivery.runner.has_failed ≡ false
  pub outputs : outputs_in begun.delivery ≡ one_each (replicate (length code.net.sinks) [])
  pub nothing : begun.delivery.gathered.items ≡ []
  pub source : begun.source.items ≡ source_of demo
  pub frames : begun.frames ≡ length (live_links_of code 0) * pieces
