-- Which lines of `demo` are due, and what it leaves.
use Rattle.std.specs.Prelude.{◌≡◌, ◌%◌, ◌*◌, ◌^◌, ℕ, Bool, true, List, [], length, sum}
use Rattle.coded_traffic.specs.Traffic.{traffic_of}
use Rattle.lif_outside.specs.Calls.{Outside}
use Rattle.lif_outside.specs.Counts.{Rose}
use Rattle.node_program.specs.declared.code.Code.{Code}
use Rattle.top_base.specs.Lines.{demo_lines}
use Rattle.top_base.specs.Performs.{LeavesAll}
use Rattle.top_base.specs.Words.{Demo}
use Rattle.top_base.specs.declared.outcome.Outcome.{Outcome}
use Rattle.top_base.specs.declared.status.Status.{Status}
use Rattle.top_base.specs.declared.status.Status.TheVariants.{Done, LinkFault}
use Rattle.top_runs.specs.Demo.Given.{IsDemoCode, blocks_in, demo_seed, source_of}
use Rattle.source_delivery.specs.Carried.{blocks_from}

-- The lines of a code: the frames are the traffic of the source's blocks, and by faithful links the sum is that of the source's
-- bytes for each sink.
pub record IsShown (faithful : Bool) (demo : Demo) (code : Code) (line : List ℕ) : Type 0 where
  pub made : IsDemoCode demo code
  pub total : ℕ
  pub lines : line
      ≡ demo_lines demo code (blocks_in demo code)
      (length (traffic_of code 0 (record { first = 0; blocks = blocks_from (source_of demo) code.rate 0 (blocks_in demo code) }))) total
  pub whole : faithful ≡ true → total ≡ (length code.net.sinks * sum (source_of demo)) % 2 ^ 64

abbrev pub DueOf : Bool → Demo → Outcome → Type 0
DueOf faithful demo outcome = (outcome.status ≡ Done) × ((code : Code) × IsShown faithful demo code outcome.line)

-- No file is changed. Once it is done the links were opened with 1, and nothing flies on them; where a call on them failed,
-- their count rose.
abbrev pub ChangesTo : Status → Outside → Outside → Type 0
ChangesTo Done before after =
    LeavesAll before after × (after.in_flight.seed ≡ demo_seed) × (after.in_flight.flying ≡ [])
ChangesTo LinkFault before after = LeavesAll before after × Rose before.link_faults after.link_faults
ChangesTo status before after = LeavesAll before after

-- no call on the links failed
abbrev pub LinksWork : Outside → Outside → Type 0
LinksWork before after = ¬ Rose before.link_faults after.link_faults
