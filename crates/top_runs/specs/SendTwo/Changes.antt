-- What `sendtwo` leaves, by its outcome: what the files hold, where that is told, and which counts rose.
use Rattle.std.specs.Prelude.{◌≡◌, ◌⊎◌, ◌%◌, ◌==◌, if◌then◌else◌, ℕ, Bool, true, List, [], Contains, Ok, Option, Some, slice_get, unwrap_or}
use Rattle.lif_outside.specs.Calls.{Outside}
use Rattle.lif_outside.specs.Counts.{Rose}
use Rattle.lif_outside.specs.Files.{ChangesOnly, Holds, HoldsPrefix, IsSameOrEmpty}
use Rattle.lif_outside.specs.LinksAccounts.{Adds}
use Rattle.lif_outside.specs.Sequences.{IsFrontOf}
use Rattle.lif_outside.specs.Told.{Becomes, Told}
use Rattle.lif_outside.specs.declared.links.Flight.{Flight}
use Rattle.node_program.specs.declared.code.Code.{Code}
use Rattle.source_delivery.specs.Showing.{packets_in}
use Rattle.source_delivery.specs.declared.parts.Parts.TheVariants.{Two}
use Rattle.top_base.specs.Accepting.{HoldsCode}
use Rattle.top_base.specs.Acting.{LeavesUnread}
use Rattle.top_base.specs.Inputs.{HoldsLong, HoldsShort}
use Rattle.top_base.specs.Performs.{LeavesAll}
use Rattle.top_base.specs.Words.{SendTwo, source_limit}
use Rattle.top_base.specs.declared.outcome.Outcome.{Outcome}
use Rattle.top_base.specs.declared.status.Status.{Status}
use Rattle.top_base.specs.declared.status.Status.TheVariants.{Done, LinkFault, ReadFault, TooLong, WriteFault}
use Rattle.top_runs.specs.SendTwo.Given.{IsClear, count_of, line_of_sent, outputs_of, pattern_in}
use Rattle.top_runs.specs.Sending.{received_by}

-- of two sources, that of a file, by the file's place: of each sink's two files one stands after the other
abbrev pub own : List ℕ → List ℕ → ℕ → List ℕ
own one two file = if file % 2 == 0 then one else two

-- No file but those of the sinks is changed, and of what stands at the path of each, by its place, this holds.
abbrev pub LeavesOutputs : SendTwo → Code → (ℕ → Option (List ℕ) → Type 0) → Outside → Outside → Type 0
LeavesOutputs send code P before after = Becomes before.files after.files
    (ChangesOnly (outputs_of send code) (λ path old new. (place : ℕ) → slice_get (outputs_of send code) place ≡ Some path → P place new))

-- the path of the code holds this code, which is accepted; the pattern is known, R1 is fit, and no path is shared
pub record HasCode (send : SendTwo) (code : Code) (before : Outside) : Type 0 where
  pub clear : IsClear send code
  pub held : Told before.files (λ files. HoldsCode (files send.code) (Ok code))

-- The file of each sink is what the rows of its source count in the blocks that the sink decodes of what the links gave, whatever that is.
-- Where the links are faithful it is its own source. They were opened with SEED, and nothing flies on them.
pub record LeavesSources (faithful : Bool) (send : SendTwo) (code : Code) (one two : List ℕ) (before after : Outside) : Type 0 where
  pub has_code : HasCode send code before
  pub has_first : Told before.files (λ files. HoldsShort source_limit one (files send.first))
  pub has_second : Told before.files (λ files. HoldsShort source_limit two (files send.second))
  pub seed : after.in_flight.seed ≡ send.seed
  pub quiet : after.in_flight.flying ≡ []
  -- these pairs the links gave, and of them each sink's file holds what its sink decodes
  pub flights : List Flight
  pub gave : Becomes before.given after.given (Adds flights)
  pub received : LeavesOutputs send code
      (λ place. Holds (received_by (Two send.first_rate) code (pattern_in send code) (packets_in flights) (count_of send code one two) place)) before after
  -- by faithful links each is its own source
  pub left : LeavesOutputs send code (λ place new. faithful ≡ true → Holds (own one two place) new) before after

-- a sink's file couldn't be created; each is as before or empty
abbrev pub LeavesUnmade : SendTwo → Code → Outside → Outside → Type 0
LeavesUnmade send code before after = Becomes before.files after.files (ChangesOnly (outputs_of send code) (λ path. IsSameOrEmpty))

-- The sources were read only in part, or couldn't be carried or written further: by faithful links each file holds a prefix of what was
-- read of its own source, which is the front of what the source's path holds.
pub record LeavesPart (faithful : Bool) (send : SendTwo) (code : Code) (before after : Outside) : Type 0 where
  pub first : List ℕ
  pub second : List ℕ
  pub first_front : Told before.files (λ files. IsFrontOf (unwrap_or (files send.first) []) first)
  pub second_front : Told before.files (λ files. IsFrontOf (unwrap_or (files send.second) []) second)
  pub left : LeavesOutputs send code (λ place new. faithful ≡ true → HoldsPrefix (own first second place) new) before after

-- a sink's file couldn't be created or written, and its count rose
pub record LeavesUnwritten (faithful : Bool) (send : SendTwo) (code : Code) (before after : Outside) : Type 0 where
  pub has_code : HasCode send code before
  pub output : List ℕ
  pub is_output : Contains (outputs_of send code) output
  pub rose : Rose (before.write_faults output) (after.write_faults output)
  pub left : LeavesUnmade send code before after ⊎ LeavesPart faithful send code before after

-- a source couldn't be read, and its count rose
pub record LeavesUnsent (faithful : Bool) (send : SendTwo) (code : Code) (before after : Outside) : Type 0 where
  pub has_code : HasCode send code before
  pub rose : Rose (before.read_faults send.first) (after.read_faults send.first) ⊎ Rose (before.read_faults send.second) (after.read_faults send.second)
  pub left : LeavesPart faithful send code before after

-- a source is longer than its limit
pub record LeavesLong (faithful : Bool) (send : SendTwo) (code : Code) (before after : Outside) : Type 0 where
  pub has_code : HasCode send code before
  pub long : Told before.files (λ files. HoldsLong source_limit (files send.first)) ⊎ Told before.files (λ files. HoldsLong source_limit (files send.second))
  pub left : LeavesPart faithful send code before after

-- a call on the links failed, and their count rose
pub record LeavesUncarried (faithful : Bool) (send : SendTwo) (code : Code) (before after : Outside) : Type 0 where
  pub has_code : HasCode send code before
  pub rose : Rose before.link_faults after.link_faults
  pub left : LeavesPart faithful send code before after

-- what is left by the status and the line, by links that are faithful or not
abbrev pub ChangesTo : Bool → SendTwo → Status → List ℕ → Outside → Outside → Type 0
ChangesTo faithful send Done line before after =
    (code : Code) × (one : List ℕ) × (two : List ℕ) × (line ≡ line_of_sent send code one two) × LeavesSources faithful send code one two before after
ChangesTo faithful send WriteFault line before after = (code : Code) × LeavesUnwritten faithful send code before after
ChangesTo faithful send ReadFault line before after =
    LeavesUnread send.code ReadFault before after ⊎ ((code : Code) × LeavesUnsent faithful send code before after)
ChangesTo faithful send TooLong line before after = LeavesAll before after ⊎ ((code : Code) × LeavesLong faithful send code before after)
ChangesTo faithful send LinkFault line before after = (code : Code) × LeavesUncarried faithful send code before after
ChangesTo faithful send status line before after = LeavesAll before after

abbrev pub Changes : Bool → SendTwo → Outcome → Outside → Outside → Type 0
Changes faithful send outcome before after = ChangesTo faithful send outcome.status outcome.line before after
