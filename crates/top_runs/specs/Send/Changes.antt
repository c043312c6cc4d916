-- What `send` leaves, by its outcome: what the files hold, where that is told, and which counts rose.
use Rattle.std.specs.Prelude.{◌≡◌, ◌⊎◌, ℕ, Bool, true, List, [], Contains, Ok, Option, Some, slice_get, unwrap_or}
use Rattle.generation_frame.specs.Blocks.{block_count}
use Rattle.generation_frame.specs.declared.frame.Packet.{Packet}
use Rattle.lif_outside.specs.Calls.{Outside}
use Rattle.lif_outside.specs.Counts.{Rose}
use Rattle.lif_outside.specs.Files.{ChangesOnly, Holds, HoldsPrefix, IsSameOrEmpty}
use Rattle.lif_outside.specs.LinksAccounts.{Adds}
use Rattle.lif_outside.specs.Sequences.{IsFrontOf}
use Rattle.lif_outside.specs.Told.{Becomes, Told}
use Rattle.lif_outside.specs.declared.links.Flight.{Flight}
use Rattle.node_program.specs.declared.code.Code.{Code}
use Rattle.source_delivery.specs.Showing.{packets_in}
use Rattle.top_base.specs.Accepting.{HoldsCode}
use Rattle.top_base.specs.Acting.{LeavesUnread}
use Rattle.top_base.specs.Inputs.{HoldsLong, HoldsShort}
use Rattle.top_base.specs.Performs.{LeavesAll}
use Rattle.top_base.specs.Words.{Send, source_limit}
use Rattle.top_base.specs.declared.outcome.Outcome.{Outcome}
use Rattle.top_base.specs.declared.status.Status.{Status}
use Rattle.top_base.specs.declared.status.Status.TheVariants.{Done, LinkFault, ReadFault, TooLong, WriteFault}
use Rattle.top_runs.specs.Send.Given.{IsClear, line_of_sent, outputs_of, pattern_in}
use Rattle.source_delivery.specs.declared.parts.Parts.TheVariants.{One}
use Rattle.top_runs.specs.Sending.{received_by}

-- No file but those of the sinks is changed, and of what stood at the path of each and stands there this holds.

abbrev pub LeavesOutputs : Send → Code → (Option (List ℕ) → Option (List ℕ) → Type 0) → Outside → Outside → Type 0
LeavesOutputs send code P before after = Becomes before.files after.files (ChangesOnly (outputs_of send code) (λ path. P))

-- the path of the code holds this code, which is accepted; the pattern is known, and no path is shared
pub record HasCode (send : Send) (code : Code) (before : Outside) : Type 0 where
  pub clear : IsClear send code
  pub held : Told before.files (λ files. HoldsCode (files send.code) (Ok code))

-- the path of the source holds these bytes
abbrev pub HasSource : Send → List ℕ → Outside → Type 0
HasSource send source before = Told before.files (λ files. HoldsShort source_limit source (files send.source))

-- what stands at a path, where it is that of a sink's file, is what this sink decodes of the packets that came, of all blocks of the source
abbrev pub HoldsReceived : Send → Code → List ℕ → List Packet → List ℕ → Option (List ℕ) → Type 0
HoldsReceived send code source came path file =
    (place : ℕ) → slice_get (outputs_of send code) place ≡ Some path
    → Holds (received_by One code (pattern_in send code) came (block_count source code.rate) place) file

-- Every sink's file is what the sink decodes of what the links gave, whatever that is. Where the links are faithful it is the source.
-- They were opened with SEED, and nothing flies on them.
pub record LeavesSource (faithful : Bool) (send : Send) (code : Code) (source : List ℕ) (before after : Outside) : Type 0 where
  pub has_code : HasCode send code before
  pub has_source : HasSource send source before
  pub seed : after.in_flight.seed ≡ send.seed
  pub quiet : after.in_flight.flying ≡ []
  -- these pairs the links gave, and of them each sink's file holds what its sink decodes
  pub flights : List Flight
  pub gave : Becomes before.given after.given (Adds flights)
  pub received : Becomes before.files after.files
      (ChangesOnly (outputs_of send code) (λ path old new. HoldsReceived send code source (packets_in flights) path new))
  -- by faithful links each is the source
  pub left : LeavesOutputs send code (λ old new. faithful ≡ true → Holds source new) before after

-- a sink's file couldn't be created; each is as before or empty
abbrev pub LeavesUnmade : Send → Code → Outside → Outside → Type 0
LeavesUnmade send code before after = LeavesOutputs send code IsSameOrEmpty before after

-- The source was read only in part, or couldn't be carried or written further: by faithful links each file holds a prefix of what
-- was read, which is the front of what the source's path holds.
pub record LeavesPart (faithful : Bool) (send : Send) (code : Code) (before after : Outside) : Type 0 where
  pub read : List ℕ
  pub is_front : Told before.files (λ files. IsFrontOf (unwrap_or (files send.source) []) read)
  pub left : LeavesOutputs send code (λ old new. faithful ≡ true → HoldsPrefix read new) before after

-- a sink's file couldn't be created or written, and its count rose
pub record LeavesUnwritten (faithful : Bool) (send : Send) (code : Code) (before after : Outside) : Type 0 where
  pub has_code : HasCode send code before
  pub output : List ℕ
  pub is_output : Contains (outputs_of send code) output
  pub rose : Rose (before.write_faults output) (after.write_faults output)
  pub left : LeavesUnmade send code before after ⊎ LeavesPart faithful send code before after

-- the source couldn't be read, and its count rose
pub record LeavesUnsent (faithful : Bool) (send : Send) (code : Code) (before after : Outside) : Type 0 where
  pub has_code : HasCode send code before
  pub rose : Rose (before.read_faults send.source) (after.read_faults send.source)
  pub left : LeavesPart faithful send code before after

-- the source is longer than its limit
pub record LeavesLong (faithful : Bool) (send : Send) (code : Code) (before after : Outside) : Type 0 where
  pub has_code : HasCode send code before
  pub long : Told before.files (λ files. HoldsLong source_limit (files send.source))
  pub left : LeavesPart faithful send code before after

-- a call on the links failed, and their count rose
pub record LeavesUncarried (faithful : Bool) (send : Send) (code : Code) (before after : Outside) : Type 0 where
  pub has_code : HasCode send code before
  pub rose : Rose before.link_faults after.link_faults
  pub left : LeavesPart faithful send code before after

-- what is left by the status and the line, by links that are faithful or not
abbrev pub ChangesTo : Bool → Send → Status → List ℕ → Outside → Outside → Type 0
ChangesTo faithful send Done line before after =
    (code : Code) × (source : List ℕ) × (line ≡ line_of_sent code source) × LeavesSource faithful send code source before after
ChangesTo faithful send WriteFault line before after = (code : Code) × LeavesUnwritten faithful send code before after
ChangesTo faithful send ReadFault line before after =
    LeavesUnread send.code ReadFault before after ⊎ ((code : Code) × LeavesUnsent faithful send code before after)
ChangesTo faithful send TooLong line before after = LeavesAll before after ⊎ ((code : Code) × LeavesLong faithful send code before after)
ChangesTo faithful send LinkFault line before after = (code : Code) × LeavesUncarried faithful send code before after
ChangesTo faithful send status line before after = LeavesAll before after

abbrev pub Changes : Bool → Send → Outcome → Outside → Outside → Type 0
Changes faithful send outcome before after = ChangesTo faithful send outcome.status outcome.line before after
