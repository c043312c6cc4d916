-- What calls do with what their handles hold.
use Rattle.std.specs.Prelude.{◌≡◌, ℕ, Bool, true, false, List, Option, Some, None, is_some, Result, Ok, Err}
use Rattle.generation_frame.specs.declared.frame.Accepted.{Accepted}
use Rattle.node_program.specs.declared.code.Code.{Code}
use Rattle.relay_node.specs.Relay.{Relay}
use Rattle.sink_decoder.specs.Receiving.{Receiver}
use Rattle.open_nodes.specs.Opening.{OpensCode}
use Rattle.open_nodes.specs.declared.call_error.CallError.{CallError}
use Rattle.open_nodes.specs.declared.opening.OpenRefusal.{OpenRefusal}
use Rattle.lif_c.specs.Refusals.{open_status, refusal_of}
use Rattle.lif_c.specs.Statuses.{already_open, closed, error_number, ok, other_kind, status_of}
use Rattle.lif_c.specs.Writing.{WritesNew}
use Rattle.lif_c.specs.declared.opened.Opened.{Opened}
use Rattle.lif_c.specs.declared.opened.Opened.TheVariants as kinds
use Rattle.lif_c.specs.declared.refusal.Refusal.{Refusal}

-- the code, the node or the sink that is held, where it is one
abbrev pub code_in : Opened → Option Code
code_in (kinds.Code it) = Some it
code_in (kinds.Node it) = None
code_in (kinds.Sink it) = None

abbrev pub node_in : Opened → Option Relay
node_in (kinds.Code it) = None
node_in (kinds.Node it) = Some it
node_in (kinds.Sink it) = None

abbrev pub sink_in : Opened → Option Receiver
sink_in (kinds.Code it) = None
sink_in (kinds.Node it) = None
sink_in (kinds.Sink it) = Some it

-- after a call its handle holds something of the kind of which, and of the status, something is true
pub record Becomes {X : Type 0} (made : X → Opened) (does : X → ℕ → Type 0) (new : Option Opened) (status : ℕ) : Type 0 where
  pub it : X
  pub holds : new ≡ Some (made it)
  pub done : does it status

-- What a call does, of what its handle held before and holds after it. Where that is something of the kind: `does`. Where it is
-- something else, or nothing, that is answered and all stays made it was: `same` says so of what the call writes elsewhere.
abbrev pub CallsIt : {X : Type 0} → (X → Opened) → Type 0 → (X → X → ℕ → Type 0) → Option X → Opened → Option Opened → ℕ → Type 0
CallsIt made same does (Some it) old new status = Becomes made (does it) new status
CallsIt made same does None old new status = (status ≡ other_kind) × (new ≡ Some old) × same

abbrev pub Calls : {X : Type 0} → (Opened → Option X) → (X → Opened) → Type 0 → (X → X → ℕ → Type 0) → Option Opened → Option Opened → ℕ → Type 0
Calls see made same does (Some old) new status = CallsIt made same does (see old) old new status
Calls see made same does None new status = (status ≡ closed) × (new ≡ None) × same

-- calls that change a node or a sink
abbrev pub CallsNode : Type 0 → (Relay → Relay → ℕ → Type 0) → Option Opened → Option Opened → ℕ → Type 0
CallsNode same does old new status = Calls node_in kinds.Node same does old new status

abbrev pub CallsSink : Type 0 → (Receiver → Receiver → ℕ → Type 0) → Option Opened → Option Opened → ℕ → Type 0
CallsSink same does old new status = Calls sink_in kinds.Sink same does old new status

-- calls that read a code, a node or a sink
abbrev pub Keeps : {X : Type 0} → (X → ℕ → Type 0) → X → X → ℕ → Type 0
Keeps reads old new status = (new ≡ old) × reads old status

abbrev pub ReadsCode : Type 0 → (Code → ℕ → Type 0) → Option Opened → Option Opened → ℕ → Type 0
ReadsCode same reads old new status = Calls code_in kinds.Code same (Keeps reads) old new status

abbrev pub ReadsNode : Type 0 → (Relay → ℕ → Type 0) → Option Opened → Option Opened → ℕ → Type 0
ReadsNode same reads old new status = CallsNode same (Keeps reads) old new status

abbrev pub ReadsSink : Type 0 → (Receiver → ℕ → Type 0) → Option Opened → Option Opened → ℕ → Type 0
ReadsSink same reads old new status = CallsSink same (Keeps reads) old new status

-- an error, or none, of which something is true is answered by its number
pub record Answers (does : Option CallError → Type 0) (status : ℕ) : Type 0 where
  pub error : Option CallError
  pub number : status ≡ status_of error
  pub done : does error

-- a frame is taken in, and whether its piece is new is written
pub record TakesIn (does : Result Accepted CallError → Type 0) (old new : Bool) (status : ℕ) : Type 0 where
  pub answer : Result Accepted CallError
  pub done : does answer
  pub told : WritesNew answer old new status

-- a handle that was closed holds what was opened, or stays closed
abbrev pub Told : {X : Type 0} → (X → Opened) → Result X CallError → Option Opened → ℕ → Type 0
Told made (Ok it) new status = (status ≡ ok) × (new ≡ Some (made it))
Told made (Err why) new status = (status ≡ error_number why) × (new ≡ None)

pub record IsOpened {X : Type 0} (made : X → Opened) (opens : Result X CallError → Type 0) (new : Option Opened) (status : ℕ) : Type 0 where
  pub result : Result X CallError
  pub opened : opens result
  pub told : Told made result new status

-- Something of a code is opened. The handle to hold it is looked at first, and then that of the code, which keeps what it holds.
abbrev pub OpensOf : (Code → Option Opened → ℕ → Type 0) → Option Opened → Option Opened → ℕ → Type 0
OpensOf opens (Some (kinds.Code code)) new status = opens code new status
OpensOf opens (Some (kinds.Node it)) new status = (status ≡ other_kind) × (new ≡ None)
OpensOf opens (Some (kinds.Sink it)) new status = (status ≡ other_kind) × (new ≡ None)
OpensOf opens None new status = (status ≡ closed) × (new ≡ None)

abbrev pub Opens : (Code → Option Opened → ℕ → Type 0) → Option Opened → Option Opened → Option Opened → ℕ → Type 0
Opens opens (Some old) new code status = (status ≡ already_open) × (new ≡ Some old)
Opens opens None new code status = OpensOf opens code new status

-- a code is opened of bytes, or why not is written
abbrev pub ToldOfCode : Result Code OpenRefusal → Option Opened → Refusal → Refusal → ℕ → Type 0
ToldOfCode (Ok code) new old_why new_why status = (status ≡ ok) × (new ≡ Some (kinds.Code code)) × (new_why ≡ old_why)
ToldOfCode (Err why) new old_why new_why status = (status ≡ open_status why) × (new ≡ None) × (new_why ≡ refusal_of why)

pub record IsOpenedCode (bytes : List ℕ) (new : Option Opened) (old_why new_why : Refusal) (status : ℕ) : Type 0 where
  pub result : Result Code OpenRefusal
  pub opens : OpensCode bytes result
  pub told : ToldOfCode result new old_why new_why status

abbrev pub OpensBytes : List ℕ → Option Opened → Option Opened → Refusal → Refusal → ℕ → Type 0
OpensBytes bytes (Some old) new old_why new_why status = (status ≡ already_open) × (new ≡ Some old) × (new_why ≡ old_why)
OpensBytes bytes None new old_why new_why status = IsOpenedCode bytes new old_why new_why status

-- what a handle of the kind holds is given back
abbrev pub ClosesIt : Bool → Opened → Option Opened → ℕ → Type 0
ClosesIt true old new status = (status ≡ ok) × (new ≡ None)
ClosesIt false old new status = (status ≡ other_kind) × (new ≡ Some old)

abbrev pub Closes : {X : Type 0} → (Opened → Option X) → Option Opened → Option Opened → ℕ → Type 0
Closes see (Some old) new status = ClosesIt (is_some (see old)) old new status
Closes see None new status = (status ≡ closed) × (new ≡ None)
