-- Commands told step by step: an input is read, and by what it is the command goes on, until it is refused or makes files.
use Rattle.std.specs.Prelude.{◌≡◌, ◌⊎◌, ℕ, List, [], Option, None, Some, Ok, IsTrue}
use Rattle.lif_outside.specs.Calls.{MakesNone, Outside, store_calls}
use Rattle.lif_outside.specs.Counts.{Rose}
use Rattle.lif_outside.specs.Events.{Event}
use Rattle.lif_outside.specs.Files.{Files}
use Rattle.lif_outside.specs.Told.{Told}
use Rattle.top_base.specs.Acting.{Due, LeavesUnread, Owed, Runs}
use Rattle.top_base.specs.Inputs.{HoldsInput, IsNoMemory, is_lost}
use Rattle.top_base.specs.Outcome.{SaysWell}
use Rattle.top_base.specs.Performs.{Behaviour, Decision, LeavesAll, by_files, by_words}
use Rattle.top_base.specs.declared.outcome.Outcome.{Outcome}
use Rattle.top_base.specs.declared.status.Status.{Status}
use Rattle.top_base.specs.declared.status.Status.TheVariants.{Done, OutOfMemory}

-- an outcome that is expected, or that of want of memory
abbrev pub IsOrForgets : Outcome → Outcome → Type 0
IsOrForgets expected outcome = (outcome ≡ expected) ⊎ IsNoMemory outcome

-- A refusal: no further call is made, and no file is changed.
abbrev pub refuses : Outcome → Behaviour
refuses expected = record {
  runs = λ outcome calls. IsOrForgets expected outcome × MakesNone calls;
  changes = λ outcome before after. IsOrForgets expected outcome × LeavesAll before after;
  due = by_words (λ status. status ≡ expected.status) (λ outcome. outcome ≡ expected);
  no_fault = λ before after. Unit {0};
}

-- a refusal, where there is one, and else the rest
abbrev pub or_refuses : Option Outcome → Behaviour → Behaviour
or_refuses (Some refused) rest = refuses refused
or_refuses None rest = rest

-- what a decision says of files: which status is owed, and which outcome is due
abbrev pub OwedBy : Decision → Files → Status → Type 0
OwedBy (by_words IsOwed IsDue) files status = IsOwed status
OwedBy (by_files IsOwed IsDue) files status = IsOwed files status

abbrev pub DueBy : Decision → Files → Outcome → Type 0
DueBy (by_words IsOwed IsDue) files outcome = IsDue outcome
DueBy (by_files IsOwed IsDue) files outcome = IsDue files outcome

-- An input is read, which is told by its limit, by what its bytes are and by what refuses them, and the rest goes by what it is.
module _ {X : Type 0} (limit : ℕ) (Is : List ℕ → X → Type 0) (Refuses : List ℕ → Status → List ℕ → Type 0) (path : List ℕ) (rest : X → Behaviour) where
  -- the path holds this input
  abbrev pub Has : X → Outside → Type 0
  Has x before = Told before.files (λ files. HoldsInput limit Is Refuses (files path) (Ok x))

  -- the input was had, and its rest changes what is changed
  pub record ChangesRest (outcome : Outcome) (before after : Outside) : Type 0 where
    pub input : X
    pub held : Has input before
    pub changed : (rest input).changes outcome before after

  -- or it couldn't be had
  pub record ChangesNone (outcome : Outcome) (before after : Outside) : Type 0 where
    pub lost : IsTrue (is_lost outcome.status)
    pub unread : LeavesUnread path outcome.status before after

  -- no count of faults of the path rose, and there is no fault of the rest
  pub record HasNoFault (before after : Outside) : Type 0 where
    pub input : ¬ Rose (before.read_faults path) (after.read_faults path)
    pub others : (x : X) → Has x before → (rest x).no_fault before after

  abbrev pub reads_then : Behaviour
  reads_then = record {
    runs = Runs limit Is Refuses (λ x. (rest x).runs) path;
    changes = λ outcome before after. ChangesRest outcome before after ⊎ ChangesNone outcome before after;
    due = by_files (Owed limit Is Refuses (λ x. OwedBy (rest x).due) path) (Due limit Is Refuses (λ x. DueBy (rest x).due) path);
    no_fault = HasNoFault;
  }

-- calls on the store that are those of a step with this outcome, or there are none, since there was no memory
abbrev pub RunsOrForgets : Behaviour → Outcome → List Event → Type 0
RunsOrForgets does outcome events = does.runs outcome (store_calls events) ⊎ (IsNoMemory outcome × (events ≡ []))

-- the command is done, or there was no memory, where none of its calls failed and its line was said
abbrev pub Comes : Behaviour → Status → Outside → Outside → Type 0
Comes does status before after = does.no_fault before after → SaysWell before after → (status ≡ Done) ⊎ (status ≡ OutOfMemory)
