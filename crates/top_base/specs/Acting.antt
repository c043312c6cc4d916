-- Commands that read one input and act by it.
use Rattle.std.specs.Prelude.{◌≡◌, ℕ, List, Result, Ok, Err}
use Rattle.lif_outside.specs.Calls.{Begins, Calls, MakesNone, Outside}
use Rattle.lif_outside.specs.Counts.{Rose}
use Rattle.lif_outside.specs.Files.{Files}
use Rattle.top_base.specs.Inputs.{HoldsInput, Reads}
use Rattle.top_base.specs.Performs.{LeavesAll}
use Rattle.top_base.specs.declared.outcome.Outcome.{Outcome}
use Rattle.top_base.specs.declared.status.Status.{Status}
use Rattle.top_base.specs.declared.status.Status.TheVariants.{LinkFault, ReadFault, WriteFault}

-- what is left where the input couldn't be had: no file is changed, and after a fault the count of its path rose
abbrev pub LeavesUnread : List ℕ → Status → Outside → Outside → Type 0
LeavesUnread path ReadFault before after = LeavesAll before after × Rose (before.read_faults path) (after.read_faults path)
LeavesUnread path WriteFault before after = ⊥
LeavesUnread path LinkFault before after = ⊥
LeavesUnread path status before after = LeavesAll before after

module _ {X : Type 0} (limit : ℕ) (Is : List ℕ → X → Type 0) (Refuses : List ℕ → Status → List ℕ → Type 0) where
  -- the calls after the input was read, by those of what was had
  abbrev pub RunsAfter : (X → Outcome → Calls → Type 0) → Result X Outcome → Outcome → Calls → Type 0
  RunsAfter Acts (Ok x) outcome calls = Acts x outcome calls
  RunsAfter Acts (Err refused) outcome calls = (outcome ≡ refused) × MakesNone calls

  -- all calls: the input is read first
  abbrev pub Runs : (X → Outcome → Calls → Type 0) → List ℕ → Outcome → Calls → Type 0
  Runs Acts path outcome calls = (result : Result X Outcome) × Begins (Reads limit Is Refuses path result) (RunsAfter Acts result outcome) calls

  -- what is owed, by what is owed of what the input's file holds
  abbrev pub OwedAfter : (X → Files → Status → Type 0) → Files → Result X Outcome → Status → Type 0
  OwedAfter OwedOf files (Ok x) status = OwedOf x files status
  OwedAfter OwedOf files (Err refused) status = status ≡ refused.status

  abbrev pub Owed : (X → Files → Status → Type 0) → List ℕ → Files → Status → Type 0
  Owed OwedOf path files status = (result : Result X Outcome) × HoldsInput limit Is Refuses (files path) result × OwedAfter OwedOf files result status

  -- and what is due, by what is due of it
  abbrev pub DueAfter : (X → Files → Outcome → Type 0) → Files → Result X Outcome → Outcome → Type 0
  DueAfter DueOf files (Ok x) outcome = DueOf x files outcome
  DueAfter DueOf files (Err refused) outcome = outcome ≡ refused

  abbrev pub Due : (X → Files → Outcome → Type 0) → List ℕ → Files → Outcome → Type 0
  Due DueOf path files outcome = (result : Result X Outcome) × HoldsInput limit Is Refuses (files path) result × DueAfter DueOf files result outcome
