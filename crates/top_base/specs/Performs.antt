-- What is promised of a command, by what it does.
use Rattle.std.specs.Prelude.{◌≡◌, ◌⊎◌, Option, Some, IsTrue, IsFalse}
use Rattle.lif_outside.specs.declared.links.Links.{Ghosts as LinksGhosts}
use Rattle.lif_outside.specs.declared.sink.Sink.{Ghosts as SinkGhosts}
use Rattle.lif_outside.specs.declared.store.Store.{Ghosts as StoreGhosts}
use Rattle.lif_outside.specs.Calls.{Calls, Does, MakesBoth, MakesCalls, Objects, Outside, outside_after, outside_before, store_calls}
use Rattle.lif_outside.specs.Files.{Files, SameFiles}
use Rattle.lif_outside.specs.Told.{Becomes, Told}
use Rattle.top_base.specs.Causes.{HasCauses}
use Rattle.top_base.specs.Outcome.{AddsOutcome, AreAlike, Concludes, EndsAtOnce, SaysWell, fault_line, is_of_inputs}
use Rattle.top_base.specs.declared.outcome.Outcome.{Outcome}
use Rattle.top_base.specs.declared.status.Status.{Status}
use Rattle.top_base.specs.declared.status.Status.TheVariants.{Done, OutOfMemory}

-- What decides which status is owed, memory and faults aside, and which outcome is due: the words alone, or what the files hold.
-- A status is owed by words and files alone; a due outcome has what is said too, which may be one of several.
pub data Decision : Type 1 where
  by_words : (Owed : Status → Type 0) → (Due : Outcome → Type 0) → Decision
  by_files : (Owed : Files → Status → Type 0) → (Due : Files → Outcome → Type 0) → Decision

-- a status is owed; where the files decide it, they are told
abbrev pub IsOwed : Decision → Option Files → Status → Type 0
IsOwed (by_words Owed Due) told status = Owed status
IsOwed (by_files Owed Due) told status = (files : Files) × (told ≡ Some files) × Owed files status

-- an outcome is due as far as the files are told that decide it
abbrev pub IsDueAsTold : Decision → Option Files → Outcome → Type 0
IsDueAsTold (by_words Owed Due) told outcome = Due outcome
IsDueAsTold (by_files Owed Due) told outcome = Told told (λ files. Due files outcome)

-- What a command does, told by four words.
pub record Behaviour : Type 1 where
  -- the calls of each outcome
  pub runs : Outcome → Calls → Type 0
  -- what each outcome changes
  pub changes : Outcome → Outside → Outside → Type 0
  -- which status is owed, and which outcome is due
  pub due : Decision
  -- no count of its faults rose
  pub no_fault : Outside → Outside → Type 0

-- the calls that were made on a store are those of this outcome of a command that works on the store alone
abbrev pub RunsOnStore : {S : Type 0} → StoreGhosts S → Behaviour → S → S → Outcome → Type 0
RunsOnStore g does old new outcome = MakesCalls g old new (λ events. does.runs outcome (store_calls events))

-- the calls that were made on a store and on links are those of this outcome
abbrev pub RunsOn : {S L : Type 0} → StoreGhosts S → LinksGhosts L → Behaviour → S → S → L → L → Outcome → Type 0
RunsOn g k does store_old store_new links_old links_new outcome = MakesBoth g k store_old store_new links_old links_new (does.runs outcome)

-- What some outcome leaves: the files that it changes and the counts that it raises, that it was due, where the inputs
-- decide it, and what is said. Where they don't, the line is that of the status.
pub record Leaves (does : Behaviour) (status : Status) (before after : Outside) : Type 0 where
  pub outcome : Outcome
  pub changes : does.changes outcome before after
  pub due : IsTrue (is_of_inputs outcome.status) → IsDueAsTold does.due before.files outcome
  pub line : IsFalse (is_of_inputs outcome.status) → outcome.line ≡ fault_line outcome.status
  pub says : AddsOutcome outcome status before after

-- Where a status is owed and there is no fault, it comes, or there was no memory.
abbrev pub Answers : Behaviour → Status → Outside → Outside → Type 0
Answers does status before after =
    (owed : Status) → IsOwed does.due before.files owed → does.no_fault before after
    → (owed ≡ Done → SaysWell before after)
    → AreAlike status owed ⊎ (status ≡ OutOfMemory)

pub record Performs {S C L : Type 0} {g : StoreGhosts S} {h : SinkGhosts C} {k : LinksGhosts L} (does : Behaviour) (o : Objects g h k) (status : Status) : Type 0 where
  -- the calls and what is put, and which calls the statuses of faults come from: of every store, sink and links
  pub of_calls : Does o (λ deeds. Concludes does.runs status deeds × HasCauses deeds status)
  -- what the files hold and what is said, where that is told
  pub of_content : Leaves does status (outside_before o) (outside_after o)
  -- which status comes, memory and faults aside
  pub of_inputs : Answers does status (outside_before o) (outside_after o)

-- no file is changed
abbrev pub LeavesAll : Outside → Outside → Type 0
LeavesAll before after = Becomes before.files after.files SameFiles

-- what ends with this outcome at once, by the words alone
abbrev pub at_once : Outcome → Behaviour
at_once expected = record {
  runs = EndsAtOnce expected;
  changes = λ outcome. LeavesAll;
  due = by_words (λ status. status ≡ expected.status) (λ outcome. outcome ≡ expected);
  no_fault = λ before after. Unit {0};
}
