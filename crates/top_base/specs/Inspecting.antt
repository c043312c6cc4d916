-- Commands that read one input and say what they find in it. They change no file.
use Rattle.std.specs.Prelude.{◌≡◌, ℕ, List}
use Rattle.lif_outside.specs.Calls.{Calls, MakesNone, Outside}
use Rattle.lif_outside.specs.Counts.{Rose}
use Rattle.top_base.specs.Acting.{Due, LeavesUnread, Owed, Runs}
use Rattle.top_base.specs.Performs.{Behaviour, by_files}
use Rattle.top_base.specs.declared.outcome.Outcome.{Outcome}
use Rattle.top_base.specs.declared.status.Status.{Status}
use Rattle.top_base.specs.declared.status.Status.TheVariants.{Done}

-- the reading of the input didn't fail
abbrev pub ReadsWell : List ℕ → Outside → Outside → Type 0
ReadsWell path before after = ¬ Rose (before.read_faults path) (after.read_faults path)

-- a command that is done whatever was read, memory and faults aside
abbrev pub OwesDone : {X : Type 0} → X → Status → Type 0
OwesDone x status = status ≡ Done

-- Such a command is told by its input, by which outcomes what was read may have, and by which status is owed of it.
module _ {X : Type 0} (limit : ℕ) (Is : List ℕ → X → Type 0) (Refuses : List ℕ → Status → List ℕ → Type 0) (Ends : X → Outcome → Type 0) (Owes : X → Status → Type 0) where
  -- after the input was read there is no call
  abbrev pub Finds : X → Outcome → Calls → Type 0
  Finds x outcome calls = Ends x outcome × MakesNone calls

  abbrev pub inspects : List ℕ → Behaviour
  inspects path = record {
    runs = Runs limit Is Refuses Finds path;
    changes = λ outcome. LeavesUnread path outcome.status;
    due = by_files (Owed limit Is Refuses (λ x files. Owes x) path) (Due limit Is Refuses (λ x files. Ends x) path);
    no_fault = ReadsWell path;
  }
