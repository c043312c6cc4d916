-- Files that are created first, and then filled turn by turn.
use Rattle.std.specs.Prelude.{◌≡◌, ◌⊎◌, ℕ, Bool, List, [], Contains, length, map, nat_lt}
use Rattle.lif_outside.specs.Calls.{Outside}
use Rattle.lif_outside.specs.Counts.{Rose}
use Rattle.lif_outside.specs.Events.{Event}
use Rattle.lif_outside.specs.FileCalls.{StopsWithin, Written, appends_of, bytes_appended, creates_of}
use Rattle.lif_outside.specs.Sequences.{Are, Then}
use Rattle.lif_outside.specs.Told.{Becomes}
use Rattle.lif_outside.specs.Writes.{WritesFiles, WritesPart}
use Rattle.top_base.specs.Lines.{out_of_memory_line, write_fault_line}
use Rattle.top_base.specs.Performs.{Behaviour, LeavesAll, by_words}
use Rattle.top_base.specs.declared.status.Status.{Status}
use Rattle.top_base.specs.declared.status.Status.TheVariants.{Done, OutOfMemory, WriteFault}

-- calls that fill files which were created: all are created, and then Q holds
abbrev pub Fills : List (List ℕ) → (List Event → Type 0) → List Event → Type 0
Fills paths Q calls = Then (Are (creates_of paths)) Q calls

-- a create or a call behind the creates failed
abbrev pub StopsFilling : List (List ℕ) → (List Event → Type 0) → List Event → Type 0
StopsFilling paths Q calls = StopsWithin (creates_of paths) calls ⊎ Fills paths Q calls

-- what each file gets by some turns
abbrev pub files_by : List (List ℕ) → List (List Written) → List Written
files_by paths turns = map (λ path. (path, bytes_appended path (appends_of turns))) paths

-- a part that has some bytes
abbrev pub has_bytes : Written → Bool
has_bytes part = nat_lt 0 (length part.1)

-- the count of faults of one of these paths rose
pub record RaisesOne (paths : List (List ℕ)) (before after : Outside) : Type 0 where
  pub path : List ℕ
  pub is_output : Contains paths path
  pub rose : Rose (before.write_faults path) (after.write_faults path)

-- no count of theirs did
abbrev pub RaisesNone : List (List ℕ) → Outside → Outside → Type 0
RaisesNone paths before after = (path : List ℕ) → Contains paths path → ¬ Rose (before.write_faults path) (after.write_faults path)

module _ (paths : List (List ℕ)) (turns : List (List Written)) (line : List ℕ) where
  -- the calls, by the status and what is said
  abbrev pub RunsFilling : Status → List ℕ → List Event → Type 0
  RunsFilling Done said calls = (said ≡ line) × Fills paths (Are (appends_of turns)) calls
  RunsFilling WriteFault said calls = (said ≡ write_fault_line) × StopsFilling paths (StopsWithin (appends_of turns)) calls
  RunsFilling OutOfMemory said calls = (said ≡ out_of_memory_line) × (calls ≡ [])
  RunsFilling status said calls = ⊥

  -- what is left: each file holds what it gets, or is as before or holds a prefix of that
  abbrev pub ChangesFilling : Status → Outside → Outside → Type 0
  ChangesFilling Done before after = Becomes before.files after.files (WritesFiles (files_by paths turns))
  ChangesFilling WriteFault before after = RaisesOne paths before after × Becomes before.files after.files (WritesPart (files_by paths turns))
  ChangesFilling OutOfMemory before after = LeavesAll before after
  ChangesFilling status before after = ⊥

  -- Files at these paths are created in order, and then filled in these turns.
  abbrev pub fills : Behaviour
  fills = record {
    runs = λ outcome calls. RunsFilling outcome.status outcome.line calls.on_store × (calls.on_links ≡ []);
    changes = λ outcome. ChangesFilling outcome.status;
    due = by_words (λ status. status ≡ Done) (λ outcome. outcome ≡ record { status = Done; line = line });
    no_fault = RaisesNone paths;
  }
