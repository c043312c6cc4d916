-- What has to be known of files that are created first, and then filled turn by turn.
use Rattle.std.specs.Prelude.{◌≡◌, ◌≢◌, ◌⊎◌, ℕ, Bool, false, true, List, [], ◌∷◌, Contains, Option, Some, All, IsTrue, IsFalse}
use Rattle.std.specs.List.{AllByRecursion, list_any}
use Rattle.std.proofs.Common.{refl, sym, ap, subst, ◌∙◌, inl, inr, ⊎_elim}
use Rattle.std.proofs.lemmas.Bool.{false≢true}
use Rattle.std.proofs.lemmas.List.Elements.{All-contains_itself, All-map, All-weaker}
use Rattle.lif_outside.proofs.DeedLaws.{Accounted}
use Rattle.lif_outside.proofs.FaultLaws.{HaveFailed, appends_unfailed, failed-append, none_failed}
use Rattle.lif_outside.proofs.FileCallLaws.{appends_held, appends_keep}
use Rattle.lif_outside.proofs.TurnLaws.{appends-failed, appends-fault, appends-stopped, creates_of-empty, creates_of-failed, creates_of-fault, creates_of-keep, creates_of-stopped, creates_of-unfailed, stops_keep}
use Rattle.lif_outside.specs.Calls.{Calls, Deeds, Outside}
use Rattle.lif_outside.specs.EventLaws.{KeepsPath, happen_keeping}
use Rattle.lif_outside.specs.Events.{Event, Follow, HappenAt, append_failed, create_failed}
use Rattle.lif_outside.specs.FileCalls.{AreAppendsTo, StopsWithin, Written, appends_of, bytes_appended, creates_of}
use Rattle.lif_outside.specs.Files.{Files, Holds, HoldsPrefix, SameBut}
use Rattle.lif_outside.specs.Moves as moves
use Rattle.lif_outside.specs.Sequences.{Are}
use Rattle.lif_outside.specs.ToldLaws.{becomes_weaker}
use Rattle.lif_outside.specs.Writes.{WritesFiles, WritesPart, paths_written}
use Rattle.command_steps.proofs.StepLaws.{IsStep}
use Rattle.command_steps.specs.Filling.{ChangesFilling, Fills, RaisesNone, RaisesOne, RunsFilling, StopsFilling, files_by, fills}
use Rattle.top_base.proofs.LeavingLaws.{happen_later, happen_parts, keep_files, later_among, none_keep}
use Rattle.top_base.proofs.PerformingLaws.{HaveFailedBy}
use Rattle.top_base.specs.Outcome.{any_witness, fault_line, is_fault, is_of_inputs}
use Rattle.top_base.specs.declared.outcome.Outcome.{Outcome}
use Rattle.top_base.specs.declared.status.Status.{Status}
use Rattle.top_base.specs.declared.status.Status.TheVariants.{Done, OutOfMemory, Usage, WriteFault}

-- ---- what each path gets

pub paths_by : (paths : List (List ℕ)) (turns : List (List Written)) → paths_written (files_by paths turns) ≡ paths
paths_by [] turns = refl
paths_by (path ∷ paths) turns = ap (λ rest. path ∷ rest) (paths_by paths turns)

module _ (paths : List (List ℕ)) (turns : List (List Written)) (old new : Files) (others : SameBut paths old new) where
  -- no other path is changed
  others_by : SameBut (paths_written (files_by paths turns)) old new
  others_by = subst (λ places. SameBut places old new) (sym (paths_by paths turns)) others

  -- what holds of each file
  each_by : (P : Written → Type 0) → ((path : List ℕ) → Contains paths path → P (path, bytes_appended path (appends_of turns))) → All P (files_by paths turns)
  each_by P holds =
      let file : List ℕ → Written = λ path. (path, bytes_appended path (appends_of turns)) in
      All-map P file paths (All-weaker (Contains paths) (λ path. P (file path)) holds paths (All-contains_itself paths))

  -- so each path holds its bytes, or is as before or holds a prefix of them
  pub writes_by : ((path : List ℕ) → Contains paths path → Holds (bytes_appended path (appends_of turns)) (new path)) → WritesFiles (files_by paths turns) old new
  writes_by held = record { others = others_by; these = each_by (λ file. Holds file.1 (new file.0)) held }

  pub part_by : ((path : List ℕ) → Contains paths path → (new path ≡ old path) ⊎ HoldsPrefix (bytes_appended path (appends_of turns)) (new path)) → WritesPart (files_by paths turns) old new
  part_by part = record { others = others_by; these = each_by (λ file. (new file.0 ≡ old file.0) ⊎ HoldsPrefix file.1 (new file.0)) part }

-- ---- the calls behind the creates

module _ (paths : List (List ℕ)) (Q : List Event → Type 0) (calls : List Event) (is : Fills paths Q calls) where
  -- at a path that was created they find an empty file
  pub behind_creates : (place : List ℕ) (a b : Option (List ℕ)) → Contains paths place → HappenAt place calls a b → HappenAt place is.later (Some []) b
  behind_creates place a b there happen =
      let halves = happen_parts is.first is.later calls is.events_are place a b happen in
      let empty : halves.0 ≡ Some [] = creates_of-empty paths place a halves.0 there (subst (λ es. HappenAt place es a halves.0) is.holds_first halves.1) in
      subst (λ file. HappenAt place is.later file b) empty halves.2

  -- and no other path is changed that they keep
  pub others_kept : (old new : Files) → ((place : List ℕ) → ¬ Contains paths place → AllByRecursion (KeepsPath place) is.later) → Follow calls old new → SameBut paths old new
  others_kept old new keeps follow place apart =
      let created = subst (AllByRecursion (KeepsPath place)) (sym is.holds_first) (creates_of-keep paths place apart) in
      happen_keeping place is.later (old place) (new place) (keeps place apart) (happen_later is.first is.later calls is.events_are place (old place) (new place) created (follow place))

  -- of the creates none has failed
  pub behind-failed : (reads writes : Bool) → HaveFailed reads writes is.later → HaveFailed reads writes calls
  behind-failed reads writes failed =
      subst (HaveFailed reads writes) (sym is.events_are)
      (failed-append false false reads writes is.first is.later (subst (HaveFailed false false) (sym is.holds_first) (creates_of-unfailed paths)) failed)

-- ---- a create that failed

module _ (paths : List (List ℕ)) (calls : List Event) (stop : StopsWithin (creates_of paths) calls) where
  pub part_created : (turns : List (List Written)) (old new : Files) → Follow calls old new → WritesPart (files_by paths turns) old new
  part_created turns old new follow =
      part_by paths turns old new
      (λ place apart. happen_keeping place calls (old place) (new place) (stops_keep place (creates_of paths) calls stop (creates_of-keep paths place apart)) (follow place))
      (λ place there. ⊎_elim inl (λ empty. inr (0, empty)) (creates_of-stopped paths place calls (old place) (new place) stop (follow place)))

  pub raises_created : (deeds : Deeds) (before after : Outside) → Accounted deeds before after → deeds.calls.on_store ≡ calls → RaisesOne paths before after
  raises_created deeds before after accounted are =
      let fault = creates_of-fault paths calls stop in
      record { path = fault.0; is_output = fault.1; rose = accounted.failed_create fault.0 (subst (λ es. Contains es (create_failed fault.0)) (sym are) fault.2) }

-- ---- an append that failed, of calls that bring appends

module _ (paths : List (List ℕ)) (turns : List (List Written)) (appends : AreAppendsTo paths (appends_of turns)) where
  abbrev these : List Event
  these = appends_of turns

  -- all was appended
  left_all : (calls : List Event) (old new : Files) → Fills paths (Are these) calls → Follow calls old new → WritesFiles (files_by paths turns) old new
  left_all calls old new is follow =
      let are = subst (AreAppendsTo paths) (sym is.holds_later) appends in
      writes_by paths turns old new
      (others_kept paths (Are these) calls is old new (λ place apart. appends_keep paths place is.later apart are) follow)
      (λ place there. appends_held paths place these [] (Some []) (new place) appends refl
      (subst (λ es. HappenAt place es (Some []) (new place)) is.holds_later (behind_creates paths (Are these) calls is place (old place) (new place) there (follow place))))

  left_part : (calls : List Event) (old new : Files) → StopsFilling paths (StopsWithin these) calls → Follow calls old new → WritesPart (files_by paths turns) old new
  left_part calls old new (inl stop) follow = part_created paths calls stop turns old new follow
  left_part calls old new (inr is) follow =
      part_by paths turns old new
      (others_kept paths (StopsWithin these) calls is old new (λ place apart. stops_keep place these is.later is.holds_later (appends_keep paths place these apart appends)) follow)
      (λ place there. inr (appends-stopped paths these is.later place (new place) appends is.holds_later
      (behind_creates paths (StopsWithin these) calls is place (old place) (new place) there (follow place))))

  raises : (deeds : Deeds) (before after : Outside) → Accounted deeds before after → StopsFilling paths (StopsWithin these) deeds.calls.on_store → RaisesOne paths before after
  raises deeds before after accounted (inl stop) = raises_created paths deeds.calls.on_store stop deeds before after accounted refl
  raises deeds before after accounted (inr is) =
      let fault = appends-fault paths these is.later appends is.holds_later in
      record {
        path = fault.0;
        is_output = fault.2;
        rose = accounted.failed_append fault.0 fault.1 (later_among is.first is.later deeds.calls.on_store is.events_are (append_failed fault.0 fault.1) fault.3);
      }

  failed_filling : (calls : List Event) → StopsFilling paths (StopsWithin these) calls → HaveFailed false true calls
  failed_filling calls (inl stop) = creates_of-failed paths calls stop
  failed_filling calls (inr is) = behind-failed paths (StopsWithin these) calls is false true (appends-failed paths these is.later appends is.holds_later)

  -- ---- the step

  module _ (line : List ℕ) where
    changes : (status : Status) (said : List ℕ) (deeds : Deeds) (before after : Outside) → Accounted deeds before after → RunsFilling paths turns line status said deeds.calls.on_store
        → ChangesFilling paths turns line status before after
    changes Done said deeds before after accounted runs = becomes_weaker accounted.files (λ old new follow. left_all deeds.calls.on_store old new runs.1 follow)
    changes WriteFault said deeds before after accounted runs =
        (raises deeds before after accounted runs.1, becomes_weaker accounted.files (λ old new follow. left_part deeds.calls.on_store old new runs.1 follow))
    changes OutOfMemory said deeds before after accounted runs = keep_files before.files after.files deeds.calls.on_store (none_keep deeds.calls.on_store runs.1) accounted.files
    changes status said deeds before after accounted runs = absurd runs

    due_of : (status : Status) (said : List ℕ) (calls : List Event) → RunsFilling paths turns line status said calls → IsTrue (is_of_inputs status)
        → ◌≡◌ {A = Outcome} (record { status = status; line = said }) (record { status = Done; line = line })
    due_of Done said calls runs inputs = let done : List ℕ → Outcome = λ text. record { status = Done; line = text } in ap done runs.0
    due_of WriteFault said calls runs inputs = absurd (false≢true inputs)
    due_of OutOfMemory said calls runs inputs = absurd (false≢true inputs)
    due_of status said calls runs inputs = absurd runs

    line_of : (status : Status) (said : List ℕ) (calls : List Event) → RunsFilling paths turns line status said calls → IsFalse (is_of_inputs status) → said ≡ fault_line status
    line_of Done said calls runs not = absurd (false≢true (sym not))
    line_of WriteFault said calls runs not = runs.0
    line_of OutOfMemory said calls runs not = runs.0
    line_of status said calls runs not = absurd runs

    causes : (status : Status) (said : List ℕ) (calls : Calls) → RunsFilling paths turns line status said calls.on_store → calls.on_links ≡ [] → HaveFailedBy status calls
    causes Done said calls runs none = record {
      on_store = behind-failed paths (Are these) calls.on_store runs.1 false false (subst (HaveFailed false false) (sym runs.1.holds_later) (appends_unfailed paths these appends));
      on_links = ap (list_any moves.is_fault) none;
    }
    causes WriteFault said calls runs none = record { on_store = failed_filling calls.on_store runs.1; on_links = ap (list_any moves.is_fault) none }
    causes OutOfMemory said calls runs none = record { on_store = none_failed calls.on_store runs.1; on_links = ap (list_any moves.is_fault) none }
    causes status said calls runs none = absurd runs

    used_of : (status : Status) (said : List ℕ) (calls : List Event) → RunsFilling paths turns line status said calls → status ≢ Usage
    used_of Usage said calls runs is = absurd runs
    used_of status said calls runs is = cc

    faultless : (status : Status) (before after : Outside) → ChangesFilling paths turns line status before after → RaisesNone paths before after → IsFalse (is_fault status)
    faultless Done before after changed well = refl
    faultless WriteFault before after changed well = absurd (well changed.0.path changed.0.is_output changed.0.rose)
    faultless OutOfMemory before after changed well = refl
    faultless status before after changed well = absurd changed

    step_filling : IsStep (fills paths turns line)
    step_filling = record {
      changes = λ outcome deeds before after accounted runs. changes outcome.status outcome.line deeds before after accounted runs.0;
      due = λ outcome deeds before after accounted runs inputs. due_of outcome.status outcome.line deeds.calls.on_store runs.0 inputs;
      lines = λ outcome calls runs not. line_of outcome.status outcome.line calls.on_store runs.0 not;
      causes = λ outcome calls runs. causes outcome.status outcome.line calls runs.0 runs.1;
      alike = λ due owed is is_owed. ap (λ (o : Outcome). any_witness o.status) is ∙ sym (ap any_witness is_owed);
      used = λ outcome calls runs. used_of outcome.status outcome.line calls.on_store runs.0;
      faultless = λ outcome files before after told changed well. faultless outcome.status before after changed well;
    }

-- Such files are filled by appends to them alone.
pub fills_step : (paths : List (List ℕ)) (turns : List (List Written)) (line : List ℕ) → AreAppendsTo paths (appends_of turns) → IsStep (fills paths turns line)
fills_step paths turns line appends = step_filling paths turns appends line
