-- What has to be known of a command that makes files, from what is known of what it makes.
use Rattle.std.specs.Prelude.{◌≡◌, ◌≢◌, ℕ, false, List, [], ◌∷◌, Contains, None, Ok, Option, Some, IsTrue, IsFalse}
use Rattle.std.specs.List.{list_any}
use Rattle.std.proofs.Common.{refl, sym, ap, subst, ◌∙◌}
use Rattle.std.proofs.lemmas.Bool.{false≢true}
use Rattle.lif_outside.proofs.CallLaws.{calls_weaker}
use Rattle.lif_outside.specs.Calls.{ByCalls, Calls, Deeds, Outside, store_calls}
use Rattle.lif_outside.proofs.DeedLaws.{Accounted}
use Rattle.lif_outside.specs.Events.{Event, Follow}
use Rattle.lif_outside.proofs.FaultLaws.{HaveFailed, none_failed}
use Rattle.lif_outside.specs.Files.{AreDistinct}
use Rattle.lif_outside.specs.Moves as moves
use Rattle.lif_outside.specs.FileCalls.{StopsWithin, Written}
use Rattle.lif_outside.specs.Sequences.{Are}
use Rattle.lif_outside.specs.Told.{Told}
use Rattle.lif_outside.specs.ToldLaws.{becomes_weaker}
use Rattle.lif_outside.proofs.WriteLaws.{writes_of-done, writes_of-failed, writes_of-rose, writes_of-stopped, writes_of-unfailed}
use Rattle.lif_outside.specs.Writes.{paths_written, writes_of}
use Rattle.top_base.specs.Acting.{LeavesUnread, Runs}
use Rattle.top_base.proofs.ActingLaws.{ActsWell, acts_known, acts_used}
use Rattle.top_base.specs.Inputs.{HoldsInput, is_lost}
use Rattle.top_base.proofs.InputLaws.{IsInput}
use Rattle.top_base.proofs.LeavingLaws.{keep_files, none_keep, told_any}
use Rattle.top_base.specs.Making.{ChangesMaking, DueMaking, DueOf, LeavesMade, LeavesPart, OwedOf, RunsMaking, WorksWell, Writes, makes_by, makes_files, shares}
use Rattle.top_base.specs.Outcome.{AreAlike, fault_line, is_fault, is_of_inputs}
use Rattle.top_base.proofs.PathLaws.{clear_distinct}
use Rattle.top_base.specs.Paths.{shared_path}
use Rattle.top_base.specs.Performs.{LeavesAll}
use Rattle.top_base.proofs.PerformingLaws.{HaveFailedBy, IsKnown, at_once_known, inputs_faultless, none_failed-by}
use Rattle.top_base.specs.declared.outcome.Outcome.{Outcome}
use Rattle.top_base.specs.declared.status.Status.{Status}
use Rattle.top_base.specs.declared.status.Status.TheVariants.{Done, LinkFault, OutOfMemory, ReadFault, SamePath, Usage, WriteFault}

module _ {X : Type 0} (limit : ℕ) (Is : List ℕ → X → Type 0) (Refuses : List ℕ → Status → List ℕ → Type 0)
    (Makes : X → List Written → List ℕ → Type 0) (CanMake : X → List ℕ → Type 0) (Declines : X → Status → List ℕ → Type 0) (path : List ℕ) (outputs : List (List ℕ)) where
  -- What has to be known: what is made stands at the outputs and could be made, what is declined has a status of the inputs,
  -- which isn't that of a command that is done or of no command, and one status is due at most.
  pub record MakesWell : Type 0 where
    pub written : (x : X) (files : List Written) (line : List ℕ) → Makes x files line → paths_written files ≡ outputs
    pub can : (x : X) (files : List Written) (line : List ℕ) → Makes x files line → CanMake x line
    pub of_inputs : (x : X) (status : Status) (line : List ℕ) → Declines x status line → IsTrue (is_of_inputs status)
    pub undone : (x : X) (line : List ℕ) → Declines x Done line → ⊥
    pub used : (x : X) (line : List ℕ) → Declines x Usage line → ⊥
    pub alike : (x : X) (status : Status) (line : List ℕ) (status' : Status) (line' : List ℕ) → DueMaking limit Is Refuses Makes CanMake Declines x status line
        → DueMaking limit Is Refuses Makes CanMake Declines x status' line' → AreAlike status status'

  -- where a path is shared there is no call, and where none is the input is read first
  module _ {S : Type 0} {calls : List Event → S → S → Type 0} {a b : S} (outcome : Outcome) where
    pub runs_shared : (shared : List ℕ) → shared_path (path ∷ []) outputs ≡ Some shared → outcome ≡ shares shared → ByCalls calls a b (Are [])
        → ByCalls calls a b (λ events. (makes_files limit Is Refuses Makes CanMake Declines path outputs).runs outcome (store_calls events))
    runs_shared shared found is by =
        subst (λ found. ByCalls calls a b (λ events. (makes_by limit Is Refuses Makes CanMake Declines path outputs found).runs outcome (store_calls events))) (sym found)
        (calls_weaker (Are []) _ by (λ made none. (is, ap store_calls none)))

    pub runs_apart : shared_path (path ∷ []) outputs ≡ None → ByCalls calls a b (λ events. Runs limit Is Refuses (Writes limit Is Refuses Makes CanMake Declines) path outcome (store_calls events))
        → ByCalls calls a b (λ events. (makes_files limit Is Refuses Makes CanMake Declines path outputs).runs outcome (store_calls events))
    runs_apart apart by =
        subst (λ found. ByCalls calls a b (λ events. (makes_by limit Is Refuses Makes CanMake Declines path outputs found).runs outcome (store_calls events))) (sym apart) by

  module _ (well : MakesWell) where
    abbrev Of : X → Status → List ℕ → List Event → Type 0
    Of = RunsMaking limit Is Refuses Makes CanMake Declines

    due_of : (x : X) (status : Status) (line : List ℕ) (calls : List Event) → IsTrue (is_of_inputs status) → Of x status line calls → DueMaking limit Is Refuses Makes CanMake Declines x status line
    due_of x Done line calls inputs runs = well.can x runs.0 line runs.1
    due_of x WriteFault line calls inputs runs = absurd (false≢true inputs)
    due_of x OutOfMemory line calls inputs runs = absurd (false≢true inputs)
    due_of x status line calls inputs runs = runs.0

    causes : (x : X) (status : Status) (line : List ℕ) (calls : Calls) → Of x status line calls.on_store → calls.on_links ≡ [] → HaveFailedBy status calls
    causes x Done line calls runs none = record {
      on_store = subst (HaveFailed false false) (sym runs.2) (writes_of-unfailed runs.0);
      on_links = ap (list_any moves.is_fault) none;
    }
    causes x WriteFault line calls runs none = record { on_store = writes_of-failed runs.0 calls.on_store runs.3; on_links = ap (list_any moves.is_fault) none }
    causes x OutOfMemory line calls runs none = record { on_store = none_failed calls.on_store runs.0; on_links = ap (list_any moves.is_fault) none }
    causes x status line calls runs none =
        none_failed-by status calls (inputs_faultless status (well.of_inputs x status line runs.0))
        (ap (λ events. record { on_store = events; on_links = calls.on_links }) runs.1 ∙ ap (λ made. record { on_store = []; on_links = made }) none)

    line_of : (x : X) (status : Status) (line : List ℕ) (calls : List Event) → Of x status line calls → IsFalse (is_of_inputs status) → line ≡ fault_line status
    line_of x Done line calls runs not = absurd (false≢true (sym not))
    line_of x WriteFault line calls runs not = runs.4
    line_of x OutOfMemory line calls runs not = runs.1
    line_of x status line calls runs not = absurd (false≢true (sym not ∙ well.of_inputs x status line runs.0))

    used_of : (x : X) (status : Status) (line : List ℕ) (calls : List Event) → Of x status line calls → status ≢ Usage
    used_of x Usage line calls runs is = well.used x line runs.0
    used_of x status line calls runs is = cc

    -- where no path is shared, those that are written are distinct
    module _ (apart : shared_path (path ∷ []) outputs ≡ None) where
      distinct : (x : X) (files : List Written) (line : List ℕ) → Makes x files line → AreDistinct (paths_written files)
      distinct x files line made = subst AreDistinct (sym (well.written x files line made)) (clear_distinct (path ∷ []) outputs apart)

      module _ (x : X) (deeds : Deeds) (before after : Outside) (accounted : Accounted deeds before after) (held : Told before.files (λ files. HoldsInput limit Is Refuses (files path) (Ok x))) where
        left_made : (files : List Written) (line : List ℕ) → Makes x files line → Are (writes_of files) deeds.calls.on_store
            → LeavesMade limit Is Refuses Makes CanMake Declines path outputs line before after
        left_made files line made are = record {
          input = x;
          held = held;
          files = files;
          made = made;
          left = becomes_weaker accounted.files (λ old new follow. writes_of-done files old new (distinct x files line made) (subst (λ es. Follow es old new) are follow));
        }

        left_part : (files : List Written) (said : List ℕ) → Makes x files said → StopsWithin (writes_of files) deeds.calls.on_store
            → LeavesPart limit Is Refuses Makes CanMake Declines path outputs before after
        left_part files said made stop =
            let rose = writes_of-rose files deeds.calls.on_store deeds before after accounted (λ event there. there) stop in
            record {
              input = x;
              held = held;
              files = files;
              said = said;
              made = made;
              output = rose.0;
              is_output = subst (λ paths. Contains paths rose.0) (well.written x files said made) rose.1;
              rose = rose.2;
              left = becomes_weaker accounted.files (λ old new follow. writes_of-stopped files deeds.calls.on_store old new (distinct x files said made) stop follow);
            }

        left_all : deeds.calls.on_store ≡ [] → LeavesAll before after
        left_all none = keep_files before.files after.files deeds.calls.on_store (none_keep deeds.calls.on_store none) accounted.files

        changes : (status : Status) (line : List ℕ) → Of x status line deeds.calls.on_store → ChangesMaking limit Is Refuses Makes CanMake Declines path outputs status line before after
        changes Done line runs = left_made runs.0 line runs.1 runs.2
        changes WriteFault line runs = left_part runs.0 runs.1 runs.2 runs.3
        changes OutOfMemory line runs = left_all runs.0
        changes ReadFault line runs = absurd (false≢true (well.of_inputs x ReadFault line runs.0))
        changes LinkFault line runs = absurd (false≢true (well.of_inputs x LinkFault line runs.0))
        changes status line runs = left_all runs.1

      lost : (status : Status) (line : List ℕ) (before after : Outside) → IsTrue (is_lost status) → LeavesUnread path status before after
          → ChangesMaking limit Is Refuses Makes CanMake Declines path outputs status line before after
      lost Done line before after is left = absurd (false≢true is)
      lost WriteFault line before after is left = absurd left
      lost status line before after is left = left

      faultless : (status : Status) (line : List ℕ) (before after : Outside) → ChangesMaking limit Is Refuses Makes CanMake Declines path outputs status line before after
          → WorksWell limit Is Refuses Makes CanMake Declines path outputs before after → IsFalse (is_fault status)
      faultless ReadFault line before after change works = absurd (works.input_read change.1)
      faultless WriteFault line before after change works = absurd (works.outputs_written change.output change.is_output change.rose)
      faultless LinkFault line before after change works = absurd change
      faultless status line before after change works = refl

      makes_well : ActsWell limit Is Refuses path (Writes limit Is Refuses Makes CanMake Declines) (OwedOf limit Is Refuses Makes CanMake Declines)
          (DueOf limit Is Refuses Makes CanMake Declines)
          (λ outcome. ChangesMaking limit Is Refuses Makes CanMake Declines path outputs outcome.status outcome.line) (WorksWell limit Is Refuses Makes CanMake Declines path outputs)
      makes_well = record {
        changes = λ x outcome deeds before after accounted held runs. changes x deeds before after accounted held outcome.status outcome.line runs.0;
        due = λ x outcome deeds before after accounted runs inputs. told_any before.files (λ files. DueMaking limit Is Refuses Makes CanMake Declines x outcome.status outcome.line)
            (λ files. due_of x outcome.status outcome.line deeds.calls.on_store inputs runs.0);
        lines = λ x outcome calls runs not. line_of x outcome.status outcome.line calls.on_store runs.0 not;
        causes = λ x outcome calls runs. causes x outcome.status outcome.line calls runs.0 runs.1;
        used = λ x outcome calls runs. used_of x outcome.status outcome.line calls.on_store runs.0;
        alike = λ x files due owed is is_owed. well.alike x due.status due.line owed is_owed.0 is is_owed.1;
        lost = λ outcome before after. lost outcome.status outcome.line before after;
        faultless = λ outcome files before after told. faultless outcome.status outcome.line before after;
      }

    -- what has to be known of the command, where a path is shared and where none is
    known_by : (input : IsInput limit Is Refuses) (shared : Option (List ℕ)) → shared_path (path ∷ []) outputs ≡ shared → IsKnown (makes_by limit Is Refuses Makes CanMake Declines path outputs shared)
    known_by input (Some shared) is = at_once_known (shares shared) refl (λ not. absurd (false≢true (sym not)))
    known_by input None is = acts_known limit Is Refuses path _ _ _ _ _ input (makes_well is)

    used_by : (input : IsInput limit Is Refuses) (shared : Option (List ℕ)) → shared_path (path ∷ []) outputs ≡ shared → (outcome : Outcome) (calls : Calls)
        → (makes_by limit Is Refuses Makes CanMake Declines path outputs shared).runs outcome calls → outcome.status ≢ Usage
    used_by input (Some shared) is outcome calls runs usage = let both : SamePath ≡ Usage = sym (ap (λ (o : Outcome). o.status) runs.0) ∙ usage in cc
    used_by input None is outcome calls runs usage = acts_used limit Is Refuses path _ _ _ _ _ input (makes_well is) outcome calls runs usage

    pub makes_known : IsInput limit Is Refuses → IsKnown (makes_files limit Is Refuses Makes CanMake Declines path outputs)
    makes_known input = known_by input (shared_path (path ∷ []) outputs) refl

    pub makes_used : IsInput limit Is Refuses → (outcome : Outcome) (calls : Calls) → (makes_files limit Is Refuses Makes CanMake Declines path outputs).runs outcome calls → outcome.status ≢ Usage
    makes_used input = used_by input (shared_path (path ∷ []) outputs) refl
