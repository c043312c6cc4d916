-- What has to be known of a step of a command, and that it follows of a step from what is known of its rest.
use Rattle.std.specs.Prelude.{◌≡◌, ◌≢◌, ◌++◌, ℕ, List, Option, Some, Ok, Err, IsTrue, IsFalse}
use Rattle.std.proofs.Common.{refl, sym, ap, subst, ◌∙◌, inl, inr, ⊎_elim}
use Rattle.std.proofs.lemmas.Bool.{false≢true}
use Rattle.lif_outside.specs.Calls.{Calls, Deeds, Outside, store_calls}
use Rattle.lif_outside.specs.Events.{Event}
use Rattle.lif_outside.specs.Files.{Files}
use Rattle.lif_outside.specs.Told.{Told}
use Rattle.lif_outside.proofs.DeedLaws.{Accounted}
use Rattle.command_steps.specs.Steps.{DueBy, HasNoFault, IsOrForgets, OwedBy, RunsOrForgets, reads_then, refuses}
use Rattle.top_base.specs.Acting.{LeavesUnread}
use Rattle.top_base.specs.Inputs.{Reads}
use Rattle.top_base.specs.Outcome.{AreAlike, any_witness, fault_line, is_fault, is_of_inputs}
use Rattle.top_base.specs.Performs.{Behaviour, Decision, IsDueAsTold, IsOwed, by_files, by_words}
use Rattle.top_base.proofs.ActingLaws.{ActsWell, acts_known, acts_used, runs_only}
use Rattle.top_base.proofs.InputLaws.{IsInput, forgotten}
use Rattle.top_base.proofs.LeavingLaws.{keep_files, none_keep, told_any}
use Rattle.top_base.proofs.PerformingLaws.{AreAlikeDue, HaveFailedBy, IsKnown, inputs_faultless, none_failed-by}
use Rattle.top_base.specs.declared.outcome.Outcome.{Outcome}
use Rattle.top_base.specs.declared.status.Status.{Status}
use Rattle.top_base.specs.declared.status.Status.TheVariants.{LinkFault, OutOfMemory, ReadFault, Usage, WriteFault}

-- What has to be known of a step: what is known of a command, where no outcome of a fault comes by what is changed, and
-- that the words were a form.
pub record IsStep (does : Behaviour) : Type 0 where
  pub changes : (outcome : Outcome) (deeds : Deeds) (before after : Outside) → Accounted deeds before after → does.runs outcome deeds.calls → does.changes outcome before after
  pub due : (outcome : Outcome) (deeds : Deeds) (before after : Outside) → Accounted deeds before after → does.runs outcome deeds.calls → IsTrue (is_of_inputs outcome.status)
      → IsDueAsTold does.due before.files outcome
  pub lines : (outcome : Outcome) (calls : Calls) → does.runs outcome calls → IsFalse (is_of_inputs outcome.status) → outcome.line ≡ fault_line outcome.status
  pub causes : (outcome : Outcome) (calls : Calls) → does.runs outcome calls → HaveFailedBy outcome.status calls
  pub alike : AreAlikeDue does.due
  pub used : (outcome : Outcome) (calls : Calls) → does.runs outcome calls → outcome.status ≢ Usage
  pub faultless : (outcome : Outcome) (files : Files) (before after : Outside) → before.files ≡ Some files → does.changes outcome before after → does.no_fault before after → IsFalse (is_fault outcome.status)

-- ---- a step is a command

-- the files decide what is due
abbrev pub IsByFiles : Decision → Type 0
IsByFiles (by_words Owed Due) = ⊥
IsByFiles (by_files Owed Due) = Unit {0}

-- where a status is owed by the files, they are told
files_told : (decision : Decision) (told : Option Files) (owed : Status) → IsByFiles decision → IsOwed decision told owed → (files : Files) × (told ≡ Some files)
files_told (by_words Owed Due) told owed by is = absurd by
files_told (by_files Owed Due) told owed by is = (is.0, is.1)

pub step_known : (does : Behaviour) → IsStep does → IsByFiles does.due → IsKnown does
step_known does step by = record {
  changes = step.changes;
  due = step.due;
  lines = step.lines;
  causes = step.causes;
  alike = step.alike;
  faultless = λ owed outcome calls before after is_owed runs changed no_fault.
      let told = files_told does.due before.files owed by is_owed in
      step.faultless outcome told.0 before after told.1 changed no_fault;
}

-- ---- a refusal

module _ (expected : Outcome) (inputs : IsTrue (is_of_inputs expected.status)) where
  -- what holds of the outcome that is expected and of want of memory
  of_either : (P : Status → Type 0) (outcome : Outcome) → P expected.status → P OutOfMemory → IsOrForgets expected outcome → P outcome.status
  of_either P outcome one other is = ⊎_elim
      (λ same. subst (λ (o : Outcome). P o.status) (sym same) one)
      (λ lost. subst P (sym lost.status) other)
      is

  no_fault : (outcome : Outcome) → IsOrForgets expected outcome → IsFalse (is_fault outcome.status)
  no_fault outcome is = of_either (λ status. IsFalse (is_fault status)) outcome (inputs_faultless expected.status inputs) refl is

  due_refused : (outcome : Outcome) → IsOrForgets expected outcome → IsTrue (is_of_inputs outcome.status) → outcome ≡ expected
  due_refused outcome is of = ⊎_elim (λ same. same) (λ lost. absurd (false≢true (subst (λ status. IsTrue (is_of_inputs status)) lost.status of))) is

  line_refused : (outcome : Outcome) → IsOrForgets expected outcome → IsFalse (is_of_inputs outcome.status) → outcome.line ≡ fault_line outcome.status
  line_refused outcome is not = ⊎_elim
      (λ same. absurd (false≢true (sym (subst (λ (o : Outcome). IsFalse (is_of_inputs o.status)) same not) ∙ inputs)))
      (λ lost. lost.line ∙ ap fault_line (sym lost.status))
      is

  pub refuses_step : expected.status ≢ Usage → IsStep (refuses expected)
  refuses_step used = record {
    changes = λ outcome deeds before after accounted runs.
        (runs.0, keep_files before.files after.files deeds.calls.on_store (none_keep deeds.calls.on_store (ap (λ (c : Calls). c.on_store) runs.1)) accounted.files);
    due = λ outcome deeds before after accounted runs of. due_refused outcome runs.0 of;
    lines = λ outcome calls runs not. line_refused outcome runs.0 not;
    causes = λ outcome calls runs. none_failed-by outcome.status calls (no_fault outcome runs.0) runs.1;
    alike = λ due owed is is_owed. ap (λ (o : Outcome). any_witness o.status) is ∙ sym (ap any_witness is_owed);
    used = λ outcome calls runs. of_either (λ status. status ≢ Usage) outcome used (λ is. cc) runs.0;
    faultless = λ outcome files before after told changed well. no_fault outcome changed.0;
  }

-- ---- an input that is read, and its rest

-- what is due where files are told or not, as files
due_told : (decision : Decision) (told : Option Files) (outcome : Outcome) → IsDueAsTold decision told outcome → Told told (λ files. DueBy decision files outcome)
due_told (by_words Owed Due) told outcome is = told_any told (λ files. Due outcome) (λ files. is)
due_told (by_files Owed Due) told outcome is = is

alike_by : (decision : Decision) (files : Files) (due : Outcome) (owed : Status) → AreAlikeDue decision → DueBy decision files due → OwedBy decision files owed → AreAlike due.status owed
alike_by (by_words Owed Due) files due owed alike is is_owed = alike due owed is is_owed
alike_by (by_files Owed Due) files due owed alike is is_owed = alike files due owed is is_owed

module _ {X : Type 0} (limit : ℕ) (Is : List ℕ → X → Type 0) (Refuses : List ℕ → Status → List ℕ → Type 0) (path : List ℕ) (rest : X → Behaviour) where
  -- an input that couldn't be had has no status of a fault, where the count of its path didn't rise
  faultless_unread : (status : Status) (before after : Outside) → LeavesUnread path status before after → HasNoFault limit Is Refuses path rest before after → IsFalse (is_fault status)
  faultless_unread ReadFault before after left well = absurd (well.input left.1)
  faultless_unread WriteFault before after left well = absurd left
  faultless_unread LinkFault before after left well = absurd left
  faultless_unread status before after left well = refl

  rest_well : ((x : X) → IsStep (rest x))
      → ActsWell limit Is Refuses path (λ x. (rest x).runs) (λ x. OwedBy (rest x).due) (λ x. DueBy (rest x).due) (reads_then limit Is Refuses path rest).changes (HasNoFault limit Is Refuses path rest)
  rest_well steps = record {
    changes = λ x outcome deeds before after accounted held runs. inl (record { input = x; held = held; changed = (steps x).changes outcome deeds before after accounted runs });
    due = λ x outcome deeds before after accounted runs inputs. due_told (rest x).due before.files outcome ((steps x).due outcome deeds before after accounted runs inputs);
    lines = λ x. (steps x).lines;
    causes = λ x. (steps x).causes;
    used = λ x. (steps x).used;
    alike = λ x files due owed is is_owed. alike_by (rest x).due files due owed (steps x).alike is is_owed;
    lost = λ outcome before after is left. inr (record { lost = is; unread = left });
    faultless = λ outcome files before after told changed well. ⊎_elim
        (λ had. (steps had.input).faultless outcome files before after told had.changed (well.others had.input had.held))
        (λ none. faultless_unread outcome.status before after none.unread well)
        changed;
  }

  pub reads_then_step : IsInput limit Is Refuses → ((x : X) → IsStep (rest x)) → IsStep (reads_then limit Is Refuses path rest)
  reads_then_step input steps =
      let well = rest_well steps in
      let known = acts_known limit Is Refuses path (λ x. (rest x).runs) (λ x. OwedBy (rest x).due) (λ x. DueBy (rest x).due) (reads_then limit Is Refuses path rest).changes (HasNoFault limit Is Refuses path rest) input well in
      record {
        changes = known.changes;
        due = known.due;
        lines = known.lines;
        causes = known.causes;
        alike = known.alike;
        used = acts_used limit Is Refuses path (λ x. (rest x).runs) (λ x. OwedBy (rest x).due) (λ x. DueBy (rest x).due) (reads_then limit Is Refuses path rest).changes (HasNoFault limit Is Refuses path rest) input well;
        faultless = well.faultless;
      }

  -- ---- the calls

  -- the input was had, and then came those of its rest, or there was no memory for it
  pub reads_then_had : (x : X) (outcome : Outcome) (first later : List Event) → Reads limit Is Refuses path (Ok x) first → RunsOrForgets (rest x) outcome later
      → (reads_then limit Is Refuses path rest).runs outcome (store_calls (first ++ later))
  reads_then_had x outcome first later reads (inl runs) = (Ok x, record { first = first; later = later; events_are = refl; holds_first = reads; holds_later = runs })
  reads_then_had x outcome first later reads (inr none) = (
    Err outcome,
    record {
      first = first;
      later = later;
      events_are = refl;
      holds_first = forgotten limit Is Refuses path x first outcome reads none.0;
      holds_later = (refl, ap store_calls none.1);
    },
  )

  -- or it couldn't be had
  pub reads_then_lost : (outcome : Outcome) (calls : List Event) → Reads limit Is Refuses path (Err outcome) calls → (reads_then limit Is Refuses path rest).runs outcome (store_calls calls)
  reads_then_lost outcome calls reads = runs_only limit Is Refuses path (λ x. (rest x).runs) (Err outcome) outcome calls reads (refl, refl)
