-- What has to be known of a command that reads one input and says what it finds.
use Rattle.std.specs.Prelude.{◌≢◌, ◌⊎◌, ℕ, List, Ok, Err, IsTrue, IsFalse}
use Rattle.std.proofs.Common.{refl, sym, ap, ◌∙◌, ⊎_elim}
use Rattle.std.proofs.lemmas.Bool.{false≢true}
use Rattle.lif_outside.proofs.CallLaws.{calls_weaker}
use Rattle.lif_outside.specs.Calls.{ByCalls, Calls, Outside, store_calls}
use Rattle.lif_outside.specs.Events.{Event}
use Rattle.top_base.specs.Acting.{LeavesUnread}
use Rattle.top_base.proofs.ActingLaws.{ActsWell, acts_known, acts_used, runs_lost, runs_only}
use Rattle.top_base.specs.Inputs.{IsNoMemory, Reads}
use Rattle.top_base.proofs.InputLaws.{IsInput, forgotten}
use Rattle.top_base.specs.Inspecting.{Finds, ReadsWell, inspects}
use Rattle.top_base.proofs.LeavingLaws.{keep_files, none_keep, told_any}
use Rattle.top_base.specs.Outcome.{AreAlike, is_fault, is_of_inputs}
use Rattle.top_base.specs.Performs.{LeavesAll}
use Rattle.top_base.proofs.PerformingLaws.{IsKnown, inputs_faultless, none_failed-by}
use Rattle.top_base.specs.declared.outcome.Outcome.{Outcome}
use Rattle.top_base.specs.declared.status.Status.{Status}
use Rattle.top_base.specs.declared.status.Status.TheVariants.{LinkFault, ReadFault, Usage, WriteFault}

-- where no file is changed, and the status comes of the inputs
unchanged : (path : List ℕ) (status : Status) (before after : Outside) → IsTrue (is_of_inputs status) → LeavesAll before after → LeavesUnread path status before after
unchanged path ReadFault before after inputs all = absurd (false≢true inputs)
unchanged path WriteFault before after inputs all = absurd (false≢true inputs)
unchanged path LinkFault before after inputs all = absurd (false≢true inputs)
unchanged path status before after inputs all = all

faultless : (path : List ℕ) (status : Status) (before after : Outside) → LeavesUnread path status before after → ReadsWell path before after → IsFalse (is_fault status)
faultless path ReadFault before after left well = absurd (well left.1)
faultless path WriteFault before after left well = absurd left
faultless path LinkFault before after left well = absurd left
faultless path status before after left well = refl

module _ {X : Type 0} (limit : ℕ) (Is : List ℕ → X → Type 0) (Refuses : List ℕ → Status → List ℕ → Type 0) (Ends : X → Outcome → Type 0) (Owes : X → Status → Type 0) where
  -- the calls of such a command, where the input was had: it finds something, or there is no memory; and where it wasn't had
  module _ {S : Type 0} {calls : List Event → S → S → Type 0} {a b : S} (path : List ℕ) where
    pub inspects_had : (x : X) (outcome : Outcome) → ByCalls calls a b (Reads limit Is Refuses path (Ok x)) → Ends x outcome ⊎ IsNoMemory outcome
        → ByCalls calls a b (λ events. (inspects limit Is Refuses Ends Owes path).runs outcome (store_calls events))
    inspects_had x outcome by found =
        let only = runs_only limit Is Refuses path (Finds limit Is Refuses Ends Owes) in
        calls_weaker _ _ by (λ made reads. ⊎_elim
        (λ ends. only (Ok x) outcome made reads (ends, refl))
        (λ lost. only (Err outcome) outcome made (forgotten limit Is Refuses path x made outcome reads lost) (refl, refl))
        found)

    pub inspects_lost : (outcome : Outcome) → ByCalls calls a b (Reads limit Is Refuses path (Err outcome)) → ByCalls calls a b (λ events. (inspects limit Is Refuses Ends Owes path).runs outcome (store_calls events))
    inspects_lost outcome by = runs_lost limit Is Refuses path (Finds limit Is Refuses Ends Owes) outcome by

  -- what has to be known of its outcomes: the status comes of the inputs, the words were a form, and it is the one that is owed
  pub record EndsWell : Type 0 where
    pub of_inputs : (x : X) (outcome : Outcome) → Ends x outcome → IsTrue (is_of_inputs outcome.status)
    pub used : (x : X) (outcome : Outcome) → Ends x outcome → outcome.status ≢ Usage
    pub alike : (x : X) (outcome : Outcome) (owed : Status) → Ends x outcome → Owes x owed → AreAlike outcome.status owed

  module _ (input : IsInput limit Is Refuses) (well : EndsWell) (path : List ℕ) where
    finds_well : ActsWell limit Is Refuses path (Finds limit Is Refuses Ends Owes) (λ x files. Owes x) (λ x files. Ends x) (λ outcome. LeavesUnread path outcome.status) (ReadsWell path)
    finds_well = record {
      changes = λ x outcome deeds before after accounted held runs.
          unchanged path outcome.status before after (well.of_inputs x outcome runs.0)
          (keep_files before.files after.files deeds.calls.on_store (none_keep deeds.calls.on_store (ap (λ (c : Calls). c.on_store) runs.1)) accounted.files);
      due = λ x outcome deeds before after accounted runs inputs. told_any before.files (λ files. Ends x outcome) (λ files. runs.0);
      lines = λ x outcome calls runs not. absurd (false≢true (sym not ∙ well.of_inputs x outcome runs.0));
      causes = λ x outcome calls runs. none_failed-by outcome.status calls (inputs_faultless outcome.status (well.of_inputs x outcome runs.0)) runs.1;
      used = λ x outcome calls runs. well.used x outcome runs.0;
      alike = λ x files. well.alike x;
      lost = λ outcome before after lost left. left;
      faultless = λ outcome files before after told left no_fault. faultless path outcome.status before after left no_fault;
    }

    -- what has to be known of the command
    pub inspects_known : IsKnown (inspects limit Is Refuses Ends Owes path)
    inspects_known = acts_known limit Is Refuses path _ _ _ _ _ input finds_well

    -- the words were a form
    pub inspects_used : (outcome : Outcome) (calls : Calls) → (inspects limit Is Refuses Ends Owes path).runs outcome calls → outcome.status ≢ Usage
    inspects_used = acts_used limit Is Refuses path _ _ _ _ _ input finds_well
