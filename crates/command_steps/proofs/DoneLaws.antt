-- What follows of a command's promise where it owes to be done: it is, or there was no memory.
use Rattle.std.specs.Prelude.{◌≡◌, ◌≢◌, Option, None, Some}
use Rattle.std.proofs.Common.{refl, sym, ◌∙◌, inl, inr, ⊎_elim}
use Rattle.command_steps.specs.Steps.{Comes, OwedBy}
use Rattle.lif_outside.specs.Calls.{Outside}
use Rattle.lif_outside.specs.Files.{Files}
use Rattle.lif_outside.specs.Told.{Becomes, Told}
use Rattle.top_base.proofs.PerformingLaws.{done_alike}
use Rattle.top_base.specs.Outcome.{AddsOutcome, status_unsaid}
use Rattle.top_base.specs.Performs.{Answers, Behaviour, Decision, IsOwed, by_files, by_words}
use Rattle.top_base.specs.declared.outcome.Outcome.{Outcome}
use Rattle.top_base.specs.declared.status.Status.{Status}
use Rattle.top_base.specs.declared.status.Status.TheVariants.{Done}

-- ---- a command that owes to be done

owed_as_told : (decision : Decision) (told : Option Files) (files : Files) (owed : Status) → told ≡ Some files → OwedBy decision files owed → IsOwed decision told owed
owed_as_told (by_words Owed Due) told files owed is due = due
owed_as_told (by_files Owed Due) told files owed is due = (files, is, due)

pub owed_comes : (does : Behaviour) (status : Status) (before after : Outside) (files : Files) → before.files ≡ Some files → OwedBy does.due files Done → Answers does status before after
    → Comes does status before after
owed_comes does status before after files told owed answers no_fault well =
    ⊎_elim (λ alike. inl (done_alike status alike)) inr (answers Done (owed_as_told does.due before.files files Done told owed) no_fault (λ done. well))

-- ---- a command that is done

-- a line that couldn't be said leaves none that is
unsaid_undone : (status : Status) → status_unsaid status ≢ Done
unsaid_undone Done is = cc
unsaid_undone status is = cc

pub done_outcome : (outcome : Outcome) (status : Status) (before after : Outside) → status ≡ Done → AddsOutcome outcome status before after → outcome.status ≡ Done
done_outcome outcome status before after done says =
    ⊎_elim (λ all. sym all.0 ∙ done) (λ part. absurd (unsaid_undone outcome.status (sym part.0 ∙ done))) says

-- what is left of files that were told
pub left_told : {X : Type 0} (before after : Option X) (old : X) (R : X → X → Type 0) (P : X → Type 0) → before ≡ Some old → Becomes before after R → ((new : X) → R old new → P new) → Told after P
left_told before None old R P told becomes from = tt
left_told before (Some new) old R P told becomes from = from new (becomes.related old new told refl)
