-- What has to be known of the command `finish`.
use Rattle.std.specs.Prelude.{◌≡◌, ◌≢◌, ◌≤◌, ◌∷◌, ℕ, IsTrue, List, [], length}
use Rattle.std.proofs.Common.{refl, ap, subst, arith, inl, inr}
use Rattle.std.proofs.lemmas.Bool.{cases_order}
use Rattle.code_file.specs.Drafts.{IsDraftFileOf}
use Rattle.code_file.specs.Limits.{code_limit}
use Rattle.code_file.specs.declared.draft.Draft.{Draft}
use Rattle.code_finish.proofs.OnceLaws.{confused_undecided, finished_decode, same_bytes}
use Rattle.code_finish.specs.Finished.{IsUnfinished}
use Rattle.code_finish.specs.declared.finishing.FinishWhy.TheVariants.{Confused}
use Rattle.lif_outside.specs.Calls.{Calls}
use Rattle.lif_outside.specs.FileCalls.{Written}
use Rattle.lif_outside.specs.Writes.{paths_written}
use Rattle.top_base.proofs.DraftFileLaws.{draft_input}
use Rattle.top_base.proofs.MakingLaws.{MakesWell, makes_known, makes_used}
use Rattle.top_base.proofs.PerformingLaws.{IsKnown}
use Rattle.top_base.specs.DraftFiles.{RefusesDraft}
use Rattle.top_base.specs.Making.{DueMaking}
use Rattle.top_base.specs.Outcome.{AreAlike, is_of_inputs}
use Rattle.top_base.specs.Words.{Finish}
use Rattle.top_base.specs.declared.outcome.Outcome.{Outcome}
use Rattle.top_base.specs.declared.status.Status.{Status}
use Rattle.top_base.specs.declared.status.Status.TheVariants.{Done, NotDecoding, TooLong, Usage}
use Rattle.top_tools.specs.Finish.{CanFinish, DeclinesDraft, IsMadeOf, finish_command}

module _ (given : Finish) where
  -- a draft whose code was written can be finished
  can : (draft : Draft) (files : List Written) (line : List ℕ) → IsMadeOf given draft files line → CanFinish draft line
  can draft files line made = record {
    decode = finished_decode draft made.code made.finished;
    within = λ code finished. subst (λ bytes. length bytes ≤ code_limit) (same_bytes draft made.code code made.finished finished) made.written.within;
    line_is = made.written.line_is;
  }

  of_inputs : (draft : Draft) (status : Status) (line : List ℕ) → DeclinesDraft draft status line → IsTrue (is_of_inputs status)
  of_inputs draft (NotDecoding demand block) line declined = refl
  of_inputs draft TooLong line declined = refl
  of_inputs draft status line declined = absurd declined

  -- the first demand that doesn't decode is one
  same_demand : (draft : Draft) (demand other : ℕ) (block shown : List ℕ) → IsUnfinished draft (Confused demand block) → IsUnfinished draft (Confused other shown) → demand ≡ other
  same_demand draft demand other block shown is is_other = elim (cases_order demand other) [
    | inl same ↦ same
    | inr (inl before) ↦ absurd (confused_undecided draft demand block is.shown (is_other.before demand (omega arith) before))
    | inr (inr after) ↦ absurd (confused_undecided draft other shown is_other.shown (is.before other (omega arith) after))
  ]

  -- one status is due, whichever block is shown
  due_once : (draft : Draft) (status : Status) (line : List ℕ) (status' : Status) (line' : List ℕ)
      → DueMaking code_limit IsDraftFileOf RefusesDraft (IsMadeOf given) CanFinish DeclinesDraft draft status line
      → DueMaking code_limit IsDraftFileOf RefusesDraft (IsMadeOf given) CanFinish DeclinesDraft draft status' line' → AreAlike status status'
  due_once draft Done line Done line' one other = refl
  due_once draft Done line (NotDecoding demand block) line' one other = absurd (confused_undecided draft demand block other.0.shown (one.decode demand other.0.within))
  due_once draft Done line TooLong line' one other = absurd (omega (arith, one.within other.0 other.1, other.2))
  due_once draft Done line status' line' one other = absurd other
  due_once draft (NotDecoding demand block) line Done line' one other = absurd (confused_undecided draft demand block one.0.shown (other.decode demand one.0.within))
  due_once draft (NotDecoding demand block) line (NotDecoding demand' block') line' one other = ap (λ n. NotDecoding n []) (same_demand draft demand demand' block block' one.0 other.0)
  due_once draft (NotDecoding demand block) line TooLong line' one other = absurd (confused_undecided draft demand block one.0.shown (finished_decode draft other.0 other.1 demand one.0.within))
  due_once draft (NotDecoding demand block) line status' line' one other = absurd other
  due_once draft TooLong line Done line' one other = absurd (omega (arith, other.within one.0 one.1, one.2))
  due_once draft TooLong line (NotDecoding demand block) line' one other = absurd (confused_undecided draft demand block other.0.shown (finished_decode draft one.0 one.1 demand other.0.within))
  due_once draft TooLong line TooLong line' one other = refl
  due_once draft TooLong line status' line' one other = absurd other
  due_once draft status line status' line' one other = absurd one

  finishes_well : MakesWell code_limit IsDraftFileOf RefusesDraft (IsMadeOf given) CanFinish DeclinesDraft given.draft (given.code ∷ [])
  finishes_well = record {
    written = λ draft files line made. ap paths_written made.written.files_are;
    can = can;
    of_inputs = of_inputs;
    undone = λ draft line declined. declined;
    used = λ draft line declined. declined;
    alike = due_once;
  }

  pub finish_known : IsKnown (finish_command given)
  finish_known = makes_known code_limit IsDraftFileOf RefusesDraft (IsMadeOf given) CanFinish DeclinesDraft given.draft (given.code ∷ []) finishes_well draft_input

  pub finish_used : (outcome : Outcome) (calls : Calls) → (finish_command given).runs outcome calls → outcome.status ≢ Usage
  finish_used = makes_used code_limit IsDraftFileOf RefusesDraft (IsMadeOf given) CanFinish DeclinesDraft given.draft (given.code ∷ []) finishes_well draft_input
