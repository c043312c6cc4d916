-- Inputs of a list, read in order within what is left of one limit, each tried as it came.
use Rattle.std.specs.Prelude.{◌≡◌, ◌⊎◌, ◌-◌, ℕ, List, [], ◌∷◌, length, Option, None, Some, Err}
use Rattle.lif_outside.specs.Events.{Event}
use Rattle.lif_outside.specs.FileCalls.{ReadsWhole}
use Rattle.lif_outside.specs.Sequences.{Then}
use Rattle.command_steps.specs.Steps.{reads_then}
use Rattle.top_base.specs.Inputs.{Reads}
use Rattle.top_base.specs.Performs.{Behaviour}
use Rattle.top_base.specs.declared.outcome.Outcome.{Outcome}
use Rattle.top_base.specs.declared.status.Status.{Status}

-- a file that is wanted: its path, and what its bytes are refused with, if they are
pub record Wanted : Type 0 where
  pub path : List ℕ
  pub refusal : List ℕ → Option Outcome

-- bytes that aren't refused are the input, and others are refused so
pub record IsTaken (wanted : Wanted) (bytes taken : List ℕ) : Type 0 where
  pub same : taken ≡ bytes
  pub good : wanted.refusal bytes ≡ None

abbrev pub RefusesBytes : Wanted → List ℕ → Status → List ℕ → Type 0
RefusesBytes wanted bytes status line = wanted.refusal bytes ≡ Some (record { status = status; line = line })

-- All are read, and the rest goes by their bytes.
abbrev pub reads_each : ℕ → List Wanted → (List (List ℕ) → Behaviour) → Behaviour
reads_each limit [] rest = rest []
reads_each limit (wanted ∷ more) rest =
    reads_then limit (IsTaken wanted) (RefusesBytes wanted) wanted.path
    (λ bytes. reads_each (limit - length bytes) more (λ others. rest (bytes ∷ others)))

-- the calls by which all were read, and gave these bytes
abbrev pub ReadsAll : ℕ → List Wanted → List (List ℕ) → List Event → Type 0
ReadsAll limit [] [] calls = calls ≡ []
ReadsAll limit (wanted ∷ more) (bytes ∷ others) calls =
    (wanted.refusal bytes ≡ None) × Then (ReadsWhole wanted.path limit bytes) (ReadsAll (limit - length bytes) more others) calls
ReadsAll limit wanted bytes calls = ⊥

-- and those by which one couldn't be had, which makes this the outcome: it, or one behind it
abbrev pub LosesOne : ℕ → List Wanted → Outcome → List Event → Type 0
LosesOne limit [] outcome calls = ⊥
LosesOne limit (wanted ∷ more) outcome calls =
    Reads limit (IsTaken wanted) (RefusesBytes wanted) wanted.path (Err outcome) calls
    ⊎ ((bytes : List ℕ) × (wanted.refusal bytes ≡ None) × Then (ReadsWhole wanted.path limit bytes) (LosesOne (limit - length bytes) more outcome) calls)
