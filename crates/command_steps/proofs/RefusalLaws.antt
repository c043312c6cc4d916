-- What has to be known of a refusal, or of the rest where there is none, and of a path that is shared.
use Rattle.std.specs.Prelude.{◌≡◌, ◌≢◌, ℕ, List, [], Option, None, Some, IsTrue}
use Rattle.std.specs.Option.{IfSome, option_map, option_or}
use Rattle.std.proofs.Common.{refl, ap, subst, inl}
use Rattle.lif_outside.specs.Calls.{Outside, store_calls}
use Rattle.lif_outside.specs.Events.{Event}
use Rattle.lif_outside.specs.Files.{Files}
use Rattle.command_steps.proofs.StepLaws.{IsStep, refuses_step}
use Rattle.command_steps.specs.Steps.{IsOrForgets, OwedBy, RunsOrForgets, or_refuses}
use Rattle.top_base.specs.Making.{shares}
use Rattle.top_base.specs.Outcome.{is_of_inputs}
use Rattle.top_base.specs.Performs.{Behaviour}
use Rattle.top_base.specs.declared.outcome.Outcome.{Outcome}
use Rattle.top_base.specs.declared.status.Status.{Status}
use Rattle.top_base.specs.declared.status.Status.TheVariants.{Usage}

-- The outcome of a refusal: its status comes of what the inputs are alone, and the words were a form.
pub record IsRefusal (outcome : Outcome) : Type 0 where
  pub inputs : IsTrue (is_of_inputs outcome.status)
  pub used : outcome.status ≢ Usage

-- one refusal, or else another
pub either_refuses : (one other : Option Outcome) → IfSome one IsRefusal → IfSome other IsRefusal → IfSome (option_or one other) IsRefusal
either_refuses (Some refused) other is is_other = is
either_refuses None other is is_other = is_other

-- ---- a refusal, or the rest

pub or_refuses_step : (refusal : Option Outcome) (rest : Behaviour) → IfSome refusal IsRefusal → (refusal ≡ None → IsStep rest) → IsStep (or_refuses refusal rest)
or_refuses_step (Some refused) rest is step = refuses_step refused is.inputs is.used
or_refuses_step None rest is step = step refl

-- the calls of the rest, where there is no refusal
pub or_refuses_none : (refusal : Option Outcome) (rest : Behaviour) (outcome : Outcome) (events : List Event) → refusal ≡ None → RunsOrForgets rest outcome events
    → RunsOrForgets (or_refuses refusal rest) outcome events
or_refuses_none (Some refused) rest outcome events none runs = absurd (cc)
or_refuses_none None rest outcome events none runs = runs

-- and those of a refusal: there are none
pub or_refuses_some : (refusal : Option Outcome) (rest : Behaviour) (refused outcome : Outcome) (events : List Event) → refusal ≡ Some refused → IsOrForgets refused outcome → events ≡ []
    → RunsOrForgets (or_refuses refusal rest) outcome events
or_refuses_some (Some other) rest refused outcome events some is none =
    let same : refused ≡ other = cc in
    inl (subst (λ one. IsOrForgets one outcome) same is, ap store_calls none)
or_refuses_some None rest refused outcome events some is none = absurd (cc)

-- what the rest owes and changes, where there is no refusal
pub or_owed : (refusal : Option Outcome) (rest : Behaviour) (files : Files) (owed : Status) → refusal ≡ None → OwedBy rest.due files owed → OwedBy (or_refuses refusal rest).due files owed
or_owed (Some refused) rest files owed none is = absurd (cc)
or_owed None rest files owed none is = is

pub or_changes : (refusal : Option Outcome) (rest : Behaviour) (outcome : Outcome) (before after : Outside) → refusal ≡ None → (or_refuses refusal rest).changes outcome before after
    → rest.changes outcome before after
or_changes (Some refused) rest outcome before after none changes = absurd (cc)
or_changes None rest outcome before after none changes = changes

-- ---- a path that is shared

pub shares_refuses : (shared : Option (List ℕ)) → IfSome (option_map shares shared) IsRefusal
shares_refuses (Some path) = record { inputs = refl; used = λ is. cc }
shares_refuses None = tt

pub shares_none : (shared : Option (List ℕ)) → option_map shares shared ≡ None → shared ≡ None
shares_none (Some path) none = absurd (cc)
shares_none None none = refl
