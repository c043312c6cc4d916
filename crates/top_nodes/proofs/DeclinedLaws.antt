-- What words decline.
use Rattle.std.specs.Prelude.{◌≡◌, ◌∷◌, ℕ, List, Option, None, Some}
use Rattle.std.specs.Option.{IfSome}
use Rattle.std.proofs.Common.{refl}
use Rattle.command_steps.proofs.RefusalLaws.{IsRefusal, shares_none, shares_refuses}
use Rattle.top_base.specs.Paths.{shared_path}
use Rattle.top_base.specs.Words.{AtNode}
use Rattle.top_nodes.specs.Declined.{declined}

pub declined_refuses : (given : AtNode) (pattern place : Option ℕ) (inputs outputs : List (List ℕ)) → IfSome (declined given pattern place inputs outputs) IsRefusal
declined_refuses given None place inputs outputs = record { inputs = refl; used = λ is. cc }
declined_refuses given (Some pattern) None inputs outputs = record { inputs = refl; used = λ is. cc }
declined_refuses given (Some pattern) (Some place) inputs outputs = shares_refuses (shared_path (given.code ∷ inputs) outputs)

-- where none are declined, no output's path is shared
pub declined_clear : (given : AtNode) (pattern place : Option ℕ) (inputs outputs : List (List ℕ)) → declined given pattern place inputs outputs ≡ None → shared_path (given.code ∷ inputs) outputs ≡ None
declined_clear given None place inputs outputs none = absurd (cc)
declined_clear given (Some pattern) None inputs outputs none = absurd (cc)
declined_clear given (Some pattern) (Some place) inputs outputs none = shares_none (shared_path (given.code ∷ inputs) outputs) none

-- and then the words name a pattern and a node
pub declined_named : (given : AtNode) (pattern place : Option ℕ) (inputs outputs : List (List ℕ)) → declined given pattern place inputs outputs ≡ None
    → (number node : ℕ) × (pattern ≡ Some number) × (place ≡ Some node)
declined_named given None place inputs outputs none = absurd (cc)
declined_named given (Some pattern) None inputs outputs none = absurd (cc)
declined_named given (Some pattern) (Some place) inputs outputs none = (pattern, place, refl, refl)
