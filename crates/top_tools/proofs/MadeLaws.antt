-- A code of a network, as it is written.
use Rattle.std.specs.Prelude.{◌≡◌, ◌*◌, ℕ, List, length}
use Rattle.std.proofs.Common.{ap, ◌∙◌}
use Rattle.std.proofs.lemmas.List.{length-map}
use Rattle.net_model.specs.Demands.{demand_count}
use Rattle.net_model.specs.Renumbering.{IsRenumbered, renumbered_pattern}
use Rattle.net_model.specs.declared.net.FieldChoice.{FieldChoice}
use Rattle.net_model.specs.declared.net.Net.{Net}

-- a network in a new order has as many demands
pub same_count : (order : List ℕ) (choice : FieldChoice) (old new : Net) → IsRenumbered order choice old new → demand_count new ≡ demand_count old
same_count order choice old new is =
    ap (λ (sinks : List ℕ). length sinks * length new.patterns) is.sinks
    ∙ ap (λ n. length old.sinks * n) (ap length is.patterns ∙ length-map old.patterns (renumbered_pattern order))
