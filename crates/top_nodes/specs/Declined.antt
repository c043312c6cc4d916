-- What words decline beside an accepted code: a pattern or a node of no such name, or a path that is shared.
use Rattle.std.specs.Prelude.{ℕ, List, ◌∷◌, Option, None, Some}
use Rattle.std.specs.Option.{option_map}
use Rattle.top_base.specs.Lines.{unknown_node_line, unknown_pattern_line}
use Rattle.top_base.specs.Making.{shares}
use Rattle.top_base.specs.Paths.{shared_path}
use Rattle.top_base.specs.Words.{AtNode}
use Rattle.top_base.specs.declared.outcome.Outcome.{Outcome}
use Rattle.top_base.specs.declared.status.Status.TheVariants.{UnknownNode, UnknownPattern}

abbrev pub unknown_pattern : AtNode → Outcome
unknown_pattern given = record { status = UnknownPattern; line = unknown_pattern_line given.pattern }

abbrev pub unknown_node : AtNode → Outcome
unknown_node given = record { status = UnknownNode; line = unknown_node_line given.node }

-- The first that is declined, by the number of the pattern and that of the node, where there are some, and by the paths that are read
-- beside the code's and those that are written.
abbrev pub declined : AtNode → Option ℕ → Option ℕ → List (List ℕ) → List (List ℕ) → Option Outcome
declined given None place inputs outputs = Some (unknown_pattern given)
declined given (Some pattern) None inputs outputs = Some (unknown_node given)
declined given (Some pattern) (Some place) inputs outputs = option_map shares (shared_path (given.code ∷ inputs) outputs)
