-- Which links of a network are live, by a table of those that fail.
use Rattle.std.specs.Prelude.{◌≡◌, ℕ, ◌<◌, Bool, false, not, ◌&&◌, ◌||◌, List, slice_index_or}
use Rattle.std.specs.List.{list_any}
use Rattle.net_model.specs.Lists.{is_among}
use Rattle.net_model.specs.Walks.{leaves_source}
use Rattle.net_model.specs.declared.net.Net.{Net}
use Rattle.node_program.specs.Value.{operands_at}
use Rattle.node_program.specs.declared.Operand.{Operand}

-- for each of so many links, whether it is among those that fail
pub record IsFailTable (failed : List ℕ) (links : ℕ) (fails : List Bool) : Type 0 where
  pub link : (e : ℕ) → e < links → slice_index_or fails e false ≡ is_among failed e

-- whether an operand of a link is a source row or a live link, by which of the links before are live
abbrev pub reads_before : Net → List Bool → ℕ → Operand → Bool
reads_before net before link operand = leaves_source net link || slice_index_or before operand.from false

-- whether a link is live, by whether it fails and by which of the links before are live
abbrev pub live_by : Net → List (List Operand) → Bool → List Bool → ℕ → Bool
live_by net operands fails before link = not fails && list_any (reads_before net before link) (operands_at operands link)
