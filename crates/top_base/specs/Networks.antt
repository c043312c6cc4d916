-- A network that is read from its text and has no cycle, as every command needs that is given one.
use Rattle.std.specs.Prelude.{◌≡◌, ◌⊎◌, ℕ, List, Option, Result, Ok, Err}
use Rattle.lif_outside.specs.Events.{Event}
use Rattle.net_model.specs.Walks.{IsAcyclic}
use Rattle.net_model.specs.declared.net.Net.{Net}
use Rattle.net_reader.specs.Text.{net_limit, network_of, parts_of}
use Rattle.topo_order.specs.Order.{IsShownCycle}
use Rattle.top_base.specs.Inputs.{HoldsInput, IsNoMemory, Reads}
use Rattle.top_base.specs.Lines.{cycle_line, net_refused_line, refused_name}
use Rattle.top_base.specs.declared.outcome.Outcome.{Outcome}
use Rattle.top_base.specs.declared.status.NetWhy.TheVariants.{Text, Cycle}
use Rattle.top_base.specs.declared.status.Status.{Status}
use Rattle.top_base.specs.declared.status.Status.TheVariants.{NetRefused}

-- the text stands for this network, which has no cycle
pub record IsNetOf (text : List ℕ) (net : Net) : Type 0 where
  pub stands_for : network_of text ≡ Ok (parts_of net)
  pub acyclic : IsAcyclic net.links

-- the text is refused, with this status and line: it stands for no network, or for one with a cycle
abbrev pub RefusesNet : List ℕ → Status → List ℕ → Type 0
RefusesNet text (NetRefused (Text why)) line = (network_of text ≡ Err why) × (line ≡ net_refused_line (refused_name text why) why)
RefusesNet text (NetRefused (Cycle cycle)) line =
    (net : Net) × (network_of text ≡ Ok (parts_of net)) × IsShownCycle net.links cycle × (line ≡ cycle_line net cycle)
RefusesNet text status line = ⊥

-- the text is refused, and this is the outcome, or there was no memory
abbrev pub RefusesNetOrLosesIt : List ℕ → Outcome → Type 0
RefusesNetOrLosesIt text outcome = RefusesNet text outcome.status outcome.line ⊎ IsNoMemory outcome

-- the calls by which a network without a cycle was had from a path, or couldn't be
abbrev pub ReadsNet : List ℕ → Result Net Outcome → List Event → Type 0
ReadsNet path result calls = Reads net_limit IsNetOf RefusesNet path result calls

-- what a path holds: the text of a network without a cycle, or what makes this the outcome
abbrev pub HoldsNet : Option (List ℕ) → Result Net Outcome → Type 0
HoldsNet file result = HoldsInput net_limit IsNetOf RefusesNet file result
