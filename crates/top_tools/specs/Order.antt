-- The command `order`.
use Rattle.std.specs.Prelude.{◌≡◌, ℕ, List}
use Rattle.net_model.specs.declared.net.Net.{Net}
use Rattle.topo_order.specs.Order.{order_of}
use Rattle.top_base.specs.Inspecting.{OwesDone, inspects}
use Rattle.top_base.specs.Lines.{order_text}
use Rattle.net_reader.specs.Text.{net_limit}
use Rattle.top_base.specs.Networks.{IsNetOf, RefusesNet}
use Rattle.top_base.specs.Performs.{Behaviour}
use Rattle.top_base.specs.declared.outcome.Outcome.{Outcome}
use Rattle.top_base.specs.declared.status.Status.TheVariants.{Done}

-- the outcome for a network without a cycle: its links are said in order
abbrev pub IsOrdered : Net → Outcome → Type 0
IsOrdered net outcome = outcome ≡ record { status = Done; line = order_text net (order_of net.links) }

-- what the command does: NET is read
abbrev pub order_command : List ℕ → Behaviour
order_command path = inspects net_limit IsNetOf RefusesNet IsOrdered OwesDone path
