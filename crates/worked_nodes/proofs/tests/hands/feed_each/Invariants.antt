-- Nothing has come of the generations that are still to be fed.
use Rattle.std.specs.Prelude.{◌≡◌, ◌≤◌, ◌<◌, ◌+◌, ℕ, false}
use Rattle.generation_frame.specs.Blocks.{pieces}
use Rattle.relay_node.specs.Relay.{IsBegun, IsSameWork, Relay, has_input}
use Rattle.worked_nodes.proofs.tests.hands.feed_each.Given as goal

pub record AreUnfedFrom (generation : ℕ) (old new : Relay) : Type 0 where
  pub work : IsSameWork old new
  pub none : (g row piece : ℕ) → IsBegun old g → generation ≤ g → row < old.plan.rate → piece < pieces → has_input new g row piece ≡ false

abbrev pub invariant-each : goal.invariant-each
invariant-each g l = AreUnfedFrom (l.span.first + l.place) l.fn.source l.source
