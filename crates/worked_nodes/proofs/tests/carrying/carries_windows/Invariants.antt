use Rattle.std.specs.Prelude.{◌≡◌, ◌≤◌, ◌*◌, ℕ, [], false}
use Rattle.coded_traffic.specs.Traffic.{room_for}
use Rattle.lif_outside.specs.declared.links.Links.{Ghosts as LinksGhosts}
use Rattle.node_program.specs.declared.code.Code.{Code}
use Rattle.relay_runner.specs.Running.{Running}
use Rattle.worked_nodes.proofs.tests.carrying.carries_windows.Given as goal

-- A runner of a code that can carry the next window, after so many of at most 4 blocks.
pub record IsReady {L : Type 0} (g : LinksGhosts L) (code : Code) (windows : ℕ) (runner : Running) (links : L) : Type 0 where
  pub same_code : runner.code ≡ code
  pub works : runner.has_failed ≡ false
  pub nothing_flies : g.flying links ≡ []
  pub room : room_for code ≤ g.room links
  pub next : runner.next ≤ 4 * windows

-- the windows so far have come to the sinks
abbrev pub invariant-windows : goal.invariant-windows
invariant-windows g l = IsReady g.K.Links l.fn.runner.code l.turn l.runner l.links
