use Rattle.relay_runner.proofs.MeasureLaws.{left}
use Rattle.relay_runner.proofs.RunningLaws.{IsOnWay}
use Rattle.relay_runner.proofs.runner.Runner.run.Given as goal

-- the calls so far are a run of the window
abbrev pub invariant-turns : goal.invariant-turns
invariant-turns g l = IsOnWay g.K.Links l.fn.self l.self l.fn.links l.links

-- each turn but the last leaves less to be done
abbrev pub decreases-turns : goal.decreases-turns
decreases-turns g l = left g.K.Links l.self.code l.self.pattern l.self.first l.self.count l.links l.self.relays
