use Rattle.std.proofs.Common.{◌≡◌, ◌+◌, ◌-◌, Contains, List, ℕ}
use Rattle.lif_outside.specs.Calls.{MakesBoth}
use Rattle.source_delivery.specs.Delivering.{CanCarry, HasGoneOn}
use Rattle.source_delivery.specs.Delivery.{outputs_in, paths_of}
use Rattle.source_delivery.specs.Reading.{IsSameReader, source_of}
use Rattle.source_delivery.specs.Twin.{IsOnTwin}
use Rattle.source_delivery.proofs.delivery.SourceDelivery.stream_two.Given as goal

-- what was read of both so far was carried and delivered
abbrev pub invariant-loop-self : goal.invariant-loop-self
invariant-loop-self g l =
    let work = l.fn.self.runner in
    let bound = g.K.Links in
    record {
      gone_on : HasGoneOn work l.self.runner;
      outputs : l.self.outputs ≡ l.fn.self.outputs;
      parts : l.self.parts ≡ l.fn.self.parts;
      window : l.self.window ≡ l.fn.self.window;
      same : IsSameReader l.fn.first l.first;
      same' : IsSameReader l.fn.second l.second;
      empty : l.first.held ≡ 0;
      empty' : l.second.held ≡ 0;
      can : CanCarry l.self.runner (bound.flying l.links) (bound.room l.links);
      faithful : bound.faithful l.links ≡ bound.faithful l.initial.links;
      made : (path : List ℕ) → Contains (paths_of l.fn.self) path → g.S.Store.made l.store path;
      calls : MakesBoth g.S.Store bound l.initial.store l.store l.initial.links l.links
          (IsOnTwin (bound.faithful l.initial.links) work.code work.pattern (outputs_in l.fn.self) (source_of l.fn.first) (source_of l.fn.second) l.limit l.self.runner.next l.first l.second);
    }

abbrev pub decreases-loop-self : goal.decreases-loop-self
decreases-loop-self g l = l.limit + 2 - l.self.runner.next
