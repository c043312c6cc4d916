use Rattle.std.proofs.Common.{◌≡◌, ◌<◌, ◌≤◌, ◌+◌, ◌-◌, ◌*◌, Contains, List, ℕ, vec_len}
use Rattle.generation_frame.specs.Blocks.{capacity}
use Rattle.lif_outside.specs.Calls.{MakesBoth}
use Rattle.source_delivery.proofs.StreamingLaws.{IsOnStream}
use Rattle.source_delivery.specs.Delivering.{CanCarry, HasGoneOn}
use Rattle.source_delivery.specs.Delivery.{outputs_in, paths_of}
use Rattle.source_delivery.proofs.delivery.SourceDelivery.stream.Given as goal

-- what was read so far was carried and delivered, but for what is gathered
abbrev pub invariant-loop-at : goal.invariant-loop-at
invariant-loop-at g l =
    let work = l.fn.self.runner in
    let bound = g.K.Links in
    record {
      gone_on : HasGoneOn work l.self.runner;
      outputs : l.self.outputs ≡ l.fn.self.outputs;
      parts : l.self.parts ≡ l.fn.self.parts;
      window : l.self.window ≡ l.fn.self.window;
      within : l.at ≤ l.limit + 1;
      room : vec_len l.self.gathered < l.fn.self.window * capacity work.code.rate;
      can : CanCarry l.self.runner (bound.flying l.links) (bound.room l.links);
      faithful : bound.faithful l.links ≡ bound.faithful l.initial.links;
      made : (path : List ℕ) → Contains (paths_of l.fn.self) path → g.S.Store.made l.store path;
      calls : MakesBoth g.S.Store bound l.initial.store l.store l.initial.links l.links
          (IsOnStream (bound.faithful l.initial.links) work.code work.pattern (outputs_in l.fn.self) l.path l.at l.self.runner.next l.self.gathered.items);
    }

abbrev pub decreases-loop-at : goal.decreases-loop-at
decreases-loop-at g l = l.limit + 1 - l.at
