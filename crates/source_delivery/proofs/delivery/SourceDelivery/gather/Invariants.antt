use Rattle.std.proofs.Common.{◌≡◌, ◌<◌, ◌≤◌, ◌-◌, ◌*◌, ◌++◌, Contains, List, ℕ, length, take, vec_len}
use Rattle.generation_frame.specs.Blocks.{capacity}
use Rattle.lif_outside.specs.Calls.{MakesBoth}
use Rattle.lif_outside.specs.Sequences.{Are}
use Rattle.source_delivery.specs.Carried.{blocks_from}
use Rattle.source_delivery.specs.Delivering.{CanCarry, DeliversBlocks, HasGoneOn, IsBehind}
use Rattle.source_delivery.specs.Delivery.{outputs_in, paths_of}
use Rattle.source_delivery.proofs.delivery.SourceDelivery.gather.Given as goal

-- of the bytes so far the first whole blocks were delivered, and the others are gathered
abbrev pub invariant-loop-place : goal.invariant-loop-place
invariant-loop-place g l =
    let work = l.fn.self.runner in
    let bound = g.K.Links in
    let bytes = l.fn.self.gathered.items ++ take l.place l.bytes in
    let blocks = l.self.runner.next - work.next in
    record {
      gone_on : HasGoneOn work l.self.runner;
      outputs : l.self.outputs ≡ l.fn.self.outputs;
      parts : l.self.parts ≡ l.fn.self.parts;
      window : l.self.window ≡ l.fn.self.window;
      within : l.place ≤ length l.bytes;
      room : vec_len l.self.gathered < l.fn.self.window * capacity work.code.rate;
      can : CanCarry l.self.runner (bound.flying l.links) (bound.room l.links);
      faithful : bound.faithful l.links ≡ bound.faithful l.initial.links;
      made : (path : List ℕ) → Contains (paths_of l.fn.self) path → g.S.Store.made l.store path;
      left : IsBehind work.code.rate blocks bytes l.self.gathered.items;
      calls : MakesBoth g.S.Store bound l.initial.store l.store l.initial.links l.links
          (DeliversBlocks (bound.faithful l.initial.links) work.code work.pattern (outputs_in l.fn.self) work.next (blocks_from bytes work.code.rate 0 blocks) Are);
    }

abbrev pub decreases-loop-place : goal.decreases-loop-place
decreases-loop-place g l = length l.bytes - l.place
