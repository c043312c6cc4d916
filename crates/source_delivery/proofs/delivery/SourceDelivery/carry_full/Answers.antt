use Rattle.std.specs.Prelude.{◌-◌, ◌*◌}
use Rattle.std.proofs.Common.{◌≡◌, [], length, refl, sym, subst, arith}
use Rattle.generation_frame.specs.Blocks.{capacity}
use Rattle.lif_outside.specs.Sequences.{Are}
use Rattle.source_delivery.proofs.GatherLaws.{behind-all, on_ok_both}
use Rattle.source_delivery.specs.Carried.{blocks_from}
use Rattle.source_delivery.specs.Delivering.{DeliversBlocks, IsBehind}
use Rattle.source_delivery.specs.Delivery.{outputs_in}
use Rattle.source_delivery.proofs.delivery.SourceDelivery.carry_full.Goals as goal

pub returns-then-len-window_bytes-clause-delivered : goal.returns-then-len-window_bytes-clause-delivered
returns-then-len-window_bytes-clause-delivered g c =
    let self = c.args.self.now in
    let runner = self.runner in
    let none : 0 ≡ runner.next - runner.next = omega arith in
    record {
      calls = record { on_store = []; on_links = [] };
      on_store = g.met.S.Store.no_calls c.args.store.now;
      on_links = g.met.K.Links.no_moves c.args.links.now;
      holds = subst (λ n. DeliversBlocks (g.K.Links.faithful c.args.links.now) runner.code runner.pattern (outputs_in self) runner.next (blocks_from self.gathered.items runner.code.rate 0 n) Are
          (record { on_store = []; on_links = [] })) none (record { on_links = refl; on_store = refl });
    }

pub returns-clause-gathered : goal.returns-clause-gathered
returns-clause-gathered g c =
    let self = c.args.self.now in
    let rate = self.runner.code.rate in
    let all : length self.gathered.items ≡ self.window * capacity rate = omega (arith, self.few_bytes, c.if-len-window_bytes.false, c.len.ensures, c.window_bytes.ensures) in
    on_ok_both c.carry_gathered.result
    (λ nothing moved.
    let count : self.window ≡ c.carry_gathered.new.self.runner.next - self.runner.next = omega (arith, moved.next) in
    subst (λ left. IsBehind rate (c.carry_gathered.new.self.runner.next - self.runner.next) self.gathered.items left) (sym nothing)
    (subst (λ n. IsBehind rate n self.gathered.items []) count (behind-all rate self.window self.gathered.items all)))
    c.carry_gathered.ensures.nothing c.carry_gathered.ensures.moved
