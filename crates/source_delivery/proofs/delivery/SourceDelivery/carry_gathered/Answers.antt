use Rattle.std.specs.Prelude.{◌*◌, ◌++◌, drop}
use Rattle.std.proofs.Common.{◌≡◌, List, ℕ, length, take, ap, ◌∙◌, sym, arith}
use Rattle.std.specs.List.{concat}
use Rattle.std.proofs.lemmas.List.{take_at}
use Rattle.std.proofs.lemmas.Result.{on_ok_weaker}
use Rattle.generation_frame.specs.Blocks.{row_bytes}
use Rattle.lif_outside.specs.Calls.{MakesBoth}
use Rattle.top_base.proofs.Exits.{err_weaker}
use Rattle.source_delivery.proofs.CarriedLaws.{length-blocks_in}
use Rattle.source_delivery.proofs.DeliveryLaws.{size-blocks}
use Rattle.source_delivery.specs.Carried.{blocks_from, file_block}
use Rattle.source_delivery.specs.Delivering.{InterruptsBlocks, StandIn}
use Rattle.source_delivery.specs.Delivery.{outputs_in}
use Rattle.source_delivery.proofs.delivery.SourceDelivery.carry_gathered.Given as given
use Rattle.source_delivery.proofs.delivery.SourceDelivery.carry_gathered.Goals as goal
use Rattle.source_delivery.proofs.delivery.SourceDelivery.carry_gathered.Goals.{After-cut_blocks}

-- the blocks of what was gathered
abbrev blocks : (g : given.Over) (c : After-cut_blocks g) → List (List ℕ)
blocks g c = blocks_from c.args.self.now.gathered.items c.args.self.now.runner.code.rate 0 c.args.count

-- and the room that they were cut into
abbrev room : (g : given.Over) (c : After-cut_blocks g) → List ℕ
room g c =
    let self = c.args.self.now in
    take self.blocks.len (c.cut_blocks.new.blocks ++ drop (length c.cut_blocks.new.blocks) self.blocks.items)

stand : (g : given.Over) (c : After-cut_blocks g) → StandIn c.args.self.now.runner.code c.args.count (blocks g c) (room g c)
stand g c =
    let self = c.args.self.now in
    let items = self.gathered.items in
    let rate = self.runner.code.rate in
    let long : length c.cut_blocks.new.blocks ≡ self.blocks.len = omega (arith, c.cut_blocks.auto.blocks, c.deref_mut.ensures.len) in
    record {
      as_many = length-blocks_in (file_block items rate) 0 c.args.count;
      sized = size-blocks self.runner.code items 0 c.args.count;
      stand =
          ap (λ rate. take (c.args.count * (rate * row_bytes)) (room g c)) (sym self.rate_of)
          ∙ ap (take (c.args.count * (self.rate * row_bytes))) (take_at c.cut_blocks.new.blocks _ self.blocks.len long)
          ∙ c.cut_blocks.ensures
          ∙ ap (λ (bytes : List ℕ). concat (blocks_from bytes self.rate 0 c.args.count)) c.deref.ensures.value
          ∙ ap (λ rate. concat (blocks_from items rate 0 c.args.count)) self.rate_of;
    }

pub returns-clause-delivered : goal.returns-clause-delivered
returns-clause-delivered g c =
    let at = (goal.at.returns-clause-delivered g c).After-cut_blocks in
    on_ok_weaker c.carry_blocks.result (λ each. each (blocks g at) (stand g at)) c.carry_blocks.ensures.delivered

pub returns-clause-interrupted : goal.returns-clause-interrupted
returns-clause-interrupted g c =
    let at = (goal.at.returns-clause-interrupted g c).After-cut_blocks in
    let self = c.args.self.now in
    let runner = self.runner in
    err_weaker _
    (λ fault. MakesBoth g.S.Store g.K.Links c.args.store.now c.carry_blocks.new.store c.args.links.now c.carry_blocks.new.links
    (InterruptsBlocks (g.K.Links.faithful c.args.links.now) runner.code runner.pattern (outputs_in self) runner.next (blocks g at) fault))
    c.carry_blocks.result (λ fault each. each (blocks g at) (stand g at)) c.carry_blocks.ensures.interrupted
