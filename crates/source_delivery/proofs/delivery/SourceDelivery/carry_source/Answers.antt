use Rattle.std.specs.Prelude.{◌<◌, ◌+◌, ◌-◌, ◌*◌, ◌/◌}
use Rattle.std.proofs.Common.{◌≡◌, ◌++◌, Bool, Contains, List, ℕ, length, map, refl, ap, ◌∙◌, sym, subst, subst₂, arith, string_bytes, vec_len}
use Rattle.std.proofs.lemmas.List.{length-drop}
use Rattle.generation_frame.specs.Blocks.{block_count, capacity}
use Rattle.lif_outside.proofs.CallLaws.{both_then, both_weaker}
use Rattle.lif_outside.specs.Calls.{Calls}
use Rattle.lif_outside.specs.Sequences.{Are}
use Rattle.node_program.specs.declared.code.Code.{Code}
use Rattle.top_base.proofs.Exits.{if_err}
use Rattle.source_delivery.proofs.DeliveryLaws.{delivers-some, interrupts-some, outputs-same}
use Rattle.source_delivery.proofs.GatherLaws.{count-left, interrupts-more, left-delivered, left-interrupted}
use Rattle.source_delivery.proofs.Triples.{subst-three}
use Rattle.source_delivery.specs.Carried.{blocks_from}
use Rattle.source_delivery.specs.Delivering.{DeliversBlocks, DeliversSome, HasGoneOn, Interrupts, InterruptsBlocks, InterruptsBytes}
use Rattle.source_delivery.specs.Delivery.{AreCounts, outputs_in}
use Rattle.source_delivery.specs.Turns.{Outputs}
use Rattle.source_delivery.proofs.delivery.SourceDelivery.carry_source.Given as given
use Rattle.source_delivery.proofs.delivery.SourceDelivery.carry_source.Goals as goal
use Rattle.source_delivery.proofs.delivery.SourceDelivery.carry_source.Goals.{After-gather}

pub gather-requires-clause-short : goal.gather-requires-clause-short
gather-requires-clause-short g c κs within =
    let self = c.args.self.now in
    let none : self.runner.next * capacity self.runner.code.rate ≡ 0 * capacity self.runner.code.rate = ap (λ n. n * capacity self.runner.code.rate) c.requires.from_start in
    omega (arith, none, ap length c.requires.nothing, c.requires.short)

-- the source is what was gathered and comes
abbrev bytes : (g : given.Over) (c : After-gather g) → List ℕ
bytes g c = c.args.self.now.gathered.items ++ c.args.source.now

all : (g : given.Over) (c : After-gather g) → bytes g c ≡ c.args.source.now
all g c = ap (λ (front : List ℕ). front ++ c.args.source.now) c.requires.nothing

-- how many blocks were carried
abbrev blocks : (g : given.Over) (c : After-gather g) → ℕ
blocks g c = c.gather.new.self.runner.next - c.args.self.now.runner.next

-- the rate at work
rate : (g : given.Over) (c : After-gather g) → HasGoneOn c.args.self.now.runner c.gather.new.self.runner → c.gather.new.self.runner.code.rate ≡ c.args.self.now.runner.code.rate
rate g c gone_on = ap (λ (code : Code). code.rate) gone_on.code

pub carry_last-requires-clause-room : goal.carry_last-requires-clause-room
carry_last-requires-clause-room g c κs within =
    subst₂ (λ window rate. vec_len c.gather.new.self.gathered < window * capacity rate) (sym c.gather.ensures.window) (sym (rate g (goal.at.carry_last-requires-clause-room g c).After-gather c.in_ok-gather.ensures.gone_on)) c.in_ok-gather.ensures.room

pub carry_last-requires-clause-short : goal.carry_last-requires-clause-short
carry_last-requires-clause-short g c κs within =
    let at = (goal.at.carry_last-requires-clause-short g c).After-gather in
    let self = c.args.self.now in
    let size = capacity self.runner.code.rate in
    let is = c.in_ok-gather.ensures.gathered in
    let k = blocks g at in
    let next : c.gather.new.self.runner.next ≡ k = omega (arith, c.requires.from_start) in
    let long : length c.gather.new.self.gathered.items ≡ length (bytes g at) - k * size = ap length is.left_is ∙ length-drop (k * size) (bytes g at) in
    let same : c.gather.new.self.runner.next * capacity c.gather.new.self.runner.code.rate ≡ k * size =
    ap (λ n. n * capacity c.gather.new.self.runner.code.rate) next ∙ ap (λ rate. k * capacity rate) (rate g at c.in_ok-gather.ensures.gone_on) in
    omega (arith, same, long, is.whole, ap length (all g at), c.requires.short)

pub carry_last-requires-clause-made : goal.carry_last-requires-clause-made
carry_last-requires-clause-made g c κs within = λ path there.
    let both = c.in_ok-gather.ensures.delivered in
    (g.met.S.Store.accounts both.calls.on_store _ _ both.on_store).counts.still_made path
    (c.requires.made path (subst (λ outputs. Contains (map string_bytes outputs.items) path) c.gather.ensures.outputs there))

-- what is said by the runner at hand is said of the one that began
retold : (D : Bool → Code → ℕ → Outputs → ℕ → Type 0) (g : given.Over) (c : After-gather g) (gone_on : HasGoneOn c.args.self.now.runner c.gather.new.self.runner)
    → g.K.Links.faithful c.gather.new.links ≡ g.K.Links.faithful c.args.links.now
    → D (g.K.Links.faithful c.gather.new.links) c.gather.new.self.runner.code c.gather.new.self.runner.pattern (outputs_in c.gather.new.self) c.gather.new.self.runner.next
    → D (g.K.Links.faithful c.args.links.now) c.args.self.now.runner.code c.args.self.now.runner.pattern (outputs_in c.args.self.now) (c.args.self.now.runner.next + blocks g c)
retold D g c gone_on faithful holds =
    let next : c.gather.new.self.runner.next ≡ c.args.self.now.runner.next + blocks g c = omega (arith, gone_on.more) in
    subst (λ n. D (g.K.Links.faithful c.args.links.now) c.args.self.now.runner.code c.args.self.now.runner.pattern (outputs_in c.args.self.now) n) next
    (subst (λ outputs. D (g.K.Links.faithful c.args.links.now) c.args.self.now.runner.code c.args.self.now.runner.pattern outputs c.gather.new.self.runner.next)
    (outputs-same c.gather.new.self c.args.self.now c.gather.ensures.outputs c.gather.ensures.parts)
    (subst-three (λ faithful code pattern. D faithful code pattern (outputs_in c.gather.new.self) c.gather.new.self.runner.next) faithful gone_on.code gone_on.pattern holds))

pub returns-in_err-gather-clause-interrupted : goal.returns-in_err-gather-clause-interrupted
returns-in_err-gather-clause-interrupted g c =
    let at = (goal.at.returns-in_err-gather-clause-interrupted g c).After-gather in
    let self = c.args.self.now in
    let runner = self.runner in
    let faithful = g.K.Links.faithful c.args.links.now in
    let why = c.in_err-gather.field-0.0 in
    if_err _ c.from_residual.result why c.from_residual.ensures.1
    (both_weaker _ _ c.in_err-gather.ensures.interrupted
    (λ calls is.
    interrupts-some faithful runner.code runner.pattern (outputs_in self) c.requires.can.known c.args.source.now why calls
    (interrupts-more faithful runner.code runner.pattern (outputs_in self) 0 c.args.source.now (length c.args.source.now / capacity runner.code.rate) (block_count c.args.source.now runner.code.rate) (omega arith) why calls
    (subst (λ bytes. InterruptsBytes faithful runner.code runner.pattern (outputs_in self) 0 bytes (length bytes / capacity runner.code.rate) why calls) (all g at)
    (subst (λ n. InterruptsBytes faithful runner.code runner.pattern (outputs_in self) n (bytes g at) (length (bytes g at) / capacity runner.code.rate) why calls) c.requires.from_start is)))))

pub returns-in_err-carry_last-clause-interrupted : goal.returns-in_err-carry_last-clause-interrupted
returns-in_err-carry_last-clause-interrupted g c =
    let at = (goal.at.returns-in_err-carry_last-clause-interrupted g c).After-gather in
    let self = c.args.self.now in
    let runner = self.runner in
    let code = runner.code in
    let faithful = g.K.Links.faithful c.args.links.now in
    let first = c.in_ok-gather.ensures in
    let k = blocks g at in
    let left = c.gather.new.self.gathered.items in
    let why = c.in_err-carry_last.field-0.0 in
    let kept = (g.met.K.Links.accounts first.delivered.calls.on_links _ _ first.delivered.on_links).same_faithful in
    if_err _ c.from_residual-in_err-carry_last.result why c.from_residual-in_err-carry_last.ensures.1
    (both_then g.met.S.Store.more_calls g.met.K.Links.more_moves (DeliversBlocks faithful code runner.pattern (outputs_in self) runner.next (blocks_from (bytes g at) code.rate 0 k) Are) _
    (Interrupts faithful code runner.pattern (outputs_in self) c.args.source.now why) first.delivered c.in_err-carry_last.ensures.interrupted
    (λ front later some broken.
    interrupts-some faithful code runner.pattern (outputs_in self) c.requires.can.known c.args.source.now why _
    (subst (λ bytes. InterruptsBytes faithful code runner.pattern (outputs_in self) 0 bytes (block_count bytes code.rate) why (record { on_store = front.on_store ++ later.on_store; on_links = front.on_links ++ later.on_links })) (all g at)
    (subst (λ n. InterruptsBytes faithful code runner.pattern (outputs_in self) n (bytes g at) (block_count (bytes g at) code.rate) why (record { on_store = front.on_store ++ later.on_store; on_links = front.on_links ++ later.on_links })) c.requires.from_start
    (left-interrupted faithful code runner.pattern (outputs_in self) c.requires.can.known runner.next k (block_count left code.rate) (bytes g at) left first.gathered front later some
    (block_count (bytes g at) code.rate) (omega (arith, count-left code k (bytes g at) left first.gathered)) why
    (retold (λ faithful code pattern outputs n. InterruptsBlocks faithful code pattern outputs n (blocks_from left code.rate 0 (block_count left code.rate)) why later) g at first.gone_on kept broken))))))

pub returns-clause-counts : goal.returns-clause-counts
returns-clause-counts g c =
    subst (λ code. AreCounts code c.args.source.now c.counts.result) (c.in_ok-carry_last.ensures.code ∙ c.in_ok-gather.ensures.gone_on.code) (c.counts.ensures c.args.source.now refl)

pub returns-clause-delivered : goal.returns-clause-delivered
returns-clause-delivered g c =
    let at = (goal.at.returns-clause-delivered g c).After-gather in
    let self = c.args.self.now in
    let runner = self.runner in
    let code = runner.code in
    let faithful = g.K.Links.faithful c.args.links.now in
    let first = c.in_ok-gather.ensures in
    let k = blocks g at in
    let left = c.gather.new.self.gathered.items in
    let kept = (g.met.K.Links.accounts first.delivered.calls.on_links _ _ first.delivered.on_links).same_faithful in
    both_then g.met.S.Store.more_calls g.met.K.Links.more_moves (DeliversBlocks faithful code runner.pattern (outputs_in self) runner.next (blocks_from (bytes g at) code.rate 0 k) Are) _
    (DeliversSome faithful code runner.pattern (outputs_in self) c.args.source.now (block_count c.args.source.now code.rate)) first.delivered c.in_ok-carry_last.ensures.delivered
    (λ front later some more.
    let calls : Calls = record { on_store = front.on_store ++ later.on_store; on_links = front.on_links ++ later.on_links } in
    delivers-some faithful code runner.pattern (outputs_in self) c.requires.can.known c.args.source.now calls
    (subst (λ bytes. DeliversBlocks faithful code runner.pattern (outputs_in self) 0 (blocks_from bytes code.rate 0 (block_count bytes code.rate)) Are calls) (all g at)
    (subst (λ n. DeliversBlocks faithful code runner.pattern (outputs_in self) n (blocks_from (bytes g at) code.rate 0 (block_count (bytes g at) code.rate)) Are calls) c.requires.from_start
    (subst (λ n. DeliversBlocks faithful code runner.pattern (outputs_in self) runner.next (blocks_from (bytes g at) code.rate 0 n) Are calls) (count-left code k (bytes g at) left first.gathered)
    (left-delivered faithful code runner.pattern (outputs_in self) c.requires.can.known runner.next k (block_count left code.rate) (bytes g at) left first.gathered front later some
    (retold (λ faithful code pattern outputs n. DeliversBlocks faithful code pattern outputs n (blocks_from left code.rate 0 (block_count left code.rate)) Are later) g at first.gone_on kept more))))))
