use Rattle.std.specs.Prelude.{◌+◌, ◌*◌, ◌≤◌}
use Rattle.std.proofs.Common.{◌≡◌, List, ℕ, length, take, refl, ap, ◌∙◌, sym, subst, arith}
use Rattle.std.proofs.Math.Nat.{mul-le-mul_right}
use Rattle.std.proofs.lemmas.List.{length-take-le}
use Rattle.generation_frame.specs.Blocks.{row_bytes}
use Rattle.lif_outside.proofs.CallLaws.{both_on_links}
use Rattle.lif_outside.specs.FileCalls.{StopsWithin}
use Rattle.lif_outside.specs.Sequences.{Are}
use Rattle.relay_runner.specs.Carried.{IsStopped}
use Rattle.relay_runner.specs.Running.{Running, count_in, window_from}
use Rattle.source_delivery.proofs.DeliveryLaws.{are-blocks, blocks-count, blocks-window}
use Rattle.source_delivery.proofs.WindowLaws.{delivers}
use Rattle.source_delivery.specs.Delivering.{BreaksBlocks, StandIn}
use Rattle.source_delivery.specs.Delivery.{outputs_in}
use Rattle.source_delivery.proofs.delivery.SourceDelivery.carry_blocks.Given as given
use Rattle.source_delivery.proofs.delivery.SourceDelivery.carry_blocks.Goals as goal
use Rattle.source_delivery.proofs.delivery.SourceDelivery.carry_blocks.Goals.{After-deref}

-- the bytes at hand, and those of so many blocks at the beginning of the room
abbrev at_hand : (g : given.Over) (c : After-deref g) → List ℕ
at_hand g c = take (c.args.count * (c.args.self.now.rate * row_bytes)) c.deref.result.now

abbrev bytes : (g : given.Over) (c : After-deref g) → List ℕ
bytes g c = take (c.args.count * (c.args.self.now.runner.code.rate * row_bytes)) c.args.self.now.blocks.items

hand : (g : given.Over) (c : After-deref g) → at_hand g c ≡ bytes g c
hand g c =
    let self = c.args.self.now in
    ap (take (c.args.count * (self.rate * row_bytes))) c.deref.ensures.value
    ∙ ap (λ rate. take (c.args.count * (rate * row_bytes)) self.blocks.items) self.rate_of

-- they are as many
long : (g : given.Over) (c : After-deref g) → length (at_hand g c) ≡ c.args.count * (c.args.self.now.runner.code.rate * row_bytes)
long g c =
    let self = c.args.self.now in
    let size = self.runner.code.rate * row_bytes in
    let within : c.args.count * size ≤ self.window * size = mul-le-mul_right size c.requires.few_blocks in
    let room : c.args.count * size ≤ length self.blocks.items = omega (arith, within, self.blocks_length, c.deref.ensures.len) in
    ap length (hand g c) ∙ length-take-le (c.args.count * size) self.blocks.items room

count : (g : given.Over) (c : After-deref g) → count_in c.args.self.now.runner.code (at_hand g c) ≡ c.args.count
count g c = blocks-count c.args.self.now.runner.code c.args.count (at_hand g c) (long g c)

-- and where blocks stand there, the window that they are
window : (g : given.Over) (c : After-deref g) (blocks : List (List ℕ)) → StandIn c.args.self.now.runner.code c.args.count blocks c.args.self.now.blocks.items
    → window_from c.args.self.now.runner.code c.args.self.now.runner.next (at_hand g c) ≡ record { first = c.args.self.now.runner.next; blocks = blocks }
window g c blocks stand =
    let self = c.args.self.now in
    ap (window_from self.runner.code self.runner.next) (hand g c) ∙ blocks-window self.runner.code c.args.count blocks self.blocks.items stand self.runner.next

pub carry-requires-clause-blocks : goal.carry-requires-clause-blocks
carry-requires-clause-blocks g c =
    let at = (goal.at.carry-requires-clause-blocks g c).After-deref in
    let self = c.args.self.now in
    are-blocks self.runner.code c.args.count (at_hand g at) (long g at) self.runner.next
    c.requires.some_blocks (omega (arith, c.requires.few_blocks, self.few_blocks)) c.requires.numbered

pub returns-in_default-clause-interrupted : goal.returns-in_default-clause-interrupted
returns-in_default-clause-interrupted g c = λ blocks stand.
    let at = (goal.at.returns-in_default-clause-interrupted g c).After-deref in
    let self = c.args.self.now in
    let runner = self.runner in
    let code = runner.code in
    let faithful = g.K.Links.faithful c.args.links.now in
    both_on_links c.args.store.now (g.met.S.Store.no_calls c.args.store.now) (IsStopped faithful code runner.pattern (window_from code runner.next (at_hand g at)))
    (BreaksBlocks faithful code runner.pattern runner.next blocks) c.in_default.ensures.stopped
    (λ moves is. record {
      on_links = subst (λ window. IsStopped faithful code runner.pattern window moves) (window g at blocks stand) is;
      on_store = refl;
    })

pub append_window-requires-clause-all : goal.append_window-requires-clause-all
append_window-requires-clause-all g c =
    sym (ap (λ (runner : Running). runner.count) c.decode_all.ensures.rest ∙ c.in-Ok.ensures.count ∙ count g (goal.at.append_window-requires-clause-all g c).After-deref)

pub returns-in-Ok-append_window-clause-moved : goal.returns-in-Ok-append_window-clause-moved
returns-in-Ok-append_window-clause-moved g c =
    let is = count g (goal.at.returns-in-Ok-append_window-clause-moved g c).After-deref in
    let runner = c.args.self.now.runner in
    let after = c.in-Ok.ensures in
    let rest = c.decode_all.ensures.rest in
    record {
      code = ap (λ (runner : Running). runner.code) rest ∙ after.code;
      pattern = ap (λ (runner : Running). runner.pattern) rest ∙ after.pattern;
      first = ap (λ (runner : Running). runner.first) rest ∙ after.first;
      count = ap (λ (runner : Running). runner.count) rest ∙ after.count ∙ is;
      next = ap (λ (runner : Running). runner.next) rest ∙ after.next ∙ ap (λ n. runner.next + n) is;
      carried = c.decode_all.ensures.decoded.carried;
    }

pub returns-in-Ok-append_window-clause-delivered : goal.returns-in-Ok-append_window-clause-delivered
returns-in-Ok-append_window-clause-delivered g c = λ blocks stand.
    let at = (goal.at.returns-in-Ok-append_window-clause-delivered g c).After-deref in
    let self = c.args.self.now in
    let runner = self.runner in
    let after = c.in-Ok.ensures in
    delivers g.S.Store g.K.Links runner c.carry.new.self c.decode_all.new.self (outputs_in self) blocks (window_from runner.code runner.next (at_hand g at)) c.args.count Are c.args.store.now c.append_window.new.store
    c.args.links.now c.carry.new.links after.sent after.code after.pattern after.first (window g at blocks stand)
    (omega (arith, stand.as_many, c.requires.some_blocks)) (sym stand.as_many) c.decode_all.ensures.rest c.in-Ok-append_window.ensures.appended

pub returns-in-Err-clause-interrupted : goal.returns-in-Err-clause-interrupted
returns-in-Err-clause-interrupted g c = λ blocks stand.
    let at = (goal.at.returns-in-Err-clause-interrupted g c).After-deref in
    let self = c.args.self.now in
    let runner = self.runner in
    let after = c.in-Ok.ensures in
    delivers g.S.Store g.K.Links runner c.carry.new.self c.decode_all.new.self (outputs_in self) blocks (window_from runner.code runner.next (at_hand g at)) c.args.count StopsWithin c.args.store.now c.append_window.new.store
    c.args.links.now c.carry.new.links after.sent after.code after.pattern after.first (window g at blocks stand)
    (omega (arith, stand.as_many, c.requires.some_blocks)) (sym stand.as_many) c.decode_all.ensures.rest c.in-Err.ensures.failed
