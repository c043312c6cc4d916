use Rattle.std.proofs.Common.{◌≡◌, ◌<◌, ◌+◌, ℕ, List, Some, arith, subst, sym, take, ◌∙◌}
use Rattle.std.specs.Prelude.{reverse}
use Rattle.std.proofs.lemmas.List.{take_all}
use Rattle.coded_traffic.specs.CodeBlocks.{IsBlockOf}
use Rattle.vector_headers.specs.Fabric.{Carried}
use Rattle.vector_headers.specs.Receiving.{IsReceived}
use Rattle.vector_headers.proofs.ReceivingLaws.{IsAdmitted-received, IsWhole-received, reverse-more, some_carried, some_links}
use Rattle.vector_headers.proofs.receiving.take_links.Goals as goal
use Rattle.vector_headers.proofs.receiving.take_links.Goals.{After-take_link, After-loop-link}

-- one link more brought all pieces
more : (g : _) (c : After-take_link g) (one : Carried) → c.args.fabric.now.carried ≡ Some one → (piece : ℕ) → piece < 8
    → IsReceived c.args.fabric.now.code c.args.fabric.now.failed one (reverse (take (c.loop-link.link-index + 1) c.args.ins.now)) piece c.take_link.new.blind
more g c one is piece low =
    let ins = c.args.ins.now in
    let at = c.loop-link.link-index in
    let Is : List ℕ → Type 0 = λ links. IsReceived c.args.fabric.now.code c.args.fabric.now.failed one links piece c.take_link.new.blind in
    subst Is (sym (reverse-more ins at c.loop-link-test.true)) (c.take_link.ensures.received one is (reverse (take at ins)) piece low (c.loop-link.invariant.received one is piece low))

pub loop-link-preserved : goal.loop-link-preserved
loop-link-preserved g c =
    let at = (goal.at.loop-link-preserved g c).After-take_link in
    let told = c.take_link.ensures in
    let before = c.loop-link.invariant in
    record {
      field = told.field ∙ before.field;
      rate = told.rate ∙ before.rate;
      frame = c.take_link.auto.frame ∙ before.frame;
      vector = c.take_link.auto.vector ∙ before.vector;
      received = more g at;
      block = λ some one is. told.block one is;
    }

pub returns-then-is_whole-clause-admitted : goal.returns-then-is_whole-clause-admitted
returns-then-is_whole-clause-admitted g c = λ one is.
    let at = (goal.at.returns-then-is_whole-clause-admitted g c).After-take_link in
    let fabric = c.args.fabric.now in
    let told = c.take_link.ensures in
    let before = c.loop-link.invariant in
    IsAdmitted-received fabric.code fabric.failed one (told.block one is) (reverse (take (c.loop-link.link-index + 1) c.args.ins.now)) c.take_link.new.blind
    (told.field ∙ before.field ∙ c.requires.field) (told.rate ∙ before.rate ∙ c.requires.rate) (more g at one is)

-- all links brought all pieces
all : (g : _) (c : After-loop-link g) (one : Carried) → c.args.fabric.now.carried ≡ Some one → (piece : ℕ) → piece < 8
    → IsReceived c.args.fabric.now.code c.args.fabric.now.failed one (reverse c.args.ins.now) piece c.loop-link.blind
all g c one is piece low =
    let Is : List ℕ → Type 0 = λ links. IsReceived c.args.fabric.now.code c.args.fabric.now.failed one (reverse links) piece c.loop-link.blind in
    subst Is (take_all c.loop-link.link-index c.args.ins.now c.loop-link-test.false) (c.loop-link.invariant.received one is piece low)

-- and the block is one of the code
block : (g : _) (c : After-loop-link g) (one : Carried) → c.args.fabric.now.carried ≡ Some one → IsBlockOf c.args.fabric.now.code one.block
block g c one is =
    let fabric = c.args.fabric.now in
    let links = some_links fabric.code fabric.failed c.args.ins.now c.requires.full in
    let some : 0 < c.loop-link.link-index = omega (arith, links, c.loop-link-test.false) in
    c.loop-link.invariant.block some one is

pub returns-clause-whole : goal.returns-clause-whole
returns-clause-whole g c =
    let at = (goal.at.returns-clause-whole g c).After-loop-link in
    let fabric = c.args.fabric.now in
    let some = some_carried fabric.carried c.requires.carried in
    IsWhole-received fabric.code fabric.failed some.0 c.args.ins.now c.loop-link.blind (c.loop-link.invariant.rate ∙ c.requires.rate) c.requires.full (all g at some.0 some.1)

pub returns-clause-admitted : goal.returns-clause-admitted
returns-clause-admitted g c = λ one is.
    let at = (goal.at.returns-clause-admitted g c).After-loop-link in
    let fabric = c.args.fabric.now in
    IsAdmitted-received fabric.code fabric.failed one (block g at one is) (reverse c.args.ins.now) c.loop-link.blind (c.loop-link.invariant.field ∙ c.requires.field)
    (c.loop-link.invariant.rate ∙ c.requires.rate) (all g at one is)

pub returns-clause-block : goal.returns-clause-block
returns-clause-block g c = block g (goal.at.returns-clause-block g c).After-loop-link
