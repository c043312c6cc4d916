use Rattle.std.specs.Prelude.{◌<◌, ◌≤◌, ◌+◌, ◌-◌, ◌*◌, ◌/◌}
use Rattle.std.proofs.Common.{◌≡◌, ◌++◌, [], Bool, Contains, List, ℕ, drop, length, map, take, slice_range, refl, ap, ◌∙◌, sym, subst, subst₂, arith, string_bytes, vec_len}
use Rattle.std.proofs.Math.Nat.{add-mul}
use Rattle.std.proofs.lemmas.List.{append-nil, length-append, length-take-le, take_all}
use Rattle.generation_frame.specs.Blocks.{capacity}
use Rattle.lif_outside.proofs.CallLaws.{both_then, both_weaker}
use Rattle.lif_outside.specs.Calls.{Calls, MakesBoth}
use Rattle.lif_outside.specs.Sequences.{Are}
use Rattle.node_program.specs.declared.code.Code.{Code}
use Rattle.relay_runner.specs.Running.{Running}
use Rattle.top_base.proofs.Exits.{if_err}
use Rattle.source_delivery.proofs.DeliveryLaws.{numbered, outputs-same}
use Rattle.source_delivery.proofs.GatherLaws.{behind-more, behind-none, behind-then, left-delivered, range-behind, rest-behind, rest-interrupted, same-blocks}
use Rattle.source_delivery.proofs.Triples.{subst-three}
use Rattle.source_delivery.specs.Carried.{blocks_from}
use Rattle.source_delivery.specs.Delivering.{CanCarry, DeliversBlocks, InterruptsBlocks, InterruptsBytes, IsBehind}
use Rattle.source_delivery.specs.Delivery.{outputs_in}
use Rattle.source_delivery.specs.Turns.{Outputs}
use Rattle.source_delivery.proofs.delivery.SourceDelivery.gather.Given as given
use Rattle.source_delivery.proofs.delivery.SourceDelivery.gather.Goals as goal
use Rattle.source_delivery.proofs.delivery.SourceDelivery.gather.Goals.{After-fill-place}

pub loop-place-init : goal.loop-place-init
loop-place-init g c =
    let self = c.args.self.now in
    let runner = self.runner in
    let none : 0 ≡ runner.next - runner.next = omega arith in
    record {
      gone_on = record { code = refl; pattern = refl; more = omega arith };
      outputs = refl;
      parts = refl;
      window = refl;
      within = omega arith;
      room = c.requires.room;
      can = c.requires.can;
      faithful = refl;
      made = c.requires.made;
      left = subst (λ n. IsBehind runner.code.rate n (self.gathered.items ++ []) self.gathered.items) none
          (subst (λ bytes. IsBehind runner.code.rate 0 bytes self.gathered.items) (sym (append-nil self.gathered.items)) (behind-none runner.code.rate self.gathered.items));
      calls = record {
        calls = record { on_store = []; on_links = [] };
        on_store = g.met.S.Store.no_calls c.args.store.now;
        on_links = g.met.K.Links.no_moves c.args.links.now;
        holds = subst (λ n. DeliversBlocks (g.K.Links.faithful c.args.links.now) runner.code runner.pattern (outputs_in self) runner.next (blocks_from (self.gathered.items ++ []) runner.code.rate 0 n) Are
            (record { on_store = []; on_links = [] })) none (record { on_links = refl; on_store = refl });
      };
    }

-- the runner that fills is the one that went on
same : (g : given.Over) (c : After-fill-place g) → c.fill-place.new.self.runner ≡ c.loop-place.self.runner
same g c = c.fill-place.ensures.runner

-- the bytes so far, and how many blocks of them were carried before
abbrev before : (g : given.Over) (c : After-fill-place g) → List ℕ
before g c = c.args.self.now.gathered.items ++ take c.loop-place.place c.args.bytes.now

abbrev now : (g : given.Over) (c : After-fill-place g) → List ℕ
now g c = c.args.self.now.gathered.items ++ take c.fill-place.result c.args.bytes.now

abbrev blocks : (g : given.Over) (c : After-fill-place g) → ℕ
blocks g c = c.loop-place.self.runner.next - c.args.self.now.runner.next

grown : (g : given.Over) (c : After-fill-place g) → now g c ≡ before g c ++ slice_range c.args.bytes.now c.loop-place.place c.fill-place.result
grown g c = range-behind c.args.self.now.gathered.items c.args.bytes.now c.loop-place.place c.fill-place.result (omega (arith, c.fill-place.ensures.more))

-- what is gathered then is left of them
left : (g : given.Over) (c : After-fill-place g) → IsBehind c.args.self.now.runner.code.rate (blocks g c) (now g c) c.fill-place.new.self.gathered.items
left g c =
    let part = slice_range c.args.bytes.now c.loop-place.place c.fill-place.result in
    let rate = c.args.self.now.runner.code.rate in
    subst (λ bytes. IsBehind rate (blocks g c) bytes c.fill-place.new.self.gathered.items) (sym (grown g c))
    (subst (λ gathered. IsBehind rate (blocks g c) (before g c ++ part) gathered) (sym c.fill-place.ensures.gathered)
    (behind-more rate (blocks g c) (before g c) c.loop-place.self.gathered.items part c.loop-place.invariant.left))

-- the blocks that were delivered before are of them too
some : (g : given.Over) (c : After-fill-place g) (faithful : Bool) (calls : Calls)
    → DeliversBlocks faithful c.args.self.now.runner.code c.args.self.now.runner.pattern (outputs_in c.args.self.now) c.args.self.now.runner.next (blocks_from (before g c) c.args.self.now.runner.code.rate 0 (blocks g c)) Are calls
    → DeliversBlocks faithful c.args.self.now.runner.code c.args.self.now.runner.pattern (outputs_in c.args.self.now) c.args.self.now.runner.next (blocks_from (now g c) c.args.self.now.runner.code.rate 0 (blocks g c)) Are calls
some g c faithful calls is =
    let runner = c.args.self.now.runner in
    let part = slice_range c.args.bytes.now c.loop-place.place c.fill-place.result in
    subst (λ those. DeliversBlocks faithful runner.code runner.pattern (outputs_in c.args.self.now) runner.next those Are calls)
    (sym (ap (λ bytes. blocks_from bytes runner.code.rate 0 (blocks g c)) (grown g c) ∙ same-blocks runner.code.rate (blocks g c) (before g c) c.loop-place.self.gathered.items part c.loop-place.invariant.left)) is

-- what is said by the runner at hand is said of the one that began
retold : (D : Bool → Code → ℕ → Outputs → ℕ → Type 0) (g : given.Over) (c : After-fill-place g)
    → D (g.K.Links.faithful c.loop-place.links) c.fill-place.new.self.runner.code c.fill-place.new.self.runner.pattern (outputs_in c.fill-place.new.self) c.fill-place.new.self.runner.next
    → D (g.K.Links.faithful c.args.links.now) c.args.self.now.runner.code c.args.self.now.runner.pattern (outputs_in c.args.self.now) (c.args.self.now.runner.next + blocks g c)
retold D g c holds =
    let was = c.loop-place.invariant in
    let next : c.loop-place.self.runner.next ≡ c.args.self.now.runner.next + blocks g c = omega (arith, was.gone_on.more) in
    subst (λ n. D (g.K.Links.faithful c.args.links.now) c.args.self.now.runner.code c.args.self.now.runner.pattern (outputs_in c.args.self.now) n)
    (ap (λ (runner : Running). runner.next) (same g c) ∙ next)
    (subst (λ outputs. D (g.K.Links.faithful c.args.links.now) c.args.self.now.runner.code c.args.self.now.runner.pattern outputs c.fill-place.new.self.runner.next)
    (outputs-same c.fill-place.new.self c.args.self.now (c.fill-place.ensures.outputs ∙ was.outputs) (c.fill-place.ensures.parts ∙ was.parts))
    (subst-three (λ faithful code pattern. D faithful code pattern (outputs_in c.fill-place.new.self) c.fill-place.new.self.runner.next) was.faithful
    (ap (λ (runner : Running). runner.code) (same g c) ∙ was.gone_on.code) (ap (λ (runner : Running). runner.pattern) (same g c) ∙ was.gone_on.pattern) holds))

pub carry_full-requires-clause-can : goal.carry_full-requires-clause-can
carry_full-requires-clause-can g c κs within =
    subst (λ runner. CanCarry runner (g.K.Links.flying c.loop-place.links) (g.K.Links.room c.loop-place.links)) (sym c.fill-place.ensures.runner) c.loop-place.invariant.can

pub carry_full-requires-clause-numbered : goal.carry_full-requires-clause-numbered
carry_full-requires-clause-numbered g c κs within =
    let self = c.args.self.now in
    let code = self.runner.code in
    let was = c.loop-place.invariant in
    let done = c.loop-place.self.runner.next - self.runner.next in
    let sum : (self.runner.next + done) * capacity code.rate ≡ self.runner.next * capacity code.rate + done * capacity code.rate = add-mul self.runner.next done (capacity code.rate) in
    let few = length-take-le c.loop-place.place c.args.bytes.now was.within in
    let next : c.fill-place.new.self.runner.next ≡ self.runner.next + done = ap (λ (runner : Running). runner.next) c.fill-place.ensures.runner ∙ omega (arith, was.gone_on.more) in
    let all = numbered code (self.runner.next + done)
    (omega (arith, sum, was.left.whole, length-append self.gathered.items (take c.loop-place.place c.args.bytes.now), few, was.within, c.requires.short)) in
    omega (arith, all, next)

pub carry_full-requires-clause-made : goal.carry_full-requires-clause-made
carry_full-requires-clause-made g c κs within = λ path there.
    c.loop-place.invariant.made path
    (subst (λ outputs. Contains (map string_bytes outputs.items) path) (c.fill-place.ensures.outputs ∙ c.loop-place.invariant.outputs) there)

pub loop-place-preserved : goal.loop-place-preserved
loop-place-preserved g c =
    let at = (goal.at.loop-place-preserved g c).After-fill-place in
    let self = c.args.self.now in
    let runner = self.runner in
    let rate = runner.code.rate in
    let outputs = outputs_in self in
    let faithful = g.K.Links.faithful c.args.links.now in
    let was = c.loop-place.invariant in
    let after = c.in_ok-carry_full.ensures in
    let filled = c.fill-place.new.self in
    let same_rate : filled.runner.code.rate ≡ rate = ap (λ (runner : Running). runner.code.rate) c.fill-place.ensures.runner ∙ ap (λ (code : Code). code.rate) was.gone_on.code in
    let same_window : filled.window ≡ self.window = c.fill-place.ensures.window ∙ was.window in
    let done = blocks g at in
    let k = c.carry_full.new.self.runner.next - filled.runner.next in
    let same_next : filled.runner.next ≡ c.loop-place.self.runner.next = ap (λ (runner : Running). runner.next) c.fill-place.ensures.runner in
    let count : done + k ≡ c.carry_full.new.self.runner.next - runner.next = omega (arith, same_next, was.gone_on.more, after.gone_on.more) in
    let delivered = after.delivered in
    record {
      gone_on = record {
        code = after.gone_on.code ∙ ap (λ (runner : Running). runner.code) c.fill-place.ensures.runner ∙ was.gone_on.code;
        pattern = after.gone_on.pattern ∙ ap (λ (runner : Running). runner.pattern) c.fill-place.ensures.runner ∙ was.gone_on.pattern;
        more = omega (arith, same_next, was.gone_on.more, after.gone_on.more);
      };
      outputs = c.carry_full.ensures.outputs ∙ c.fill-place.ensures.outputs ∙ was.outputs;
      parts = c.carry_full.ensures.parts ∙ c.fill-place.ensures.parts ∙ was.parts;
      window = c.carry_full.ensures.window ∙ same_window;
      within = c.fill-place.ensures.within;
      room = subst₂ (λ window rate. vec_len c.carry_full.new.self.gathered < window * capacity rate) same_window same_rate after.room;
      can = after.can;
      faithful = (g.met.K.Links.accounts delivered.calls.on_links _ _ delivered.on_links).same_faithful ∙ was.faithful;
      made = λ path there. (g.met.S.Store.accounts delivered.calls.on_store _ _ delivered.on_store).counts.still_made path (was.made path there);
      left = subst (λ n. IsBehind rate n (now g at) c.carry_full.new.self.gathered.items) count
          (behind-then rate done k (now g at) filled.gathered.items c.carry_full.new.self.gathered.items (left g at)
          (subst (λ rate. IsBehind rate k filled.gathered.items c.carry_full.new.self.gathered.items) same_rate after.gathered));
      calls = subst (λ n. MakesBoth g.S.Store g.K.Links c.args.store.now c.carry_full.new.store c.args.links.now c.carry_full.new.links
          (DeliversBlocks faithful runner.code runner.pattern outputs runner.next (blocks_from (now g at) rate 0 n) Are)) count
          (both_then g.met.S.Store.more_calls g.met.K.Links.more_moves (DeliversBlocks faithful runner.code runner.pattern outputs runner.next (blocks_from (before g at) rate 0 done) Are) _
          (DeliversBlocks faithful runner.code runner.pattern outputs runner.next (blocks_from (now g at) rate 0 (done + k)) Are) was.calls delivered
          (λ front later is more.
          left-delivered faithful runner.code runner.pattern outputs c.requires.can.known runner.next done k (now g at) filled.gathered.items (left g at) front later (some g at faithful front is)
          (retold (λ faithful code pattern outputs n. DeliversBlocks faithful code pattern outputs n (blocks_from filled.gathered.items code.rate 0 k) Are later) g at more)));
    }

pub returns-in_err-carry_full-clause-interrupted : goal.returns-in_err-carry_full-clause-interrupted
returns-in_err-carry_full-clause-interrupted g c =
    let at = (goal.at.returns-in_err-carry_full-clause-interrupted g c).After-fill-place in
    let self = c.args.self.now in
    let runner = self.runner in
    let rate = runner.code.rate in
    let outputs = outputs_in self in
    let faithful = g.K.Links.faithful c.args.links.now in
    let was = c.loop-place.invariant in
    let filled = c.fill-place.new.self in
    let same_rate : filled.runner.code.rate ≡ rate = ap (λ (runner : Running). runner.code.rate) c.fill-place.ensures.runner ∙ ap (λ (code : Code). code.rate) was.gone_on.code in
    let done = blocks g at in
    let why = c.in_err-carry_full.field-0.0 in
    let rest = drop c.fill-place.result c.args.bytes.now in
    let all : now g at ++ rest ≡ self.gathered.items ++ c.args.bytes.now = sym (rest-behind self.gathered.items c.args.bytes.now c.fill-place.result) in
    let full : filled.window * capacity rate ≤ length filled.gathered.items = subst (λ rate. filled.window * capacity rate ≤ length filled.gathered.items) same_rate c.in_err-carry_full.ensures.full in
    if_err _ c.from_residual.result why c.from_residual.ensures.1
    (both_then g.met.S.Store.more_calls g.met.K.Links.more_moves (DeliversBlocks faithful runner.code runner.pattern outputs runner.next (blocks_from (before g at) rate 0 done) Are) _
    (InterruptsBytes faithful runner.code runner.pattern outputs runner.next (self.gathered.items ++ c.args.bytes.now) (length (self.gathered.items ++ c.args.bytes.now) / capacity rate) why)
    was.calls c.in_err-carry_full.ensures.interrupted
    (λ front later is broken.
    subst (λ bytes. InterruptsBytes faithful runner.code runner.pattern outputs runner.next bytes (length bytes / capacity rate) why (record { on_store = front.on_store ++ later.on_store; on_links = front.on_links ++ later.on_links })) all
    (rest-interrupted faithful runner.code runner.pattern outputs c.requires.can.known runner.next done filled.window (now g at) filled.gathered.items rest (left g at) full front later why (some g at faithful front is)
    (retold (λ faithful code pattern outputs n. InterruptsBlocks faithful code pattern outputs n (blocks_from filled.gathered.items code.rate 0 filled.window) why later) g at broken))))

-- the end of the bytes
whole : (front bytes : List ℕ) (place : ℕ) → place ≤ length bytes → length bytes ≤ place → front ++ take place bytes ≡ front ++ bytes
whole front bytes place within all = ap (λ some. front ++ some) (take_all place bytes all)

pub returns-clause-gathered : goal.returns-clause-gathered
returns-clause-gathered g c =
    let self = c.args.self.now in
    subst (λ bytes. IsBehind self.runner.code.rate (c.loop-place.self.runner.next - self.runner.next) bytes c.loop-place.self.gathered.items)
    (whole self.gathered.items c.args.bytes.now c.loop-place.place c.loop-place.invariant.within c.loop-place-test.false) c.loop-place.invariant.left

pub returns-clause-delivered : goal.returns-clause-delivered
returns-clause-delivered g c =
    let self = c.args.self.now in
    let runner = self.runner in
    both_weaker _ _ c.loop-place.invariant.calls
    (λ calls is. subst (λ bytes. DeliversBlocks (g.K.Links.faithful c.args.links.now) runner.code runner.pattern (outputs_in self) runner.next
    (blocks_from bytes runner.code.rate 0 (c.loop-place.self.runner.next - runner.next)) Are calls)
    (whole self.gathered.items c.args.bytes.now c.loop-place.place c.loop-place.invariant.within c.loop-place-test.false) is)
