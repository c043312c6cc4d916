use Rattle.std.specs.Prelude.{◌<◌, ◌≤◌, ◌+◌, ◌-◌, ◌*◌, ◌/◌}
use Rattle.std.proofs.Common.{◌≡◌, ◌++◌, ◌∷◌, [], Bool, Contains, List, ℕ, Ok, length, map, take, refl, ap, ◌∙◌, sym, subst, subst₂, arith, string_bytes, vec_len}
use Rattle.std.proofs.Math.Nat.{one-le-mul}
use Rattle.std.proofs.lemmas.List.{length-take-le}
use Rattle.generation_frame.specs.Blocks.{block_count, capacity}
use Rattle.lif_outside.proofs.CallLaws.{both_then, both_weaker}
use Rattle.lif_outside.specs.Calls.{Calls, MakesBoth, MakesCalls}
use Rattle.lif_outside.specs.Events.{Event, read}
use Rattle.lif_outside.specs.Sequences.{Are}
use Rattle.node_program.specs.declared.code.Code.{Code}
use Rattle.top_base.proofs.Exits.{if_err}
use Rattle.top_base.specs.FileReading.{ReadsNext}
use Rattle.source_delivery.proofs.DeliveryLaws.{outputs-same}
use Rattle.source_delivery.proofs.Triples.{subst-three}
use Rattle.source_delivery.proofs.StreamingLaws.{IsOnStream, both_then_store, on-all, on-broken, on-carried, on-failed, on-long, on-none, on-read, on-stopped}
use Rattle.source_delivery.specs.Carried.{blocks_from}
use Rattle.source_delivery.specs.Delivering.{DeliversBlocks, InterruptsBlocks, InterruptsBytes, IsBehind}
use Rattle.source_delivery.specs.Delivery.{AreCounts, outputs_in, paths_of}
use Rattle.source_delivery.specs.Streaming.{StopsStreaming, StreamsAll}
use Rattle.source_delivery.specs.Turns.{Outputs}
use Rattle.source_delivery.specs.declared.streaming.StreamFault.TheVariants as stream
use Rattle.source_delivery.proofs.delivery.SourceDelivery.stream.Given as given
use Rattle.source_delivery.proofs.delivery.SourceDelivery.stream.Goals as goal
use Rattle.source_delivery.proofs.delivery.SourceDelivery.stream.Goals.{After-read_next}

pub loop-at-init : goal.loop-at-init
loop-at-init g c =
    let self = c.args.self.now in
    let runner = self.runner in
    let some : 1 ≤ runner.code.rate = runner.code.code.draft.some_rate in
    let size : 1 ≤ capacity runner.code.rate = omega (arith, some) in
    record {
      gone_on = record { code = refl; pattern = refl; more = omega arith };
      outputs = refl;
      parts = refl;
      window = refl;
      within = omega arith;
      room = omega (arith, self.gathered.ok.0, ap length c.requires.nothing, one-le-mul self.some_blocks size);
      can = c.requires.can;
      faithful = refl;
      made = c.requires.made;
      calls = record {
        calls = record { on_store = []; on_links = [] };
        on_store = g.met.S.Store.no_calls c.args.store.now;
        on_links = g.met.K.Links.no_moves c.args.links.now;
        holds =
            subst (λ gathered. IsOnStream (g.K.Links.faithful c.args.links.now) runner.code runner.pattern (outputs_in self) c.args.path.now 0 runner.next gathered (record { on_store = []; on_links = [] })) (sym c.requires.nothing)
            (subst (λ n. IsOnStream (g.K.Links.faithful c.args.links.now) runner.code runner.pattern (outputs_in self) c.args.path.now 0 n [] (record { on_store = []; on_links = [] })) (sym c.requires.from_start)
            (on-none (g.K.Links.faithful c.args.links.now) runner.code runner.pattern (outputs_in self) c.requires.can.known c.args.path.now));
      };
    }

-- what is said by the runner at hand is said of the one that began
retold : (D : Bool → Code → ℕ → Outputs → Type 0) (g : given.Over) (c : After-read_next g)
    → D (g.K.Links.faithful c.loop-at.links) c.loop-at.self.runner.code c.loop-at.self.runner.pattern (outputs_in c.loop-at.self)
    → D (g.K.Links.faithful c.args.links.now) c.args.self.now.runner.code c.args.self.now.runner.pattern (outputs_in c.args.self.now)
retold D g c holds =
    let was = c.loop-at.invariant in
    subst (λ outputs. D (g.K.Links.faithful c.args.links.now) c.args.self.now.runner.code c.args.self.now.runner.pattern outputs) (outputs-same c.loop-at.self c.args.self.now was.outputs was.parts)
    (subst-three (λ faithful code pattern. D faithful code pattern (outputs_in c.loop-at.self)) was.faithful was.gone_on.code was.gone_on.pattern holds)

-- the bytes that came
abbrev bytes : (g : given.Over) (c : After-read_next g) → ℕ → List ℕ
bytes g c count = take count c.read_next.new.chunk

-- the stream with what came
abbrev Came : (g : given.Over) (c : After-read_next g) → ℕ → Calls → Type 0
Came g c count =
    IsOnStream (g.K.Links.faithful c.args.links.now) c.args.self.now.runner.code c.args.self.now.runner.pattern (outputs_in c.args.self.now) c.args.path.now
    (c.loop-at.at + length (bytes g c count)) c.loop-at.self.runner.next (c.loop-at.self.gathered.items ++ bytes g c count)

came : (g : given.Over) (c : After-read_next g) (count : ℕ) → c.read_next.result ≡ Ok count → 0 < length (bytes g c count)
    → MakesBoth g.S.Store g.K.Links c.args.store.now c.read_next.new.store c.args.links.now c.loop-at.links (Came g c count)
came g c count is some =
    let self = c.args.self.now in
    let runner = self.runner in
    let last = subst (λ r. MakesCalls g.S.Store c.loop-at.store c.read_next.new.store (ReadsNext c.args.path.now c.loop-at.at c.read_next.new.chunk r)) is c.read_next.ensures.reads in
    both_then_store g.S.Store g.K.Links g.met.S.Store.more_calls _ _ (Came g c count) c.loop-at.invariant.calls last
    (λ calls events on reads.
    subst (λ events. Came g c count (record { on_store = calls.on_store ++ events; on_links = calls.on_links })) (sym reads.2)
    (on-read (g.K.Links.faithful c.args.links.now) runner.code runner.pattern (outputs_in self) c.requires.can.known c.args.path.now c.loop-at.at c.loop-at.self.runner.next c.loop-at.self.gathered.items calls on reads.0
    (bytes g c count) some))

-- what was made stays made
made : (g : given.Over) (c : After-read_next g) (path : List ℕ) → Contains (paths_of c.loop-at.self) path → g.S.Store.made c.read_next.new.store path
made g c path there =
    let reads = c.read_next.ensures.reads in
    (g.met.S.Store.accounts reads.made _ _ reads.lead).counts.still_made path
    (c.loop-at.invariant.made path (subst (λ outputs. Contains (map string_bytes outputs.items) path) c.loop-at.invariant.outputs there))

pub returns-in_default-clause-stopped : goal.returns-in_default-clause-stopped
returns-in_default-clause-stopped g c =
    let self = c.args.self.now in
    let runner = self.runner in
    let faithful = g.K.Links.faithful c.args.links.now in
    let last = subst (λ r. MakesCalls g.S.Store c.loop-at.store c.read_next.new.store (ReadsNext c.args.path.now c.loop-at.at c.read_next.new.chunk r)) c.in_default.is c.read_next.ensures.reads in
    let Stops : Calls → Type 0 = StopsStreaming faithful runner.code runner.pattern (outputs_in self) c.args.path.now c.args.limit stream.Read in
    both_then_store g.S.Store g.K.Links g.met.S.Store.more_calls _ _ Stops c.loop-at.invariant.calls last
    (λ calls events on reads.
    subst (λ events. Stops (record { on_store = calls.on_store ++ events; on_links = calls.on_links })) (sym reads.1)
    (on-failed faithful runner.code runner.pattern (outputs_in self) c.requires.can.known c.args.path.now c.loop-at.at c.loop-at.self.runner.next c.loop-at.self.gathered.items calls on c.args.limit reads.0
    (omega arith)))

pub carry_last-requires-clause-made : goal.carry_last-requires-clause-made
carry_last-requires-clause-made g c κs within = made g (goal.at.carry_last-requires-clause-made g c).After-read_next

pub gather-requires-clause-made : goal.gather-requires-clause-made
gather-requires-clause-made g c κs within = made g (goal.at.gather-requires-clause-made g c).After-read_next

-- the source, where the last read gave nothing
ended : (g : given.Over) (c : After-read_next g) (count : ℕ) → c.read_next.result ≡ Ok count → count ≡ 0
    → MakesCalls g.S.Store c.loop-at.store c.read_next.new.store (λ events. (room : ℕ) × (0 < room) × (events ≡ read c.args.path.now c.loop-at.at room [] ∷ []))
ended g c count is none =
    subst (λ n. MakesCalls g.S.Store c.loop-at.store c.read_next.new.store (ReadsNext c.args.path.now c.loop-at.at c.read_next.new.chunk (Ok n))) none
    (subst (λ r. MakesCalls g.S.Store c.loop-at.store c.read_next.new.store (ReadsNext c.args.path.now c.loop-at.at c.read_next.new.chunk r)) is c.read_next.ensures.reads)

-- the stream and the read that gave nothing
abbrev Ended : (g : given.Over) (c : After-read_next g) → Calls → Type 0
Ended g c calls =
    (front : Calls) × (room : ℕ) × (0 < room) × IsOnStream (g.K.Links.faithful c.args.links.now) c.args.self.now.runner.code c.args.self.now.runner.pattern (outputs_in c.args.self.now) c.args.path.now
    c.loop-at.at c.loop-at.self.runner.next c.loop-at.self.gathered.items front × (calls ≡ record { on_store = front.on_store ++ read c.args.path.now c.loop-at.at room [] ∷ []; on_links = front.on_links })

at-end : (g : given.Over) (c : After-read_next g) (count : ℕ) → c.read_next.result ≡ Ok count → count ≡ 0
    → MakesBoth g.S.Store g.K.Links c.args.store.now c.read_next.new.store c.args.links.now c.loop-at.links (Ended g c)
at-end g c count is none =
    both_then_store g.S.Store g.K.Links g.met.S.Store.more_calls _ _ (Ended g c) c.loop-at.invariant.calls (ended g c count is none)
    (λ calls events on reads.
    (calls, reads.0, reads.1, on, ap (λ (events : List Event). record { on_store = calls.on_store ++ events; on_links = calls.on_links }) reads.2))

pub returns-then-count-eq0-clause-all : goal.returns-then-count-eq0-clause-all
returns-then-count-eq0-clause-all g c =
    let at = (goal.at.returns-then-count-eq0-clause-all g c).After-read_next in
    let self = c.args.self.now in
    let runner = self.runner in
    let code = runner.code in
    let faithful = g.K.Links.faithful c.args.links.now in
    let All : Calls → Type 0 = StreamsAll faithful code runner.pattern (outputs_in self) c.args.path.now c.args.limit c.counts.result in
    let left = c.loop-at.self.gathered.items in
    let same : c.carry_last.new.self.runner.code ≡ code = c.in_ok-carry_last.ensures.code ∙ c.loop-at.invariant.gone_on.code in
    both_then g.met.S.Store.more_calls g.met.K.Links.more_moves (Ended g at) _ All (at-end g at c.in-Ok.count c.in-Ok.is c.if-count-eq0.true) c.in_ok-carry_last.ensures.delivered
    (λ first later over more.
    subst (λ (first : Calls). All (record { on_store = first.on_store ++ later.on_store; on_links = first.on_links ++ later.on_links })) (sym over.4)
    (on-all faithful code runner.pattern (outputs_in self) c.requires.can.known c.args.path.now c.loop-at.at c.loop-at.self.runner.next left over.0 over.3 c.args.limit over.1 over.2 (omega arith) later c.counts.result
    (subst (λ code. AreCounts code over.3.file c.counts.result) same (c.counts.ensures over.3.file over.3.long))
    (retold (λ faithful code pattern outputs. DeliversBlocks faithful code pattern outputs c.loop-at.self.runner.next (blocks_from left code.rate 0 (block_count left code.rate)) Are later) g at more)))

pub returns-in_err-carry_last-clause-stopped : goal.returns-in_err-carry_last-clause-stopped
returns-in_err-carry_last-clause-stopped g c =
    let at = (goal.at.returns-in_err-carry_last-clause-stopped g c).After-read_next in
    let self = c.args.self.now in
    let runner = self.runner in
    let code = runner.code in
    let faithful = g.K.Links.faithful c.args.links.now in
    let why = c.in_err-carry_last.field-0.0 in
    let Stops : Calls → Type 0 = StopsStreaming faithful code runner.pattern (outputs_in self) c.args.path.now c.args.limit (stream.Sinks why) in
    let left = c.loop-at.self.gathered.items in
    if_err _ c.from_residual.result (stream.Sinks why) c.from_residual.ensures.1
    (both_then g.met.S.Store.more_calls g.met.K.Links.more_moves (Ended g at) _ Stops (at-end g at c.in-Ok.count c.in-Ok.is c.if-count-eq0.true) c.in_err-carry_last.ensures.interrupted
    (λ first later over broken.
    subst (λ (first : Calls). Stops (record { on_store = first.on_store ++ later.on_store; on_links = first.on_links ++ later.on_links })) (sym over.4)
    (on-broken faithful code runner.pattern (outputs_in self) c.requires.can.known c.args.path.now c.loop-at.at c.loop-at.self.runner.next left over.0 over.3 c.args.limit over.1 over.2 (omega arith) later why
    (retold (λ faithful code pattern outputs. InterruptsBlocks faithful code pattern outputs c.loop-at.self.runner.next (blocks_from left code.rate 0 (block_count left code.rate)) why later) g at broken))))

pub loop-at-preserved : goal.loop-at-preserved
loop-at-preserved g c =
    let at = (goal.at.loop-at-preserved g c).After-read_next in
    let self = c.args.self.now in
    let runner = self.runner in
    let code = runner.code in
    let rate = code.rate in
    let outputs = outputs_in self in
    let faithful = g.K.Links.faithful c.args.links.now in
    let was = c.loop-at.invariant in
    let after = c.in_ok-gather.ensures in
    let count = c.in-Ok.count in
    let here = bytes g at count in
    let long : length here ≡ count = length-take-le count c.read_next.new.chunk c.in-Ok.ensures.count in
    let some : 0 < length here = omega (arith, long) in
    let same_rate : c.loop-at.self.runner.code.rate ≡ rate = ap (λ (code : Code). code.rate) was.gone_on.code in
    let before = c.loop-at.self.runner.next in
    let k = c.gather.new.self.runner.next - before in
    let sum : before + k ≡ c.gather.new.self.runner.next = omega (arith, after.gone_on.more) in
    let next : c.loop-at.at + length here ≡ c.loop-at.at + count = ap (λ n. c.loop-at.at + n) long in
    let delivered = after.delivered in
    let now = c.gather.new.self.gathered.items in
    record {
      gone_on = record {
        code = after.gone_on.code ∙ was.gone_on.code;
        pattern = after.gone_on.pattern ∙ was.gone_on.pattern;
        more = omega (arith, was.gone_on.more, after.gone_on.more);
      };
      outputs = c.gather.ensures.outputs ∙ was.outputs;
      parts = c.gather.ensures.parts ∙ was.parts;
      window = c.gather.ensures.window ∙ was.window;
      within = c.in-Ok.ensures.past;
      room = subst₂ (λ window rate. vec_len c.gather.new.self.gathered < window * capacity rate) was.window same_rate after.room;
      can = after.can;
      faithful = (g.met.K.Links.accounts delivered.calls.on_links _ _ delivered.on_links).same_faithful ∙ was.faithful;
      made = λ path there. (g.met.S.Store.accounts delivered.calls.on_store _ _ delivered.on_store).counts.still_made path
          (made g at path (subst (λ outputs. Contains (map string_bytes outputs.items) path) (sym was.outputs) there));
      calls = subst (λ n. MakesBoth g.S.Store g.K.Links c.args.store.now c.gather.new.store c.args.links.now c.gather.new.links (IsOnStream faithful code runner.pattern outputs c.args.path.now n c.gather.new.self.runner.next now)) next
          (subst (λ n. MakesBoth g.S.Store g.K.Links c.args.store.now c.gather.new.store c.args.links.now c.gather.new.links (IsOnStream faithful code runner.pattern outputs c.args.path.now (c.loop-at.at + length here) n now)) sum
          (both_then g.met.S.Store.more_calls g.met.K.Links.more_moves (Came g at count) _ (IsOnStream faithful code runner.pattern outputs c.args.path.now (c.loop-at.at + length here) (before + k) now)
          (came g at count c.in-Ok.is some) delivered
          (λ front later on more.
          on-carried faithful code runner.pattern outputs c.requires.can.known c.args.path.now (c.loop-at.at + length here) before (c.loop-at.self.gathered.items ++ here) front on k now later
          (subst (λ rate. IsBehind rate k (c.loop-at.self.gathered.items ++ here) now) same_rate after.gathered)
          (retold (λ faithful code pattern outputs. DeliversBlocks faithful code pattern outputs before (blocks_from (c.loop-at.self.gathered.items ++ here) code.rate 0 k) Are later) g at more))));
    }

pub returns-in_err-gather-clause-stopped : goal.returns-in_err-gather-clause-stopped
returns-in_err-gather-clause-stopped g c =
    let at = (goal.at.returns-in_err-gather-clause-stopped g c).After-read_next in
    let self = c.args.self.now in
    let runner = self.runner in
    let code = runner.code in
    let outputs = outputs_in self in
    let faithful = g.K.Links.faithful c.args.links.now in
    let count = c.in-Ok.count in
    let here = bytes g at count in
    let long : length here ≡ count = length-take-le count c.read_next.new.chunk c.in-Ok.ensures.count in
    let some : 0 < length here = omega (arith, long) in
    let why = c.in_err-gather.field-0.0 in
    let before = c.loop-at.self.runner.next in
    let Stops : Calls → Type 0 = StopsStreaming faithful code runner.pattern outputs c.args.path.now c.args.limit (stream.Sinks why) in
    if_err _ c.from_residual-in_err-gather.result (stream.Sinks why) c.from_residual-in_err-gather.ensures.1
    (both_then g.met.S.Store.more_calls g.met.K.Links.more_moves (Came g at count) _ Stops (came g at count c.in-Ok.is some) c.in_err-gather.ensures.interrupted
    (λ front later on broken.
    on-stopped faithful code runner.pattern outputs c.requires.can.known c.args.path.now (c.loop-at.at + length here) before (c.loop-at.self.gathered.items ++ here) front on c.args.limit
    (omega (arith, long)) (omega (arith, long, c.in-Ok.ensures.past)) later why
    (retold (λ faithful code pattern outputs. InterruptsBytes faithful code pattern outputs before (c.loop-at.self.gathered.items ++ here) (length (c.loop-at.self.gathered.items ++ here) / capacity code.rate) why later) g at broken)))

pub returns-clause-stopped : goal.returns-clause-stopped
returns-clause-stopped g c =
    let self = c.args.self.now in
    let runner = self.runner in
    let past : c.loop-at.at ≡ c.args.limit + 1 = omega (arith, c.loop-at.invariant.within, c.loop-at-test.false) in
    both_weaker _ _ c.loop-at.invariant.calls
    (λ calls on. on-long (g.K.Links.faithful c.args.links.now) runner.code runner.pattern (outputs_in self) c.requires.can.known c.args.path.now c.loop-at.at c.loop-at.self.runner.next c.loop-at.self.gathered.items calls on c.args.limit past)
