use Rattle.std.specs.Prelude.{◌*◌, ◌/◌}
use Rattle.std.proofs.Common.{◌≡◌, ◌≤◌, ◌+◌, ◌++◌, [], drop, List, ℕ, length, max, take, refl, sym, ap, ◌∙◌, subst, arith}
use Rattle.std.specs.List.{concat}
use Rattle.std.proofs.Math.Nat.{mul-le-mul_right}
use Rattle.std.proofs.lemmas.List.{take_at}
use Rattle.generation_frame.specs.Blocks.{capacity, row_bytes}
use Rattle.lif_outside.proofs.CallLaws.{both_on_store, both_then, calls_then}
use Rattle.lif_outside.specs.Calls.{Calls, MakesBoth}
use Rattle.lif_outside.specs.Events.{Event}
use Rattle.lif_outside.specs.Moves.{Move}
use Rattle.lif_outside.specs.Sequences.{Are}
use Rattle.top_base.proofs.Exits.{if_err}
use Rattle.source_delivery.proofs.CarriedLaws.{length-blocks_in}
use Rattle.source_delivery.proofs.TwinLaws.{first-ends, second-ends, source-rates, twin-carried, twin-interrupted, twin-sized, window-count}
use Rattle.source_delivery.specs.Carried.{blocks_in}
use Rattle.source_delivery.specs.Delivering.{DeliversBlocks, InterruptsBlocks, StandIn, calls_join}
use Rattle.source_delivery.specs.Delivery.{outputs_in}
use Rattle.source_delivery.specs.Reading.{HaveEnded, ReadsOn, StopsReadingOn, source_of}
use Rattle.source_delivery.specs.Twin.{EndsTwin, GoesOnTwin, IsOnTwin, twin_block}
use Rattle.source_delivery.specs.declared.reader.SourceReader.{SourceReader}
use Rattle.source_delivery.specs.declared.streaming.StreamFault.TheVariants as stream
use Rattle.source_delivery.proofs.delivery.SourceDelivery.carry_next.Given as given
use Rattle.source_delivery.proofs.delivery.SourceDelivery.carry_next.Goals as goal
use Rattle.source_delivery.proofs.delivery.SourceDelivery.carry_next.Goals.{After-cut_twin_blocks, After-twin_blocks-count}

-- the first source couldn't be read on
pub returns-in_err-fill-clause-stopped : goal.returns-in_err-fill-clause-stopped
returns-in_err-fill-clause-stopped g c =
    let self = c.args.self.now in
    let runner = self.runner in
    let first = c.args.first.now in
    let second = c.args.second.now in
    let faithful = g.K.Links.faithful c.args.links.now in
    let why = c.in_err-fill.field-0.0 in
    let are = c.requires.sources in
    let rates = source-rates self first second are in
    if_err _ c.from_residual.result why c.from_residual.ensures.1
    (both_on_store c.args.links.now (g.met.K.Links.no_moves c.args.links.now) (StopsReadingOn c.args.limit first why)
    (EndsTwin faithful runner.code runner.pattern (outputs_in self) (source_of first) (source_of second) c.args.limit runner.next first second why) c.in_err-fill.ensures.stopped
    (first-ends faithful runner.code runner.pattern (outputs_in self) c.requires.can.known c.args.limit first second rates.0 rates.1 self.window runner.next are.first_room are.second_room why))

-- or the second
pub returns-in_err-fill-2-clause-stopped : goal.returns-in_err-fill-2-clause-stopped
returns-in_err-fill-2-clause-stopped g c =
    let self = c.args.self.now in
    let runner = self.runner in
    let first = c.args.first.now in
    let second = c.args.second.now in
    let now = c.fill.new.self in
    let faithful = g.K.Links.faithful c.args.links.now in
    let why = c.in_err-fill-2.field-0.0 in
    let are = c.requires.sources in
    let rates = source-rates self first second are in
    let Ends : Calls → Type 0 = EndsTwin faithful runner.code runner.pattern (outputs_in self) (source_of first) (source_of second) c.args.limit runner.next first second why in
    if_err _ c.from_residual-in_err-fill-2.result why c.from_residual-in_err-fill-2.ensures.1
    (both_on_store c.args.links.now (g.met.K.Links.no_moves c.args.links.now) (λ events. Ends (record { on_store = events; on_links = [] })) Ends
    (calls_then g.met.S.Store.more_calls (ReadsOn c.args.limit first now) (StopsReadingOn c.args.limit second why) (λ events. Ends (record { on_store = events; on_links = [] }))
    c.in_ok-fill.ensures.read c.in_err-fill-2.ensures.stopped
    (λ events later read stop. second-ends faithful runner.code runner.pattern (outputs_in self) c.requires.can.known c.args.limit first second rates.0 rates.1 self.window runner.next are.first_room are.second_room
    now events c.fill.ensures.same read c.in_ok-fill.ensures.full why later stop))
    (λ events ends. ends))

-- once both have ended, the blocks are those that are held
last : (g : given.Over) (c : After-twin_blocks-count g) → HaveEnded c.fill.new.self c.fill-2.new.self
    → c.twin_blocks-count.result ≡ max (c.fill.new.self.held / capacity c.args.first.now.rate) (c.fill-2.new.self.held / capacity c.args.second.now.rate) + 1
last g c over =
    c.twin_blocks-count.ensures.last over
    ∙ ap (λ rate. max (c.fill.new.self.held / capacity rate) (c.fill-2.new.self.held / capacity c.fill-2.new.self.rate) + 1) c.fill.ensures.same.rate
    ∙ ap (λ rate. max (c.fill.new.self.held / capacity c.args.first.now.rate) (c.fill-2.new.self.held / capacity rate) + 1) c.fill-2.ensures.same.rate

-- a window has room for the blocks
counted : (g : given.Over) (c : After-twin_blocks-count g) → (1 ≤ c.twin_blocks-count.result) × (c.twin_blocks-count.result ≤ c.args.self.now.window)
counted g c =
    let self = c.args.self.now in
    let first = c.args.first.now in
    let second = c.args.second.now in
    let now = c.fill.new.self in
    let now' = c.fill-2.new.self in
    let are = c.requires.sources in
    let rates = source-rates self first second are in
    window-count first.rate second.rate self.window c.twin_blocks-count.result now now' rates.0 rates.1 self.some_blocks
    (λ over. omega (arith, c.in_ok-fill.ensures.room over, c.fill.ensures.same.room, are.first_room))
    (λ over. omega (arith, c.in_ok-fill-2.ensures.room over, c.fill-2.ensures.same.room, are.second_room))
    c.twin_blocks-count.ensures.window (last g c)

-- the rates of both are that of the code
sum : (g : given.Over) (c : After-twin_blocks-count g) → c.fill.new.self.rate + c.fill-2.new.self.rate ≡ c.args.self.now.runner.code.rate
sum g c = omega (arith, c.fill.ensures.same.rate, c.fill-2.ensures.same.rate, c.requires.sources.rates)

pub cut_twin_blocks-requires-clause-few_blocks : goal.cut_twin_blocks-requires-clause-few_blocks
cut_twin_blocks-requires-clause-few_blocks g c =
    omega (arith, (counted g (goal.at.cut_twin_blocks-requires-clause-few_blocks g c).After-twin_blocks-count).1, c.args.self.now.few_blocks)

pub cut_twin_blocks-requires-clause-room : goal.cut_twin_blocks-requires-clause-room
cut_twin_blocks-requires-clause-room g c =
    let at = (goal.at.cut_twin_blocks-requires-clause-room g c).After-twin_blocks-count in
    let self = c.args.self.now in
    let size = self.runner.code.rate * row_bytes in
    let most : c.twin_blocks-count.result * size ≤ self.window * size = mul-le-mul_right size (counted g at).1 in
    let same : c.twin_blocks-count.result * ((c.fill.new.self.rate + c.fill-2.new.self.rate) * row_bytes) ≡ c.twin_blocks-count.result * size =
    ap (λ rate. c.twin_blocks-count.result * (rate * row_bytes)) (sum g at) in
    omega (arith, most, same, self.blocks_length, c.deref_mut.ensures.len)

pub carry_blocks-requires-clause-some_blocks : goal.carry_blocks-requires-clause-some_blocks
carry_blocks-requires-clause-some_blocks g c κs within = (counted g (goal.at.carry_blocks-requires-clause-some_blocks g c).After-twin_blocks-count).0

pub carry_blocks-requires-clause-few_blocks : goal.carry_blocks-requires-clause-few_blocks
carry_blocks-requires-clause-few_blocks g c κs within = (counted g (goal.at.carry_blocks-requires-clause-few_blocks g c).After-twin_blocks-count).1

pub carry_blocks-requires-clause-numbered : goal.carry_blocks-requires-clause-numbered
carry_blocks-requires-clause-numbered g c κs within =
    omega (arith, (counted g (goal.at.carry_blocks-requires-clause-numbered g c).After-twin_blocks-count).1, c.args.self.now.few_blocks, c.requires.numbered)

pub carry_blocks-requires-clause-made : goal.carry_blocks-requires-clause-made
carry_blocks-requires-clause-made g c κs within = λ path there.
    let reads = c.in_ok-fill.ensures.read in
    let others = c.in_ok-fill-2.ensures.read in
    (g.met.S.Store.accounts others.made _ _ others.lead).counts.still_made path ((g.met.S.Store.accounts reads.made _ _ reads.lead).counts.still_made path (c.requires.made path there))

-- the blocks that both readers hold, and the room that they were cut into
abbrev hand : (g : given.Over) (c : After-cut_twin_blocks g) → ℕ → List ℕ
hand g c =
    twin_block c.args.first.now.rate c.args.second.now.rate (take c.fill.new.self.held c.fill.new.self.bytes.items) (take c.fill-2.new.self.held c.fill-2.new.self.bytes.items)

abbrev blocks : (g : given.Over) (c : After-cut_twin_blocks g) → List (List ℕ)
blocks g c = blocks_in (hand g c) 0 c.twin_blocks-count.result

abbrev room : (g : given.Over) (c : After-cut_twin_blocks g) → List ℕ
room g c =
    let self = c.args.self.now in
    take self.blocks.len (c.cut_twin_blocks.new.blocks ++ drop (length c.cut_twin_blocks.new.blocks) self.blocks.items)

-- the room has those blocks
stand : (g : given.Over) (c : After-cut_twin_blocks g) → StandIn c.args.self.now.runner.code c.twin_blocks-count.result (blocks g c) (room g c)
stand g c =
    let self = c.args.self.now in
    let first = c.args.first.now in
    let second = c.args.second.now in
    let now = c.fill.new.self in
    let now' = c.fill-2.new.self in
    let count = c.twin_blocks-count.result in
    let are = c.requires.sources in
    let rates = source-rates self first second are in
    let same : now.rate + now'.rate ≡ self.runner.code.rate = omega (arith, c.fill.ensures.same.rate, c.fill-2.ensures.same.rate, are.rates) in
    let long : length c.cut_twin_blocks.new.blocks ≡ self.blocks.len = omega (arith, c.cut_twin_blocks.auto.blocks, c.deref_mut.ensures.len) in
    record {
      as_many = length-blocks_in (hand g c) 0 count;
      sized = twin-sized first.rate second.rate self.runner.code.rate rates.0 rates.1 are.rates (take now.held now.bytes.items) (take now'.held now'.bytes.items) 0 count;
      stand =
          ap (λ rate. take (count * (rate * row_bytes)) (room g c)) (sym same)
          ∙ ap (take (count * ((now.rate + now'.rate) * row_bytes))) (take_at c.cut_twin_blocks.new.blocks _ self.blocks.len long)
          ∙ c.cut_twin_blocks.ensures
          ∙ ap (λ (bytes : List ℕ). concat (blocks_in (twin_block now.rate now'.rate (take now.held bytes) (take now'.held c.deref-2.result.now)) 0 count)) c.deref.ensures.value
          ∙ ap (λ (bytes : List ℕ). concat (blocks_in (twin_block now.rate now'.rate (take now.held now.bytes.items) (take now'.held bytes)) 0 count)) c.deref-2.ensures.value
          ∙ ap (λ rate. concat (blocks_in (twin_block rate now'.rate (take now.held now.bytes.items) (take now'.held now'.bytes.items)) 0 count)) c.fill.ensures.same.rate
          ∙ ap (λ rate. concat (blocks_in (twin_block first.rate rate (take now.held now.bytes.items) (take now'.held now'.bytes.items)) 0 count)) c.fill-2.ensures.same.rate;
    }

-- the reads of both, one after the other
abbrev IsBoth : (g : given.Over) (c : After-cut_twin_blocks g) → List Event → Type 0
IsBoth g c events =
    (front : List Event) × (later : List Event) × ReadsOn c.args.limit c.args.first.now c.fill.new.self front × ReadsOn c.args.limit c.args.second.now c.fill-2.new.self later × (events ≡ front ++ later)

abbrev ReadsBoth : (g : given.Over) (c : After-cut_twin_blocks g) → Calls → Type 0
ReadsBoth g c calls = IsBoth g c calls.on_store × (calls.on_links ≡ [])

both : (g : given.Over) (c : After-cut_twin_blocks g) → MakesBoth g.S.Store g.K.Links c.args.store.now c.fill-2.new.store c.args.links.now c.args.links.now (ReadsBoth g c)
both g c =
    both_on_store c.args.links.now (g.met.K.Links.no_moves c.args.links.now) (IsBoth g c) (ReadsBoth g c)
    (calls_then g.met.S.Store.more_calls (ReadsOn c.args.limit c.args.first.now c.fill.new.self) (ReadsOn c.args.limit c.args.second.now c.fill-2.new.self) (IsBoth g c)
    c.in_ok-fill.ensures.read c.in_ok-fill-2.ensures.read (λ front later one other. (front, later, one, other, refl)))
    (λ events is. (is, refl))

-- calls on the store alone are these
calls-are : (calls : Calls) (events : List Event) → calls.on_store ≡ events → calls.on_links ≡ [] → calls ≡ record { on_store = events; on_links = [] }
calls-are calls events store links =
    ap (λ (events : List Event). record { on_store = events; on_links = calls.on_links }) store ∙ ap (λ (moves : List Move). record { on_store = events; on_links = moves }) links

pub returns-in_err-carry_blocks-clause-stopped : goal.returns-in_err-carry_blocks-clause-stopped
returns-in_err-carry_blocks-clause-stopped g c =
    let at = (goal.at.returns-in_err-carry_blocks-clause-stopped g c).After-cut_twin_blocks in
    let counting = (goal.at.returns-in_err-carry_blocks-clause-stopped g c).After-twin_blocks-count in
    let self = c.args.self.now in
    let runner = self.runner in
    let first = c.args.first.now in
    let second = c.args.second.now in
    let now = c.fill.new.self in
    let now' = c.fill-2.new.self in
    let faithful = g.K.Links.faithful c.args.links.now in
    let why = c.in_err-carry_blocks.field-0.0 in
    let are = c.requires.sources in
    let rates = source-rates self first second are in
    let Ends : Calls → Type 0 = EndsTwin faithful runner.code runner.pattern (outputs_in self) (source_of first) (source_of second) c.args.limit runner.next first second (stream.Sinks why) in
    if_err _ c.from_residual-in_err-carry_blocks.result (stream.Sinks why) c.from_residual-in_err-carry_blocks.ensures.1
    (both_then g.met.S.Store.more_calls g.met.K.Links.more_moves (ReadsBoth g at) (InterruptsBlocks faithful runner.code runner.pattern (outputs_in self) runner.next (blocks g at) why) Ends
    (both g at) (c.in_err-carry_blocks.ensures.interrupted (blocks g at) (stand g at))
    (λ front later reads broken.
    subst (λ (front : Calls). Ends (record { on_store = front.on_store ++ later.on_store; on_links = front.on_links ++ later.on_links })) (sym (calls-are front (reads.0.0 ++ reads.0.1) reads.0.4 reads.1))
    (λ before on.
    twin-interrupted faithful runner.code runner.pattern (outputs_in self) c.requires.can.known c.args.limit first second rates.0 rates.1 self.window runner.next are.first_room are.second_room
    now reads.0.0 c.fill.ensures.same reads.0.2 c.in_ok-fill.ensures.full now' reads.0.1 c.fill-2.ensures.same reads.0.3 c.in_ok-fill-2.ensures.full
    c.twin_blocks-count.result c.requires.unended c.twin_blocks-count.ensures.window (last g counting) before on later why broken)))

-- they were carried, and both readers hold nothing then
goes : (g : given.Over) (c : After-cut_twin_blocks g) (next : ℕ) (b : g.row.S.Denot) (now : g.row.K.Denot) {one two : SourceReader} → one.at ≡ c.fill.new.self.at → one.ended ≡ c.fill.new.self.ended → one.held ≡ 0
    → two.at ≡ c.fill-2.new.self.at → two.ended ≡ c.fill-2.new.self.ended → two.held ≡ 0 → c.args.self.now.runner.next + c.twin_blocks-count.result ≡ next
    → (HaveEnded c.fill.new.self c.fill-2.new.self → c.twin_blocks-count.result ≡ max (c.fill.new.self.held / capacity c.args.first.now.rate) (c.fill-2.new.self.held / capacity c.args.second.now.rate) + 1)
    → MakesBoth g.S.Store g.K.Links c.fill-2.new.store b c.args.links.now now
    (DeliversBlocks (g.K.Links.faithful c.args.links.now) c.args.self.now.runner.code c.args.self.now.runner.pattern (outputs_in c.args.self.now) c.args.self.now.runner.next (blocks g c) Are)
    → MakesBoth g.S.Store g.K.Links c.args.store.now b c.args.links.now now
    (GoesOnTwin (g.K.Links.faithful c.args.links.now) c.args.self.now.runner.code c.args.self.now.runner.pattern (outputs_in c.args.self.now) (source_of c.args.first.now) (source_of c.args.second.now) c.args.limit
    c.args.self.now.runner.next next c.args.first.now c.args.second.now one two)
goes g c next b now {one} {two} at ended held at' ended' held' sum over delivered =
    let self = c.args.self.now in
    let runner = self.runner in
    let first = c.args.first.now in
    let second = c.args.second.now in
    let faithful = g.K.Links.faithful c.args.links.now in
    let are = c.requires.sources in
    let rates = source-rates self first second are in
    let count = c.twin_blocks-count.result in
    both_then g.met.S.Store.more_calls g.met.K.Links.more_moves (ReadsBoth g c) (DeliversBlocks faithful runner.code runner.pattern (outputs_in self) runner.next (blocks g c) Are)
    (GoesOnTwin faithful runner.code runner.pattern (outputs_in self) (source_of first) (source_of second) c.args.limit runner.next next first second one two) (both g c) delivered
    (λ front later reads more before on.
    subst (λ n. IsOnTwin faithful runner.code runner.pattern (outputs_in self) (source_of first) (source_of second) c.args.limit n one two
    (calls_join before (record { on_store = front.on_store ++ later.on_store; on_links = front.on_links ++ later.on_links }))) sum
    (subst (λ (front : Calls). IsOnTwin faithful runner.code runner.pattern (outputs_in self) (source_of first) (source_of second) c.args.limit (runner.next + count) one two
    (calls_join before (record { on_store = front.on_store ++ later.on_store; on_links = front.on_links ++ later.on_links }))) (sym (calls-are front (reads.0.0 ++ reads.0.1) reads.0.4 reads.1))
    (twin-carried faithful runner.code runner.pattern (outputs_in self) c.requires.can.known c.args.limit first second rates.0 rates.1 self.window runner.next are.first_room are.second_room
    c.fill.new.self reads.0.0 c.fill.ensures.same reads.0.2 c.in_ok-fill.ensures.full c.fill-2.new.self reads.0.1 c.fill-2.ensures.same reads.0.3 c.in_ok-fill-2.ensures.full
    count c.requires.unended c.twin_blocks-count.ensures.window over before on one two at ended held at' ended' held' later more)))

pub returns-clause-carried : goal.returns-clause-carried
returns-clause-carried g c =
    let at = (goal.at.returns-clause-carried g c).After-cut_twin_blocks in
    let counting = (goal.at.returns-clause-carried g c).After-twin_blocks-count in
    goes g at c.carry_blocks.new.self.runner.next c.carry_blocks.new.store c.carry_blocks.new.links refl refl refl refl refl refl (sym c.in_ok-carry_blocks.ensures.moved.next) (last g counting)
    (c.in_ok-carry_blocks.ensures.delivered (blocks g at) (stand g at))
