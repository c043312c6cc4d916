use Rattle.std.specs.Prelude.{◌≤◌, ◌+◌, ◌*◌, ◌^◌}
use Rattle.std.proofs.Common.{[], Bool, Contains, ℕ, map, refl, sym, ap, ◌∙◌, subst, subst₂, arith, string_bytes}
use Rattle.generation_frame.specs.Blocks.{capacity}
use Rattle.lif_outside.proofs.CallLaws.{both_then, both_weaker}
use Rattle.lif_outside.specs.FileCalls.{bytes_read}
use Rattle.lif_outside.specs.Streams.{reads_in}
use Rattle.node_program.specs.declared.code.Code.{Code}
use Rattle.top_base.proofs.Exits.{if_err}
use Rattle.source_delivery.proofs.DeliveryLaws.{outputs-same}
use Rattle.source_delivery.proofs.ReadingLaws.{same-then}
use Rattle.source_delivery.proofs.Triples.{subst-three}
use Rattle.source_delivery.proofs.TwinLaws.{few-carried, on-ended, on-unread, same-source, source-rates}
use Rattle.source_delivery.specs.Delivery.{outputs_in}
use Rattle.source_delivery.specs.Reading.{HaveEnded, Source, source_of}
use Rattle.source_delivery.specs.Turns.{Outputs}
use Rattle.source_delivery.specs.Twin.{AreSources, AreTwinCounts, EndsTwin, GoesOnTwin, IsOnTwin, StopsTwin, marked, unmarked}
use Rattle.source_delivery.specs.declared.parts.Parts.TheVariants.{Two}
use Rattle.source_delivery.proofs.delivery.SourceDelivery.stream_two.Given as given
use Rattle.source_delivery.proofs.delivery.SourceDelivery.stream_two.Goals as goal
use Rattle.source_delivery.proofs.delivery.SourceDelivery.stream_two.Goals.{After-have_ended}

pub loop-self-init : goal.loop-self-init
loop-self-init g c =
    let self = c.args.self.now in
    let runner = self.runner in
    let first = c.args.first.now in
    let second = c.args.second.now in
    let faithful = g.K.Links.faithful c.args.links.now in
    record {
      gone_on = record { code = refl; pattern = refl; more = omega arith };
      outputs = refl;
      parts = refl;
      window = refl;
      same = record { path = refl; rate = refl; room = refl };
      same' = record { path = refl; rate = refl; room = refl };
      empty = c.requires.first_unread.held;
      empty' = c.requires.second_unread.held;
      can = c.requires.can;
      faithful = refl;
      made = c.requires.made;
      calls = record {
        calls = record { on_store = []; on_links = [] };
        on_store = g.met.S.Store.no_calls c.args.store.now;
        on_links = g.met.K.Links.no_moves c.args.links.now;
        holds =
            subst (λ n. IsOnTwin faithful runner.code runner.pattern (outputs_in self) (source_of first) (source_of second) c.args.limit n first second (record { on_store = []; on_links = [] })) (sym c.requires.from_start)
            (on-unread faithful runner.code runner.pattern (outputs_in self) c.requires.can.known c.args.limit first second c.requires.first_unread c.requires.second_unread);
      };
    }

-- the sources at hand are those that began
sources : (g : given.Over) (c : After-have_ended g) → AreSources c.loop-self.self c.loop-self.first c.loop-self.second
sources g c =
    let was = c.loop-self.invariant in
    let are = c.requires.sources in
    record {
      parts = was.parts ∙ are.parts ∙ ap Two (sym was.same.rate);
      rates = omega (arith, was.same.rate, was.same'.rate, are.rates, ap (λ (code : Code). code.rate) was.gone_on.code);
      first_room = was.same.room ∙ are.first_room ∙ sym (ap (λ n. n * capacity c.loop-self.first.rate) was.window ∙ ap (λ rate. c.args.self.now.window * capacity rate) was.same.rate);
      second_room = was.same'.room ∙ are.second_room ∙ sym (ap (λ n. n * capacity c.loop-self.second.rate) was.window ∙ ap (λ rate. c.args.self.now.window * capacity rate) was.same'.rate);
    }

-- while they haven't both ended, few blocks were carried
few : (g : given.Over) (c : After-have_ended g) → ¬ HaveEnded c.loop-self.first c.loop-self.second → (c.loop-self.self.runner.next ≤ c.args.limit + 1) × (c.loop-self.self.runner.next + 4 ≤ 2 ^ 32)
few g c running =
    let self = c.args.self.now in
    let runner = self.runner in
    let first = c.args.first.now in
    let second = c.args.second.now in
    let both = c.loop-self.invariant.calls in
    let rates = source-rates self first second c.requires.sources in
    few-carried (g.K.Links.faithful c.args.links.now) runner.code runner.pattern (outputs_in self) c.requires.can.known c.args.limit (source_of first) (source_of second) rates.0 rates.1 c.loop-self.self.runner.next
    c.loop-self.first c.loop-self.second both.calls both.holds running c.requires.limit

-- what is said by what is at hand is said of what began
retold : (D : Bool → Code → ℕ → Outputs → Source → Source → Type 0) (g : given.Over) (c : After-have_ended g)
    → D (g.K.Links.faithful c.loop-self.links) c.loop-self.self.runner.code c.loop-self.self.runner.pattern (outputs_in c.loop-self.self) (source_of c.loop-self.first) (source_of c.loop-self.second)
    → D (g.K.Links.faithful c.args.links.now) c.args.self.now.runner.code c.args.self.now.runner.pattern (outputs_in c.args.self.now) (source_of c.args.first.now) (source_of c.args.second.now)
retold D g c holds =
    let was = c.loop-self.invariant in
    let runner = c.args.self.now.runner in
    let faithful = g.K.Links.faithful c.args.links.now in
    subst (λ source. D faithful runner.code runner.pattern (outputs_in c.args.self.now) (source_of c.args.first.now) source) (same-source was.same')
    (subst₂ (λ outputs first. D faithful runner.code runner.pattern outputs first (source_of c.loop-self.second)) (outputs-same c.loop-self.self c.args.self.now was.outputs was.parts) (same-source was.same)
    (subst-three (λ faithful code pattern. D faithful code pattern (outputs_in c.loop-self.self) (source_of c.loop-self.first) (source_of c.loop-self.second)) was.faithful was.gone_on.code was.gone_on.pattern holds))

pub carry_next-requires-clause-sources : goal.carry_next-requires-clause-sources
carry_next-requires-clause-sources g c κs within = sources g (goal.at.carry_next-requires-clause-sources g c).After-have_ended

pub carry_next-requires-clause-unended : goal.carry_next-requires-clause-unended
carry_next-requires-clause-unended g c κs within = c.have_ended.ensures.running c.loop-self-test.true

pub carry_next-requires-clause-numbered : goal.carry_next-requires-clause-numbered
carry_next-requires-clause-numbered g c κs within = (few g (goal.at.carry_next-requires-clause-numbered g c).After-have_ended (c.have_ended.ensures.running c.loop-self-test.true)).1

pub carry_next-requires-clause-made : goal.carry_next-requires-clause-made
carry_next-requires-clause-made g c κs within = λ path there.
    c.loop-self.invariant.made path (subst (λ outputs. Contains (map string_bytes outputs.items) path) c.loop-self.invariant.outputs there)

pub loop-self-smaller : goal.loop-self-smaller
loop-self-smaller g c =
    let at = (goal.at.loop-self-smaller g c).After-have_ended in
    omega (arith, (few g at (c.have_ended.ensures.running c.loop-self-test.true)).0, c.in_ok-carry_next.ensures.more)

pub loop-self-preserved : goal.loop-self-preserved
loop-self-preserved g c =
    let at = (goal.at.loop-self-preserved g c).After-have_ended in
    let self = c.args.self.now in
    let runner = self.runner in
    let faithful = g.K.Links.faithful c.args.links.now in
    let was = c.loop-self.invariant in
    let after = c.in_ok-carry_next.ensures in
    let carried = after.carried in
    let now = c.carry_next.new in
    record {
      gone_on = record {
        code = after.gone_on.code ∙ was.gone_on.code;
        pattern = after.gone_on.pattern ∙ was.gone_on.pattern;
        more = omega (arith, was.gone_on.more, after.gone_on.more);
      };
      outputs = c.carry_next.ensures.outputs ∙ was.outputs;
      parts = c.carry_next.ensures.parts ∙ was.parts;
      window = c.carry_next.ensures.window ∙ was.window;
      same = same-then c.args.first.now c.loop-self.first now.first was.same c.carry_next.ensures.first;
      same' = same-then c.args.second.now c.loop-self.second now.second was.same' c.carry_next.ensures.second;
      empty = after.first_empty;
      empty' = after.second_empty;
      can = after.can;
      faithful = (g.met.K.Links.accounts carried.calls.on_links _ _ carried.on_links).same_faithful ∙ was.faithful;
      made = λ path there. (g.met.S.Store.accounts carried.calls.on_store _ _ carried.on_store).counts.still_made path (was.made path there);
      calls = both_then g.met.S.Store.more_calls g.met.K.Links.more_moves
          (IsOnTwin faithful runner.code runner.pattern (outputs_in self) (source_of c.args.first.now) (source_of c.args.second.now) c.args.limit c.loop-self.self.runner.next c.loop-self.first c.loop-self.second) _
          (IsOnTwin faithful runner.code runner.pattern (outputs_in self) (source_of c.args.first.now) (source_of c.args.second.now) c.args.limit now.self.runner.next now.first now.second)
          was.calls carried
          (λ front later on goes.
          retold (λ faithful code pattern outputs one two. GoesOnTwin faithful code pattern outputs one two c.args.limit c.loop-self.self.runner.next now.self.runner.next c.loop-self.first c.loop-self.second now.first now.second later) g at goes front on);
    }

pub returns-in_err-carry_next-clause-stopped : goal.returns-in_err-carry_next-clause-stopped
returns-in_err-carry_next-clause-stopped g c =
    let at = (goal.at.returns-in_err-carry_next-clause-stopped g c).After-have_ended in
    let self = c.args.self.now in
    let runner = self.runner in
    let faithful = g.K.Links.faithful c.args.links.now in
    let why = c.in_err-carry_next.field-0.0 in
    if_err _ c.from_residual.result why c.from_residual.ensures.1
    (both_then g.met.S.Store.more_calls g.met.K.Links.more_moves
    (IsOnTwin faithful runner.code runner.pattern (outputs_in self) (source_of c.args.first.now) (source_of c.args.second.now) c.args.limit c.loop-self.self.runner.next c.loop-self.first c.loop-self.second) _
    (StopsTwin faithful runner.code runner.pattern (outputs_in self) (source_of c.args.first.now) (source_of c.args.second.now) c.args.limit why) c.loop-self.invariant.calls c.in_err-carry_next.ensures.stopped
    (λ front later on ends.
    retold (λ faithful code pattern outputs one two. EndsTwin faithful code pattern outputs one two c.args.limit c.loop-self.self.runner.next c.loop-self.first c.loop-self.second why later) g at ends front on))

pub twin_counts-requires : goal.twin_counts-requires
twin_counts-requires g c = sources g (goal.at.twin_counts-requires g c).After-have_ended

pub returns-clause-all : goal.returns-clause-all
returns-clause-all g c =
    let self = c.args.self.now in
    let runner = self.runner in
    let first = c.args.first.now in
    let second = c.args.second.now in
    let faithful = g.K.Links.faithful c.args.links.now in
    let was = c.loop-self.invariant in
    let rates = source-rates self first second c.requires.sources in
    let ended = c.have_ended.ensures.ended c.loop-self-test.false in
    both_weaker _ _ was.calls
    (λ calls on.
    let one = bytes_read (marked on.fed.marks (reads_in calls.on_store)) in
    let two = bytes_read (unmarked on.fed.marks (reads_in calls.on_store)) in
    let counts = c.twin_counts.ensures one two (sym on.fed.reads.of_first.at) (sym on.fed.reads.of_second.at) in
    on-ended faithful runner.code runner.pattern (outputs_in self) c.requires.can.known c.args.limit (source_of first) (source_of second) rates.0 rates.1 c.loop-self.self.runner.next c.loop-self.first c.loop-self.second calls on ended
    c.twin_counts.result
    (subst-three (λ code first_rate second_rate. AreTwinCounts code first_rate second_rate one two c.twin_counts.result) was.gone_on.code was.same.rate was.same'.rate counts))
