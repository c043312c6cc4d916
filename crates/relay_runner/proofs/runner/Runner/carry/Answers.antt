-- The stations begin the window and are fed it, and then it is carried.
use Rattle.std.proofs.Common.{◌≡◌, ◌≤◌, ◌+◌, ◌++◌, List, ap, arith, drop, length, refl, subst, sym, take, ◌∙◌}
use Rattle.std.proofs.lemmas.List.{take_at}
use Rattle.std.proofs.lemmas.Result.{on_err_weaker, on_ok_weaker}
use Rattle.lif_outside.specs.Calls.{MakesMoves}
use Rattle.node_program.specs.Decoding.{IsAccepted}
use Rattle.node_stations.specs.Table.{relays_of, sinks_of}
use Rattle.node_stations.specs.declared.station.Station.{Station}
use Rattle.relay_runner.proofs.CarriedLaws.{has-sent}
use Rattle.relay_runner.proofs.RunningLaws.{has-carried}
use Rattle.relay_runner.proofs.StartingLaws.{made-start, seen-count, start-planned, window-count}
use Rattle.relay_runner.proofs.UnderwayLaws.{still-open}
use Rattle.relay_runner.proofs.runner.Runner.carry.Given as given
use Rattle.relay_runner.proofs.runner.Runner.carry.Goals as goal
use Rattle.relay_runner.proofs.runner.Runner.carry.Goals.{After-start_window-count}
use Rattle.relay_runner.specs.Carried.{CarriesWindow, IsStopped}
use Rattle.relay_runner.specs.Carrying.{Carries}
use Rattle.relay_runner.specs.Running.{AreBlocks, Running, Starts, window_from}

-- the stations once they have begun the window, as the runner has them
abbrev begun : (g : given.Over) → After-start_window-count g → List (Station g.row.F.Denot)
begun g c =
    take c.self.inside.stations.len
    (c.start_window-count.new.stations ++ drop (length c.start_window-count.new.stations) c.self.inside.stations.items)

-- the runner then
abbrev runner_begun : (g : given.Over) → After-start_window-count g → Running
runner_begun g c =
    record {
      code = c.self.inside.code.now;
      pattern = c.self.inside.pattern;
      relays = relays_of (begun g c);
      sinks = sinks_of (begun g c);
      first = c.self.inside.next;
      count = c.start_window-count.result;
      next = c.self.inside.next + c.start_window-count.result;
      decoded = c.self.inside.decoded.items;
      has_failed = c.self.inside.failed;
    }

-- they can start
starts : (g : given.Over) (c : After-start_window-count g)
    → Starts c.self.inside.code.now c.self.inside.pattern (window_from c.self.inside.code.now c.self.inside.next c.args.blocks.now)
    (relays_of (begun g c)) (sinks_of (begun g c))
starts g c =
    let new : List (Station g.row.F.Denot) = c.start_window-count.new.stations in
    let back : begun g c ≡ new =
    take_at new (drop (length new) c.self.inside.stations.items) c.self.inside.stations.len (c.start_window-count.auto.stations ∙ c.deref_mut.ensures.len) in
    let works = ap (λ (runner : Running). runner.has_failed) c.self.view_is ∙ c.requires.works in
    made-start c.self.inside.code.now c.code.result.now c.code.ensures.value c.self.inside.pattern c.self.inside.next c.args.blocks.now
    c.self.inside.stations.items c.deref_mut.result.now new (begun g c) c.deref_mut.ensures.value back c.self.invariant.pattern_is
    (c.self.invariant.planned works) c.start_window-count.ensures.starts

-- the count is that of the window
counted : (g : given.Over) (c : After-start_window-count g)
    → c.start_window-count.result ≡ length (window_from c.self.inside.code.now c.self.inside.next c.args.blocks.now).blocks
counted g c =
    seen-count c.self.inside.code.now c.code.result.now c.code.ensures.value c.self.inside.next c.args.blocks.now c.start_window-count.result
    c.start_window-count.ensures.count

-- and there is one
some_blocks : (g : given.Over) (c : After-start_window-count g)
    → 1 ≤ length (window_from c.self.inside.code.now c.self.inside.next c.args.blocks.now).blocks
some_blocks g c =
    let blocks = subst (λ (runner : Running). AreBlocks runner.code runner.next c.args.blocks.now) (sym c.self.view_is) c.requires.blocks in
    omega (arith, blocks.some_blocks, window-count c.self.inside.code.now c.self.inside.next c.args.blocks.now)

pub invariant_of-self : goal.invariant_of-self
invariant_of-self g c =
    let at = (goal.at.invariant_of-self g c).After-start_window-count in
    let code = c.self.inside.code.now in
    record {
      pattern_is = c.self.invariant.pattern_is;
      planned = λ works. start-planned code c.self.inside.pattern (window_from code c.self.inside.next c.args.blocks.now) (relays_of (begun g at))
          (sinks_of (begun g at)) (starts g at);
      each_sink = c.self.invariant.each_sink;
      rooms = c.self.invariant.rooms;
    }

pub run-requires-clause-start : goal.run-requires-clause-start
run-requires-clause-start g c =
    let at = (goal.at.run-requires-clause-start g c).After-start_window-count in
    record {
      window = window_from c.self.inside.code.now c.self.inside.next c.args.blocks.now;
      same_first = refl;
      same_count = counted g at;
      starts = starts g at;
    }

pub returns-clause-carried : goal.returns-clause-carried
returns-clause-carried g c =
    let at = (goal.at.returns-clause-carried g c).After-start_window-count in
    let code = c.self.inside.code.now in
    on_ok_weaker c.run.result (λ carries.
    subst (λ (runner : Running). Carries g.K.Links runner.code runner.pattern (window_from runner.code runner.next c.args.blocks.now)
    c.args.links.now c.run.new.links c.run.new.self.relays c.run.new.self.sinks) c.self.view_is
    (carries (window_from code c.self.inside.next c.args.blocks.now) (starts g at))) c.run.ensures.carried

pub returns-clause-sent : goal.returns-clause-sent
returns-clause-sent g c =
    let at = (goal.at.returns-clause-sent g c).After-start_window-count in
    let window = window_from c.self.inside.code.now c.self.inside.next c.args.blocks.now in
    let accepted : IsAccepted c.self.inside.code.now = subst IsAccepted c.code.ensures.value c.code.ensures.accepted in
    on_ok_weaker c.run.result (λ carries.
    subst (λ (runner : Running). CarriesWindow g.K.Links (window_from runner.code runner.next c.args.blocks.now) c.args.links.now c.run.new.links c.run.new.self)
    c.self.view_is
    (has-sent g.K.Links (runner_begun g at) c.run.new.self c.run.ensures.work window refl (counted g at) (some_blocks g at) accepted c.args.links.now c.run.new.links
    (carries window (starts g at)))) c.run.ensures.carried

pub returns-clause-whole : goal.returns-clause-whole
returns-clause-whole g c =
    let at = (goal.at.returns-clause-whole g c).After-start_window-count in
    let window = window_from c.self.inside.code.now c.self.inside.next c.args.blocks.now in
    on_ok_weaker c.run.result (λ carries.
    has-carried g.K.Links (runner_begun g at) c.run.new.self c.run.ensures.work window refl (counted g at) c.args.links.now c.run.new.links
    (carries window (starts g at))) c.run.ensures.carried

pub returns-clause-quiet : goal.returns-clause-quiet
returns-clause-quiet g c =
    let at = (goal.at.returns-clause-quiet g c).After-start_window-count in
    let window = window_from c.self.inside.code.now c.self.inside.next c.args.blocks.now in
    on_ok_weaker c.run.result (λ carries. (carries window (starts g at)).quiet) c.run.ensures.carried

pub returns-clause-room : goal.returns-clause-room
returns-clause-room g c =
    let at = (goal.at.returns-clause-room g c).After-start_window-count in
    let code = c.self.inside.code.now in
    let window = window_from code c.self.inside.next c.args.blocks.now in
    on_ok_weaker c.run.result (λ carries.
    (still-open g.K.Links code c.self.inside.pattern window g.met.K.Links.accounts c.args.links.now c.run.new.links c.run.new.self.relays c.run.new.self.sinks
    (carries window (starts g at)).carried).same_room) c.run.ensures.carried

pub returns-clause-seed : goal.returns-clause-seed
returns-clause-seed g c =
    let at = (goal.at.returns-clause-seed g c).After-start_window-count in
    let code = c.self.inside.code.now in
    let window = window_from code c.self.inside.next c.args.blocks.now in
    on_ok_weaker c.run.result (λ carries.
    (still-open g.K.Links code c.self.inside.pattern window g.met.K.Links.accounts c.args.links.now c.run.new.links c.run.new.self.relays c.run.new.self.sinks
    (carries window (starts g at)).carried).same_seed) c.run.ensures.carried

pub returns-clause-stopped : goal.returns-clause-stopped
returns-clause-stopped g c =
    let at = (goal.at.returns-clause-stopped g c).After-start_window-count in
    let code = c.self.inside.code.now in
    on_err_weaker c.run.result (λ stops.
    subst (λ (runner : Running). MakesMoves g.K.Links c.args.links.now c.run.new.links
    (IsStopped (g.K.Links.faithful c.args.links.now) runner.code runner.pattern (window_from runner.code runner.next c.args.blocks.now))) c.self.view_is
    (stops (window_from code c.self.inside.next c.args.blocks.now) (starts g at))) c.run.ensures.stopped
