-- The source's packets are put, and then turn follows turn.
use Rattle.std.proofs.Common.{Ok, refl, ◌≡◌, ◌≤◌, subst, sym, ap}
use Rattle.coded_traffic.specs.Traffic.{Window, room_for}
use Rattle.item_list.proofs.Results.{on_err}
use Rattle.lif_outside.specs.Calls.{MakesMoves}
use Rattle.node_program.specs.declared.code.Code.{Code}
use Rattle.relay_runner.proofs.RunningLaws.{first-planned, first-room, first-stops, first-way, nearer, onward, way-ends, way-stops}
use Rattle.relay_runner.proofs.runner.Runner.run.Goals as goal
use Rattle.relay_runner.specs.Carried.{IsStopped}
use Rattle.relay_runner.specs.Running.{CanStart, Running, Starts}
use Rattle.relay_runner.specs.declared.Turn.{Turn}
use Rattle.relay_runner.specs.declared.Turn.TheVariants.{Moved, Quiet}

pub put_due-requires : goal.put_due-requires
put_due-requires g c =
    let can = subst CanStart (sym c.self.view_is) c.requires.start in
    let place = ap (λ (code : Code). code.net.source) c.code.ensures.value in
    let room = subst (λ (runner : Running). room_for runner.code ≤ g.K.Links.room c.args.links.now) (sym c.self.view_is) c.requires.room in
    first-room g.K.Links c.self.inside.code.now c.self.inside.pattern c.self.inside.stations.items c.code.result.now.net.source c.index_mut.result.now
    place c.index_mut.ensures.value c.args.links.now c.requires.nothing_flies can.window can.starts room

pub invariant_of-self : goal.invariant_of-self
invariant_of-self g c =
    let can = subst CanStart (sym c.self.view_is) c.requires.start in
    let place = ap (λ (code : Code). code.net.source) c.code.ensures.value in
    record {
      pattern_is = c.self.invariant.pattern_is;
      planned = λ works. first-planned g.K.Links c.self.inside.code.now c.self.inside.pattern c.self.inside.stations.items c.code.result.now.net.source
          c.index_mut.result.now place c.index_mut.ensures.value c.args.links.now c.requires.nothing_flies can.window can.starts g.met.K.Links.accounts
          c.put_due.new.node c.put_due.new.links c.in-Ok.ensures.put;
      each_sink = c.self.invariant.each_sink;
      rooms = c.self.invariant.rooms;
    }

pub returns-in_default-clause-stopped : goal.returns-in_default-clause-stopped
returns-in_default-clause-stopped g c =
    let place = ap (λ (code : Code). code.net.source) c.code.ensures.value in
    subst (λ (runner : Running). (window : Window) → Starts runner.code runner.pattern window runner.relays runner.sinks
    → MakesMoves g.K.Links c.args.links.now c.put_due.new.links (IsStopped (g.K.Links.faithful c.args.links.now) runner.code runner.pattern window))
    c.self.view_is
    (λ window starts. first-stops g.K.Links c.self.inside.code.now c.self.inside.pattern c.self.inside.stations.items c.code.result.now.net.source
    c.index_mut.result.now place c.index_mut.ensures.value c.args.links.now c.requires.nothing_flies window starts
    c.put_due.new.node c.put_due.new.links c.in_default.ensures.failed)

pub turns-init : goal.turns-init
turns-init g c =
    let place = ap (λ (code : Code). code.net.source) c.code.ensures.value in
    first-way g.K.Links c.self.inside.code.now c.self.inside.pattern c.self.inside.stations.items c.code.result.now.net.source c.index_mut.result.now
    place c.index_mut.ensures.value c.args.links.now c.requires.nothing_flies g.met.K.Links.accounts c.self.inside.first c.self.inside.count
    c.self.inside.next c.self.inside.decoded.items c.self.inside.failed c.args.self.now c.self.view_is c.requires.works c.requires.start c.requires.room
    c.put_due.new.node c.put_due.new.links c.in-Ok.ensures.put

pub returns-in_err-turn-clause-stopped : goal.returns-in_err-turn-clause-stopped
returns-in_err-turn-clause-stopped g c =
    on_err {P = (window : Window) → Starts c.args.self.now.code c.args.self.now.pattern window c.args.self.now.relays c.args.self.now.sinks
    → MakesMoves g.K.Links c.args.links.now c.turn.new.links
    (IsStopped (g.K.Links.faithful c.args.links.now) c.args.self.now.code c.args.self.now.pattern window)} c.from_residual.result
    (way-stops g.K.Links c.args.self.now c.turns.self c.args.links.now c.turns.links c.turns.invariant g.met.K.Links.accounts g.met.K.Links.more_moves
    c.turn.new.links c.in_err-turn.ensures.stopped)

pub turns-smaller : goal.turns-smaller
turns-smaller g c =
    nearer g.K.Links c.args.self.now c.turns.self c.args.links.now c.turns.links c.turns.invariant g.met.K.Links.accounts c.turn.new.self c.turn.new.links
    c.turn.ensures.work (c.in_ok-turn.ensures.moved (ap (λ (turn : Turn). Ok turn) c.in-Moved.is))

pub turns-preserved : goal.turns-preserved
turns-preserved g c =
    onward g.K.Links c.args.self.now c.turns.self c.args.links.now c.turns.links c.turns.invariant g.met.K.Links.accounts c.turn.new.self c.turn.new.links
    c.turn.ensures.work (c.in_ok-turn.ensures.moved (ap (λ (turn : Turn). Ok turn) c.in-Moved.is)) g.met.K.Links.more_moves c.in_ok-turn.ensures.failed

-- a turn that didn't move was quiet
is_quiet : (turn : Turn) → (turn ≡ Moved → ⊥) → turn ≡ Quiet
is_quiet Moved not = absurd (not refl)
is_quiet Quiet not = refl

pub returns-clause-carried : goal.returns-clause-carried
returns-clause-carried g c =
    let quiet = ap (λ (turn : Turn). Ok turn) (is_quiet c.in_ok-turn.field-0 c.in_default-2.not-Moved) in
    way-ends g.K.Links c.args.self.now c.turns.self c.args.links.now c.turns.links c.turns.invariant g.met.K.Links.accounts g.met.K.Links.more_moves
    c.turn.new.self c.turn.new.links (c.in_ok-turn.ensures.same quiet) (c.in_ok-turn.ensures.quiet quiet) (c.in_ok-turn.ensures.none quiet)
