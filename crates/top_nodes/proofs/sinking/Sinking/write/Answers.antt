use Rattle.std.specs.Prelude.{◌+◌, ℕ}
use Rattle.std.proofs.Common.{◌≡◌, ◌∷◌, ◌++◌, [], inr, inl, refl, sym, ap, subst, ◌∙◌, arith}
use Rattle.command_steps.specs.Filling.{Fills, StopsFilling}
use Rattle.item_list.proofs.Results.{on_err}
use Rattle.lif_outside.proofs.CallLaws.{calls_of, calls_then}
use Rattle.lif_outside.proofs.SequenceLaws.{stops_here}
use Rattle.lif_outside.proofs.TurnLaws.{first_there}
use Rattle.lif_outside.specs.Events.{create_failed, created}
use Rattle.lif_outside.specs.FileCalls.{StopsWithin, appends_of}
use Rattle.lif_outside.specs.Sequences.{Are}
use Rattle.top_base.specs.Given.{node_given_in}
use Rattle.source_turns.proofs.AppendLaws.{turns_more, turns_stopped}
use Rattle.top_nodes.proofs.SinkingLaws.{still_here, still_then, turn_still}
use Rattle.top_nodes.specs.Sink.{sink_turn, sink_turns}
use Rattle.top_nodes.proofs.sinking.Sinking.write.Goals as goal

pub returns-in_err-create-clause-failed : goal.returns-in_err-create-clause-failed
returns-in_err-create-clause-failed g c =
    let given = node_given_in c.args.words.now in
    let sinking = c.args.self.now in
    let all = appends_of (sink_turns given sinking.code.now sinking.streams sinking.generations) in
    on_err c.from_residual.result
    (calls_of (StopsFilling (given.output ∷ []) (StopsWithin all)) (create_failed given.output ∷ []) c.in_err-create.ensures (inl (stops_here (created given.output) [])))

pub loop-generation-init : goal.loop-generation-init
loop-generation-init g c =
    let path = c.args.words.now.output.now in
    record {
      still = still_here c.args.self.now;
      made = (g.met.S.Store.accounts (created path ∷ []) c.args.store.now c.create.new.self c.in_ok-create.ensures).makes path (first_there (created path) []);
      calls = calls_of (Are []) [] (g.met.S.Store.no_calls c.create.new.self) refl;
    }

pub returns-in_err-append-clause-failed : goal.returns-in_err-append-clause-failed
returns-in_err-append-clause-failed g c =
    let given = node_given_in c.args.words.now in
    let sinking = c.args.self.now in
    let at = c.loop-generation in
    let turn = sink_turn given sinking.code.now sinking.streams in
    let front = appends_of (sink_turns given sinking.code.now sinking.streams at.generation) in
    let all = appends_of (sink_turns given sinking.code.now sinking.streams sinking.generations) in
    let same = turn_still sinking at.self at.invariant.still given at.generation in
    on_err c.from_residual-in_err-append.result
    (calls_then g.met.S.Store.more_calls (Are (created given.output ∷ [])) (StopsWithin all) (StopsFilling (given.output ∷ []) (StopsWithin all))
    (calls_of (Are (created given.output ∷ [])) (created given.output ∷ []) c.in_ok-create.ensures refl)
    (calls_then g.met.S.Store.more_calls (Are front) (StopsWithin (appends_of (sink_turn given at.self.code.now at.self.streams at.generation ∷ []))) (StopsWithin all)
    at.invariant.calls c.in_err-append.ensures.failed
    (λ first later one stop. subst (λ first. StopsWithin all (first ++ later)) (sym one)
    (turns_stopped turn sinking.generations at.generation later c.loop-generation-test.true (subst (λ turn. StopsWithin (appends_of (turn ∷ [])) later) same stop))))
    (λ first later one stop. inr (record { first = first; later = later; events_are = refl; holds_first = one; holds_later = stop })))

pub loop-generation-preserved : goal.loop-generation-preserved
loop-generation-preserved g c =
    let given = node_given_in c.args.words.now in
    let sinking = c.args.self.now in
    let at = c.loop-generation in
    let turn = sink_turn given sinking.code.now sinking.streams in
    let front = appends_of (sink_turns given sinking.code.now sinking.streams at.generation) in
    let same = turn_still sinking at.self at.invariant.still given at.generation in
    let done = c.append.ensures in
    record {
      still = still_then sinking at.self c.append.new.self at.invariant.still (record { code = done.code; demand = done.demand; streams = done.streams; generations = done.generations });
      made = done.still_made;
      calls = calls_then g.met.S.Store.more_calls (Are front) (Are (appends_of (sink_turn given at.self.code.now at.self.streams at.generation ∷ [])))
          (Are (appends_of (sink_turns given sinking.code.now sinking.streams (at.generation + 1)))) at.invariant.calls c.in_ok-append.ensures.appended
          (λ first later one other. ap (λ first. first ++ later) one ∙ ap (λ later. front ++ later) (other ∙ ap (λ turn. appends_of (turn ∷ [])) same) ∙ turns_more turn at.generation);
    }

pub returns-clause-written : goal.returns-clause-written
returns-clause-written g c =
    let given = node_given_in c.args.words.now in
    let sinking = c.args.self.now in
    let at = c.loop-generation in
    let due = λ (generations : ℕ). appends_of (sink_turns given sinking.code.now sinking.streams generations) in
    let end : at.generation ≡ sinking.generations = omega arith in
    calls_then g.met.S.Store.more_calls (Are (created given.output ∷ [])) (Are (due at.generation)) (Fills (given.output ∷ []) (Are (due sinking.generations)))
    (calls_of (Are (created given.output ∷ [])) (created given.output ∷ []) c.in_ok-create.ensures refl) at.invariant.calls
    (λ first later one other. record { first = first; later = later; events_are = refl; holds_first = one; holds_later = other ∙ ap due end })
