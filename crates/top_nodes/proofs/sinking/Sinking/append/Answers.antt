use Rattle.std.proofs.Common.{◌∷◌, [], sym, ◌∙◌}
use Rattle.lif_outside.proofs.CallLaws.{calls_of}
use Rattle.lif_outside.specs.FileCalls.{appends_of}
use Rattle.lif_outside.specs.Sequences.{Are}
use Rattle.top_base.specs.Given.{node_given_in}
use Rattle.top_nodes.proofs.SinkingLaws.{turn_none, turn_some}
use Rattle.top_nodes.specs.Sink.{sink_turn}
use Rattle.top_nodes.proofs.sinking.Sinking.append.Goals as goal
use Rattle.source_turns.proofs.AppendLaws.{append_done, append_stopped}

pub returns-then-is_empty-clause-appended : goal.returns-then-is_empty-clause-appended
returns-then-is_empty-clause-appended g c =
    let given = node_given_in c.args.words.now in
    let sinking = c.args.self.now in
    let none = turn_none given sinking.code.now sinking.streams c.args.generation sinking.demand c.deref.result.now c.counted-received.result.now c.requires.demand
    (c.deref.ensures.value ∙ c.decode.ensures.block) c.counted-received.ensures (sym c.is_empty.ensures ∙ c.if-is_empty.true) in
    calls_of (Are (appends_of (sink_turn given sinking.code.now sinking.streams c.args.generation ∷ []))) [] (g.met.S.Store.no_calls c.args.store.now) (sym none)

pub returns-clause-appended : goal.returns-clause-appended
returns-clause-appended g c =
    let given = node_given_in c.args.words.now in
    let sinking = c.args.self.now in
    let bytes = c.counted-received.result.now in
    let some = turn_some given sinking.code.now sinking.streams c.args.generation sinking.demand c.deref.result.now bytes c.requires.demand
    (c.deref.ensures.value ∙ c.decode.ensures.block) c.counted-received.ensures (sym c.is_empty.ensures ∙ c.if-is_empty.false) in
    append_done g.S.Store.calls c.args.store.now c.append.new.self given.output bytes (appends_of (sink_turn given sinking.code.now sinking.streams c.args.generation ∷ [])) some
    c.append.result c.append.ensures

pub returns-clause-failed : goal.returns-clause-failed
returns-clause-failed g c =
    let given = node_given_in c.args.words.now in
    let sinking = c.args.self.now in
    let bytes = c.counted-received.result.now in
    let some = turn_some given sinking.code.now sinking.streams c.args.generation sinking.demand c.deref.result.now bytes c.requires.demand
    (c.deref.ensures.value ∙ c.decode.ensures.block) c.counted-received.ensures (sym c.is_empty.ensures ∙ c.if-is_empty.false) in
    append_stopped g.S.Store.calls c.args.store.now c.append.new.self given.output bytes (appends_of (sink_turn given sinking.code.now sinking.streams c.args.generation ∷ [])) some
    c.append.result c.append.ensures
