use Rattle.std.proofs.Common.{◌∷◌, [], subst, ap, ◌∙◌}
use Rattle.command_steps.specs.Filling.{Fills, StopsFilling}
use Rattle.command_steps.specs.Steps.{RunsOrForgets}
use Rattle.lif_outside.proofs.CallLaws.{calls_of, calls_weaker}
use Rattle.lif_outside.specs.FileCalls.{StopsWithin, appends_of}
use Rattle.lif_outside.specs.Sequences.{Are}
use Rattle.top_base.specs.Given.{node_given_in}
use Rattle.top_base.specs.Lines.{received_line}
use Rattle.top_nodes.proofs.SinkingLaws.{runs_done, runs_refused, runs_stopped, turns_still}
use Rattle.top_nodes.specs.Sink.{sink_gathers}
use Rattle.top_nodes.proofs.sinking.write_received.Goals as goal

pub returns-in-Err : goal.returns-in-Err
returns-in-Err g c =
    let given = node_given_in c.args.words.now in
    let sinking = c.args.sinking.now in
    calls_of (RunsOrForgets (sink_gathers given sinking.code.now sinking.streams) c.in-Err.refused) [] (g.met.S.Store.no_calls c.args.store.now)
    (runs_refused given sinking.code.now sinking.demand sinking.streams sinking.generations c.requires sinking.all sinking.whole c.in-Err.refused c.in-Err.ensures.refused)

pub returns-in-Ok-write : goal.returns-in-Ok-write
returns-in-Ok-write g c =
    let given = node_given_in c.args.words.now in
    let sinking = c.args.sinking.now in
    let seen = c.in-Ok.ensures in
    let same = turns_still sinking c.see_counts.new.self (record { code = seen.code; demand = seen.demand; streams = seen.streams; generations = seen.generations }) given in
    let said = c.received.ensures ∙ ap (λ bytes. received_line bytes c.write.new.self.generations) seen.bytes ∙ ap (received_line _) (c.write.ensures.generations ∙ seen.generations) in
    calls_weaker _ (RunsOrForgets (sink_gathers given sinking.code.now sinking.streams) _) c.in-Ok-write.ensures.written
    (λ events filled.
    runs_done given sinking.code.now sinking.demand sinking.streams sinking.generations c.requires sinking.all sinking.whole c.received.result events seen.good said
    (subst (λ turns. Fills (given.output ∷ []) (Are (appends_of turns)) events) same filled))

pub returns-in-Err-write : goal.returns-in-Err-write
returns-in-Err-write g c =
    let given = node_given_in c.args.words.now in
    let sinking = c.args.sinking.now in
    let seen = c.in-Ok.ensures in
    let same = turns_still sinking c.see_counts.new.self (record { code = seen.code; demand = seen.demand; streams = seen.streams; generations = seen.generations }) given in
    calls_weaker _ (RunsOrForgets (sink_gathers given sinking.code.now sinking.streams) c.write_fault.result) c.in-Err-write.ensures.failed
    (λ events stopped.
    runs_stopped given sinking.code.now sinking.demand sinking.streams sinking.generations c.requires sinking.all sinking.whole c.write_fault.result events seen.good
    c.write_fault.ensures.status c.write_fault.ensures.line
    (subst (λ turns. StopsFilling (given.output ∷ []) (StopsWithin (appends_of turns)) events) same stopped))
