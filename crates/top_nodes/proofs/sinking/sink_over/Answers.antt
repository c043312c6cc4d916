use Rattle.std.proofs.Common.{◌<◌, [], All, length, append-nil, subst, subst₂, sym, ap, ◌∙◌}
use Rattle.command_steps.specs.Steps.{RunsOrForgets}
use Rattle.lif_outside.proofs.CallLaws.{calls_of, calls_then, calls_weaker}
use Rattle.link_streams.proofs.WantedLaws.{wanted_within}
use Rattle.link_streams.specs.Gathering.{wanted_links}
use Rattle.node_program.specs.declared.code.Code.{Code}
use Rattle.sink_decoder.specs.Receiving.{sink_plan_of}
use Rattle.top_base.specs.Given.{node_given_in}
use Rattle.top_nodes.proofs.ReadingLaws.{HasLost, HasReadAll, links_read}
use Rattle.top_nodes.proofs.SinkingLaws.{gathers_refused, through_declined, through_lost, through_read}
use Rattle.top_nodes.specs.Sink.{sink_gathers, sink_through}
use Rattle.top_nodes.proofs.sinking.sink_over.Goals as goal

pub returns-in-Err : goal.returns-in-Err
returns-in-Err g c =
    let given = node_given_in c.args.words.now in
    let code = c.args.code.now in
    calls_of (RunsOrForgets (sink_through given code) c.in-Err.refused) [] (g.met.S.Store.no_calls c.args.store.now) (through_declined given code c.in-Err.refused c.in-Err.ensures.refused)

pub read_streams-requires : goal.read_streams-requires
read_streams-requires g c =
    let code = c.args.code.now in
    let found = c.in-Ok.ensures in
    let demand = c.in-Ok.found.0 in
    record {
      links = subst (λ (code : Code). All (λ link. link < length code.net.links) c.deref.result.now) (sym c.code.ensures.value)
          (wanted_within code demand c.deref.result.now found.sink found.pattern
          (c.deref.ensures.value ∙ found.links ∙ ap (λ number. wanted_links (sink_plan_of code number)) (sym found.demand)));
    }

pub returns-in-Err-read_streams : goal.returns-in-Err-read_streams
returns-in-Err-read_streams g c =
    let given = node_given_in c.args.words.now in
    let code = c.args.code.now in
    let found = c.in-Ok.ensures in
    let outcome = c.in-Err-read_streams.refused in
    calls_weaker _ (RunsOrForgets (sink_through given code) outcome) c.in-Err-read_streams.ensures.lost
    (λ events lost.
    through_lost given code found.clear outcome events
    (subst₂ (λ (code : Code) links. HasLost given.input code.net links outcome events) c.code.ensures.value (c.deref.ensures.value ∙ found.links) lost))

pub gathering-requires-clause-streams : goal.gathering-requires-clause-streams
gathering-requires-clause-streams g c =
    let had = c.in-Ok-read_streams.ensures.had in
    links_read c.args.words.now.input.now c.code.result.now.net c.deref.result.now c.in-Ok-read_streams.streams had.made had.holds ∙ c.deref.ensures.value ∙ sym c.deref-2.ensures.value

pub returns-in-Ok-gathering : goal.returns-in-Ok-gathering
returns-in-Ok-gathering g c =
    let given = node_given_in c.args.words.now in
    let code = c.args.code.now in
    let found = c.in-Ok.ensures in
    let streams = c.in-Ok-read_streams.streams in
    let outcome = c.write_received.result in
    let gathered = c.in-Ok-gathering.ensures in
    calls_then g.met.S.Store.more_calls _ _ (RunsOrForgets (sink_through given code) outcome) c.in-Ok-read_streams.ensures.had c.write_received.ensures
    (λ first later read runs.
    through_read given code found.clear streams outcome first later
    (subst₂ (λ (code : Code) links. HasReadAll given.input code.net links streams first) c.code.ensures.value (c.deref.ensures.value ∙ found.links) read)
    (subst₂ (λ code streams. RunsOrForgets (sink_gathers given code streams) outcome later) gathered.code gathered.streams runs))

pub returns : goal.returns
returns g c =
    let given = node_given_in c.args.words.now in
    let code = c.args.code.now in
    let found = c.in-Ok.ensures in
    let streams = c.in-Ok-read_streams.streams in
    let outcome = c.in-Err-gathering.refused in
    calls_weaker _ (RunsOrForgets (sink_through given code) outcome) c.in-Ok-read_streams.ensures.had
    (λ events read.
    subst (RunsOrForgets (sink_through given code) outcome) (append-nil events)
    (through_read given code found.clear streams outcome events []
    (subst₂ (λ (code : Code) links. HasReadAll given.input code.net links streams events) c.code.ensures.value (c.deref.ensures.value ∙ found.links) read)
    (gathers_refused given code streams outcome c.in-Err-gathering.ensures.refused)))
