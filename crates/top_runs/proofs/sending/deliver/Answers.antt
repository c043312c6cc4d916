use Rattle.std.specs.Prelude.{Contains}
use Rattle.std.proofs.Common.{◌++◌, [], sym, subst, ap, ◌∙◌}
use Rattle.lif_outside.proofs.CallLaws.{both_behind, both_on_store}
use Rattle.lif_outside.specs.Calls.{Calls}
use Rattle.lif_outside.specs.Events.{created}
use Rattle.lif_outside.specs.FileCalls.{StopsWithin, creates_of}
use Rattle.lif_outside.specs.Sequences.{Are}
use Rattle.top_base.specs.Given.{given_in}
use Rattle.top_base.specs.Words.{source_limit}
use Rattle.top_base.specs.declared.outcome.Outcome.{Outcome}
use Rattle.top_base.specs.declared.status.Status.TheVariants.{Done}
use Rattle.top_runs.proofs.GivenLaws.{pattern-at_work}
use Rattle.source_delivery.proofs.Triples.{subst-three}
use Rattle.top_runs.proofs.SendCalls.{sent, unmade, unsent}
use Rattle.source_delivery.proofs.Turning.{created_there}
use Rattle.source_delivery.specs.Delivery.{paths_of}
use Rattle.top_runs.specs.Send.Runs.{RunsCode}
use Rattle.top_runs.specs.Sending.{behind_open}
use Rattle.source_delivery.specs.Turns.{Outputs}
use Rattle.source_delivery.specs.Streaming.{StopsStreaming, StreamsAll}
use Rattle.top_runs.proofs.sending.deliver.Goals as goal

-- a sink's file couldn't be created
pub returns-in_default : goal.returns-in_default
returns-in_default g c =
    let send = given_in c.args.words.now in
    let code = c.args.code.now in
    let faithful = g.K.Links.faithful c.args.links.now in
    let ready = c.requires.ready in
    let outcome = c.write_fault.result in
    both_on_store c.args.links.now (g.met.K.Links.no_moves c.args.links.now) (StopsWithin (creates_of (paths_of c.args.delivery)))
    (λ calls. RunsCode faithful send code outcome.status outcome.line (behind_open send.seed code calls)) c.in_default.ensures.failed
    (λ events stop.
    subst (λ status. RunsCode faithful send code status outcome.line (behind_open send.seed code (record { on_store = events; on_links = [] }))) (sym c.write_fault.ensures.status)
    (unmade faithful send code ready.clear outcome.line events c.write_fault.ensures.line (subst (λ (outputs : Outputs). StopsWithin (creates_of outputs.paths) events) ready.outputs stop)))

pub stream-requires-clause-made : goal.stream-requires-clause-made
stream-requires-clause-made g c κs within = λ path there.
    let creates = c.in-Ok.ensures.created in
    (g.met.S.Store.accounts creates.made _ _ creates.lead).makes path
    (subst (λ calls. Contains calls (created path)) (sym creates.holds) (created_there (paths_of c.args.delivery) path there))

-- all was sent
pub returns-in-Ok-stream : goal.returns-in-Ok-stream
returns-in-Ok-stream g c =
    let send = given_in c.args.words.now in
    let code = c.args.code.now in
    let faithful = g.K.Links.faithful c.args.links.now in
    let ready = c.requires.ready in
    let work = c.args.delivery.runner in
    let counts = c.in-Ok-stream.counts in
    let All : Calls → Type 0 = λ calls. RunsCode faithful send code Done c.sent.result (behind_open send.seed code calls) in
    both_behind g.met.S.Store.more_calls (Are (creates_of (paths_of c.args.delivery))) _ All c.in-Ok.ensures.created c.in-Ok-stream.ensures.all
    (λ first calls one all.
    subst (λ line. RunsCode faithful send code Done line (behind_open send.seed code (record { on_store = first ++ calls.on_store; on_links = calls.on_links }))) (sym c.sent.ensures)
    (sent faithful send code ready.clear first (one ∙ ap (λ (outputs : Outputs). creates_of outputs.paths) ready.outputs) calls counts
    (subst-three (λ code pattern outputs. StreamsAll faithful code pattern outputs send.source source_limit counts calls) ready.at_work (pattern-at_work send code work.pattern ready.pattern) ready.outputs all)))

-- or not all was
pub returns : goal.returns
returns g c =
    let send = given_in c.args.words.now in
    let code = c.args.code.now in
    let faithful = g.K.Links.faithful c.args.links.now in
    let ready = c.requires.ready in
    let work = c.args.delivery.runner in
    let why = c.in-Err.fault in
    let All : Calls → Type 0 = λ calls. RunsCode faithful send code c.interrupted.result.status c.interrupted.result.line (behind_open send.seed code calls) in
    both_behind g.met.S.Store.more_calls (Are (creates_of (paths_of c.args.delivery))) _ All c.in-Ok.ensures.created c.in-Err.ensures.stopped
    (λ first calls one stopped.
    subst (λ (outcome : Outcome). RunsCode faithful send code outcome.status outcome.line (behind_open send.seed code (record { on_store = first ++ calls.on_store; on_links = calls.on_links }))) (sym c.interrupted.ensures)
    (unsent faithful send code ready.clear first (one ∙ ap (λ (outputs : Outputs). creates_of outputs.paths) ready.outputs) calls why
    (subst-three (λ code pattern outputs. StopsStreaming faithful code pattern outputs send.source source_limit why calls) ready.at_work (pattern-at_work send code work.pattern ready.pattern) ready.outputs stopped)))
