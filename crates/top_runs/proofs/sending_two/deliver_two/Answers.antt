use Rattle.std.specs.Prelude.{Contains}
use Rattle.std.proofs.Common.{◌++◌, [], sym, subst, ap, ◌∙◌}
use Rattle.lif_outside.proofs.CallLaws.{both_behind, both_on_store}
use Rattle.lif_outside.specs.Calls.{Calls}
use Rattle.lif_outside.specs.Events.{created}
use Rattle.lif_outside.specs.FileCalls.{StopsWithin, creates_of}
use Rattle.lif_outside.specs.Sequences.{Are}
use Rattle.top_base.specs.Given.{send_two_given_in}
use Rattle.top_base.specs.Words.{source_limit}
use Rattle.top_base.specs.declared.outcome.Outcome.{Outcome}
use Rattle.top_base.specs.declared.status.Status.TheVariants.{Done}
use Rattle.source_delivery.proofs.Turning.{created_there}
use Rattle.source_delivery.specs.Delivery.{outputs_in, paths_of}
use Rattle.source_delivery.specs.Reading.{source_of}
use Rattle.source_delivery.specs.Turns.{Outputs}
use Rattle.source_delivery.specs.Twin.{StopsTwin, StreamsBoth}
use Rattle.top_runs.proofs.SendTwoCalls.{sent, unmade, unsent}
use Rattle.top_runs.proofs.SendTwoGiven.{as_ready}
use Rattle.top_runs.specs.SendTwo.Runs.{RunsCode}
use Rattle.top_runs.specs.Sending.{behind_open}
use Rattle.top_runs.proofs.sending_two.deliver_two.Goals as goal

-- a sink's file couldn't be created
pub returns-in_default : goal.returns-in_default
returns-in_default g c =
    let send = send_two_given_in c.args.words.now in
    let code = c.args.code.now in
    let faithful = g.K.Links.faithful c.args.links.now in
    let ready = c.requires.ready in
    let outcome = c.write_fault.result in
    both_on_store c.args.links.now (g.met.K.Links.no_moves c.args.links.now) (StopsWithin (creates_of (paths_of c.args.twin.delivery)))
    (λ calls. RunsCode faithful send code outcome.status outcome.line (behind_open send.seed code calls)) c.in_default.ensures.failed
    (λ events stop.
    subst (λ status. RunsCode faithful send code status outcome.line (behind_open send.seed code (record { on_store = events; on_links = [] }))) (sym c.write_fault.ensures.status)
    (unmade faithful send code ready.clear outcome.line events c.write_fault.ensures.line (subst (λ (outputs : Outputs). StopsWithin (creates_of outputs.paths) events) ready.outputs stop)))

pub stream_two-requires-clause-made : goal.stream_two-requires-clause-made
stream_two-requires-clause-made g c κs within = λ path there.
    let creates = c.in-Ok.ensures.created in
    (g.met.S.Store.accounts creates.made _ _ creates.lead).makes path
    (subst (λ calls. Contains calls (created path)) (sym creates.holds) (created_there (paths_of c.args.twin.delivery) path there))

-- all was sent
pub returns-in-Ok-stream_two : goal.returns-in-Ok-stream_two
returns-in-Ok-stream_two g c =
    let send = send_two_given_in c.args.words.now in
    let code = c.args.code.now in
    let faithful = g.K.Links.faithful c.args.links.now in
    let ready = c.requires.ready in
    let counts = c.in-Ok-stream_two.counts in
    let work = c.args.twin.delivery.runner in
    let Streamed : Calls → Type 0 =
    StreamsBoth faithful work.code work.pattern (outputs_in c.args.twin.delivery) (source_of c.args.twin.first) (source_of c.args.twin.second) source_limit counts in
    let All : Calls → Type 0 = λ calls. RunsCode faithful send code Done c.sent_both.result (behind_open send.seed code calls) in
    both_behind g.met.S.Store.more_calls (Are (creates_of (paths_of c.args.twin.delivery))) Streamed All c.in-Ok.ensures.created c.in-Ok-stream_two.ensures.all
    (λ first calls one all.
    subst (λ line. RunsCode faithful send code Done line (behind_open send.seed code (record { on_store = first ++ calls.on_store; on_links = calls.on_links }))) (sym c.sent_both.ensures)
    (sent faithful send code ready.clear first (one ∙ ap (λ (outputs : Outputs). creates_of outputs.paths) ready.outputs) calls counts
    (as_ready send code c.args.twin ready (λ code pattern outputs one two. StreamsBoth faithful code pattern outputs one two source_limit counts calls) all)))

-- or not all was
pub returns : goal.returns
returns g c =
    let send = send_two_given_in c.args.words.now in
    let code = c.args.code.now in
    let faithful = g.K.Links.faithful c.args.links.now in
    let ready = c.requires.ready in
    let why = c.in-Err.fault in
    let work = c.args.twin.delivery.runner in
    let Stopped : Calls → Type 0 =
    StopsTwin faithful work.code work.pattern (outputs_in c.args.twin.delivery) (source_of c.args.twin.first) (source_of c.args.twin.second) source_limit why in
    let All : Calls → Type 0 = λ calls. RunsCode faithful send code c.interrupted.result.status c.interrupted.result.line (behind_open send.seed code calls) in
    both_behind g.met.S.Store.more_calls (Are (creates_of (paths_of c.args.twin.delivery))) Stopped All c.in-Ok.ensures.created c.in-Err.ensures.stopped
    (λ first calls one stopped.
    subst (λ (outcome : Outcome). RunsCode faithful send code outcome.status outcome.line (behind_open send.seed code (record { on_store = first ++ calls.on_store; on_links = calls.on_links }))) (sym c.interrupted.ensures)
    (unsent faithful send code ready.clear first (one ∙ ap (λ (outputs : Outputs). creates_of outputs.paths) ready.outputs) calls why
    (as_ready send code c.args.twin ready (λ code pattern outputs one two. StopsTwin faithful code pattern outputs one two source_limit why calls) stopped)))
