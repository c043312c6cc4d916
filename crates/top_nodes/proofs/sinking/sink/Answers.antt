use Rattle.code_file.specs.Limits.{code_limit}
use Rattle.command_steps.proofs.StepLaws.{reads_then_had, reads_then_lost}
use Rattle.lif_outside.proofs.CallLaws.{calls_then, calls_weaker}
use Rattle.lif_outside.specs.Calls.{store_calls}
use Rattle.top_base.specs.Accepting.{IsCodeOf, RefusesCode}
use Rattle.top_base.specs.Given.{node_given_in}
use Rattle.top_nodes.specs.Sink.{sink_command, sink_through}
use Rattle.top_nodes.proofs.sinking.sink.Goals as goal

pub returns-in-Ok : goal.returns-in-Ok
returns-in-Ok g c =
    let given = node_given_in c.args.words.now in
    let outcome = c.sink_through.result in
    calls_then g.met.S.Store.more_calls _ _ (λ events. (sink_command given).runs outcome (store_calls events)) c.in-Ok.ensures.had c.sink_through.ensures
    (λ first later reads runs. reads_then_had code_limit IsCodeOf RefusesCode given.code (sink_through given) c.in-Ok.code outcome first later reads runs)

pub returns-in-Err : goal.returns-in-Err
returns-in-Err g c =
    let given = node_given_in c.args.words.now in
    let outcome = c.in-Err.refused in
    calls_weaker _ (λ events. (sink_command given).runs outcome (store_calls events)) c.in-Err.ensures.lost
    (λ events reads. reads_then_lost code_limit IsCodeOf RefusesCode given.code (sink_through given) outcome events reads)
