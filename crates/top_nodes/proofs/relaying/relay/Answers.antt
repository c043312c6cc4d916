use Rattle.code_file.specs.Limits.{code_limit}
use Rattle.command_steps.proofs.StepLaws.{reads_then_had, reads_then_lost}
use Rattle.command_steps.specs.Steps.{RunsOrForgets}
use Rattle.lif_outside.proofs.CallLaws.{calls_then, calls_weaker}
use Rattle.lif_outside.specs.Calls.{store_calls}
use Rattle.std.proofs.Common.{Err, Ok}
use Rattle.top_base.specs.Accepting.{IsCodeOf, ReadsCode, RefusesCode}
use Rattle.top_base.specs.Given.{node_given_in}
use Rattle.top_nodes.specs.Relay.{relay_command, relay_through}
use Rattle.top_nodes.proofs.relaying.relay.Goals as goal

pub returns-in-Ok : goal.returns-in-Ok
returns-in-Ok g c =
    let given = node_given_in c.args.words.now in
    let code = c.in-Ok.code in
    let outcome = c.relay_through.result in
    calls_then g.met.S.Store.more_calls (ReadsCode given.code (Ok code)) (RunsOrForgets (relay_through given code) outcome) (λ events. (relay_command given).runs outcome (store_calls events))
    c.in-Ok.ensures.had c.relay_through.ensures
    (λ first later reads runs. reads_then_had code_limit IsCodeOf RefusesCode given.code (relay_through given) code outcome first later reads runs)

pub returns-in-Err : goal.returns-in-Err
returns-in-Err g c =
    let given = node_given_in c.args.words.now in
    let outcome = c.in-Err.refused in
    calls_weaker (ReadsCode given.code (Err outcome)) (λ events. (relay_command given).runs outcome (store_calls events)) c.in-Err.ensures.lost
    (λ made reads. reads_then_lost code_limit IsCodeOf RefusesCode given.code (relay_through given) outcome made reads)
