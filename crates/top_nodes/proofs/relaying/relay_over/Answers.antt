use Rattle.std.proofs.Common.{[]}
use Rattle.command_steps.specs.Steps.{RunsOrForgets}
use Rattle.lif_outside.proofs.CallLaws.{calls_of}
use Rattle.top_base.specs.Given.{node_given_in}
use Rattle.top_nodes.proofs.RelayNodeLaws.{through_declined}
use Rattle.top_nodes.specs.Relay.{relay_through}
use Rattle.top_nodes.proofs.relaying.relay_over.Goals as goal

pub returns-in-Err : goal.returns-in-Err
returns-in-Err g c =
    let given = node_given_in c.args.words.now in
    let code = c.args.code.now in
    let outcome = c.in-Err.refused in
    calls_of (RunsOrForgets (relay_through given code) outcome) [] (g.met.S.Store.no_calls c.args.store.now) (through_declined given code outcome c.in-Err.ensures.refused)
