use Rattle.code_file.specs.Items.{IsFileOf}
use Rattle.code_file.specs.Limits.{code_limit}
use Rattle.command_steps.proofs.StepLaws.{reads_then_had, reads_then_lost}
use Rattle.command_steps.specs.Steps.{RunsOrForgets}
use Rattle.lif_outside.proofs.CallLaws.{calls_then, calls_weaker}
use Rattle.lif_outside.specs.Calls.{store_calls}
use Rattle.std.proofs.Common.{Err, Ok}
use Rattle.top_base.specs.CodeFiles.{ReadsFile, RefusesFile}
use Rattle.top_base.specs.Given.{blind_given_in}
use Rattle.top_blind.specs.Blind.{blind_command, blind_through}
use Rattle.top_blind.proofs.blinding.blind.Goals as goal

pub returns-in-Ok : goal.returns-in-Ok
returns-in-Ok g c =
    let given = blind_given_in c.args.words.now in
    let code = c.in-Ok.code in
    let outcome = c.blind_through.result in
    calls_then g.met.S.Store.more_calls (ReadsFile given.code (Ok code)) (RunsOrForgets (blind_through given code) outcome) (λ events. (blind_command given).runs outcome (store_calls events))
    c.in-Ok.ensures.had c.blind_through.ensures
    (λ first later reads runs. reads_then_had code_limit IsFileOf RefusesFile given.code (blind_through given) code outcome first later reads runs)

pub returns-in-Err : goal.returns-in-Err
returns-in-Err g c =
    let given = blind_given_in c.args.words.now in
    let outcome = c.in-Err.refused in
    calls_weaker (ReadsFile given.code (Err outcome)) (λ events. (blind_command given).runs outcome (store_calls events)) c.in-Err.ensures.lost
    (λ made reads. reads_then_lost code_limit IsFileOf RefusesFile given.code (blind_through given) outcome made reads)
