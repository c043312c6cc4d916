use Rattle.code_file.specs.Limits.{code_limit}
use Rattle.top_base.specs.Accepting.{IsCodeOf, RefusesCode}
use Rattle.top_base.proofs.ActingLaws.{runs_had-both, runs_lost}
use Rattle.top_base.proofs.PerformingLaws.{runs_on-store}
use Rattle.top_base.specs.Given.{given_in}
use Rattle.top_runs.specs.Send.Command.{send_command}
use Rattle.top_runs.specs.Send.Runs.{Sends}
use Rattle.top_runs.proofs.sending.send.Goals as goal

pub returns-in-Ok : goal.returns-in-Ok
returns-in-Ok g c =
    let send = given_in c.args.words.now in
    runs_had-both code_limit IsCodeOf RefusesCode send.code g.met.S.Store.more_calls (Sends (g.K.Links.faithful c.args.links.now) send) c.in-Ok.checked c.send_through.result
    c.in-Ok.ensures.had c.send_through.ensures

pub returns-in-Err : goal.returns-in-Err
returns-in-Err g c =
    let send = given_in c.args.words.now in
    let faithful = g.K.Links.faithful c.args.links.now in
    runs_on-store c.args.links.now g.met.K.Links.no_moves (send_command faithful send) c.in-Err.refused
    (runs_lost code_limit IsCodeOf RefusesCode send.code (Sends faithful send) c.in-Err.refused c.in-Err.ensures.lost)
