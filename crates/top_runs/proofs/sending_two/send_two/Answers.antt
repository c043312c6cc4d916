use Rattle.code_file.specs.Limits.{code_limit}
use Rattle.top_base.specs.Accepting.{IsCodeOf, RefusesCode}
use Rattle.top_base.proofs.ActingLaws.{runs_had-both, runs_lost}
use Rattle.top_base.proofs.PerformingLaws.{runs_on-store}
use Rattle.top_base.specs.Given.{send_two_given_in}
use Rattle.top_runs.specs.SendTwo.Command.{send_two_command}
use Rattle.top_runs.specs.SendTwo.Runs.{SendsTwo}
use Rattle.top_runs.proofs.sending_two.send_two.Goals as goal

pub returns-in-Ok : goal.returns-in-Ok
returns-in-Ok g c =
    let send = send_two_given_in c.args.words.now in
    runs_had-both code_limit IsCodeOf RefusesCode send.code g.met.S.Store.more_calls (SendsTwo (g.K.Links.faithful c.args.links.now) send) c.in-Ok.checked c.send_two_through.result
    c.in-Ok.ensures.had c.send_two_through.ensures

pub returns-in-Err : goal.returns-in-Err
returns-in-Err g c =
    let send = send_two_given_in c.args.words.now in
    let faithful = g.K.Links.faithful c.args.links.now in
    runs_on-store c.args.links.now g.met.K.Links.no_moves (send_two_command faithful send) c.in-Err.refused
    (runs_lost code_limit IsCodeOf RefusesCode send.code (SendsTwo faithful send) c.in-Err.refused c.in-Err.ensures.lost)
