use Rattle.std.specs.Prelude.{◌∷◌, [], Bool}
use Rattle.std.proofs.Common.{subst}
use Rattle.coded_traffic.specs.Traffic.{room_for}
use Rattle.lif_outside.proofs.CallLaws.{both_behind_move, both_on_links}
use Rattle.lif_outside.specs.Calls.{Calls}
use Rattle.lif_outside.specs.LinksAccounts.{holding}
use Rattle.lif_outside.specs.Moves.{opened}
use Rattle.top_base.specs.Given.{send_two_given_in}
use Rattle.source_delivery.proofs.DeliveryLaws.{opened-can}
use Rattle.top_runs.proofs.SendTwoGiven.{pattern-within}
use Rattle.top_runs.specs.SendTwo.Runs.{RunsCode, SendsTwo}
use Rattle.top_runs.specs.Sending.{behind_open, link_calls}
use Rattle.top_runs.proofs.sending_two.send_two_over.Goals as goal

pub deliver_two-requires-clause-can : goal.deliver_two-requires-clause-can
deliver_two-requires-clause-can g c κs within =
    let send = send_two_given_in c.args.words.now in
    let code = c.args.code.now in
    let runner = c.in-Ok.twin.delivery.runner in
    let ready = c.in-Ok.ensures.ready in
    let opening = g.met.K.Links.accounts (opened send.seed (room_for code) ∷ []) _ _ c.in-Ok.ensures.opened in
    opened-can send.seed code runner ready.at_work (pattern-within send code runner.pattern ready.pattern) ready.works (g.K.Links.faithful c.args.links.now)
    (holding g.K.Links.flying g.K.Links.room g.K.Links.opened_with g.K.Links.repeats c.args.links.now)
    (holding g.K.Links.flying g.K.Links.room g.K.Links.opened_with g.K.Links.repeats c.prepare_two.new.links) opening.follows

pub returns-in-Ok : goal.returns-in-Ok
returns-in-Ok g c =
    let send = send_two_given_in c.args.words.now in
    let code = c.args.code.now in
    let outcome = c.deliver_two.result in
    let opening = opened send.seed (room_for code) in
    let same = (g.met.K.Links.accounts (opening ∷ []) _ _ c.in-Ok.ensures.opened).same_faithful in
    let Delivers : Bool → Calls → Type 0 = λ faithful calls. RunsCode faithful send code outcome.status outcome.line (behind_open send.seed code calls) in
    both_behind_move g.met.K.Links.more_moves (Delivers (g.K.Links.faithful c.prepare_two.new.links)) (SendsTwo (g.K.Links.faithful c.args.links.now) send code outcome) opening
    c.in-Ok.ensures.opened c.deliver_two.ensures (λ calls is. subst (λ faithful. Delivers faithful calls) same is)

pub returns-in-Err : goal.returns-in-Err
returns-in-Err g c =
    let send = send_two_given_in c.args.words.now in
    let code = c.args.code.now in
    let faithful = g.K.Links.faithful c.args.links.now in
    let outcome = c.in-Err.refused in
    both_on_links c.args.store.now (g.met.S.Store.no_calls c.args.store.now) (λ moves. RunsCode faithful send code outcome.status outcome.line (link_calls moves))
    (SendsTwo faithful send code outcome) c.in-Err.ensures.refused (λ moves is. is)
