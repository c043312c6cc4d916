use Rattle.std.specs.Prelude.{◌∷◌, [], Bool}
use Rattle.std.proofs.Common.{subst}
use Rattle.coded_traffic.specs.Traffic.{room_for}
use Rattle.lif_outside.proofs.CallLaws.{both_behind_move, both_on_links}
use Rattle.lif_outside.specs.Calls.{Calls}
use Rattle.lif_outside.specs.LinksAccounts.{holding}
use Rattle.lif_outside.specs.Moves.{opened}
use Rattle.top_base.specs.Given.{given_in}
use Rattle.source_delivery.proofs.DeliveryLaws.{opened-can}
use Rattle.top_runs.proofs.GivenLaws.{pattern-within}
use Rattle.top_runs.specs.Send.Runs.{RunsCode, Sends}
use Rattle.top_runs.specs.Sending.{behind_open, link_calls}
use Rattle.top_runs.proofs.sending.send_over.Goals as goal

pub deliver-requires-clause-can : goal.deliver-requires-clause-can
deliver-requires-clause-can g c κs within =
    let send = given_in c.args.words.now in
    let code = c.args.code.now in
    let runner = c.in-Ok.delivery.runner in
    let ready = c.in-Ok.ensures.ready in
    let opening = g.met.K.Links.accounts (opened send.seed (room_for code) ∷ []) _ _ c.in-Ok.ensures.opened in
    opened-can send.seed code runner ready.at_work (pattern-within send code runner.pattern ready.pattern) ready.works (g.K.Links.faithful c.args.links.now)
    (holding g.K.Links.flying g.K.Links.room g.K.Links.opened_with g.K.Links.repeats c.args.links.now)
    (holding g.K.Links.flying g.K.Links.room g.K.Links.opened_with g.K.Links.repeats c.prepare.new.links) opening.follows

pub returns-in-Ok : goal.returns-in-Ok
returns-in-Ok g c =
    let send = given_in c.args.words.now in
    let code = c.args.code.now in
    let outcome = c.deliver.result in
    let opening = opened send.seed (room_for code) in
    let same = (g.met.K.Links.accounts (opening ∷ []) _ _ c.in-Ok.ensures.opened).same_faithful in
    let Delivers : Bool → Calls → Type 0 = λ faithful calls. RunsCode faithful send code outcome.status outcome.line (behind_open send.seed code calls) in
    both_behind_move g.met.K.Links.more_moves (Delivers (g.K.Links.faithful c.prepare.new.links)) (Sends (g.K.Links.faithful c.args.links.now) send code outcome) opening
    c.in-Ok.ensures.opened c.deliver.ensures (λ calls is. subst (λ faithful. Delivers faithful calls) same is)

pub returns-in-Err : goal.returns-in-Err
returns-in-Err g c =
    let send = given_in c.args.words.now in
    let code = c.args.code.now in
    let faithful = g.K.Links.faithful c.args.links.now in
    let outcome = c.in-Err.refused in
    both_on_links c.args.store.now (g.met.S.Store.no_calls c.args.store.now) (λ moves. RunsCode faithful send code outcome.status outcome.line (link_calls moves))
    (Sends faithful send code outcome) c.in-Err.ensures.refused (λ moves is. is)
