use Rattle.std.proofs.Common.{◌∷◌, [], refl, subst, inl, inr, ⊎_elim}
use Rattle.coded_traffic.specs.Traffic.{room_for}
use Rattle.lif_outside.specs.LinksAccounts.{holding}
use Rattle.lif_outside.specs.Moves.{open_refused, opened}
use Rattle.top_base.specs.Given.{demo_given_in}
use Rattle.top_runs.proofs.DemoRuns.{can-carry, not-begun}
use Rattle.top_runs.specs.Demo.Given.{demo_seed}
use Rattle.top_runs.specs.Demo.Runs.{RunsDemo}
use Rattle.top_runs.specs.Sending.{link_calls}
use Rattle.top_runs.proofs.showing.show.Goals as goal

pub run-requires-clause-can : goal.run-requires-clause-can
run-requires-clause-can g c κs within =
    let opening = g.met.K.Links.accounts (opened demo_seed (room_for c.args.code.now) ∷ []) _ _ c.in-Ok.ensures.opened in
    can-carry (demo_given_in c.args.words.now) c.args.code.now c.requires.made c.in-Ok.begun.delivery.runner c.in-Ok.ensures.begun.at_work c.in-Ok.ensures.begun.pattern c.in-Ok.ensures.begun.works
    (g.K.Links.faithful c.args.links.now) (holding g.K.Links.flying g.K.Links.room g.K.Links.opened_with g.K.Links.repeats c.args.links.now)
    (holding g.K.Links.flying g.K.Links.room g.K.Links.opened_with g.K.Links.repeats c.begin.new.links) opening.follows

pub returns-in-Ok : goal.returns-in-Ok
returns-in-Ok g c =
    let demo = demo_given_in c.args.words.now in
    let code = c.args.code.now in
    let opening = opened demo_seed (room_for code) in
    let same = (g.met.K.Links.accounts (opening ∷ []) _ _ c.in-Ok.ensures.opened).same_faithful in
    record {
      made = opening ∷ c.run.ensures.made;
      lead = g.met.K.Links.more_moves (opening ∷ []) c.run.ensures.made _ _ _ c.in-Ok.ensures.opened c.run.ensures.lead;
      holds = subst (λ faithful. RunsDemo faithful demo c.run.result.status c.run.result.line (link_calls (opening ∷ c.run.ensures.made))) same c.run.ensures.holds;
    }

pub returns-in-Err : goal.returns-in-Err
returns-in-Err g c =
    let demo = demo_given_in c.args.words.now in
    let code = c.args.code.now in
    let faithful = g.K.Links.faithful c.args.links.now in
    ⊎_elim
    (λ none. record { made = []; lead = none; holds = not-begun faithful demo code c.requires.made c.out_of_memory.result.status c.out_of_memory.result.line c.out_of_memory.ensures.status c.out_of_memory.ensures.line [] (inl refl) })
    (λ refused. record {
      made = open_refused demo_seed (room_for code) ∷ [];
      lead = refused;
      holds = not-begun faithful demo code c.requires.made c.out_of_memory.result.status c.out_of_memory.result.line c.out_of_memory.ensures.status c.out_of_memory.ensures.line
          (open_refused demo_seed (room_for code) ∷ []) (inr refl);
    })
    c.in-Err.ensures.refused
