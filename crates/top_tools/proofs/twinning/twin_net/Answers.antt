use Rattle.std.proofs.Common.{ℕ, List, ◌∷◌, []}
use Rattle.lif_outside.proofs.CallLaws.{calls_of, calls_weaker}
use Rattle.lif_outside.specs.Events.{Event}
use Rattle.net_model.specs.declared.net.Net.{Net}
use Rattle.net_reader.specs.Text.{net_limit}
use Rattle.top_base.specs.Given.{twin_given_in}
use Rattle.top_base.specs.Making.{RunsMaking}
use Rattle.top_base.specs.Networks.{IsNetOf, RefusesNet}
use Rattle.top_base.specs.Words.{Twin}
use Rattle.top_base.specs.declared.status.Status.{Status}
use Rattle.top_tools.proofs.CodeWritingLaws.{writes_all_made}
use Rattle.top_tools.proofs.TwinLaws.{joined_refused, refused_runs}
use Rattle.top_tools.proofs.twinning.twin_net.Goals as goal
use Rattle.top_tools.specs.CodeWriting.{WritesAll}
use Rattle.top_tools.specs.Twin.{CanTwin, IsTwinned, RefusesTwin}
use Rattle.two_sources.proofs.JoinedLaws.{joined-acyclic}

-- the calls after the network was read
abbrev Twins : Twin → Net → Status → List ℕ → List Event → Type 0
Twins given = RunsMaking net_limit IsNetOf RefusesNet (IsTwinned given) (CanTwin given) (RefusesTwin given)

pub returns-in-Err : goal.returns-in-Err
returns-in-Err g c =
    let given = twin_given_in c.args.words.now in
    let net = c.args.net.now in
    let refused = c.in-Err.refused in
    calls_of (Twins given net refused.status refused.line) [] (g.met.S.Store.no_calls c.args.store.now)
    (refused_runs given net refused c.in-Err.ensures.refused)

pub make-requires-clause-acyclic : goal.make-requires-clause-acyclic
make-requires-clause-acyclic g c κs within =
    let words = c.args.words.now in
    let joins = c.in-Ok.ensures.joined in
    joined-acyclic joins.second words.r1 words.r2 c.args.net.now c.in-Ok.joined joins.is_joined c.requires.acyclic

pub returns-in-Ok-make : goal.returns-in-Ok-make
returns-in-Ok-make g c =
    let given = twin_given_in c.args.words.now in
    let net = c.args.net.now in
    let made = c.in-Ok-make.made in
    let files = (given.code, made.code.items) ∷ (given.report, made.report.items) ∷ [] in
    let outcome = c.write_made.result in
    calls_weaker (WritesAll files made.line outcome.status outcome.line) (Twins given net outcome.status outcome.line) c.write_made.ensures
    (writes_all_made net_limit IsNetOf RefusesNet (IsTwinned given) (CanTwin given) (RefusesTwin given) net files made.line
    (c.in-Ok-make.ensures.ready net c.in-Ok.ensures.joined) outcome.status outcome.line)

pub returns : goal.returns
returns g c =
    let given = twin_given_in c.args.words.now in
    let net = c.args.net.now in
    let refused = c.in-Err-make.refused in
    calls_of (Twins given net refused.status refused.line) [] (g.met.S.Store.no_calls c.args.store.now)
    (refused_runs given net refused (joined_refused given net c.in-Ok.joined c.in-Ok.ensures.joined refused c.in-Err-make.ensures.refused))
