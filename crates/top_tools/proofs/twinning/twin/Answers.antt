use Rattle.std.proofs.Common.{◌≡◌, [], ◌∷◌, ℕ, List, None, ap, refl, sym, ◌∙◌}
use Rattle.std.specs.Option.{option_map}
use Rattle.lif_outside.proofs.CallLaws.{calls_weaker}
use Rattle.lif_outside.specs.Calls.{store_calls}
use Rattle.net_reader.specs.Text.{net_limit}
use Rattle.top_base.proofs.ActingLaws.{runs_had, runs_lost}
use Rattle.top_base.proofs.MakingLaws.{runs_apart}
use Rattle.top_base.specs.Given.{twin_given_in}
use Rattle.top_base.specs.Making.{RunsMaking, Writes}
use Rattle.top_base.specs.Networks.{IsNetOf, RefusesNet}
use Rattle.top_base.specs.Paths.{shared_path}
use Rattle.top_base.specs.Words.{Twin}
use Rattle.top_tools.proofs.twinning.twin.Goals as goal
use Rattle.top_tools.specs.Twin.{CanTwin, IsTwinned, RefusesTwin}

-- the paths that are written
abbrev outputs : Twin → List (List ℕ)
outputs given = given.code ∷ given.report ∷ []

pub returns-in-Ok : goal.returns-in-Ok
returns-in-Ok g c =
    let given = twin_given_in c.args.words.now in
    let apart : shared_path (given.net ∷ []) (outputs given) ≡ None =
    sym c.shared_path.ensures ∙ ap (option_map (λ path. path.now)) c.in_default.is in
    let net = c.in-Ok.ordered.net in
    let outcome = c.twin_net.result in
    let runs = RunsMaking net_limit IsNetOf RefusesNet (IsTwinned given) (CanTwin given) (RefusesTwin given) net in
    let writes = Writes net_limit IsNetOf RefusesNet (IsTwinned given) (CanTwin given) (RefusesTwin given) in
    runs_apart net_limit IsNetOf RefusesNet (IsTwinned given) (CanTwin given) (RefusesTwin given) given.net (outputs given) outcome apart
    (runs_had net_limit IsNetOf RefusesNet given.net g.met.S.Store.more_calls writes net outcome c.in-Ok.ensures.had
    (calls_weaker (runs outcome.status outcome.line) (λ events. writes net outcome (store_calls events)) c.twin_net.ensures
    (λ made is. (is, refl))))

pub returns-in-Err : goal.returns-in-Err
returns-in-Err g c =
    let given = twin_given_in c.args.words.now in
    let apart : shared_path (given.net ∷ []) (outputs given) ≡ None =
    sym c.shared_path.ensures ∙ ap (option_map (λ path. path.now)) c.in_default.is in
    let writes = Writes net_limit IsNetOf RefusesNet (IsTwinned given) (CanTwin given) (RefusesTwin given) in
    runs_apart net_limit IsNetOf RefusesNet (IsTwinned given) (CanTwin given) (RefusesTwin given) given.net (outputs given)
    c.in-Err.refused apart
    (runs_lost net_limit IsNetOf RefusesNet given.net writes c.in-Err.refused c.in-Err.ensures.lost)
