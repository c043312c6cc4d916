use Rattle.std.proofs.Common.{◌≡◌, [], ◌∷◌, ℕ, List, None, Some, ap, refl, sym, ◌∙◌}
use Rattle.std.specs.Option.{option_map}
use Rattle.lif_outside.proofs.CallLaws.{calls_of, calls_weaker}
use Rattle.lif_outside.specs.Calls.{store_calls}
use Rattle.lif_outside.specs.Sequences.{Are}
use Rattle.net_reader.specs.Text.{net_limit}
use Rattle.top_base.proofs.ActingLaws.{runs_had, runs_lost}
use Rattle.top_base.specs.Given.{compile_given_in}
use Rattle.top_base.specs.Making.{Writes}
use Rattle.top_base.proofs.MakingLaws.{runs_apart, runs_shared}
use Rattle.top_base.specs.Networks.{IsNetOf, RefusesNet}
use Rattle.top_base.specs.Paths.{shared_path}
use Rattle.top_base.specs.declared.outcome.Outcome.{Outcome}
use Rattle.top_base.specs.declared.status.Status.TheVariants.{SamePath}
use Rattle.top_tools.proofs.compiling.compile.Goals as goal
use Rattle.top_tools.specs.Compile.Command.{Compiles}
use Rattle.top_tools.specs.Compile.Given.{outputs_of}
use Rattle.top_tools.specs.Compile.Made.{IsGood, IsMade, RefusesMaking}

-- the outcome of this line
abbrev said : List ℕ → Outcome
said line = record { status = SamePath; line = line }

pub returns-in-Some : goal.returns-in-Some
returns-in-Some g c =
    let given = compile_given_in c.args.words.now in
    let path = c.in-Some.path.now in
    let found : shared_path (given.net ∷ []) (outputs_of given) ≡ Some path =
    sym c.shared_path.ensures ∙ ap (option_map (λ path. path.now)) c.in-Some.is in
    runs_shared net_limit IsNetOf RefusesNet (IsMade given) IsGood RefusesMaking given.net (outputs_of given) _ path found (ap said c.same_path.ensures)
    (calls_of (Are []) [] (g.met.S.Store.no_calls c.args.store.now) refl)

pub returns-in-Ok : goal.returns-in-Ok
returns-in-Ok g c =
    let given = compile_given_in c.args.words.now in
    let apart : shared_path (given.net ∷ []) (outputs_of given) ≡ None =
    sym c.shared_path.ensures ∙ ap (option_map (λ path. path.now)) c.in_default.is in
    let net = c.in-Ok.ordered.net in
    let outcome = c.compile_net.result in
    let writes = Writes net_limit IsNetOf RefusesNet (IsMade given) IsGood RefusesMaking in
    runs_apart net_limit IsNetOf RefusesNet (IsMade given) IsGood RefusesMaking given.net (outputs_of given) outcome apart
    (runs_had net_limit IsNetOf RefusesNet given.net g.met.S.Store.more_calls writes net outcome c.in-Ok.ensures.had
    (calls_weaker (Compiles given net outcome.status outcome.line) (λ events. writes net outcome (store_calls events)) c.compile_net.ensures
    (λ made is. (is, refl))))

pub returns-in-Err : goal.returns-in-Err
returns-in-Err g c =
    let given = compile_given_in c.args.words.now in
    let apart : shared_path (given.net ∷ []) (outputs_of given) ≡ None =
    sym c.shared_path.ensures ∙ ap (option_map (λ path. path.now)) c.in_default.is in
    runs_apart net_limit IsNetOf RefusesNet (IsMade given) IsGood RefusesMaking given.net (outputs_of given) c.in-Err.refused apart
    (runs_lost net_limit IsNetOf RefusesNet given.net (Writes net_limit IsNetOf RefusesNet (IsMade given) IsGood RefusesMaking) c.in-Err.refused c.in-Err.ensures.lost)
