use Rattle.std.proofs.Common.{[], refl, inl, inr, ⊎_elim}
use Rattle.command_steps.proofs.RefusalLaws.{or_refuses_some}
use Rattle.lif_outside.proofs.CallLaws.{calls_of}
use Rattle.top_base.specs.Given.{blind_given_in}
use Rattle.top_blind.specs.Blind.{blind_feeds, declined}
use Rattle.top_blind.proofs.blinding.blind_over.Goals as goal

pub returns-in-Err : goal.returns-in-Err
returns-in-Err g c =
    let given = blind_given_in c.args.words.now in
    let code = c.args.code.now in
    let refused = c.in-Err.refused in
    calls_of _ [] (g.met.S.Store.no_calls c.args.store.now)
    (⊎_elim (λ lost. inr (lost, refl)) (λ some. or_refuses_some (declined given code) (blind_feeds given code) refused refused [] some (inl refl) refl) c.in-Err.ensures.refused)

pub returns : goal.returns
returns g c = calls_of _ [] (g.met.S.Store.no_calls c.args.store.now) (inr (record { status = c.out_of_memory.ensures.status; line = c.out_of_memory.ensures.line }, refl))
