use Rattle.std.specs.Prelude.{List, IsSome, ◌*◌, length}
use Rattle.std.proofs.Common.{◌≡◌, ◌∷◌, [], Some, arith, inl, inr, map, string_bytes, refl, sym, subst, ap, ◌∙◌, ⊎_elim}
use Rattle.std.proofs.lemmas.List.{length-map}
use Rattle.std.specs.Option.{option_map}
use Rattle.coded_traffic.specs.Traffic.{room_for}
use Rattle.lif_outside.proofs.CallLaws.{calls_of}
use Rattle.lif_outside.specs.Moves.{Move, open_refused}
use Rattle.node_program.specs.declared.code.Code.{Code}
use Rattle.top_runs.proofs.SendTwoGiven.{named_in, paths_in, unfit_at}
use Rattle.top_base.proofs.BothPathLaws.{length_both}
use Rattle.top_base.proofs.Exits.{if_err}
use Rattle.top_base.specs.FileReading as files
use Rattle.top_base.specs.Given.{send_two_given_in}
use Rattle.top_base.specs.Lines.{bad_split_line}
use Rattle.top_base.specs.Paths.{shared_path}
use Rattle.top_base.specs.declared.reading.FileRefusal.TheVariants as refused
use Rattle.top_base.specs.declared.status.Status.TheVariants.{BadSplit, SamePath}
use Rattle.top_runs.specs.SendTwo.Given.{IsFit, shared_of}
use Rattle.top_runs.specs.SendTwo.Runs.{RunsCode}
use Rattle.top_runs.specs.Sending.{link_calls}
use Rattle.top_runs.proofs.preparing_two.prepare_two.Goals as goal

-- where no call was made
pub returns-in_default-fit_rate-clause-refused : goal.returns-in_default-fit_rate-clause-refused
returns-in_default-fit_rate-clause-refused g c =
    let words = c.args.words.now in
    let code = c.args.code.now in
    let named = named_in words code c.code.result.now c.as_bytes.result.now c.pattern_named.result c.code.ensures.value c.as_bytes.ensures.value c.pattern_named.ensures in
    let rate : c.code-2.result.now.rate ≡ code.rate = ap (λ (code : Code). code.rate) c.code-2.ensures.value in
    let Runs : List Move → Type 0 = λ moves. RunsCode (g.K.Links.faithful c.args.links.now) (send_two_given_in words) code (BadSplit c.code-2.result.now.rate) c.bad_split.result (link_calls moves) in
    calls_of Runs [] (g.met.K.Links.no_moves c.args.links.now)
    (subst IsSome (sym (named ∙ c.in-Some.is)) refl, unfit_at (send_two_given_in words) code c.code-2.result.now.rate rate (c.fit_rate.ensures.unfit c.in_default-fit_rate.is), rate, c.bad_split.ensures ∙ ap bad_split_line rate, refl)

pub returns-in_err-outputs-clause-refused : goal.returns-in_err-outputs-clause-refused
returns-in_err-outputs-clause-refused g c =
    let send = send_two_given_in c.args.words.now in
    let lost = files.outcome_of refused.OutOfMemory in
    let Runs : List Move → Type 0 = λ moves. RunsCode (g.K.Links.faithful c.args.links.now) send c.args.code.now lost.status lost.line (link_calls moves) in
    if_err _ c.from_residual.result lost c.from_residual.ensures.1
    (calls_of Runs [] (g.met.K.Links.no_moves c.args.links.now) (record { on_store = refl; on_links = inl refl }, refl))

pub returns-in-Some-shared_path-clause-refused : goal.returns-in-Some-shared_path-clause-refused
returns-in-Some-shared_path-clause-refused g c =
    let words = c.args.words.now in
    let code = c.args.code.now in
    let path = c.in-Some-shared_path.path in
    let named = named_in words code c.code.result.now c.as_bytes.result.now c.pattern_named.result c.code.ensures.value c.as_bytes.ensures.value c.pattern_named.ensures in
    let outputs = ap (map string_bytes) c.deref.ensures.value ∙ paths_in words code c.code.result.now _ c.code.ensures.value c.in_ok-outputs.ensures.paths in
    let shared : shared_of (send_two_given_in words) code ≡ Some path.now =
    sym (sym (ap (option_map (λ one. one.now)) c.in-Some-shared_path.is) ∙ c.shared_path.ensures
    ∙ ap (shared_path (words.code.now ∷ words.first.now ∷ words.second.now ∷ [])) outputs) in
    let rate : c.code-2.result.now.rate ≡ code.rate = ap (λ (code : Code). code.rate) c.code-2.ensures.value in
    let split = c.in-Some-fit_rate.ensures in
    let fit : IsFit (send_two_given_in words) code = record { some = omega (arith, split.fit, split.some); less = omega (arith, split.fit, split.less, rate) } in
    let Runs : List Move → Type 0 = λ moves. RunsCode (g.K.Links.faithful c.args.links.now) (send_two_given_in words) code SamePath c.same_path.result (link_calls moves) in
    calls_of Runs [] (g.met.K.Links.no_moves c.args.links.now)
    (path.now, subst IsSome (sym (named ∙ c.in-Some.is)) refl, fit, shared, c.same_path.ensures, refl)

-- there are two files for each sink
pub open_two-requires-clause-outputs : goal.open_two-requires-clause-outputs
open_two-requires-clause-outputs g c =
    let outputs = c.in_ok-outputs.outputs in
    let all = sym (length-map outputs.items string_bytes) ∙ ap length c.in_ok-outputs.ensures.paths ∙ length_both c.args.words.now.prefix.now c.code.result.now.net
    ∙ ap (λ (code : Code). 2 * length code.net.sinks) c.code.ensures.value in
    omega (arith, outputs.ok.0, all)

-- where there was no memory, the links weren't called, or refused to be opened
pub returns-in_err-open_two-clause-refused : goal.returns-in_err-open_two-clause-refused
returns-in_err-open_two-clause-refused g c =
    let send = send_two_given_in c.args.words.now in
    let code = c.args.code.now in
    let lost = files.outcome_of refused.OutOfMemory in
    let Runs : List Move → Type 0 = λ moves. RunsCode (g.K.Links.faithful c.args.links.now) send code lost.status lost.line (link_calls moves) in
    if_err _ c.from_residual-in_err-open_two.result lost c.from_residual-in_err-open_two.ensures.1
    (⊎_elim
    (λ none. calls_of Runs [] none (record { on_store = refl; on_links = inl refl }, refl))
    (λ one. calls_of Runs (open_refused send.seed (room_for code) ∷ []) one (record { on_store = refl; on_links = inr refl }, refl))
    c.in_err-open_two.ensures.refused)
