use Rattle.std.specs.Prelude.{List, IsNone, IsSome}
use Rattle.std.proofs.Common.{◌≡◌, ◌∷◌, [], None, Some, inl, inr, map, string_bytes, refl, sym, subst, ap, ◌∙◌, ⊎_elim}
use Rattle.std.specs.Option.{option_map}
use Rattle.coded_traffic.specs.Traffic.{room_for}
use Rattle.lif_outside.proofs.CallLaws.{calls_of}
use Rattle.lif_outside.specs.Moves.{Move, open_refused}
use Rattle.top_runs.proofs.GivenLaws.{named_in, paths_in}
use Rattle.top_base.proofs.Exits.{if_err}
use Rattle.top_base.specs.FileReading as files
use Rattle.top_base.specs.Given.{given_in}
use Rattle.top_base.specs.Paths.{shared_path}
use Rattle.top_base.specs.declared.reading.FileRefusal.TheVariants as refused
use Rattle.top_runs.specs.Send.Given.{shared_of}
use Rattle.top_runs.specs.Send.Runs.{RunsCode}
use Rattle.top_runs.specs.Sending.{link_calls}
use Rattle.source_delivery.specs.Delivery.{paths_of}
use Rattle.source_delivery.specs.Turns.{one_each}
use Rattle.top_runs.proofs.preparing.prepare.Goals as goal

-- where no call was made
pub returns-in_default-clause-refused : goal.returns-in_default-clause-refused
returns-in_default-clause-refused g c =
    let named = named_in c.args.words.now c.args.code.now c.code.result.now c.as_bytes.result.now c.pattern_named.result c.code.ensures.value c.as_bytes.ensures.value c.pattern_named.ensures in
    calls_of _ [] (g.met.K.Links.no_moves c.args.links.now) (subst IsNone (sym (named ∙ c.in_default.is)) refl, c.unknown_pattern.ensures, refl)

pub returns-in-Some-shared_path-clause-refused : goal.returns-in-Some-shared_path-clause-refused
returns-in-Some-shared_path-clause-refused g c =
    let words = c.args.words.now in
    let path = c.before.before.in-Some-shared_path.path in
    let named = named_in words c.args.code.now c.code.result.now c.as_bytes.result.now c.pattern_named.result c.code.ensures.value c.as_bytes.ensures.value c.pattern_named.ensures in
    let outputs = ap (map string_bytes) c.deref.ensures.value ∙ paths_in words c.args.code.now c.code.result.now _ c.code.ensures.value c.in_ok-outputs.ensures.paths in
    let shared : shared_of (given_in words) c.args.code.now ≡ Some path.now =
    sym (sym (ap (option_map (λ one. one.now)) c.in-Some-shared_path.is) ∙ c.shared_path.ensures ∙ ap (shared_path (words.code.now ∷ words.source.now ∷ [])) outputs) in
    calls_of _ [] (g.met.K.Links.no_moves c.args.links.now) (path.now, subst IsSome (sym (named ∙ c.in-Some.is)) refl, shared, c.same_path.ensures, refl)

-- where there was no memory, the links weren't called, or refused to be opened
pub returns-in_err-open-clause-refused : goal.returns-in_err-open-clause-refused
returns-in_err-open-clause-refused g c =
    let send = given_in c.args.words.now in
    let code = c.args.code.now in
    let faithful = g.K.Links.faithful c.args.links.now in
    let lost = files.outcome_of refused.OutOfMemory in
    let Runs : List Move → Type 0 = λ moves. RunsCode faithful send code lost.status lost.line (link_calls moves) in
    if_err _ c.from_residual-in_err-open.result lost c.from_residual-in_err-open.ensures.1
    (⊎_elim
    (λ none. calls_of Runs [] none (record { on_store = refl; on_links = inl refl }, refl))
    (λ one. calls_of Runs (open_refused send.seed (room_for code) ∷ []) one (record { on_store = refl; on_links = inr refl }, refl))
    c.in_err-open.ensures.refused)

pub returns-clause-ready : goal.returns-clause-ready
returns-clause-ready g c =
    let words = c.args.words.now in
    let named = named_in words c.args.code.now c.code.result.now c.as_bytes.result.now c.pattern_named.result c.code.ensures.value c.as_bytes.ensures.value c.pattern_named.ensures in
    let paths = paths_in words c.args.code.now c.code.result.now _ c.code.ensures.value c.in_ok-outputs.ensures.paths in
    let apart : shared_of (given_in words) c.args.code.now ≡ None =
    sym (sym (ap (option_map (λ one. one.now)) c.in_default-shared_path.is) ∙ c.shared_path.ensures
    ∙ ap (shared_path (words.code.now ∷ words.source.now ∷ [])) (ap (map string_bytes) c.deref.ensures.value ∙ paths)) in
    let taken = c.in_ok-open.ensures in
    record {
      clear = record { known = subst IsSome (sym (named ∙ c.in-Some.is)) refl; apart = apart };
      at_work = taken.at_work;
      pattern = named ∙ c.in-Some.is ∙ ap Some (sym taken.pattern);
      from_start = taken.from_start;
      works = taken.works;
      outputs = ap (λ parts. record { paths = paths_of c.in_ok-open.field-0; parts = parts }) taken.parts
          ∙ ap one_each (ap (λ outputs. map string_bytes outputs.items) taken.outputs ∙ paths);
      nothing = taken.nothing;
    }
