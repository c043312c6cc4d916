use Rattle.std.proofs.Common.{◌≡◌, ◌<◌, ◌∷◌, ◌++◌, [], Contains, take, subst, subst₂, length, map, string_bytes, refl, ap, ◌∙◌, sym, arith, get_or}
use Rattle.std.proofs.lemmas.List.{get_or-map, length-map, take_all}
use Rattle.item_list.proofs.Results.{on_err}
use Rattle.lif_outside.proofs.CallLaws.{calls_of, calls_then, calls_weaker}
use Rattle.lif_outside.specs.Events.{created, create_failed}
use Rattle.lif_outside.specs.FileCalls.{StopsWithin, creates_of}
use Rattle.source_turns.proofs.CreateLaws.{create_stops, created_more, created_there}
use Rattle.source_turns.proofs.creating.create_each.Goals as goal

pub loop-path-init : goal.loop-path-init
loop-path-init g c = calls_of _ [] (g.met.S.Store.no_calls c.args.store.now) refl

pub returns-in_err-create-clause-failed : goal.returns-in_err-create-clause-failed
returns-in_err-create-clause-failed g c =
    let items = c.args.paths.now in
    let n = c.loop-path.path-index in
    let paths = map string_bytes items in
    let within : n < length items = omega arith in
    let is : c.as_str.result.now ≡ get_or paths n [] = c.as_str.ensures.value ∙ ap string_bytes c.path-item.is ∙ sym (get_or-map string_bytes items n c.path-item.result [] within) in
    let inside : n < length paths = omega (arith, length-map items string_bytes) in
    on_err c.from_residual.result (calls_then g.met.S.Store.more_calls _ _ (StopsWithin (creates_of paths)) c.loop-path.invariant
    (calls_of (λ calls. calls ≡ create_failed (get_or paths n []) ∷ []) _ c.in_err-create.ensures (ap (λ path. create_failed path ∷ []) is))
    (λ first later one other. subst₂ (λ first later. StopsWithin (creates_of paths) (first ++ later)) (sym one) (sym other) (create_stops paths n inside)))

pub loop-path-preserved : goal.loop-path-preserved
loop-path-preserved g c =
    let items = c.args.paths.now in
    let n = c.loop-path.path-index in
    let paths = map string_bytes items in
    let within : n < length items = omega arith in
    let is : c.as_str.result.now ≡ get_or paths n [] = c.as_str.ensures.value ∙ ap string_bytes c.path-item.is ∙ sym (get_or-map string_bytes items n c.path-item.result [] within) in
    let inside : n < length paths = omega (arith, length-map items string_bytes) in
    calls_then g.met.S.Store.more_calls _ _ _ c.loop-path.invariant
    (calls_of (λ calls. calls ≡ created (get_or paths n []) ∷ []) _ c.in_ok-create.ensures (ap (λ path. created path ∷ []) is))
    (λ first later one other. ap (λ calls. calls ++ later) one ∙ ap (λ calls. creates_of (take n paths) ++ calls) other ∙ created_more paths n inside)

pub returns-clause-created : goal.returns-clause-created
returns-clause-created g c =
    let paths = map string_bytes c.args.paths.now in
    calls_weaker _ _ c.loop-path.invariant (λ made is. is ∙ ap creates_of (take_all c.loop-path.path-index paths (omega (arith, length-map c.args.paths.now string_bytes))))

pub returns-clause-made : goal.returns-clause-made
returns-clause-made g c = λ path there.
    let paths = map string_bytes c.args.paths.now in
    let by = c.loop-path.invariant in
    let all : by.made ≡ creates_of paths = by.holds ∙ ap creates_of (take_all c.loop-path.path-index paths (omega (arith, length-map c.args.paths.now string_bytes))) in
    (g.met.S.Store.accounts by.made c.args.store.now c.loop-path.store by.lead).makes path (subst (λ events. Contains events (created path)) (sym all) (created_there paths path there))
