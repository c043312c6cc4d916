use Rattle.std.proofs.Common.{◌≡◌, ◌<◌, ◌∷◌, ◌++◌, [], take, subst₂, length, string_bytes, refl, ap, ◌∙◌, sym, arith, slice_index_or}
use Rattle.std.proofs.lemmas.List.{length-map, take_all}
use Rattle.item_list.proofs.Results.{on_err}
use Rattle.lif_outside.proofs.CallLaws.{calls_of, calls_then, calls_weaker}
use Rattle.lif_outside.specs.Events.{created, create_failed}
use Rattle.lif_outside.specs.FileCalls.{StopsWithin, creates_of}
use Rattle.source_delivery.proofs.Turning.{create_stops, created_more, mapped_at}
use Rattle.source_delivery.specs.Delivery.{paths_of}
use Rattle.source_delivery.proofs.delivery.SourceDelivery.create_outputs.Goals as goal

pub loop-output-init : goal.loop-output-init
loop-output-init g c = calls_of _ [] (g.met.S.Store.no_calls c.args.store.now) refl

pub returns-in_err-create-clause-failed : goal.returns-in_err-create-clause-failed
returns-in_err-create-clause-failed g c =
    let items = c.args.self.now.outputs.items in
    let n = c.loop-output.output-index in
    let paths = paths_of c.args.self.now in
    let within : n < length items = omega (arith, c.deref-output-items.ensures.len) in
    let is : c.as_str.result.now ≡ slice_index_or paths n [] =
    c.as_str.ensures.value ∙ mapped_at string_bytes items n c.output-item.result [] within (c.output-item.is ∙ ap (λ xs. slice_index_or xs n c.output-item.result) c.deref-output-items.ensures.value) in
    let inside : n < length paths = omega (arith, length-map items string_bytes) in
    on_err c.from_residual.result (calls_then g.met.S.Store.more_calls _ _ (StopsWithin (creates_of paths)) c.loop-output.invariant
    (calls_of (λ calls. calls ≡ create_failed (slice_index_or paths n []) ∷ []) _ c.in_err-create.ensures (ap (λ path. create_failed path ∷ []) is))
    (λ first later one other. subst₂ (λ first later. StopsWithin (creates_of paths) (first ++ later)) (sym one) (sym other) (create_stops paths n inside)))

pub loop-output-preserved : goal.loop-output-preserved
loop-output-preserved g c =
    let items = c.args.self.now.outputs.items in
    let n = c.loop-output.output-index in
    let paths = paths_of c.args.self.now in
    let within : n < length items = omega (arith, c.deref-output-items.ensures.len) in
    let is : c.as_str.result.now ≡ slice_index_or paths n [] =
    c.as_str.ensures.value ∙ mapped_at string_bytes items n c.output-item.result [] within (c.output-item.is ∙ ap (λ xs. slice_index_or xs n c.output-item.result) c.deref-output-items.ensures.value) in
    let inside : n < length paths = omega (arith, length-map items string_bytes) in
    calls_then g.met.S.Store.more_calls _ _ _ c.loop-output.invariant
    (calls_of (λ calls. calls ≡ created (slice_index_or paths n []) ∷ []) _ c.in_ok-create.ensures (ap (λ path. created path ∷ []) is))
    (λ first later one other. ap (λ calls. calls ++ later) one ∙ ap (λ calls. creates_of (take n paths) ++ calls) other ∙ created_more paths n inside)

pub returns-clause-created : goal.returns-clause-created
returns-clause-created g c =
    let paths = paths_of c.args.self.now in
    calls_weaker _ _ c.loop-output.invariant (λ made is. is ∙ ap creates_of (take_all c.loop-output.output-index paths (omega (arith, length-map c.args.self.now.outputs.items string_bytes, c.deref-output-items.ensures.len))))
