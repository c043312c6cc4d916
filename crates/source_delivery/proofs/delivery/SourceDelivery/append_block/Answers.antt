use Rattle.std.specs.Prelude.{◌+◌}
use Rattle.std.proofs.Common.{◌≡◌, ◌<◌, ◌++◌, ◌∷◌, [], List, ℕ, length, refl, ap, ◌∙◌, sym, subst, arith, string_bytes}
use Rattle.std.proofs.lemmas.List.{length-map}
use Rattle.item_list.proofs.Results.{on_err}
use Rattle.lif_outside.proofs.CallLaws.{calls_of, calls_then, calls_weaker}
use Rattle.lif_outside.specs.Events.{Event}
use Rattle.lif_outside.specs.Moves.{Move}
use Rattle.lif_outside.specs.FileCalls.{StopsWithin, appends_of}
use Rattle.relay_runner.specs.Carried.{packets_given}
use Rattle.relay_runner.specs.Running.{Running}
use Rattle.source_delivery.proofs.TurnLaws.{parts-appended, parts-stopped}
use Rattle.source_delivery.specs.Delivery.{outputs_in, paths_of}
use Rattle.source_delivery.specs.Turns.{Outputs, parts_from, turn_at}
use Rattle.source_delivery.proofs.delivery.SourceDelivery.append_block.Goals as goal

-- the appends of the parts of the first files, by the runner
abbrev parts : ℕ → Outputs → List Move → ℕ → Running → List Event
parts place outputs moves count runner = appends_of (parts_from outputs runner.code runner.pattern (packets_given moves) (runner.first + place) 0 count ∷ [])

pub loop-file-init : goal.loop-file-init
loop-file-init g c = record {
  made = c.requires.made;
  calls = λ moves by. calls_of _ [] (g.met.S.Store.no_calls c.args.store.now) refl;
}

pub returns-in_err-append_decoded-clause-still_made : goal.returns-in_err-append_decoded-clause-still_made
returns-in_err-append_decoded-clause-still_made g c = λ path there. c.append_decoded.ensures.kept.still_made path (c.loop-file.invariant.made path there)

pub returns-in_err-append_decoded-clause-failed : goal.returns-in_err-append_decoded-clause-failed
returns-in_err-append_decoded-clause-failed g c =
    let self = c.args.self.now in
    let runner = self.runner in
    let outputs = outputs_in self in
    let n = c.loop-file.file in
    let inside : n < length outputs.paths = omega (arith, length-map self.outputs.items string_bytes) in
    on_err c.from_residual.result (λ moves by.
    let turn : List Event = appends_of (turn_at outputs runner.code runner.pattern (packets_given moves) (runner.first + c.args.place) ∷ []) in
    calls_then g.met.S.Store.more_calls _ _ (StopsWithin turn) (c.loop-file.invariant.calls moves by)
    (c.in_err-append_decoded.ensures.failed moves by)
    (λ first later one other. subst (λ first. StopsWithin turn (first ++ later)) (sym one)
    (parts-stopped outputs runner.code runner.pattern (packets_given moves) (runner.first + c.args.place) n inside later other)))

pub loop-file-preserved : goal.loop-file-preserved
loop-file-preserved g c =
    let self = c.args.self.now in
    let runner = self.runner in
    let outputs = outputs_in self in
    let n = c.loop-file.file in
    record {
      made = λ path there. c.append_decoded.ensures.kept.still_made path (c.loop-file.invariant.made path there);
      calls = λ moves by.
          calls_then g.met.S.Store.more_calls _ _ _ (c.loop-file.invariant.calls moves by)
          (c.in_ok-append_decoded.ensures.appended moves by)
          (λ first later one other. ap (λ (events : List Event). events ++ later) one
          ∙ ap (λ (events : List Event). parts c.args.place outputs moves n runner ++ events) other
          ∙ parts-appended outputs runner.code runner.pattern (packets_given moves) (runner.first + c.args.place) n);
    }

pub returns-clause-still_made : goal.returns-clause-still_made
returns-clause-still_made g c = c.loop-file.invariant.made

pub returns-clause-appended : goal.returns-clause-appended
returns-clause-appended g c = λ moves by.
    let self = c.args.self.now in
    let all : c.loop-file.file ≡ length (paths_of self) = omega (arith, length-map self.outputs.items string_bytes) in
    calls_weaker _ _ (c.loop-file.invariant.calls moves by) (λ made is. is ∙ ap (λ count. parts c.args.place (outputs_in self) moves count self.runner) all)
