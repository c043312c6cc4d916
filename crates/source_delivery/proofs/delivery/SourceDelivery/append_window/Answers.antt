use Rattle.std.proofs.Common.{◌≡◌, ◌++◌, [], List, ℕ, refl, ap, ◌∙◌, sym, subst, arith}
use Rattle.item_list.proofs.Results.{on_err}
use Rattle.lif_outside.proofs.CallLaws.{calls_of, calls_then, calls_weaker}
use Rattle.lif_outside.specs.Events.{Event}
use Rattle.lif_outside.specs.Moves.{Move}
use Rattle.lif_outside.specs.FileCalls.{StopsWithin, appends_of}
use Rattle.relay_runner.specs.Carried.{packets_given}
use Rattle.relay_runner.specs.Running.{Running}
use Rattle.source_delivery.proofs.TurnLaws.{turns-next, turns-stopped}
use Rattle.source_delivery.specs.Delivery.{outputs_in}
use Rattle.source_delivery.specs.Turns.{Outputs, turns_from}
use Rattle.source_delivery.proofs.delivery.SourceDelivery.append_window.Goals as goal

-- the appends of the first turns, by the runner
abbrev turns : ℕ → List Move → Outputs → Running → List Event
turns count moves outputs runner = appends_of (turns_from outputs runner.code runner.pattern (packets_given moves) runner.first count)

pub loop-place-init : goal.loop-place-init
loop-place-init g c = record {
  made = c.requires.made;
  calls = λ moves by. calls_of _ [] (g.met.S.Store.no_calls c.args.store.now) refl;
}

pub append_block-requires-clause-place : goal.append_block-requires-clause-place
append_block-requires-clause-place g c = omega (arith, c.requires.all)

pub append_block-requires-clause-few_blocks : goal.append_block-requires-clause-few_blocks
append_block-requires-clause-few_blocks g c = omega (arith, c.requires.all, c.requires.few_blocks)

pub returns-in_err-append_block-clause-failed : goal.returns-in_err-append_block-clause-failed
returns-in_err-append_block-clause-failed g c =
    let self = c.args.self.now in
    let runner = self.runner in
    let outputs = outputs_in self in
    on_err c.from_residual.result (λ moves by.
    let all : List Event = turns c.args.count moves outputs runner in
    calls_then g.met.S.Store.more_calls _ _ (StopsWithin all) (c.loop-place.invariant.calls moves by)
    (c.in_err-append_block.ensures.failed moves by)
    (λ first later one other. subst (λ first. StopsWithin all (first ++ later)) (sym one)
    (turns-stopped outputs runner.code runner.pattern (packets_given moves) runner.first c.args.count c.loop-place.place c.loop-place-test.true later other)))

pub loop-place-preserved : goal.loop-place-preserved
loop-place-preserved g c =
    let self = c.args.self.now in
    let runner = self.runner in
    let outputs = outputs_in self in
    let n = c.loop-place.place in
    record {
      made = c.append_block.ensures.still_made;
      calls = λ moves by.
          calls_then g.met.S.Store.more_calls _ _ _ (c.loop-place.invariant.calls moves by)
          (c.in_ok-append_block.ensures.appended moves by)
          (λ first later one other. ap (λ (events : List Event). events ++ later) one
          ∙ ap (λ (events : List Event). turns n moves outputs runner ++ events) other
          ∙ turns-next outputs runner.code runner.pattern (packets_given moves) runner.first n);
    }

pub returns-clause-appended : goal.returns-clause-appended
returns-clause-appended g c = λ moves by.
    let self = c.args.self.now in
    let all : c.loop-place.place ≡ c.args.count = omega arith in
    calls_weaker _ _ (c.loop-place.invariant.calls moves by) (λ made is. is ∙ ap (λ count. turns count moves (outputs_in self) self.runner) all)
