use Rattle.std.proofs.Common.{◌≡◌, ℕ, Bool, true, false, not, ◌||◌, ap, sym, ◌∙◌, arith, below_more, get_or, length}
use Rattle.held_rows.specs.Held.{is_whole}
use Rattle.sink_decoder.proofs.HeldLaws.{all_below, fails_below}
use Rattle.sink_decoder.proofs.decoding.are_whole.Goals as goal
use Rattle.sink_decoder.proofs.decoding.are_whole.Goals.{else-is_live-via-then-is_live+else-not-is_whole, else-is_live-via-else-is_live}

pub returns-then-not-is_whole : goal.returns-then-not-is_whole
returns-then-not-is_whole c =
    let place = c.loop-place.place in
    let held = c.args.held.now in
    let test = λ (place : ℕ). not (get_or c.args.live.now place false) || is_whole held place in
    let fails : test place ≡ false =
    ap (λ (live : Bool). not live || is_whole held place) c.if-is_live.true ∙ sym c.is_whole.ensures ∙ c.if-not-is_whole.true in
    sym (fails_below test (length c.args.live.now) place c.loop-place-test.true fails)

pub loop-place-preserved : goal.loop-place-preserved
loop-place-preserved c =
    let place = c.loop-place.place in
    let held = c.args.held.now in
    let test = λ (place : ℕ). not (get_or c.args.live.now place false) || is_whole held place in
    let here : test place ≡ true = elim c.else-is_live.branch [
      | else-is_live-via-then-is_live+else-not-is_whole w ↦
          ap (λ (one : Bool). not one || is_whole held place) w.if-is_live.true ∙ sym w.is_whole.ensures ∙ w.if-not-is_whole.false
      | else-is_live-via-else-is_live w ↦ ap (λ (one : Bool). not one || is_whole held place) w.if-is_live.false
    ] in
    let Passes : ℕ → Type 0 = λ k. test k ≡ true in
    below_more Passes place c.loop-place.invariant here

pub returns : goal.returns
returns c =
    let held = c.args.held.now in
    let test = λ (place : ℕ). not (get_or c.args.live.now place false) || is_whole held place in
    sym (all_below test (length c.args.live.now) (λ k below. c.loop-place.invariant k (omega (arith, below, c.loop-place-test.false))))
