use Rattle.std.proofs.Common.{◌<◌, ◌≢◌, ℕ, ◌∙◌, sym, subst, arith, below_more, get_or, get_or-set_other, get_or-set_same, length}
use Rattle.std.proofs.Math.Seq.{map-set_same}
use Rattle.std.proofs.Math.ListN.{set}
use Rattle.held_rows.specs.Held.{HoldsNone, row_count}
use Rattle.sink_decoder.proofs.opening.forget_all.Goals as goal

pub loop-held-preserved : goal.loop-held-preserved
loop-held-preserved c =
    let came = c.loop-held.came in
    let at = c.loop-held.held-index in
    let now = c.clear.new.self in
    let within : at < length came = omega (arith, c.loop-held-test.true, c.loop-held.auto.came) in
    record {
      none = λ k d below.
          let None : ℕ → Type 0 = λ i. HoldsNone (get_or (set came at now) i d) in
          below_more None at
          (λ i before. let apart : i ≢ at = omega (arith, before) in subst HoldsNone (sym (get_or-set_other came at i now d apart)) (c.loop-held.invariant.none i d before))
          (subst HoldsNone (sym (get_or-set_same came at now d within)) c.clear.ensures.none)
          k below;
      rows = map-set_same row_count came at now c.held-item.result c.clear.ensures.count ∙ c.loop-held.invariant.rows;
    }
