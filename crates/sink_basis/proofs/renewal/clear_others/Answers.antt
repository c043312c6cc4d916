use Rattle.std.proofs.Common.{◌≡◌, ◌+◌, ◌*◌, length, arith, rules, subst}
use Rattle.sink_basis.proofs.RenewalSteps.{changed_below, others_steps, own_steps, row_steps}
use Rattle.sink_basis.proofs.renewal.clear_others.Goals.{else-k-path, then-k-path}
use Rattle.sink_basis.proofs.renewal.clear_others.Goals as goal

pub loop-k-preserved : goal.loop-k-preserved
loop-k-preserved g c =
    let F = g.F.Field in
    let old = c.args.inverses.now in
    let path = c.args.path in
    let v = c.args.vector.now in
    let k = c.loop-k.k in
    let so_far = c.loop-k.invariant in
    elim c.if-k-path.branch [
      | then-k-path w ↦
          (let steps = row_steps F.number F.zero F.add F.mul path v old c.loop-k.inverses k (so_far.cleared.behind k (omega arith)) so_far.cleared.columns in
          record {
            kept = search rules;
            cleared = search rules;
            up_to_path = λ before. omega (arith, steps, so_far.up_to_path (omega arith), w.steps-is, w.clear_row.ensures.ticks);
            past_path = λ past. omega (arith, steps, so_far.past_path (omega arith), w.steps-is, w.clear_row.ensures.ticks);
          })
      | else-k-path w ↦
          (let steps = own_steps F.number F.zero F.add F.mul path v old k (omega arith) in
          record {
            kept = search rules;
            cleared = search rules;
            up_to_path = λ before. absurd (omega arith);
            past_path = λ past. omega (arith, steps, so_far.up_to_path (omega arith), w.steps-is);
          })
    ]

pub returns-clause-ticks : goal.returns-clause-ticks
returns-clause-ticks g c = λ others more.
    let F = g.F.Field in
    let old = c.args.inverses.now in
    let count = changed_below F.number F.zero F.add F.mul c.args.path c.args.vector.now old in
    let all : c.loop-k.k ≡ length old.rows = omega arith in
    let last : c.loop-k.steps + old.columns ≡ c.args.steps.now + (length old.rows + count (length old.rows)) * old.columns =
    subst (λ k. c.loop-k.steps + old.columns ≡ c.args.steps.now + (k + count k) * old.columns) all (c.loop-k.invariant.past_path (omega arith)) in
    others_steps others (count (length old.rows)) (length old.rows) old.columns c.args.steps.now c.loop-k.steps more last
