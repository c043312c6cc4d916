use Rattle.std.proofs.Common.{◌≡◌, ◌*◌, ◌<◌, ◌∙◌, [], false, length, replicate, ap, arith, subst, sym}
use Rattle.std.proofs.lemmas.List.{get_or_default}
use Rattle.counted_steps.specs.Steps.{RoseBy}
use Rattle.field_vectors.specs.Grid.{Grid, IsMatrix, row_of}
use Rattle.node_program.specs.Carried.{carry_steps}
use Rattle.node_program.specs.Value.{leaves_source}
use Rattle.lif_compiler.proofs.CountLaws.{carry_counted, carry_few, carrying_below}
use Rattle.lif_compiler.proofs.CarrySteps.{carried_first, carried_more, carried_same, held_next, kept_more, shape_first, shape_more, shape_next}
use Rattle.lif_compiler.specs.Steps.{AreCarriedTo, AreFromBelow}
use Rattle.lif_compiler.proofs.FailingSteps.{table_read}
use Rattle.lif_compiler.proofs.carrying.carry_all.Goals as goal
use Rattle.lif_compiler.proofs.carrying.carry_all.Goals.{After-loop-pattern}

pub loop-pattern-init : goal.loop-pattern-init
loop-pattern-init g c = record {
  behind = shape_first c.args.vectors.now;
  made = λ kind of_kind. carried_first kind g.F.Field.number c.args.operands.now c.args.link c.args.net.now c.args.vectors.now;
  kept = λ k none below. absurd (omega arith);
  ticks = omega arith;
}

pub bounds-failed-pattern : goal.bounds-failed-pattern
bounds-failed-pattern g c = omega (arith, c.requires.failed.each_pattern, c.requires.each_pattern)

pub index-is_failed-requires : goal.index-is_failed-requires
index-is_failed-requires g c =
    let table = c.index-failed-pattern.result in
    let looked = table_read c.args.net.now c.args.failed.now c.loop-pattern.pattern table c.requires.failed (omega (arith, c.requires.failed.each_pattern, c.requires.each_pattern)) c.index-failed-pattern.is in
    omega (arith, table.ok, looked.each_link, c.requires.link)

pub carry_unless-requires-clause-link : goal.carry_unless-requires-clause-link
carry_unless-requires-clause-link g c =
    let here = shape_next c.loop-pattern.pattern (length c.args.net.now.links) c.args.rate c.args.vectors.now c.loop-pattern.vectors c.index-vectors-pattern.result c.loop-pattern.invariant.behind (omega arith) c.requires.shape in
    omega (arith, here.0, c.requires.link)

pub carry_unless-requires-clause-zeros : goal.carry_unless-requires-clause-zeros
carry_unless-requires-clause-zeros g c =
    let zero = g.F.Field.zero in
    let old = c.args.vectors.now in
    let now = c.loop-pattern.vectors in
    let pattern = c.loop-pattern.pattern in
    let so_far = c.loop-pattern.invariant in
    let within : pattern < length now = omega arith in
    let here = shape_next pattern (length c.args.net.now.links) c.args.rate old now c.index-vectors-pattern.result so_far.behind within c.requires.shape in
    held_next (λ (m : Grid g.row.F.Denot). row_of m c.args.link ≡ replicate c.args.rate zero) pattern old now c.index-vectors-pattern.result so_far.behind within c.requires.zeros ∙ ap (λ columns. replicate columns zero) (sym here.1)

pub carry_unless-requires-clause-times : goal.carry_unless-requires-clause-times
carry_unless-requires-clause-times g c = c.requires.times

pub carry_unless-requires-clause-rows : goal.carry_unless-requires-clause-rows
carry_unless-requires-clause-rows g c =
    let here = shape_next c.loop-pattern.pattern (length c.args.net.now.links) c.args.rate c.args.vectors.now c.loop-pattern.vectors c.index-vectors-pattern.result c.loop-pattern.invariant.behind (omega arith) c.requires.shape in
    λ leaves. subst (λ columns. AreFromBelow columns c.args.operands.now) (sym here.1) (c.requires.rows (sym c.leaves_source-leaves.ensures ∙ leaves))

pub carry_unless-requires-clause-links : goal.carry_unless-requires-clause-links
carry_unless-requires-clause-links g c = λ leaves. c.requires.links (sym c.leaves_source-leaves.ensures ∙ leaves)

module _ (g : _) (c : After-loop-pattern g) where
  -- in the end all are made
  whole : c.loop-pattern.pattern ≡ length c.args.vectors.now
  whole = omega arith

pub returns-clause-carried : goal.returns-clause-carried
returns-clause-carried g c = λ kind of_kind.
    subst (λ count. AreCarriedTo kind g.F.Field.number c.args.net.now c.args.link c.args.operands.now count c.args.vectors.now c.loop-pattern.vectors) (whole g c) (c.loop-pattern.invariant.made kind of_kind)

pub returns-clause-kept : goal.returns-clause-kept
returns-clause-kept g c = λ k none below. c.loop-pattern.invariant.kept k none (omega (arith, c.loop-pattern.invariant.behind.same_count, whole g c))

pub returns-clause-ticks : goal.returns-clause-ticks
returns-clause-ticks g c =
    let net = c.args.net.now in
    let once = carry_steps (leaves_source net c.args.link) (length c.args.operands.now) c.args.rate in
    subst (λ count. RoseBy (carrying_below net c.args.link count * once) c.args.steps.now c.loop-pattern.steps) (whole g c ∙ c.requires.each_pattern) c.loop-pattern.invariant.ticks

pub returns-clause-few_ticks : goal.returns-clause-few_ticks
returns-clause-few_ticks g c =
    let net = c.args.net.now in
    carry_few net c.args.link (leaves_source net c.args.link) (length c.args.vectors.now) (length c.args.operands.now) c.args.rate c.args.steps.now c.loop-pattern.steps
    c.requires.each_pattern (returns-clause-ticks g c)

pub loop-pattern-preserved : goal.loop-pattern-preserved
loop-pattern-preserved g c =
    let F = g.F.Field in
    let old = c.args.vectors.now in
    let now = c.loop-pattern.vectors in
    let pattern = c.loop-pattern.pattern in
    let so_far = c.loop-pattern.invariant in
    let within : pattern < length now = omega arith in
    let inside : pattern < length old = omega (arith, so_far.behind.same_count) in
    let none : Grid g.row.F.Denot = record { columns = 0; rows = [] } in
    let here = get_or_default now pattern c.index-vectors-pattern.result none within in
    let wide = ap (λ (m : Grid g.row.F.Denot). m.columns) (here ∙ so_far.behind.behind pattern (omega arith)) ∙ (c.requires.shape pattern none inside).1 in
    let leaves = leaves_source c.args.net.now c.args.link in
    let table = c.index-failed-pattern.result in
    let looked = table_read c.args.net.now c.args.failed.now pattern table c.requires.failed (omega (arith, c.requires.failed.each_pattern, c.requires.each_pattern)) c.index-failed-pattern.is in
    let long : c.args.link < length table.items = omega (arith, table.ok, looked.each_link) in
    let fails = c.index-is_failed.ensures ∙ get_or_default table.items c.args.link c.index-is_failed.result.now false long ∙ looked.at c.args.link in
    record {
      behind = shape_more pattern old now c.carry_unless.new.vectors so_far.behind;
      made = λ kind of_kind.
          carried_more kind F.number c.args.operands.now c.args.link c.args.net.now pattern old now c.carry_unless.new.vectors inside (so_far.made kind of_kind)
          (carried_same kind F.number c.args.operands.now c.args.link c.index-is_failed.result.now _ c.leaves_source-leaves.result leaves _ _ c.carry_unless.new.vectors
          fails c.leaves_source-leaves.ensures here (c.carry_unless.ensures.carried kind of_kind));
      kept = kept_more (IsMatrix F.is_element) pattern now c.carry_unless.new.vectors within c.carry_unless.ensures.kept so_far.kept;
      ticks =
          carry_counted c.args.net.now c.args.link pattern c.index-is_failed.result.now c.leaves_source-leaves.result leaves (length c.args.operands.now) _ c.args.rate
          c.args.steps.now c.loop-pattern.steps c.carry_unless.new.steps fails c.leaves_source-leaves.ensures wide so_far.ticks c.carry_unless.ensures.ticks;
    }
