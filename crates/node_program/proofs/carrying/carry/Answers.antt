use Rattle.std.proofs.Common.{refl, ◌∙◌}
use Rattle.node_program.proofs.CarrySteps.{same_columns, same_height, carried_none, source_added, link_added, steps_none, steps_same, steps_more}
use Rattle.node_program.specs.declared.Operand.{Operand}
use Rattle.node_program.proofs.carrying.carry.Goals as goal
use Rattle.node_program.proofs.carrying.carry.Goals.{then-leaves, else-leaves}

pub loop-operand-init : goal.loop-operand-init
loop-operand-init g c =
    record {
      columns = refl;
      height = refl;
      carried = λ kind of_kind.
          carried_none kind g.F.Field.number g.F.Field.zero c.args.leaves c.args.link c.args.vectors.now g.met.F.Field.number_zero c.requires.zeros;
      ticks = steps_none c.args.leaves c.args.vectors.now.columns _;
    }

pub loop-operand-preserved : goal.loop-operand-preserved
loop-operand-preserved g c =
    let L = g.met.F.Field in
    let d : Operand = record { from = 0; times = 0 } in
    let k = c.loop-operand.operand-index in
    let more = c.loop-operand-test.true in
    let old = c.args.vectors.now in
    let m = c.loop-operand.vectors in
    let now = c.if-leaves.vectors in
    let is = c.loop-operand.invariant in
    let below = c.requires.times k d more in
    elim c.if-leaves.branch [
      | then-leaves w ↦
          let written = w.vectors-is ∙ w.set.ensures.value in
          record {
            columns = same_columns old m now c.args.link _ written is.columns;
            height = same_height old m now c.args.link _ written is.height;
            carried = λ kind of_kind.
                source_added L.field L.numbering kind of_kind c.args.leaves c.args.link k old m now c.args.operands.now d
                c.of_number-times.result more c.requires.link below c.of_number-times.ensures.value c.of_number-times.ensures.element
                w.at.ensures.kept (is.carried kind of_kind)
                w.at.result w.add-sum.result w.if-leaves.true (c.requires.rows w.if-leaves.true k d more)
                w.at.ensures.value w.add-sum.ensures.value written;
            ticks = w.steps-is ∙ steps_same c.args.leaves k old.columns _ _ w.if-leaves.true is.ticks;
          }
      | else-leaves w ↦
          let written = w.vectors-is ∙ w.add_row.ensures.value in
          let other = c.requires.links w.if-leaves.false k d more in
          record {
            columns = same_columns old m now c.args.link _ written is.columns;
            height = same_height old m now c.args.link _ written is.height;
            carried = λ kind of_kind.
                link_added L.field L.numbering kind of_kind c.args.leaves c.args.link k old m now c.args.operands.now d
                c.of_number-times.result more c.requires.link below c.of_number-times.ensures.value c.of_number-times.ensures.element
                w.add_row.ensures.kept.0 (is.carried kind of_kind)
                w.if-leaves.false other.0 other.1 written;
            ticks = w.steps-is ∙ steps_more c.args.leaves k old.columns m.columns _ _ _ w.if-leaves.false is.columns is.ticks w.add_row.ensures.ticks;
          }
    ]
