use Rattle.std.proofs.Common.{◌≡◌, ◌+◌, ◌<◌, length, Bool, false, List, slice_index_or, sym, subst, ◌∙◌, arith}
use Rattle.field_vectors.specs.Grid.{Grid}
use Rattle.node_program.proofs.VectorSteps.{failed_before, carried_before}
use Rattle.net_model.specs.Failed.{is_failed_in}
use Rattle.node_program.specs.Carried.{IsCarried}
use Rattle.net_model.specs.Walks.{leaves_source}
use Rattle.node_program.specs.Vectors.{AreVectorsBefore}
use Rattle.node_program.specs.declared.Operand.{Operand}
use Rattle.node_program.proofs.link_vectors.fill.Goals as goal
use Rattle.node_program.proofs.link_vectors.fill.Goals.{then-not-failed-link, else-not-failed-link}

pub loop-link-preserved : goal.loop-link-preserved
loop-link-preserved g c =
    let number = g.F.Field.number in
    let nil = g.F.Field.zero in
    let code = c.args.code.now in
    let link = c.loop-link.link in
    let old = c.loop-link.vectors in
    let before = c.loop-link.invariant in
    let within : link < length code.net.links = omega (arith, c.loop-link-test.true, c.rows-link-end.ensures.value, before.rows) in
    let fails : is_failed_in code.net.patterns c.args.pattern link ≡ slice_index_or c.args.failed.now link false = sym (c.requires.failed link) in
    let Made : Grid g.row.F.Denot → Type 0 = AreVectorsBefore number nil code c.args.pattern (link + 1) in
    elim c.if-not-failed-link.branch [
      | then-not-failed-link w ↦
          let new = w.carry.new.vectors in
          let Leaving : Bool → Type 0 = λ leaves. IsCarried code.field number leaves w.operands_of.result.now link old new in
          let Reading : List Operand → Type 0 = λ operands. IsCarried code.field number (leaves_source code.net link) operands link old new in
          subst Made (sym w.vectors-is)
          (carried_before number nil code c.args.pattern link old new within (fails ∙ w.if-not-failed-link.true) before
          (subst Reading w.operands_of.ensures.value (subst Leaving w.leaves_source-leaves.ensures (w.carry.ensures.carried code.field c.requires.field))))
      | else-not-failed-link w ↦
          subst Made (sym w.vectors-is)
          (failed_before number nil code c.args.pattern link old g.met.F.Field.number_zero within
          (fails ∙ w.if-not-failed-link.false) before)
    ]
