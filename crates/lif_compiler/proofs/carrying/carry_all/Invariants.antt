use Rattle.std.proofs.Common.{ℕ, ◌*◌, ◌<◌, length, slice_index_or}
use Rattle.counted_steps.specs.Steps.{RoseBy}
use Rattle.field_vectors.specs.Grid.{IsMatrix}
use Rattle.gf_tables.specs.Kind.{IsOfKind}
use Rattle.gf_tables.specs.declared.kind.FieldKind.{FieldKind}
use Rattle.node_program.specs.Carried.{carry_steps}
use Rattle.node_program.specs.Value.{leaves_source}
use Rattle.lif_compiler.specs.Steps.{AreCarriedTo}
use Rattle.lif_compiler.proofs.CountLaws.{carrying_below}
use Rattle.lif_compiler.proofs.CarrySteps.{HasShape}
use Rattle.lif_compiler.proofs.carrying.carry_all.Given as goal

-- the vectors under the patterns before this one are made, each in its steps where the link doesn't fail
abbrev pub invariant-loop-pattern : goal.invariant-loop-pattern
invariant-loop-pattern g l =
    let F = g.F.Field in
    record {
      behind : HasShape l.pattern l.initial.vectors l.vectors;
      made : (kind : FieldKind) → IsOfKind kind F.SIZE F.BYTES F.MARK F.product
          → AreCarriedTo kind F.number l.net l.link l.operands l.pattern l.initial.vectors l.vectors;
      kept : (k : ℕ) (none : _) → k < l.pattern → IsMatrix F.is_element (slice_index_or l.vectors k none);
      ticks : RoseBy (carrying_below l.net l.link l.pattern * carry_steps (leaves_source l.net l.link) (length l.operands) l.rate) l.initial.steps l.steps;
    }
