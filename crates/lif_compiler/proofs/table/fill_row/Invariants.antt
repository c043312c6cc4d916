use Rattle.std.proofs.Common.{◌≡◌, ◌*◌, slice_index}
use Rattle.counted_steps.specs.Steps.{RoseBy}
use Rattle.gf_tables.specs.Kind.{IsOfKind}
use Rattle.gf_tables.specs.declared.kind.FieldKind.{FieldKind}
use Rattle.linear_algebra.specs.Rows.{dot}
use Rattle.node_program.specs.Carried.{numbers_at, source_vector}
use Rattle.lif_compiler.specs.Tables.{product_steps}
use Rattle.lif_compiler.proofs.TableSteps.{IsFilledTo}
use Rattle.lif_compiler.proofs.table.fill_row.Given as goal

-- the products of the sources before this one stand in the row, each found in the steps of a product
abbrev pub invariant-loop-column : goal.invariant-loop-column
invariant-loop-column g l =
    let F = g.F.Field in
    record {
      filled : IsFilledTo F.number l.row (λ column entry. (kind : FieldKind) → IsOfKind kind F.SIZE F.BYTES F.MARK F.product
          → entry ≡ dot kind (source_vector l.leaves l.vectors.columns (numbers_at F.number l.vectors) (slice_index l.sources column)) (numbers_at F.number l.inverses l.path))
          l.column l.initial.table l.table;
      ticks : RoseBy (l.column * product_steps l.leaves l.inverses.columns) l.initial.steps l.steps;
    }
