use Rattle.std.proofs.Common.{◌≡◌, ◌*◌, length}
use Rattle.counted_steps.specs.Steps.{RoseBy}
use Rattle.gf_tables.specs.Kind.{IsOfKind}
use Rattle.gf_tables.specs.declared.kind.FieldKind.{FieldKind}
use Rattle.node_program.specs.Value.{leaves_source}
use Rattle.lif_compiler.specs.PartialCodes.{products_of}
use Rattle.lif_compiler.specs.Tables.{product_steps}
use Rattle.lif_compiler.proofs.TableSteps.{IsTableTo}
use Rattle.lif_compiler.proofs.partial_code.PartialCode.table_of.Given as goal

-- the rows of the hops before this one are made, each in the steps of its products
abbrev pub invariant-loop-row : goal.invariant-loop-row
invariant-loop-row g l =
    let F = g.F.Field in
    record {
      made : IsTableTo F.number (λ hop row. (kind : FieldKind) → IsOfKind kind F.SIZE F.BYTES F.MARK F.product
          → row ≡ products_of kind (leaves_source l.net l.link) l.sources l.self hop)
          l.hops (length l.sources) l.row l.table;
      ticks : RoseBy (l.row * (length l.sources * product_steps (leaves_source l.net l.link) l.self.rate)) l.initial.steps l.steps;
    }
