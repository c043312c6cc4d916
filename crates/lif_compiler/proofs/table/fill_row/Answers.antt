use Rattle.std.proofs.Common.{◌≡◌, ℕ, length, slice_index, arith, refl}
use Rattle.gf_tables.specs.Kind.{IsOfKind}
use Rattle.gf_tables.specs.declared.kind.FieldKind.{FieldKind}
use Rattle.linear_algebra.specs.Rows.{dot}
use Rattle.node_program.specs.Carried.{numbers_at, source_vector}
use Rattle.lif_compiler.specs.Tables.{product_steps}
use Rattle.lif_compiler.proofs.CountLaws.{turn_counted, turns_counted}
use Rattle.lif_compiler.proofs.TableSteps.{filled_more, filled_row}
use Rattle.lif_compiler.proofs.table.fill_row.Goals as goal

pub loop-column-preserved : goal.loop-column-preserved
loop-column-preserved g c =
    let F = g.F.Field in
    let Entry : ℕ → ℕ → Type 0 = λ column entry. (kind : FieldKind) → IsOfKind kind F.SIZE F.BYTES F.MARK F.product
    → entry ≡ dot kind (source_vector c.args.leaves c.args.vectors.now.columns (numbers_at F.number c.args.vectors.now) (slice_index c.args.sources.now column)) (numbers_at F.number c.args.inverses.now c.args.path) in
    record {
      filled = filled_more F.number c.args.row Entry c.loop-column.column c.args.table.now c.loop-column.table c.set.new.self c.product-entry.result
          c.requires.row (omega (arith, c.requires.columns, c.loop-column-test.true)) c.loop-column.invariant.filled c.set.ensures.value c.product-entry.ensures.value;
      ticks = turn_counted c.loop-column.column _ (product_steps c.args.leaves c.args.inverses.now.columns) c.args.steps.now c.loop-column.steps c.product-entry.new.steps refl c.loop-column.invariant.ticks c.product-entry.ensures.ticks;
    }

pub returns-clause-products : goal.returns-clause-products
returns-clause-products g c = λ kind of_kind.
    let F = g.F.Field in
    let sources = c.args.sources.now in
    let is = c.loop-column.invariant.filled in
    let product : ℕ → ℕ = λ from. dot kind (source_vector c.args.leaves c.args.vectors.now.columns (numbers_at F.number c.args.vectors.now) from) (numbers_at F.number c.args.inverses.now c.args.path) in
    filled_row F.number c.args.row product sources c.args.table.now c.loop-column.table c.requires.columns
    (record {
      same_columns = is.same_columns;
      same_height = is.same_height;
      width = is.width;
      others = is.others;
      entries = λ column within. is.entries column (omega (arith, c.loop-column-test.false)) kind of_kind;
    })

pub returns-clause-ticks : goal.returns-clause-ticks
returns-clause-ticks g c =
    turns_counted c.loop-column.column (length c.args.sources.now) (product_steps c.args.leaves c.args.inverses.now.columns) c.args.steps.now c.loop-column.steps
    (omega (arith, c.requires.columns)) c.loop-column.invariant.ticks
