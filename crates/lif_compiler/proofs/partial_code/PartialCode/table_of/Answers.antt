use Rattle.std.proofs.Common.{ℕ, Bool, ◌*◌, ◌<◌, ◌%◌, ◌∙◌, length, slice_index_or, ap, arith, subst, sym}
use Rattle.std.proofs.Math.Path.{ap₂}
use Rattle.std.proofs.lemmas.Option.{slice_get-get_or, slice_get_within}
use Rattle.field_vectors.specs.Grid.{Grid}
use Rattle.sink_basis.specs.declared.basis.Basis.{Basis}
use Rattle.node_program.specs.Value.{leaves_source}
use Rattle.lif_compiler.specs.Tables.{AreNamed, product_steps}
use Rattle.lif_compiler.specs.declared.hops.Hop.{Hop}
use Rattle.lif_compiler.proofs.CountLaws.{table_few, turn_counted, turns_counted}
use Rattle.lif_compiler.proofs.TableSteps.{inverses_read, products_same, table_first, table_more, vectors_read}
use Rattle.lif_compiler.proofs.partial_code.PartialCode.table_of.Goals as goal

pub loop-row-init : goal.loop-row-init
loop-row-init g c = record {
  made = table_first g.F.Field.number _ c.args.hops.now (length c.args.sources.now) g.F.Field.zero c.in_ok-table.table c.in_ok-table.ensures.value;
  ticks = omega arith;
}

pub fill_row-requires-clause-row : goal.fill_row-requires-clause-row
fill_row-requires-clause-row g c = omega (arith, c.loop-row.invariant.made.height)

pub fill_row-requires-clause-columns : goal.fill_row-requires-clause-columns
fill_row-requires-clause-columns g c = c.loop-row.invariant.made.same_columns

pub fill_row-requires-clause-named : goal.fill_row-requires-clause-named
fill_row-requires-clause-named g c =
    let net = c.args.net.now in
    let vectors = c.args.self.now.vectors.items in
    let demand = (slice_index_or c.args.hops.now c.loop-row.row (record { demand = 0; path = 0; before = 0 })).demand in
    let place : demand % c.len.result < length vectors = omega (arith, c.requires.some_pattern) in
    let shape = c.requires.vectors (demand % c.len.result) c.index-vectors.result.now place in
    let one = c.index-vectors.ensures in
    let Named : Bool → ℕ → ℕ → Type 0 = λ leaves rate links. AreNamed leaves rate links c.args.sources.now in
    let same = ap (λ (m : Grid g.row.F.Denot). m.columns) one ∙ shape.1 in
    let many = ap (λ (m : Grid g.row.F.Denot). length m.rows) one ∙ shape.0 in
    subst (λ leaves. Named leaves c.index-vectors.result.now.columns (length c.index-vectors.result.now.rows)) (sym c.leaves_source-leaves.ensures)
    (subst (λ rate. Named (leaves_source net c.args.link) rate (length c.index-vectors.result.now.rows)) (sym same) (subst (λ links. Named (leaves_source net c.args.link) c.args.self.now.rate links) (sym many) c.requires.sources))

pub fill_row-requires-clause-path : goal.fill_row-requires-clause-path
fill_row-requires-clause-path g c =
    let none : Hop = record { demand = 0; path = 0; before = 0 } in
    let among = c.requires.hops c.loop-row.row none (omega arith) in
    let basis = c.index.result.now in
    let wide = ap (λ (one : Basis g.row.F.Denot g.F.Field g.F.PartialEq). length one.frontier) c.index.ensures ∙ c.requires.bases (slice_index_or c.args.hops.now c.loop-row.row none).demand basis among.0 in
    omega (arith, basis.basis.inverses_high, wide, among.1)

pub fill_row-requires-clause-width : goal.fill_row-requires-clause-width
fill_row-requires-clause-width g c =
    let none : Hop = record { demand = 0; path = 0; before = 0 } in
    let demand = (slice_index_or c.args.hops.now c.loop-row.row none).demand in
    let vectors = c.args.self.now.vectors.items in
    let place : demand % c.len.result < length vectors = omega (arith, c.requires.some_pattern) in
    let basis = c.index.result.now in
    let wide = basis.basis.inverses_wide ∙ ap (λ (one : Basis g.row.F.Denot g.F.Field g.F.PartialEq). length one.frontier) c.index.ensures ∙ c.requires.bases demand basis (c.requires.hops c.loop-row.row none (omega arith)).0 in
    wide ∙ sym (ap (λ (m : Grid g.row.F.Denot). m.columns) c.index-vectors.ensures ∙ (c.requires.vectors (demand % c.len.result) c.index-vectors.result.now place).1)

pub loop-row-preserved : goal.loop-row-preserved
loop-row-preserved g c =
    let F = g.F.Field in
    let hops = c.args.hops.now in
    let row = c.loop-row.row in
    let none : Hop = record { demand = 0; path = 0; before = 0 } in
    let hop = slice_index_or hops row none in
    let within : row < length hops = omega arith in
    let vectors = c.args.self.now.vectors.items in
    let among = c.requires.hops row none within in
    let place : hop.demand % c.len.result < length vectors = omega (arith, c.requires.some_pattern) in
    let basis = c.index.result.now in
    let wide = basis.basis.inverses_wide ∙ ap (λ (one : Basis g.row.F.Denot g.F.Field g.F.PartialEq). length one.frontier) c.index.ensures ∙ c.requires.bases hop.demand basis among.0 in
    record {
      made = table_more F.number _ hops (length c.args.sources.now) row hop c.loop-row.table c.fill_row.new.table c.loop-row.invariant.made (slice_get-get_or hops row none within)
          c.fill_row.ensures.columns c.fill_row.ensures.height c.fill_row.ensures.others
          (λ kind of_kind. c.fill_row.ensures.products kind of_kind
          ∙ products_same kind F.number c.leaves_source-leaves.result _ c.index-vectors.result.now.columns c.args.self.now.rate c.args.sources.now c.index-vectors.result.now _ c.index.result.now.inverses _ hop.path
          c.leaves_source-leaves.ensures (ap (λ (m : Grid g.row.F.Denot). m.columns) c.index-vectors.ensures ∙ (c.requires.vectors (hop.demand % c.len.result) c.index-vectors.result.now place).1)
          (vectors_read vectors hop.demand c.len.result c.index-vectors.result.now c.requires.some_pattern (omega (arith, c.len.ensures)) c.index-vectors.ensures)
          (inverses_read c.args.self.now.bases.items hop.demand c.index.result.now among.0 c.index.ensures));
      ticks =
          turn_counted row _ (length c.args.sources.now * product_steps (leaves_source c.args.net.now c.args.link) c.args.self.now.rate) c.args.steps.now c.loop-row.steps c.fill_row.new.steps
          (ap₂ (λ leaves columns. length c.args.sources.now * product_steps leaves columns) c.leaves_source-leaves.ensures wide) c.loop-row.invariant.ticks c.fill_row.ensures.ticks;
    }

pub returns-clause-table : goal.returns-clause-table
returns-clause-table g c = λ kind of_kind.
    record {
      columns = c.loop-row.invariant.made.same_columns;
      height = c.loop-row.invariant.made.height;
      row = λ k hop there. c.loop-row.invariant.made.rows k hop (omega (arith, slice_get_within c.args.hops.now k hop there, c.loop-row-test.false)) there kind of_kind;
    }

pub returns-clause-ticks : goal.returns-clause-ticks
returns-clause-ticks g c =
    turns_counted c.loop-row.row (length c.args.hops.now) (length c.args.sources.now * product_steps (leaves_source c.args.net.now c.args.link) c.args.self.now.rate) c.args.steps.now c.loop-row.steps
    (omega arith) c.loop-row.invariant.ticks

pub returns-clause-few_ticks : goal.returns-clause-few_ticks
returns-clause-few_ticks g c =
    table_few (leaves_source c.args.net.now c.args.link) (length c.args.hops.now) (length c.args.sources.now) c.args.self.now.rate c.args.steps.now c.loop-row.steps (returns-clause-ticks g c)
