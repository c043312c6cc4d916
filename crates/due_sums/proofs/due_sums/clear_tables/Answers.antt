use Rattle.std.proofs.Common.{All, arith, subst, sym, take}
use Rattle.std.proofs.lemmas.List.{take_all, take_more_set}
use Rattle.std.proofs.lemmas.List.Elements.{All-push, All-set}
use Rattle.due_sums.specs.Counts.{IsFresh, IsOfSize}
use Rattle.due_sums.proofs.due_sums.clear_tables.Goals as goal

pub clear-requires-clause-table : goal.clear-requires-clause-table
clear-requires-clause-table c = c.loop-table.invariant.size c.loop-table.table-index c.table-item.result (omega arith)

pub loop-table-preserved : goal.loop-table-preserved
loop-table-preserved c =
    let tables = c.loop-table.tables in
    let at = c.loop-table.table-index in
    let OfSize = IsOfSize c.args.inputs c.args.groups.now in
    let Fresh = IsFresh c.args.inputs c.args.groups.now in
    record {
      size = All-set OfSize tables at c.clear.new.self c.clear.ensures.size c.loop-table.invariant.size;
      fresh = subst (All Fresh) (sym (take_more_set tables at c.clear.new.self (omega arith)))
          (All-push Fresh (take at tables) c.clear.new.self c.loop-table.invariant.fresh c.clear.ensures);
    }

pub returns : goal.returns
returns c =
    let tables = c.loop-table.tables in
    subst (All (IsFresh c.args.inputs c.args.groups.now)) (take_all c.loop-table.table-index tables (omega arith)) c.loop-table.invariant.fresh
