use Rattle.std.proofs.Common.{◌≡◌, ◌+◌, length, arith, sym, subst}
use Rattle.lif_compiler.specs.Failing.{AreFailedTablesTo}
use Rattle.lif_compiler.proofs.FailingSteps.{tables_more, tables_none}
use Rattle.lif_compiler.proofs.failing.failed_tables.Goals as goal

pub loop-pattern-init : goal.loop-pattern-init
loop-pattern-init c = tables_none c.args.net.now c.in_ok-tables.tables.items c.in_ok-tables.ensures.items

pub loop-pattern-preserved : goal.loop-pattern-preserved
loop-pattern-preserved c =
    let net = c.args.net.now in
    let pattern = c.loop-pattern.pattern in
    let tables = c.loop-pattern.tables.items in
    let table = c.in_ok-failed_table.field-0 in
    let made = c.in_ok-failed_table.ensures in
    subst (AreFailedTablesTo net (pattern + 1)) (sym c.in_ok-push.ensures.items) (tables_more net pattern tables table c.loop-pattern.invariant (record { each_link = made.count; at = made.entries }))

pub returns : goal.returns
returns c =
    let all : c.loop-pattern.pattern ≡ length c.args.net.now.patterns = omega arith in
    subst (λ count. AreFailedTablesTo c.args.net.now count c.loop-pattern.tables.items) all c.loop-pattern.invariant
