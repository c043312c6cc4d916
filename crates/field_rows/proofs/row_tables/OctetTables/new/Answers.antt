use Rattle.std.proofs.Common.{rules}
use Rattle.field_rows.proofs.row_tables.OctetTables.new.Goals as goal

pub invariant_of-result : goal.invariant_of-result
invariant_of-result c = λ made. record { each_its_own = λ octet none l. let call = made.from_fn.ensures.items.at octet none l in search (rules, call) parts 8 }
