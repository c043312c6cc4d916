use Rattle.std.proofs.Common.{◌≡◌, ◌++◌, [], take}
use Rattle.std.specs.List.{concat}
use Rattle.code_items.specs.Items.{shared_table_items}
use Rattle.code_items.proofs.writing.put_shared_decoders.Given as goal

abbrev pub invariant-loop-demand : goal.invariant-loop-demand
invariant-loop-demand l = l.out.items ≡ l.fn.out.items ++ concat (shared_table_items l.fn.field [] (take l.demand l.decoders))
