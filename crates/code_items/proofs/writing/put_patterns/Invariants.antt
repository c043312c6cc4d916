use Rattle.std.proofs.Common.{◌≡◌, ◌++◌, take}
use Rattle.std.specs.List.{concat, flat_map}
use Rattle.code_items.specs.Items.{pattern_items}
use Rattle.code_items.proofs.writing.put_patterns.Given as goal

abbrev pub invariant-loop-pattern : goal.invariant-loop-pattern
invariant-loop-pattern l = l.out.items ≡ l.fn.out.items ++ concat (flat_map pattern_items (take l.pattern-index l.patterns))
