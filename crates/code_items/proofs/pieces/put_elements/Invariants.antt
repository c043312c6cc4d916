use Rattle.std.proofs.Common.{◌≡◌, ◌++◌, map, take}
use Rattle.std.specs.List.{concat}
use Rattle.code_items.specs.Items.{element_item}
use Rattle.code_items.proofs.pieces.put_elements.Given as goal

abbrev pub invariant-loop-element : goal.invariant-loop-element
invariant-loop-element l = l.out.items ≡ l.fn.out.items ++ concat (map (element_item l.fn.field) (take l.element-index l.elements))
