use Rattle.std.proofs.Common.{◌≡◌, ◌++◌, filter, map}
use Rattle.std.specs.List.{range_with_len}
use Rattle.net_model.specs.Flows.{is_on}
use Rattle.name_texts.specs.Names.{node_name, with_spaces}
use Rattle.name_texts.proofs.texts.push_side.Given as goal

abbrev pub invariant-loop-node : goal.invariant-loop-node
invariant-loop-node l = l.text.items ≡ l.fn.text.items ++ with_spaces (map (node_name l.net) (filter (is_on l.side) (range_with_len 0 l.node)))
