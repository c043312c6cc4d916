use Rattle.std.proofs.Common.{◌≡◌, flat_map, map, take, string_bytes}
use Rattle.name_texts.specs.Names.{node_name}
use Rattle.top_base.specs.Paths.{both_of, dotted_path}
use Rattle.top_base.proofs.paths.both_output_paths.Given as goal

abbrev pub invariant-loop-place : goal.invariant-loop-place
invariant-loop-place l = map string_bytes l.both.items ≡ flat_map both_of (map (λ sink. dotted_path l.prefix (node_name l.net sink)) (take l.place l.net.sinks))
