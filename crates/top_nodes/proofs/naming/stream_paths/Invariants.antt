use Rattle.std.proofs.Common.{◌≡◌, map, take, string_bytes}
use Rattle.top_nodes.specs.Files.{stream_path}
use Rattle.top_nodes.proofs.naming.stream_paths.Given as goal

abbrev pub invariant-loop-link : goal.invariant-loop-link
invariant-loop-link l = map string_bytes l.paths.items ≡ map (stream_path l.prefix l.net) (take l.link-index l.links)
