use Rattle.std.proofs.Common.{◌≡◌, map, take, find, None, string_bytes}
use Rattle.std.specs.List.{list_any}
use Rattle.std.specs.Str.{bytes_eq}
use Rattle.net_reader.specs.Words.{texts_of}
use Rattle.top_base.proofs.paths.shared_path.Given as goal

abbrev pub invariant-loop-output : goal.invariant-loop-output
invariant-loop-output l = find (λ path. list_any (bytes_eq path) (texts_of l.inputs)) (take l.output-index (map string_bytes l.outputs)) ≡ None
