use Rattle.std.proofs.Common.{◌≡◌, ◌∷◌, map, take, find, None, string_bytes}
use Rattle.std.specs.List.{list_any}
use Rattle.std.specs.Str.{bytes_eq}
use Rattle.top_nodes.proofs.naming.see_apart.Given as goal

-- no output before has a path of the inputs
abbrev pub invariant-loop-output : goal.invariant-loop-output
invariant-loop-output l =
    find (λ path. list_any (bytes_eq path) (l.code ∷ map string_bytes l.inputs)) (take l.output-index (map string_bytes l.outputs)) ≡ None
