-- The paths of outputs among those of a command.
use Rattle.std.specs.Prelude.{ℕ, Bool, ◌||◌, nat_lt, List, [], ◌∷◌, ◌++◌, Option, find, count_by, flat_map, map}
use Rattle.std.specs.List.{list_any}
use Rattle.std.specs.Str.{bytes_eq}
use Rattle.name_texts.specs.Names.{node_name}
use Rattle.net_model.specs.declared.net.Net.{Net}

-- the path of a file that is named: what the paths begin with, a dot and the name
abbrev pub dotted_path : List ℕ → List ℕ → List ℕ
dotted_path prefix name = prefix ++ 46 ∷ name

-- the paths of all sinks' files, in the order of the sinks
abbrev pub output_paths : List ℕ → Net → List (List ℕ)
output_paths prefix net = map (λ sink. dotted_path prefix (node_name net sink)) net.sinks

-- the paths of a sink's two files, of which each is named behind the path of its one: 1 or 2
abbrev pub both_of : List ℕ → List (List ℕ)
both_of path = dotted_path path (49 ∷ []) ∷ dotted_path path (50 ∷ []) ∷ []

-- those of all sinks' files, where each has one of either source
abbrev pub both_paths : List ℕ → Net → List (List ℕ)
both_paths prefix net = flat_map both_of (output_paths prefix net)

-- an output's path is that of an input or of another output
abbrev pub is_shared : List (List ℕ) → List (List ℕ) → List ℕ → Bool
is_shared inputs outputs path = list_any (bytes_eq path) inputs || nat_lt 1 (count_by (bytes_eq path) outputs)

-- the first output's path that is
abbrev pub shared_path : List (List ℕ) → List (List ℕ) → Option (List ℕ)
shared_path inputs outputs = find (is_shared inputs outputs) outputs
