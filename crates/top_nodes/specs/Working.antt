-- A node at work on the files of its links.
use Rattle.std.specs.Prelude.{ℕ, List, [], ◌∷◌, map, string_bytes}
use Rattle.lif_outside.specs.FileCalls.{Written}
use Rattle.top_nodes.specs.declared.working.Relaying.{Relaying}

-- the paths of the files that it writes
abbrev pub paths_of : {F : Type 0} → Relaying F → List (List ℕ)
paths_of relaying = map string_bytes relaying.outputs.items

-- what each path gets of a generation: the frames of its link
abbrev pub parts_of : List (List ℕ) → List (List ℕ) → List Written
parts_of [] frames = []
parts_of (path ∷ paths) [] = []
parts_of (path ∷ paths) (bytes ∷ frames) = (path, bytes) ∷ parts_of paths frames

abbrev pub turn_of : {F : Type 0} → Relaying F → List Written
turn_of relaying = parts_of (paths_of relaying) relaying.frames.bytes
