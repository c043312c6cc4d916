-- Names among names, and names each where it stands first.
use Rattle.std.specs.Prelude.{ℕ, Bool, List, [], ◌∷◌, ◌++◌, if◌then◌else◌}
use Rattle.std.specs.List.{list_any}
use Rattle.std.specs.Str.{bytes_eq}

-- a name is among these
abbrev pub has : List (List ℕ) → List ℕ → Bool
has names name = list_any (bytes_eq name) names

-- names, and each of others that isn't among them, where it stands first
abbrev pub distinct_from : List (List ℕ) → List (List ℕ) → List (List ℕ)
distinct_from seen [] = seen
distinct_from seen (name ∷ names) =
    distinct_from (if has seen name then seen else seen ++ name ∷ []) names
