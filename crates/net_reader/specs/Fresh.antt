-- Names that are new.
use Rattle.std.specs.Prelude.{ℕ, Bool, List, not, ◌&&◌}
use Rattle.std.specs.List.{list_all}
use Rattle.std.specs.Str.{bytes_eq}
use Rattle.name_index.specs.Seen.{has}
use Rattle.net_model.specs.Lists.{are_distinct}

-- none of the names has been seen
abbrev pub are_new : List (List ℕ) → List (List ℕ) → Bool
are_new seen names = list_all (λ name. not (has seen name)) names

-- none of the names has been seen, and they are distinct
abbrev pub are_fresh : List (List ℕ) → List (List ℕ) → Bool
are_fresh seen names = are_new seen names && are_distinct bytes_eq names
