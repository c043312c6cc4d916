-- What `compile` is given: the path of a network, and those of the code and of the report.
use Rattle.std.specs.Prelude.{ℕ, List, [], ◌∷◌}
use Rattle.top_base.specs.Words.{Compile}

-- the paths that are written, in order
abbrev pub outputs_of : Compile → List (List ℕ)
outputs_of given = given.code ∷ given.report ∷ []
