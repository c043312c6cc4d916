-- Drafts of a compiler that visits the links 0, 1, 2, .. in order and gives each its operands.
-- Links that it hasn't visited yet have none.
use Rattle.std.specs.Prelude.{ℕ, ◌-◌, List, [], ◌++◌, length, replicate}
use Rattle.node_program.specs.declared.Operand.{Operand}

-- the operands of the visited links, and then none for each other link, of so many links in all
abbrev pub draft_of : ℕ → List (List Operand) → List (List Operand)
draft_of count visited = visited ++ replicate (count - length visited) []
