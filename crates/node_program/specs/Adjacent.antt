-- Which links follow on which.
use Rattle.std.specs.Prelude.{ℕ, ◌==◌, List, count_by}
use Rattle.std.specs.List.{sum_by}
use Rattle.net_model.specs.declared.Link.{Link}

-- how many links lead into a node
abbrev pub into_count : List Link → ℕ → ℕ
into_count links node = count_by (λ link. link.head == node) links

-- how many pairs of links there are of which the first leads into the node that the second leaves
abbrev pub adjacent_count : List Link → ℕ
adjacent_count links = sum_by (λ link. into_count links link.tail) links
