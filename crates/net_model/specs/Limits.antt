-- How large a network may be, and the rates that are served.
use Rattle.std.specs.Prelude.{ℕ, ◌-◌}

-- the most nodes of a network
abbrev pub most_nodes : ℕ
most_nodes = 4096

-- the most links of a network
abbrev pub most_links : ℕ
most_links = 8192

-- the most patterns of a network, `none` among them
abbrev pub most_patterns : ℕ
most_patterns = 4096

-- the most listed patterns, those other than `none`
abbrev pub most_listed : ℕ
most_listed = most_patterns - 1

-- the most bytes of a name
abbrev pub longest_name : ℕ
longest_name = 32

-- the highest rate
abbrev pub highest_rate : ℕ
highest_rate = 32
