-- Which field a network's codes are over.
use Rattle.std.specs.Prelude.{ℕ, nat_le, if◌then◌else◌, Option, Some, None}
use Rattle.net_model.specs.declared.net.FieldChoice.{FieldChoice}
use Rattle.net_model.specs.declared.net.FieldChoice.TheVariants.{Any, Eight, Sixteen}

-- the most demands that the field of 256 elements serves
abbrev pub octet_demands : ℕ
octet_demands = 256

-- the most demands that the field of 65,536 elements serves
abbrev pub pair_demands : ℕ
pair_demands = 65536

-- the most demands that a choice serves
abbrev pub most_demands : FieldChoice → ℕ
most_demands Any = pair_demands
most_demands Eight = octet_demands
most_demands Sixteen = pair_demands

-- the field for so many demands: the one that is written, and else the smallest that serves them
abbrev pub used_field : FieldChoice → ℕ → Option FieldChoice
used_field Any demands = if nat_le demands octet_demands then Some Eight else (if nat_le demands pair_demands then Some Sixteen else None)
used_field Eight demands = if nat_le demands octet_demands then Some Eight else None
used_field Sixteen demands = if nat_le demands pair_demands then Some Sixteen else None
