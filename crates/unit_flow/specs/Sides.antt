-- How many used links lead across a side, in either direction.
use Rattle.std.specs.Prelude.{ℕ, Bool, not, ◌&&◌, List, length, count_by}
use Rattle.std.specs.List.{range_with_len}
use Rattle.net_model.specs.Flows.{is_on}
use Rattle.net_model.specs.Walks.{head_of, tail_of}
use Rattle.net_model.specs.declared.Link.{Link}
use Rattle.unit_flow.specs.Residual.{is_used}
use Rattle.unit_flow.specs.declared.residual.LinkState.{LinkState}

-- a used link leads from a node on a side to one off it
abbrev pub leads_out : List Link → List LinkState → List Bool → ℕ → Bool
leads_out links states side link =
    (is_used states link && is_on side (tail_of links link))
    && not (is_on side (head_of links link))

-- a used link leads from a node off a side to one on it
abbrev pub leads_in : List Link → List LinkState → List Bool → ℕ → Bool
leads_in links states side link =
    (is_used states link && is_on side (head_of links link))
    && not (is_on side (tail_of links link))

-- how many used links lead off a side, and how many onto it
abbrev pub used_out : List Link → List LinkState → List Bool → ℕ
used_out links states side =
    count_by (leads_out links states side) (range_with_len 0 (length links))

abbrev pub used_in : List Link → List LinkState → List Bool → ℕ
used_in links states side = count_by (leads_in links states side) (range_with_len 0 (length links))
