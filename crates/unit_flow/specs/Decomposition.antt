-- The used links of a residual network, decomposed into paths: at each node the least used link is
-- taken, and is free then.
use Rattle.std.specs.Prelude.{ℕ, zero, suc, ◌&&◌, ◌==◌, if◌then◌else◌, List, [], ◌∷◌, length, find, Option, slice_set}
use Rattle.std.specs.List.{range_with_len}
use Rattle.std.specs.Option.{option_map_or}
use Rattle.net_model.specs.Flows.{FlowNetwork}
use Rattle.net_model.specs.Walks.{head_of, tail_of}
use Rattle.net_model.specs.declared.Link.{Link}
use Rattle.unit_flow.specs.Residual.{is_used}
use Rattle.unit_flow.specs.declared.residual.LinkState.{LinkState}
use Rattle.unit_flow.specs.declared.residual.LinkState.TheVariants.{Free}

-- the least used link that leaves a node
abbrev pub used_leaving : List Link → List LinkState → ℕ → Option ℕ
used_leaving links states node =
    find (λ link. is_used states link && (tail_of links link == node))
    (range_with_len 0 (length links))

-- links that follow one another, and the states without them
pub record Taken : Type 0 where
  pub path : List ℕ
  pub states : List LinkState

-- the used links from a node to the sink, so many at most
abbrev pub taken_from : FlowNetwork → ℕ → ℕ → List LinkState → Taken
taken_from network zero node states = record { path = []; states = states }
taken_from network (suc most) node states =
    if node == network.sink then record { path = []; states = states }
    else option_map_or
    (λ link.
    let rest = taken_from network most (head_of network.links link) (slice_set states link Free) in
    record { path = link ∷ rest.path; states = rest.states })
    (used_leaving network.links states node)
    (record { path = []; states = states })

-- so many paths from the source, one after another
abbrev pub paths_of : FlowNetwork → ℕ → List LinkState → List (List ℕ)
paths_of network zero states = []
paths_of network (suc more) states =
    let taken = taken_from network (suc (length network.links)) network.source states in
    taken.path ∷ paths_of network more taken.states
