-- What of a window wasn't given yet by the nodes at its links' tails.
use Rattle.std.specs.Prelude.{ℕ, Bool, false, not, List, [], count_by, replicate, slice_get}
use Rattle.std.specs.Option.{option_map_or}
use Rattle.coded_traffic.specs.Traffic.{Key, keys_of}
use Rattle.net_model.specs.Walks.{tail_of}
use Rattle.node_program.specs.declared.code.Code.{Code}
use Rattle.relay_node.specs.Relay.{Relay, is_given}

-- a key is given by the node at its link's tail
abbrev pub is_given_at : Code → List Relay → Key → Bool
is_given_at code relays key = option_map_or (λ relay. is_given relay key) (slice_get relays (tail_of code.net.links key.link)) false

-- how many keys of a window aren't given
abbrev pub unsent : Code → ℕ → ℕ → ℕ → List Relay → ℕ
unsent code pattern first count relays =
    count_by (λ key. not (is_given_at code relays key)) (keys_of code pattern (record { first = first; blocks = replicate count [] }))
