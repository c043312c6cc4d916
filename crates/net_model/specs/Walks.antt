-- The ends of links, and links that follow one another: walks and cycles.
use Rattle.std.specs.Prelude.{◌≡◌, ◌<◌, ◌-◌, ◌==◌, ℕ, Bool, false, List, [], ◌∷◌, length, slice_get, slice_index}
use Rattle.std.specs.Option.{option_map_or}
use Rattle.net_model.specs.declared.Link.{Link}
use Rattle.net_model.specs.declared.net.Net.{Net}

-- the node that the link of a number leaves, and the one that it leads into
abbrev pub tail_of : List Link → ℕ → ℕ
tail_of links link = option_map_or (λ l. l.tail) (slice_get links link) 0

abbrev pub head_of : List Link → ℕ → ℕ
head_of links link = option_map_or (λ l. l.head) (slice_get links link) 0

-- whether a link leaves the source
abbrev pub leaves_source : Net → ℕ → Bool
leaves_source net link = option_map_or (λ l. l.tail == net.source) (slice_get net.links link) false

-- links of the network, by their numbers, each of which starts at the head of the one before
abbrev pub IsWalk : List Link → List ℕ → Type 0
IsWalk links [] = Unit {0}
IsWalk links (link ∷ []) = link < length links
IsWalk links (link ∷ next ∷ walk) = (link < length links) × (tail_of links next ≡ head_of links link) × IsWalk links (next ∷ walk)

-- a nonempty walk whose first link starts at the head of the last
pub record IsCycle (links : List Link) (cycle : List ℕ) : Type 0 where
  pub some : 0 < length cycle
  pub walk : IsWalk links cycle
  pub closed : tail_of links (slice_index cycle 0) ≡ head_of links (slice_index cycle (length cycle - 1))

-- there is no cycle
abbrev pub IsAcyclic : List Link → Type 0
IsAcyclic links = (cycle : List ℕ) → ¬ IsCycle links cycle
