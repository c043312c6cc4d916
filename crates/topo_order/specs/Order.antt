-- The order of a network's links: each comes after all links into its tail, and of those that may
-- come the least first.
use Rattle.std.specs.Prelude.{◌≡◌, ◌<◌, ◌≤◌, ℕ, zero, suc, Bool, true, not, ◌&&◌, ◌||◌, ◌==◌, List, [], ◌∷◌, ◌++◌, length, map, slice_index, find, Option, take, All, IsTrue, nat_eq}
use Rattle.std.specs.List.{list_all, range_with_len, IsDistinct}
use Rattle.std.specs.Option.{option_map_or}
use Rattle.net_model.specs.Lists.{are_distinct, is_among}
use Rattle.net_model.specs.Walks.{IsCycle, head_of, tail_of}
use Rattle.net_model.specs.declared.Link.{Link}

-- all links into a node are among those that were placed
abbrev pub is_reached : List Link → List ℕ → ℕ → Bool
is_reached links placed node =
    list_all (λ link. not (head_of links link == node) || is_among placed link)
    (range_with_len 0 (length links))

-- a link may be placed next: it isn't placed, and all links into its tail are
abbrev pub is_ready : List Link → List ℕ → ℕ → Bool
is_ready links placed link =
    not (is_among placed link) && is_reached links placed (tail_of links link)

-- the least link that may be placed next
abbrev pub next_link : List Link → List ℕ → Option ℕ
next_link links placed = find (is_ready links placed) (range_with_len 0 (length links))

-- links placed one after another, so many at most
abbrev pub order_from : List Link → ℕ → List ℕ → List ℕ
order_from links zero placed = placed
order_from links (suc more) placed =
    option_map_or (λ link. order_from links more (placed ++ link ∷ [])) (next_link links placed)
    placed

-- the order of all links, as far as it goes
abbrev pub order_of : List Link → List ℕ
order_of links = order_from links (length links) []

-- the nodes that a walk leaves
abbrev pub nodes_left : List Link → List ℕ → List ℕ
nodes_left links walk = map (tail_of links) walk

-- a cycle that passes no node twice and begins with its least link
pub record IsShownCycle (links : List Link) (cycle : List ℕ) : Type 0 where
  pub is_cycle : IsCycle links cycle
  pub once : IsTrue (are_distinct nat_eq (nodes_left links cycle))
  pub least_first : All (λ link. slice_index cycle 0 ≤ link) cycle

-- links that were placed one after another: numbers of links, none twice, each after all links into
-- its tail
pub record IsPlaced (links : List Link) (placed : List ℕ) : Type 0 where
  pub below : (l : ℕ) → is_among placed l ≡ true → l < length links
  pub distinct : IsDistinct nat_eq placed
  pub after : (place : ℕ) → place < length placed
      → is_reached links (take place placed) (tail_of links (slice_index placed place)) ≡ true
  pub reached : (l : ℕ) → is_among placed l ≡ true
      → is_reached links placed (tail_of links l) ≡ true
