-- Laws of links: behind others, made of names, in the order of links, and under new numbers.
use Rattle.std.specs.Prelude.{◌≡◌, ◌≢◌, ◌<◌, ◌≤◌, ◌+◌, ◌-◌, ◌==◌, ℕ, zero, suc, Bool, false, List, [], ◌∷◌, ◌++◌, length, map, slice_get, slice_index, Option, Some, None}
use Rattle.std.specs.List.{range_with_len}
use Rattle.std.specs.Option.{option_map_or}
use Rattle.std.proofs.Common.{refl, sym, ◌∙◌, ap, arith, inl, inr}
use Rattle.std.proofs.lemmas.Bool.{and_from, and_left, cases_lt, le-ltb, lt-ltb, not_from_false, not_from_true}
use Rattle.std.proofs.lemmas.List.{get_or_append_left, get_or-map, length-append, length-map, map-id}
use Rattle.std.proofs.lemmas.List.FromFn.{get_or-range_with_len, length-range_with_len, map-range_with_len_more}
use Rattle.std.proofs.Math.Nat.{zero-add}
use Rattle.net_model.specs.Renumbering.{HasEachOnce, old_number, renumbered_links}
use Rattle.net_model.specs.Walks.{IsAcyclic, IsCycle, head_of, leaves_source, tail_of}
use Rattle.net_model.specs.declared.Link.{Link}
use Rattle.net_model.specs.declared.net.Net.{Net}
use Rattle.net_model.proofs.ListLaws.{is_among-range_with_len}
use Rattle.net_model.proofs.RenumberedParts.{slice_get-renumbered_links}
use Rattle.net_model.proofs.WalkLaws.{IsWalk-below}
use Rattle.topo_order.specs.Order.{next_link, order_from, order_of}
use Rattle.topo_order.proofs.OrderLaws.{next_link-first, order_from-step, reached_from, walk_from, walk_next}

-- ---- lists one behind another

-- what stands at a place of a list stands there whatever follows
pub slice_get-front : {X : Type 0} (xs ys : List X) (k : ℕ) → k < length xs → slice_get (xs ++ ys) k ≡ slice_get xs k
slice_get-front [] ys k within = absurd (omega arith)
slice_get-front (x ∷ xs) ys zero within = refl
slice_get-front (x ∷ xs) ys (suc k) within = slice_get-front xs ys k (omega arith)

-- and what stands at a place of a list stands later by what goes before
pub slice_get-behind : {X : Type 0} (xs ys : List X) (k : ℕ) → length xs ≤ k → slice_get (xs ++ ys) k ≡ slice_get ys (k - length xs)
slice_get-behind [] ys k past = let same : k ≡ k - 0 = omega arith in ap (slice_get ys) same
slice_get-behind (x ∷ xs) ys zero past = absurd (omega arith)
slice_get-behind (x ∷ xs) ys (suc k) past =
    let same : k - length xs ≡ suc k - suc (length xs) = omega arith in slice_get-behind xs ys k (omega arith) ∙ ap (slice_get ys) same

-- ---- links made of names

-- a link from one node to another with this name
abbrev pub named_link : ℕ → ℕ → List ℕ → Link
named_link tail head name = record { name = name; tail = tail; head = head }

-- such links have that tail
pub tail_of-named : (tail head : ℕ) (names : List (List ℕ)) (rest : List Link) (link : ℕ) → link < length names
    → tail_of (map (named_link tail head) names ++ rest) link ≡ tail
tail_of-named tail head [] rest link within = absurd (omega arith)
tail_of-named tail head (name ∷ names) rest zero within = refl
tail_of-named tail head (name ∷ names) rest (suc link) within = tail_of-named tail head names rest link (omega arith)

-- ---- links whose tails no link leads into, in front of others

-- no link leads into the tail of one of so many first ones
abbrev pub NoneLeadsInto : List Link → ℕ → Type 0
NoneLeadsInto links count = (link l : ℕ) → link < count → l < length links → head_of links l ≢ tail_of links link

-- the links behind so many others, which have numbers from there on
module _ (links front rest : List Link) (count : ℕ) (are : links ≡ front ++ rest) (size : length front ≡ count) where
  slice_get-links : (link : ℕ) → count ≤ link → slice_get links link ≡ slice_get rest (link - count)
  slice_get-links link past =
      ap (λ all. slice_get all link) are ∙ slice_get-behind front rest link (omega (arith, size))
      ∙ ap (λ before. slice_get rest (link - before)) size

  pub tail_of-behind : (link : ℕ) → count ≤ link → tail_of links link ≡ tail_of rest (link - count)
  tail_of-behind link past = ap (λ found. option_map_or (λ l. l.tail) found 0) (slice_get-links link past)

  pub head_of-behind : (link : ℕ) → count ≤ link → head_of links link ≡ head_of rest (link - count)
  head_of-behind link past = ap (λ found. option_map_or (λ l. l.head) found 0) (slice_get-links link past)

  -- where no link leads into the tail of one in front, a cycle has none of these: it is one of the links behind
  module _ (free : NoneLeadsInto links count) (cycle : List ℕ) (is : IsCycle links cycle) where
    within : (k : ℕ) → k < length cycle → slice_index cycle k < length links
    within k inside = IsWalk-below links cycle is.walk k 0 inside

    past : (k : ℕ) → k < length cycle → count ≤ slice_index cycle k
    past k inside = elim (cases_lt (slice_index cycle k) count) [ inl below ↦ absurd (entered k inside below) | inr behind ↦ behind ]
      where
        entered : (k : ℕ) → k < length cycle → slice_index cycle k < count → ⊥
        entered zero inside below =
            let last = length cycle - 1 in
            free (slice_index cycle 0) (slice_index cycle last) below (within last (omega arith)) (sym is.closed)
        entered (suc k) inside below =
            let next = walk_next links cycle is.walk k inside in
            free (slice_index cycle (suc k)) (slice_index cycle k) below (within k (omega arith)) (sym next)

    abbrev cycle_behind : List ℕ
    cycle_behind = map (λ link. link - count) cycle

    link_behind : (k : ℕ) → k < length cycle → slice_index cycle_behind k ≡ slice_index cycle k - count
    link_behind k inside = get_or-map (λ link. link - count) cycle k 0 0 inside

    tail_behind : (k : ℕ) → k < length cycle → tail_of rest (slice_index cycle_behind k) ≡ tail_of links (slice_index cycle k)
    tail_behind k inside = ap (tail_of rest) (link_behind k inside) ∙ sym (tail_of-behind (slice_index cycle k) (past k inside))

    head_behind : (k : ℕ) → k < length cycle → head_of rest (slice_index cycle_behind k) ≡ head_of links (slice_index cycle k)
    head_behind k inside = ap (head_of rest) (link_behind k inside) ∙ sym (head_of-behind (slice_index cycle k) (past k inside))

    IsCycle-behind : IsCycle rest cycle_behind
    IsCycle-behind =
        let same : length cycle_behind ≡ length cycle = length-map cycle (λ link. link - count) in
        record {
          some = omega (arith, is.some, same);
          walk = walk_from rest cycle_behind
              (λ k below. let inside : k < length cycle = omega (arith, same) in
              omega (arith, link_behind k inside, past k inside, within k inside, ap length are, length-append front rest, size))
              (λ k below. let inside : k < length cycle = omega (arith, same) in
              let next : suc k < length cycle = omega (arith, same) in
              tail_behind (suc k) next ∙ walk_next links cycle is.walk k next ∙ sym (head_behind k inside));
          closed =
              let last : length cycle - 1 < length cycle = omega (arith, is.some) in
              tail_behind 0 is.some ∙ is.closed ∙ sym (head_behind (length cycle - 1) last)
              ∙ ap (λ n. head_of rest (slice_index cycle_behind (n - 1))) (sym same);
        }

  -- so there is no cycle where the links behind have none
  pub IsAcyclic-behind : NoneLeadsInto links count → IsAcyclic rest → IsAcyclic links
  IsAcyclic-behind free acyclic cycle is = acyclic (cycle_behind free cycle is) (IsCycle-behind free cycle is)

-- ---- in the order

-- what was placed stays in front
order_from-keeps : (links : List Link) (more : ℕ) (placed : List ℕ) (place : ℕ) → place < length placed
    → slice_index (order_from links more placed) place ≡ slice_index placed place
order_from-keeps links zero placed place within = refl
order_from-keeps links (suc more) placed place within =
    at (next_link links placed) (λ link.
    order_from-keeps links more (placed ++ link ∷ []) place (omega (arith, length-append placed (link ∷ [])))
    ∙ get_or_append_left placed (link ∷ []) 0 place within)
  where
    at : (next : Option ℕ) → ((link : ℕ) → slice_index (order_from links more (placed ++ link ∷ [])) place ≡ slice_index placed place)
        → slice_index (option_map_or (λ link. order_from links more (placed ++ link ∷ [])) next placed) place ≡ slice_index placed place
    at None rest = refl
    at (Some link) rest = rest link

-- the numbers from 0 on, with one more
range-more : (n : ℕ) → range_with_len 0 (suc n) ≡ range_with_len 0 n ++ n ∷ []
range-more n =
    let more : suc n ≡ n + 1 = omega arith in
    ap (range_with_len 0) more ∙ sym (map-id (range_with_len 0 (n + 1))) ∙ map-range_with_len_more (λ (k : ℕ). k) 0 n n (zero-add n)
    ∙ ap (λ numbers. numbers ++ n ∷ []) (map-id (range_with_len 0 n))

module _ (links : List Link) (count : ℕ) (some : count ≤ length links) (free : NoneLeadsInto links count) where
  -- where so many of the first were placed, the next comes next
  next_link-free : (placed : ℕ) → placed < count → next_link links (range_with_len 0 placed) ≡ Some placed
  next_link-free placed below =
      let front = range_with_len 0 placed in
      next_link-first links front placed (omega arith)
      (and_from _ _ (not_from_false _ (is_among-range_with_len placed placed ∙ le-ltb placed placed (omega arith)))
      (reached_from links front (tail_of links placed) (λ l within leads. absurd (free placed l below within leads))))
      (λ l before. and_left _ _ (not_from_true _ (is_among-range_with_len placed l ∙ lt-ltb l placed before)))

  -- so the order has them in front
  order_of-from_free : (placed : ℕ) → placed ≤ count
      → order_of links ≡ order_from links (length links - length (range_with_len 0 placed)) (range_with_len 0 placed)
  order_of-from_free zero most = let all : length links ≡ length links - 0 = omega arith in ap (λ more. order_from links more []) all
  order_of-from_free (suc placed) most =
      order_of-from_free placed (omega arith)
      ∙ order_from-step links (range_with_len 0 placed) placed (omega (arith, length-range_with_len 0 placed))
      (next_link-free placed (omega arith))
      ∙ ap (λ front. order_from links (length links - length front) front) (sym (range-more placed))

  -- in the order the first links keep their numbers, where no link leads into their tails
  pub order_of-free : (link : ℕ) → link < count → slice_index (order_of links) link ≡ link
  order_of-free link below =
      ap (λ order. slice_index order link) (order_of-from_free count (omega arith))
      ∙ order_from-keeps links _ (range_with_len 0 count) link (omega (arith, length-range_with_len 0 count))
      ∙ get_or-range_with_len 0 count link 0 below ∙ zero-add link

-- ---- links with new numbers

-- a link of a network with new numbers leaves the source exactly where the old one does
pub leaves_source-renumbered : (net new : Net) (order : List ℕ) → HasEachOnce (length net.links) order
    → new.links ≡ renumbered_links net.links order → new.source ≡ net.source
    → (link : ℕ) → link < length order → leaves_source new link ≡ leaves_source net (old_number order link)
leaves_source-renumbered net new order once links source link within =
    let leaves : Option Link → ℕ → Bool = λ found node. option_map_or (λ l. l.tail == node) found false in
    ap (leaves (slice_get new.links link)) source
    ∙ ap (λ found. leaves found net.source)
    (ap (λ all. slice_get all link) links ∙ slice_get-renumbered_links net.links order link once within)
