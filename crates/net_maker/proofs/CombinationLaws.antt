-- Of a combination network: it has no cycle, a demand for each set, and the rate k.
use Rattle.std.specs.Prelude.{◌≡◌, ◌≢◌, ℕ, zero, suc, ◌+◌, ◌*◌, ◌-◌, ◌/◌, ◌%◌, ◌<◌, ◌≤◌, true, false, ◌&&◌, ◌==◌, nat_eq, nat_le, nat_lt, List, [], ◌∷◌, ◌++◌, length, map, slice_get, slice_index, All}
use Rattle.std.specs.List.{AllByRecursion, concat, list_all, list_any, range_with_len}
use Rattle.std.specs.Option.{option_map_or}
use Rattle.std.proofs.Common.{get_or, refl, sym, ap, ◌∙◌, subst, arith, inl, inr}
use Rattle.std.proofs.lemmas.Bool.{and_from, and_parts, cases_lt, eq-eqb, ne_eqb, not_from_false, or_from}
use Rattle.std.proofs.lemmas.List.{length-append, length-map}
use Rattle.std.proofs.lemmas.List.Elements.{All-cons, All-from_recursion, All-nil}
use Rattle.std.proofs.lemmas.List.Folds.{list_any_at}
use Rattle.std.proofs.lemmas.List.FromFn.{get_or-range_with_len, length-map-range_with_len, length-range_with_len}
use Rattle.item_list.proofs.Places.{place_within}
use Rattle.item_list.proofs.Tests.{passes_at}
use Rattle.net_model.specs.Demands.{demand_count}
use Rattle.net_model.specs.Flows.{FlowNetwork, IsCut, IsFlow, IsLeastCut, IsPath, flow_network}
use Rattle.net_model.specs.Lists.{are_distinct, is_among, is_rising}
use Rattle.net_model.specs.Walks.{IsAcyclic, IsWalk, head_of, tail_of}
use Rattle.net_model.specs.declared.Link.{Link}
use Rattle.net_model.specs.declared.net.Net.{Net}
use Rattle.net_model.proofs.FlowLaws.{flow-le-cut}
use Rattle.net_model.proofs.WalkLaws.{IsWalk-below}
use Rattle.failure_patterns.specs.Demands.{demand_of}
use Rattle.failure_patterns.specs.Rate.{HasLeastCut, IsRate}
use Rattle.failure_patterns.proofs.RateLaws.{HasLeastCut-unique}
use Rattle.net_maker.specs.Combination.{IsCombination, entry_link, links, sink_link, sink_links}
use Rattle.net_maker.specs.Fits.{Fits}
use Rattle.net_maker.specs.Subsets.{binomial, subsets_of}
use Rattle.net_maker.proofs.NetworkLaws.{each_of, length-links}
use Rattle.net_maker.proofs.SubsetLaws.{IsSetOf, above, binomial-some, length-subsets_of, range_of, subsets_of-each}

-- ---- links that rise

-- a link leads to a node of a higher number
abbrev Rises : Link → Type 0
Rises link = link.tail < link.head

rises_at : (links : List Link) (l : ℕ) → AllByRecursion Rises links → l < length links → tail_of links l < head_of links l
rises_at [] l rise within = absurd (omega arith)
rises_at (link ∷ links) zero rise within = rise.0
rises_at (link ∷ links) (suc l) rise within = rises_at links l rise.1 (omega arith)

-- a walk over such links ends above its start
walk_rises : (links : List Link) (walk : List ℕ) (last : ℕ) → AllByRecursion Rises links → suc last ≡ length walk → IsWalk links walk
    → tail_of links (slice_index walk 0) < head_of links (slice_index walk last)
walk_rises links [] last rise count is = absurd (omega arith)
walk_rises links (link ∷ []) zero rise count is = rises_at links link rise is
walk_rises links (link ∷ []) (suc last) rise count is = absurd (omega arith)
walk_rises links (link ∷ next ∷ walk) zero rise count is = absurd (omega arith)
walk_rises links (link ∷ next ∷ walk) (suc last) rise count is =
    let here = rises_at links link rise is.0 in
    let rest = walk_rises links (next ∷ walk) last rise (omega arith) is.2 in
    omega (arith, here, is.1, rest)

-- so there is no cycle of them
acyclic-from_rises : (links : List Link) → AllByRecursion Rises links → IsAcyclic links
acyclic-from_rises links rise cycle is =
    let some = is.some in
    let ends = walk_rises links cycle (length cycle - 1) rise (omega arith) is.walk in
    omega (arith, ends, is.closed)

set-rises : (n sink : ℕ) (set : List ℕ) (rest : List Link) → 1 ≤ sink → list_all (λ x. nat_le 1 x && nat_lt x (n + 1)) set ≡ true → AllByRecursion Rises rest → AllByRecursion Rises (map (sink_link n sink) set ++ rest)
set-rises n sink [] rest some within rise = rise
set-rises n sink (x ∷ set) rest some within rise =
    let ins = and_parts _ _ within in
    let here : x < n + 1 = (range_of 1 (n + 1) x ins.0).1 in
    (omega arith, set-rises n sink set rest some ins.1 rise)

sets-rise : (n sink k : ℕ) (sets : List (List ℕ)) → 1 ≤ sink → AllByRecursion (IsSetOf 1 (n + 1) k) sets → AllByRecursion Rises (sink_links n sink sets)
sets-rise n sink k [] some are = tt
sets-rise n sink k (set ∷ sets) some are = set-rises n sink set (sink_links n (sink + 1) sets) some are.0.within (sets-rise n (sink + 1) k sets (omega arith) are.1)

entries-rise : (a count : ℕ) (rest : List Link) → 1 ≤ a → AllByRecursion Rises rest → AllByRecursion Rises (map entry_link (range_with_len a count) ++ rest)
entries-rise a zero rest some rise = rise
entries-rise a (suc count) rest some rise = (omega arith, entries-rise (a + 1) count rest (omega arith) rise)

links-rise : (n k : ℕ) → AllByRecursion Rises (links n k)
links-rise n k = entries-rise 1 n (sink_links n 1 (subsets_of 1 n k)) (omega arith) (sets-rise n 1 k (subsets_of 1 n k) (omega arith) (subsets_of-each 1 n k (n + 1) (omega arith)))

-- ---- the ends of links by their places

-- a part of the link of a number
abbrev part_at : (Link → ℕ) → List Link → ℕ → ℕ
part_at part links l = option_map_or part (slice_get links l) 0

part_at-before : (part : Link → ℕ) (xs ys : List Link) (l : ℕ) → l < length xs → part_at part (xs ++ ys) l ≡ part_at part xs l
part_at-before part [] ys l within = absurd (omega arith)
part_at-before part (x ∷ xs) ys zero within = refl
part_at-before part (x ∷ xs) ys (suc l) within = part_at-before part xs ys l (omega arith)

part_at-behind : (part : Link → ℕ) (xs ys : List Link) (l at : ℕ) → at ≡ length xs + l → part_at part (xs ++ ys) at ≡ part_at part ys l
part_at-behind part [] ys l at there = let same : at ≡ l = omega arith in ap (part_at part ys) same
part_at-behind part (x ∷ xs) ys l zero there = absurd (omega arith)
part_at-behind part (x ∷ xs) ys l (suc at) there = part_at-behind part xs ys l at (omega arith)

part_at-map : (part : Link → ℕ) (f : ℕ → Link) (xs : List ℕ) (l : ℕ) → l < length xs → part_at part (map f xs) l ≡ part (f (get_or xs l 0))
part_at-map part f [] l within = absurd (omega arith)
part_at-map part f (x ∷ xs) zero within = refl
part_at-map part f (x ∷ xs) (suc l) within = part_at-map part f xs l (omega arith)

-- the first n links are those from the source
entry_at : (part : Link → ℕ) (n k l m : ℕ) → l < n → l + 1 ≡ m → part_at part (links n k) l ≡ part (entry_link m)
entry_at part n k l m within next =
    let numbers = range_with_len 1 n in
    let size = length-range_with_len 1 n in
    let same : get_or numbers l 0 ≡ m = omega (arith, get_or-range_with_len 1 n l 0 within) in
    part_at-before part (map entry_link numbers) (sink_links n 1 (subsets_of 1 n k)) l (omega (arith, length-map-range_with_len entry_link 1 n))
    ∙ part_at-map part entry_link numbers l (omega arith) ∙ ap (λ (x : ℕ). part (entry_link x)) same

-- behind them are those into sinks
behind_entries : (part : Link → ℕ) (n k l at : ℕ) → at ≡ n + l → part_at part (links n k) at ≡ part_at part (sink_links n 1 (subsets_of 1 n k)) l
behind_entries part n k l at there =
    part_at-behind part (map entry_link (range_with_len 1 n)) (sink_links n 1 (subsets_of 1 n k)) l at (omega (arith, length-map-range_with_len entry_link 1 n))

-- k for each set, in order
sink_at : (part : Link → ℕ) (n sink k bound : ℕ) (sets : List (List ℕ)) → AllByRecursion (IsSetOf 1 bound k) sets → (j i to : ℕ) → j < length sets → i < k → sink + j ≡ to
    → part_at part (sink_links n sink sets) (j * k + i) ≡ part (sink_link n to (get_or (get_or sets j []) i 0))
sink_at part n sink k bound [] are j i to within inside there = absurd (omega arith)
sink_at part n sink k bound (set ∷ sets) are zero i to within inside there =
    let size = length-map set (sink_link n sink) in
    let long = are.0.long in
    let place : 0 * k + i ≡ i = omega arith in
    let same : sink ≡ to = omega arith in
    ap (part_at part (sink_links n sink (set ∷ sets))) place
    ∙ part_at-before part (map (sink_link n sink) set) (sink_links n (sink + 1) sets) i (omega arith)
    ∙ part_at-map part (sink_link n sink) set i (omega arith) ∙ ap (λ (s : ℕ). part (sink_link n s (get_or set i 0))) same
sink_at part n sink k bound (set ∷ sets) are (suc j) i to within inside there =
    part_at-behind part (map (sink_link n sink) set) (sink_links n (sink + 1) sets) (j * k + i) (suc j * k + i) (omega (arith, length-map set (sink_link n sink), are.0.long))
    ∙ sink_at part n (sink + 1) k bound sets are.1 j i to (omega arith) inside (omega arith)

-- each of them has a place among the k of its sink
sink_of : (n sink k bound : ℕ) (sets : List (List ℕ)) → AllByRecursion (IsSetOf 1 bound k) sets → (l : ℕ) → l < length (sink_links n sink sets)
    → (j : ℕ) × (j * k ≤ l) × (l < j * k + k) × (head_of (sink_links n sink sets) l ≡ n + sink + j)
sink_of n sink k bound [] are l within = absurd (omega arith)
sink_of n sink k bound (set ∷ sets) are l within =
    let ones = map (sink_link n sink) set in
    let others = sink_links n (sink + 1) sets in
    let size : length ones ≡ k = length-map set (sink_link n sink) ∙ are.0.long in
    let head : Link → ℕ = λ link. link.head in
    elim (cases_lt l k) [
      | inl first ↦
          let here : head_of (sink_links n sink (set ∷ sets)) l ≡ n + sink =
          part_at-before head ones others l (omega arith) ∙ part_at-map head (sink_link n sink) set l (omega (arith, are.0.long)) in
          (0, omega arith, omega arith, omega (arith, here))
      | inr later ↦
          let rest = sink_of n (sink + 1) k bound sets are.1 (l - k) (omega (arith, length-append ones others)) in
          let there : head_of (sink_links n sink (set ∷ sets)) l ≡ head_of others (l - k) = part_at-behind head ones others (l - k) l (omega arith) in
          (suc rest.0, omega (arith, rest.1), omega (arith, rest.2), omega (arith, there, rest.3))
    ]

-- ---- paths of two links

-- from the source over each node of a set, by links from there whose numbers begin with `at`
abbrev ways : ℕ → List ℕ → List (List ℕ)
ways at [] = []
ways at (m ∷ set) = ((m - 1) ∷ at ∷ []) ∷ ways (at + 1) set

length-ways : (at : ℕ) (set : List ℕ) → length (ways at set) ≡ length set
length-ways at [] = refl
length-ways at (m ∷ set) = ap suc (length-ways (at + 1) set)

All-ways : (P : List ℕ → Type 0) (at : ℕ) (set : List ℕ) → ((i l : ℕ) → i < length set → l ≡ at + i → P ((get_or set i 0 - 1) ∷ l ∷ [])) → All P (ways at set)
All-ways P at [] each = All-nil P
All-ways P at (m ∷ set) each =
    All-cons P ((m - 1) ∷ at ∷ []) (ways (at + 1) set) (each 0 at (omega arith) (omega arith)) (All-ways P (at + 1) set (λ i l within there. each (suc i) l (omega arith) (omega arith)))

-- a number on none of them
none_on_ways : (q at : ℕ) (set : List ℕ) → AllByRecursion (λ m. q ≢ m - 1) set → q < at → list_any (nat_eq q) (concat (ways at set)) ≡ false
none_on_ways q at [] apart below = refl
none_on_ways q at (m ∷ set) apart below =
    or_from _ _ (ne_eqb q (m - 1) apart.0) (or_from _ _ (ne_eqb q at (λ same. omega (arith, same))) (none_on_ways q (at + 1) set apart.1 (omega arith)))

-- no link is on two of them
ways-distinct : (n first at : ℕ) (set : List ℕ) → 1 ≤ first → n ≤ at → is_rising set ≡ true → list_all (λ x. nat_le first x && nat_lt x (n + 1)) set ≡ true → are_distinct nat_eq (concat (ways at set)) ≡ true
ways-distinct n first at [] some from rising within = refl
ways-distinct n first at (m ∷ set) some from rising within =
    let ups = and_parts (list_all (nat_lt m) set) (is_rising set) rising in
    let ins = and_parts _ _ within in
    let here = range_of first (n + 1) m ins.0 in
    let low : m - 1 < at = omega (arith, here.0, here.1) in
    let one : list_any (nat_eq (m - 1)) (concat (ways (at + 1) set)) ≡ false =
    none_on_ways (m - 1) (at + 1) set (each_of (λ x. m - 1 ≢ x - 1) (m + 1) (n + 1) set (above first (n + 1) m set ups.0 ins.1) (λ x over below same. omega (arith, over, same, here.0))) (omega arith) in
    let two : list_any (nat_eq at) (concat (ways (at + 1) set)) ≡ false =
    none_on_ways at (at + 1) set (each_of (λ x. at ≢ x - 1) first (n + 1) set ins.1 (λ x over below same. omega (arith, over, below, same))) (omega arith) in
    and_from _ _ (not_from_false _ (or_from _ _ (ne_eqb (m - 1) at (λ same. omega (arith, same))) one))
    (and_from _ _ (not_from_false _ two) (ways-distinct n first (at + 1) set some (omega arith) ups.1 ins.1))

-- ---- least cuts

-- a number of a range is among its numbers
among_range : (first count l : ℕ) → first ≤ l → l < first + count → is_among (range_with_len first count) l ≡ true
among_range first count l from below =
    let place : l - first < count = omega arith in
    list_any_at (λ one. one == l) (range_with_len first count) (l - first) 0 (omega (arith, length-range_with_len first count))
    (eq-eqb _ _ (omega (arith, get_or-range_with_len first count (l - first) 0 place)))

-- what carries the flow to the sink of a place, in a network of so many nodes
abbrev to_sink : ℕ → ℕ → ℕ → ℕ → FlowNetwork
to_sink nodes n k j = record { nodes = nodes; links = links n k; source = 0; sink = n + 1 + j; failed = [] }

-- the numbers of the links into that sink
abbrev into_sink : ℕ → ℕ → ℕ → List ℕ
into_sink n k j = range_with_len (n + j * k) k

module _ (nodes n k j : ℕ) (within : j < binomial n k) where
  -- there is a set for the sink
  placed : j < length (subsets_of 1 n k)
  placed = omega (arith, length-subsets_of 1 n k)

  set_is : IsSetOf 1 (n + 1) k (get_or (subsets_of 1 n k) j [])
  set_is = All-from_recursion (IsSetOf 1 (n + 1) k) (subsets_of 1 n k) (subsets_of-each 1 n k (n + 1) (omega arith)) j [] placed

  -- each path ends with a link into the sink
  into_sink-IsCut : IsCut (to_sink nodes n k j) (into_sink n k j)
  into_sink-IsCut path is =
      let some = is.some in
      let last = length path - 1 in
      let l = slice_index path last in
      let sets = subsets_of 1 n k in
      let head : Link → ℕ = λ link. link.head in
      let inside : l < length (links n k) = IsWalk-below (links n k) path is.walk last 0 (omega arith) in
      let size = length-append (map entry_link (range_with_len 1 n)) (sink_links n 1 sets) in
      let entries = length-map-range_with_len entry_link 1 n in
      let end : head_of (links n k) l ≡ n + 1 + j = is.end in
      list_any_at (is_among (into_sink n k j)) path last 0 (omega arith) (elim (cases_lt l n) [
        | inl first ↦ absurd (omega (arith, end, entry_at head n k l (l + 1) first refl))
        | inr later ↦
            let found = sink_of n 1 k (n + 1) sets (subsets_of-each 1 n k (n + 1) (omega arith)) (l - n) (omega (arith, size, entries, inside)) in
            let there = behind_entries head n k (l - n) l (omega arith) in
            let same : found.0 ≡ j = omega (arith, end, there, found.3) in
            let place : found.0 * k ≡ j * k = ap (λ (x : ℕ). x * k) same in
            among_range (n + j * k) k l (omega (arith, place, found.1)) (omega (arith, place, found.2))
      ])

  -- a path over each middle node of the set, no two of which share a link
  ways-IsFlow : IsFlow (to_sink nodes n k j) (ways (n + j * k) (get_or (subsets_of 1 n k) j []))
  ways-IsFlow =
      let sets = subsets_of 1 n k in
      let set = get_or sets j [] in
      let are = subsets_of-each 1 n k (n + 1) (omega arith) in
      record {
        each = All-ways (IsPath (to_sink nodes n k j)) (n + j * k) set (λ i l inside there.
            let low : i < k = omega (arith, set_is.long) in
            let m = get_or set i 0 in
            let ends = range_of 1 (n + 1) m (passes_at (λ x. nat_le 1 x && nat_lt x (n + 1)) set i 0 set_is.within inside) in
            let tail : Link → ℕ = λ link. link.tail in
            let head : Link → ℕ = λ link. link.head in
            let entry : m - 1 < n = omega (arith, ends.0, ends.1) in
            let size = length-links n k in
            let fits : j * k + i < binomial n k * k = place_within j i (binomial n k) k within low in
            let at : l ≡ n + (j * k + i) = omega (arith, there) in
            let start : tail_of (links n k) (m - 1) ≡ 0 = entry_at tail n k (m - 1) m entry (omega (arith, ends.0)) in
            let to_middle : head_of (links n k) (m - 1) ≡ m = entry_at head n k (m - 1) m entry (omega (arith, ends.0)) in
            let from_middle : tail_of (links n k) l ≡ m = behind_entries tail n k (j * k + i) l at ∙ sink_at tail n 1 k (n + 1) sets are j i (1 + j) placed low refl in
            let end : head_of (links n k) l ≡ n + (1 + j) = behind_entries head n k (j * k + i) l at ∙ sink_at head n 1 k (n + 1) sets are j i (1 + j) placed low refl in
            record {
              some = omega arith;
              walk = (omega (arith, size, entry), from_middle ∙ sym to_middle, omega (arith, size, fits, at));
              start = start;
              end = omega (arith, end);
              working = λ _ _ _. refl;
            });
        disjoint = ways-distinct n 1 (n + j * k) set (omega arith) (omega arith) set_is.rising set_is.within;
      }

  -- so no cut has fewer links than lead into the sink
  into_sink-IsLeastCut : IsLeastCut (to_sink nodes n k j) (into_sink n k j)
  into_sink-IsLeastCut =
      let set = get_or (subsets_of 1 n k) j [] in
      let size = length-range_with_len (n + j * k) k in
      let many = length-ways (n + j * k) set in
      record {
        is_cut = into_sink-IsCut;
        least = λ other cut. omega (arith, size, many, set_is.long, flow-le-cut (to_sink nodes n k j) (ways (n + j * k) set) other ways-IsFlow cut);
      }

-- ---- the network

module _ (n k : ℕ) (fits : Fits n k) (net : Net) (is : IsCombination n k net) where
  -- it has no cycle
  pub combination-acyclic : IsAcyclic net.links
  combination-acyclic = rw is.links (acyclic-from_rises (links n k) (links-rise n k))

  -- as many demands as sets, which any field of 65,536 elements serves
  pub combination-demands : demand_count net ≡ binomial n k
  combination-demands = rw (is.sinks, is.patterns, length-range_with_len) (omega arith)

  -- what carries the flow of a demand
  flow_network-of : (number : ℕ) → number < demand_count net → flow_network net (demand_of net number) ≡ to_sink (length net.nodes) n k number
  flow_network-of number within =
      let sink : slice_index (range_with_len (n + 1) (binomial n k)) (number / 1) ≡ n + 1 + number =
      omega (arith, get_or-range_with_len (n + 1) (binomial n k) (number / 1) 0 (omega (arith, within, combination-demands))) in
      let pattern : number % 1 ≡ 0 = omega arith in
      rw (is.links, is.source, is.sinks, is.patterns, sink, pattern) refl

  -- the least cut of each demand has k links
  pub combination-least : (number : ℕ) → number < demand_count net → HasLeastCut net number k
  combination-least number within =
      let below : number < binomial n k = omega (arith, within, combination-demands) in
      let cut = into_sink n k number in (
        cut,
        subst (λ (network : FlowNetwork). IsLeastCut network cut) (sym (flow_network-of number within)) (into_sink-IsLeastCut (length net.nodes) n k number below),
        length-range_with_len (n + number * k) k,
      )

  -- its rate is k: each sink's least cut has k links
  pub combination-rate : IsRate net k
  combination-rate =
      let some : 0 < demand_count net = omega (arith, combination-demands, binomial-some n k fits.among) in
      record {
        demand = (0, some, combination-least 0 some);
        least = λ number size within has. let same = HasLeastCut-unique net number k size (combination-least number within) has in omega (arith, same);
      }
