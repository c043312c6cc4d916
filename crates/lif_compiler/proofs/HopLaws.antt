-- Laws of hops: a link stands where its hop says, on a path of a demand that it doesn't fail in; it leaves the source
-- exactly where it is the path's first.
use Rattle.std.specs.Prelude.{◌≡◌, ◌<◌, ◌≤◌, ◌-◌, ◌==◌, ℕ, zero, suc, Bool, true, false, IsTrue, List, [], Option, Some, length, slice_get, slice_index, unwrap_or, if◌then◌else◌}
use Rattle.std.specs.Option.{option_map_or}
use Rattle.std.proofs.Common.{refl, sym, ap, ◌∙◌, subst, arith, inl, inr}
use Rattle.std.proofs.lemmas.Bool.{cases_lt, eq-eqb, lt-ltb, ne_eqb}
use Rattle.std.proofs.lemmas.Option.{slice_get_past, unwrap_or-slice_get}
use Rattle.failure_patterns.specs.Demands.{demand_of}
use Rattle.net_model.proofs.EndLaws.{leaves_source-tail}
use Rattle.net_model.specs.Demands.{demand_count, pattern_of_demand}
use Rattle.net_model.specs.Failed.{failed_links}
use Rattle.net_model.specs.Flows.{IsPath, flow_network}
use Rattle.net_model.specs.Lists.{is_among, is_rising}
use Rattle.net_model.proofs.WalkLaws.{IsWalk-below}
use Rattle.net_model.specs.Walks.{head_of, tail_of}
use Rattle.net_model.specs.declared.Link.{Link}
use Rattle.net_model.specs.declared.net.Net.{Net}
use Rattle.node_program.proofs.LinkLaws.{leads_into-head_of}
use Rattle.node_program.specs.Code.{are_in_order, is_source_of}
use Rattle.node_program.specs.Value.{leaves_source}
use Rattle.topo_order.proofs.OrderLaws.{walk_next}
use Rattle.lif_compiler.specs.Hops.{IsHop, Routes, route_of}
use Rattle.lif_compiler.proofs.InOrderLaws.{are_in_order-at, is_rising-walk}
use Rattle.net_model.proofs.RisingLaws.{rising-at_most}
use Rattle.lif_compiler.specs.Visits.{AreRoutes, paths_of}
use Rattle.lif_compiler.specs.declared.hops.Hop.{Hop}

-- the tail of a link that is there
tail-there : (links : List Link) (link : ℕ) (at : Link) → slice_get links link ≡ Some at → tail_of links link ≡ at.tail
tail-there links link at there = ap (λ (l : Option Link). option_map_or (λ (l : Link). l.tail) l 0) there

module _ (net : Net) (rate : ℕ) (routes : Routes) (order : IsTrue (are_in_order [] net.links)) (are : AreRoutes net rate routes) where
  -- a path of a demand is one of its network
  pub path-route : (demand path : ℕ) → demand < demand_count net → path < rate → IsPath (flow_network net (demand_of net demand)) (route_of routes demand path)
  path-route demand path within below =
      let paths = paths_of routes demand in
      subst (IsPath (flow_network net (demand_of net demand))) (sym (unwrap_or-slice_get paths path []))
      ((are.flow demand within).each path [] (omega (arith, are.many demand within)))

  -- its links rise
  pub rising-route : (demand path : ℕ) → demand < demand_count net → path < rate → IsTrue (is_rising (route_of routes demand path))
  rising-route demand path within below = is_rising-walk net.links (route_of routes demand path) order (path-route demand path within below).walk

  module _ (link : ℕ) (hop : Hop) (is : IsHop routes link hop) where
    abbrev route : List ℕ
    route = route_of routes hop.demand hop.path

    -- the demand is one of the network's, and the path one of its paths
    pub hop-demand : hop.demand < demand_count net
    hop-demand = elim (cases_lt hop.demand (length routes)) [
      | inl below ↦ omega (arith, are.count)
      | inr past ↦
          (let none : route ≡ [] = ap (λ (paths : Option (List (List ℕ))). unwrap_or (slice_get (unwrap_or paths []) hop.path) []) (slice_get_past routes hop.demand past) in
          absurd (omega (arith, ap length none, is.within)))
    ]

    pub hop-path : hop.path < rate
    hop-path = elim (cases_lt hop.path (length (paths_of routes hop.demand))) [
      | inl below ↦ omega (arith, are.many hop.demand hop-demand)
      | inr past ↦
          (let none : route ≡ [] = ap (λ (path : Option (List ℕ)). unwrap_or path []) (slice_get_past (paths_of routes hop.demand) hop.path past) in
          absurd (omega (arith, ap length none, is.within)))
    ]

    abbrev path : IsPath (flow_network net (demand_of net hop.demand)) route
    path = path-route hop.demand hop.path hop-demand hop-path

    -- the link is one of the network's
    pub hop-link : link < length net.links
    hop-link = subst (λ link. link < length net.links) is.here (IsWalk-below net.links route path.walk is.place 0 is.within)

    -- it doesn't fail in the demand's pattern
    pub hop-works : is_among (failed_links net.patterns (pattern_of_demand net hop.demand)) link ≡ false
    hop-works = subst (λ link. is_among (failed_links net.patterns (pattern_of_demand net hop.demand)) link ≡ false) is.here (path.working is.place 0 is.within)

    -- as the first of its path it leaves the source
    hop-first : is.place ≡ 0 → leaves_source net link ≡ true
    hop-first first =
        leaves_source-tail net link hop-link
        ∙ eq-eqb (tail_of net.links link) net.source (ap (tail_of net.links) (sym is.here ∙ ap (slice_index route) first) ∙ path.start)

    -- behind another it starts at that one's head
    hop-behind : (i : ℕ) → is.place ≡ suc i → tail_of net.links link ≡ head_of net.links (slice_index route i)
    hop-behind i behind =
        ap (tail_of net.links) (sym is.here ∙ ap (slice_index route) behind) ∙ walk_next net.links route path.walk i (subst (λ place. place < length route) behind is.within)

    -- and so it doesn't leave the source
    hop-inner : (i : ℕ) → is.place ≡ suc i → leaves_source net link ≡ false
    hop-inner i behind =
        let before = slice_index route i in
        let some : 0 < length route = omega (arith, is.within) in
        let inside : i < length route = omega (arith, is.within, behind) in
        let below : before < length net.links = IsWalk-below net.links route path.walk i 0 inside in
        let upto : slice_index route 0 ≤ before = rising-at_most route 0 i (rising-route hop.demand hop.path hop-demand hop-path) (omega arith) inside in
        leaves_source-tail net link hop-link
        ∙ ne_eqb (tail_of net.links link) net.source (λ source. are_in_order-at net.links order (slice_index route 0) before upto below (sym (hop-behind i behind) ∙ source ∙ sym path.start))

    -- a link with a hop leaves the source exactly where it is the first of the path
    pub hop-leaves : leaves_source net link ≡ (is.place == 0)
    hop-leaves = by_place is.place refl
      where
        by_place : (place : ℕ) → is.place ≡ place → leaves_source net link ≡ (place == 0)
        by_place zero at = hop-first at
        by_place (suc i) at = hop-inner i at ∙ sym (ne_eqb (suc i) 0 (λ same. absurd (omega arith)))

    -- what comes before the first is the path's number, and before another link a link
    pub hop-before_first : leaves_source net link ≡ true → hop.before ≡ hop.path
    hop-before_first leaves =
        let first : (is.place == 0) ≡ true = sym hop-leaves ∙ leaves in
        is.before ∙ ap (λ test. if test then hop.path else slice_index route (is.place - 1)) first

    pub hop-before_inner : leaves_source net link ≡ false → (0 < is.place) × (hop.before ≡ slice_index route (is.place - 1))
    hop-before_inner leaves =
        let behind : (is.place == 0) ≡ false = sym hop-leaves ∙ leaves in (
          some_place is.place behind,
          is.before ∙ ap (λ test. if test then hop.path else slice_index route (is.place - 1)) behind,
        )
      where
        some_place : (place : ℕ) → (place == 0) ≡ false → 0 < place
        some_place zero test = absurd cc
        some_place (suc place) test = omega arith

    -- what comes before is what a link's operand may name
    pub hop-source : (at : Link) → slice_get net.links link ≡ Some at → is_source_of net rate at hop.before ≡ true
    hop-source at there = by_leaves (leaves_source net link) refl
      where
        tail : at.tail ≡ tail_of net.links link
        tail = sym (tail-there net.links link at there)

        leaves_at : (at.tail == net.source) ≡ leaves_source net link
        leaves_at = ap (λ tail. tail == net.source) tail ∙ sym (leaves_source-tail net link hop-link)

        by_leaves : (leaves : Bool) → leaves_source net link ≡ leaves → is_source_of net rate at hop.before ≡ true
        by_leaves true leaves = rw (leaves_at ∙ leaves) (lt-ltb hop.before rate (subst (λ row. row < rate) (sym (hop-before_first leaves)) hop-path))
        by_leaves false leaves =
            let inner = hop-before_inner leaves in
            let next : is.place ≡ suc (is.place - 1) = omega (arith, inner.0) in
            let inside : is.place - 1 < length route = omega (arith, is.within) in
            let below : hop.before < length net.links = subst (λ link. link < length net.links) (sym inner.1) (IsWalk-below net.links route path.walk (is.place - 1) 0 inside) in
            rw (leaves_at ∙ leaves) (leads_into-head_of net.links at.tail hop.before below (ap (head_of net.links) inner.1 ∙ sym (hop-behind (is.place - 1) next) ∙ sym tail))
