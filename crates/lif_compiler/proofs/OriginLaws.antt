-- Laws of where operands come from: the routes of a network's certificates are routes of the network with new numbers,
-- and an operand of a link there comes from the printed path of its hop.
use Rattle.std.specs.Prelude.{◌≡◌, ◌<◌, ◌≤◌, ◌+◌, ◌-◌, ◌/◌, ◌%◌, ℕ, Bool, true, false, IsTrue, List, [], All, length, map, slice_get, slice_index, take, unwrap_or}
use Rattle.std.proofs.Common.{sym, ◌∙◌, ap, subst, arith, get_or}
use Rattle.std.proofs.lemmas.Bool.{eqb-true}
use Rattle.std.proofs.lemmas.List.{get_or-map, get_or-take, length-map, length-take-le}
use Rattle.std.proofs.lemmas.Option.{get_or_from_slice_get, slice_get-get_or, unwrap_or-slice_get}
use Rattle.cut_witness.specs.Certificate.{AreCertificates}
use Rattle.cut_witness.specs.declared.cert.Cert.{Cert}
use Rattle.failure_patterns.proofs.DemandLaws.{pattern_place_within}
use Rattle.failure_patterns.specs.Demands.{demand_of}
use Rattle.net_model.specs.Demands.{demand_count}
use Rattle.net_model.specs.Flows.{IsFlow, flow_network}
use Rattle.net_model.specs.Renumbering.{HasEachOnce, IsRenumbered, new_number, old_number, renumbered_network, renumbered_pattern}
use Rattle.net_model.proofs.RenumberingLaws.{flow_network-renumbered, old-new}
use Rattle.net_model.specs.declared.Demand.{Demand}
use Rattle.net_model.specs.declared.net.FieldChoice.{FieldChoice}
use Rattle.net_model.specs.declared.net.Net.{Net}
use Rattle.node_program.specs.Code.{are_in_order}
use Rattle.node_program.specs.Value.{leaves_source}
use Rattle.node_program.specs.declared.Operand.{Operand}
use Rattle.lif_compiler.specs.Compiled.{Feeds, IsPrintedPath}
use Rattle.lif_compiler.proofs.HopLaws.{hop-before_first, hop-before_inner, hop-demand, hop-leaves, hop-path}
use Rattle.lif_compiler.specs.Hops.{IsHop, Routes, route_of}
use Rattle.lif_compiler.proofs.RouteLaws.{IsFlow-below, IsFlow-routes, cert_of, length-routes, routes_there}
use Rattle.lif_compiler.specs.Routes.{renumbered_paths, routes_of_certs}
use Rattle.lif_compiler.specs.Visits.{AreRoutes, IsOfHop, paths_of}
use Rattle.lif_compiler.specs.declared.hops.Hop.{Hop}

module _ (net new : Net) (certs : List Cert) (order : List ℕ) (rate : ℕ) (choice : FieldChoice)
    (are : AreCertificates net certs) (once : HasEachOnce (length net.links) order) (renumbered : IsRenumbered order choice net new)
    (enough : All (λ cert. rate ≤ length cert.paths) certs) where
  abbrev routes : Routes
  routes = routes_of_certs order rate certs

  -- there are as many patterns with new numbers
  pattern_count : length new.patterns ≡ length net.patterns
  pattern_count = ap length renumbered.patterns ∙ length-map net.patterns (renumbered_pattern order)

  -- so there are as many demands, and each is the same
  pub demand_count-renumbered : demand_count new ≡ demand_count net
  demand_count-renumbered = cc (ap length renumbered.sinks, pattern_count)

  pub demand_of-renumbered : (demand : ℕ) → demand_of new demand ≡ demand_of net demand
  demand_of-renumbered demand =
      let among : ℕ → Demand = λ patterns. record { sink = demand / patterns; pattern = demand % patterns } in
      ap among pattern_count

  -- there are routes for each demand
  pub count-routes : length routes ≡ demand_count net
  count-routes = length-map certs (λ cert. renumbered_paths order (take rate cert.paths)) ∙ are.each_demand

  -- the routes are routes of the network with new numbers
  pub AreRoutes-renumbered : AreRoutes new rate routes
  AreRoutes-renumbered = record {
    count = count-routes ∙ sym demand_count-renumbered;
    flow = λ demand within.
        let old : demand < demand_count net = subst (λ count. demand < count) demand_count-renumbered within in
        let same : flow_network new (demand_of new demand) ≡ renumbered_network (flow_network net (demand_of net demand)) order =
        ap (flow_network new) (demand_of-renumbered demand)
        ∙ flow_network-renumbered net new order (demand_of net demand) renumbered.nodes renumbered.links renumbered.source renumbered.sinks renumbered.patterns (pattern_place_within net demand old) in
        subst (λ network. IsFlow network (paths_of routes demand)) (sym same) (IsFlow-routes net certs order rate are once demand old);
    many = λ demand within. length-routes net certs order rate are enough demand (subst (λ count. demand < count) demand_count-renumbered within);
  }

  -- a route is a printed path, of which it has the new numbers
  record IsRouteOf (number : ℕ) (route path : List ℕ) : Type 0 where
    printed : IsPrintedPath rate certs number path
    whole : length path ≡ length route
    old : (place : ℕ) → place < length path → slice_index path place ≡ old_number order (slice_index route place)

  route-printed : (demand number : ℕ) → demand < demand_count net → number < rate → (path : List ℕ) × IsRouteOf number (route_of routes demand number) path
  route-printed demand number within below =
      let found = cert_of net certs order rate are demand within in
      let cert = found.0 in
      let same : get_or certs demand cert ≡ cert = get_or_from_slice_get certs demand cert cert found.1 in
      let many : rate ≤ length cert.paths = subst (λ (cert : Cert). rate ≤ length cert.paths) same (enough demand cert (omega (arith, are.each_demand))) in
      let path = get_or cert.paths number [] in
      let there : number < length cert.paths = omega arith in
      let first : number < length (take rate cert.paths) = omega (arith, length-take-le rate cert.paths many) in
      let is : route_of routes demand number ≡ map (new_number order) path =
      ap (λ (paths : List (List ℕ)). unwrap_or (slice_get paths number) []) (routes_there net certs order rate are demand cert found.1)
      ∙ unwrap_or-slice_get (renumbered_paths order (take rate cert.paths)) number []
      ∙ get_or-map (map (new_number order)) (take rate cert.paths) number [] [] first
      ∙ ap (map (new_number order)) (get_or-take rate cert.paths number [] below) in (
        path,
        record {
          printed = record { demand = demand; cert = cert; of_demand = found.1; of_first = below; path_there = slice_get-get_or cert.paths number [] there };
          whole = sym (length-map path (new_number order)) ∙ sym (ap length is);
          old = λ place inside.
              let link : slice_index path place < length net.links = IsFlow-below (flow_network net cert.demand) cert.paths (are.are.at demand cert found.1).0.flow number [] there place 0 inside in
              sym (ap (λ (route : List ℕ). old_number order (slice_index route place)) is ∙ ap (old_number order) (get_or-map (new_number order) path place 0 0 inside) ∙ old-new once (slice_index path place) link);
        },
      )

  module _ (in_order : IsTrue (are_in_order [] new.links)) (link : ℕ) (hop : Hop) (is : IsHop routes link hop) where
    abbrev route : List ℕ
    route = route_of routes hop.demand hop.path

    -- the route of a hop is a printed path
    hop-printed : (path : List ℕ) × IsRouteOf hop.path route path
    hop-printed =
        route-printed hop.demand hop.path
        (subst (λ count. hop.demand < count) demand_count-renumbered (hop-demand new rate routes in_order AreRoutes-renumbered link hop is))
        (hop-path new rate routes in_order AreRoutes-renumbered link hop is)

    -- what comes before a link on its route feeds it
    Feeds-before : (leaves : Bool) → leaves ≡ leaves_source new link → Feeds leaves order rate certs hop.before link
    Feeds-before true leaves =
        let begins : is.place ≡ 0 = eqb-true is.place 0 (sym (hop-leaves new rate routes in_order AreRoutes-renumbered link hop is) ∙ sym leaves) in
        let from : hop.before ≡ hop.path = hop-before_first new rate routes in_order AreRoutes-renumbered link hop is (sym leaves) in
        let path = hop-printed.0 in
        let of = hop-printed.1 in
        let some : 0 < length path = omega (arith, of.whole, is.within) in
        record {
          path = path;
          printed = subst (λ number. IsPrintedPath rate certs number path) (sym from) of.printed;
          some = some;
          first = of.old 0 some ∙ ap (old_number order) (ap (slice_index route) (sym begins) ∙ is.here);
        }
    Feeds-before false leaves =
        let inner = hop-before_inner new rate routes in_order AreRoutes-renumbered link hop is (sym leaves) in
        let path = hop-printed.0 in
        let of = hop-printed.1 in
        let next : is.place - 1 + 1 ≡ is.place = omega (arith, inner.0) in
        let within : is.place - 1 + 1 < length path = omega (arith, of.whole, is.within) in
        record {
          number = hop.path;
          path = path;
          printed = of.printed;
          place = is.place - 1;
          within = within;
          first = of.old (is.place - 1) (omega arith) ∙ ap (old_number order) (sym inner.1);
          second = of.old (is.place - 1 + 1) within ∙ ap (old_number order) (ap (slice_index route) next ∙ is.here);
        }

  -- an operand that comes from a hop over a link comes from a printed path that the link begins, or from a link before
  -- it on one
  pub Feeds-of_hop : IsTrue (are_in_order [] new.links) → (link : ℕ) (operand : Operand) → IsOfHop routes link operand
      → (leaves : Bool) → leaves ≡ leaves_source new link → Feeds leaves order rate certs operand.from link
  Feeds-of_hop in_order link operand is leaves same =
      subst (λ from. Feeds leaves order rate certs from link) is.2 (Feeds-before in_order link is.0 is.1 leaves same)
