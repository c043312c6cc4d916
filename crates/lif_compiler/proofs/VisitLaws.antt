-- Laws of visits: how a demand's basis stands before and after a link is visited.
use Rattle.std.specs.Prelude.{◌≡◌, ◌≢◌, ◌<◌, ◌+◌, ℕ, Bool, true, false, nat_lt, IsTrue, List, [], ◌∷◌, Option, Some, None, length, map, slice_index, slice_index_or, slice_set, if◌then◌else◌}
use Rattle.std.specs.Option.{option_or}
use Rattle.std.proofs.Common.{refl, sym, ap, ◌∙◌, arith, get_or, inl, inr}
use Rattle.std.proofs.lemmas.Bool.{cases_eq, cases_lt, eqb-true, lt-ltb, le-ltb}
use Rattle.std.proofs.lemmas.List.{ext_get_or, get_or-map, get_or-set_other, get_or-set_same, length-map, length-set}
use Rattle.std.proofs.lemmas.Option.{unwrap_or-slice_get}
use Rattle.linear_algebra.specs.Rows.{unit_row}
use Rattle.net_model.specs.Demands.{demand_count}
use Rattle.net_model.specs.Lists.{is_among, is_rising}
use Rattle.net_model.specs.declared.net.Net.{Net}
use Rattle.node_program.specs.Carried.{source_vector}
use Rattle.node_program.specs.Code.{are_in_order}
use Rattle.node_program.specs.Value.{leaves_source}
use Rattle.lif_compiler.specs.Frontier.{IsAtFrontier, frontier_vector, last_below}
use Rattle.lif_compiler.proofs.FrontierLaws.{last_below-before, last_below-before_first, last_below-next, last_below-next_other}
use Rattle.lif_compiler.proofs.HopLaws.{hop-before_first, hop-before_inner, hop-demand, hop-leaves, hop-path, rising-route}
use Rattle.lif_compiler.specs.Hops.{IsHop, Routes, route_of}
use Rattle.lif_compiler.specs.Visits.{AreRoutes, paths_of}
use Rattle.lif_compiler.specs.declared.hops.Hop.{Hop}

-- the last link below a bound is below it
last_below-below : (bound : ℕ) (path : List ℕ) (link : ℕ) → last_below bound path ≡ Some link → link < bound
last_below-below bound [] link is = cc
last_below-below bound (first ∷ path) link is = of_later (λ at. last_below-below bound path link at) (last_below bound path) refl
  where
    of_first : last_below bound path ≡ None → link < bound
    of_first none = elim (cases_lt first bound) [
      | inl below ↦
          (let same : Some first ≡ Some link = sym (rw (none, lt-ltb first bound below) refl) ∙ is in
          let one : first ≡ link = cc in
          omega arith)
      | inr past ↦
          (let same : None ≡ Some link = sym (rw (none, le-ltb first bound past) refl) ∙ is in
          cc)
    ]

    of_later : (last_below bound path ≡ Some link → link < bound) → (later : Option ℕ) → last_below bound path ≡ later → link < bound
    of_later rest None at = of_first at
    of_later rest (Some other) at =
        let same : Some other ≡ Some link = sym (ap (λ later. option_or later (if nat_lt first bound then Some first else None)) at) ∙ is in
        rest (at ∙ same)

-- the vector at a frontier stays, where those of the links below the bound do
frontier_vector-agree : (old new : ℕ → List ℕ) (rate path bound : ℕ) → ((link : ℕ) → link < bound → new link ≡ old link) → (links : List ℕ)
    → frontier_vector new rate path (last_below bound links) ≡ frontier_vector old rate path (last_below bound links)
frontier_vector-agree old new rate path bound same links = of_last (last_below bound links) refl
  where
    of_last : (last : Option ℕ) → last_below bound links ≡ last → frontier_vector new rate path last ≡ frontier_vector old rate path last
    of_last None at = refl
    of_last (Some link) at = same link (last_below-below bound links link at)

module _ (vector_of : ℕ → List ℕ) (rate : ℕ) (paths : List (List ℕ)) (bound : ℕ) (frontier : List (Option ℕ)) (vectors : List (List ℕ)) (many : length paths ≡ rate)
    (is : IsAtFrontier vector_of rate paths bound frontier vectors) where
  -- the frontier link of a path, and its vector
  pub frontier-at : (path : ℕ) → path < rate → slice_index_or frontier path None ≡ last_below bound (slice_index_or paths path [])
  frontier-at path below = ap (λ links. slice_index_or links path None) is.links ∙ get_or-map (last_below bound) paths path [] None (omega (arith, many))

  pub vector-at : (path : ℕ) → path < rate → slice_index_or vectors path [] ≡ frontier_vector vector_of rate path (last_below bound (slice_index_or paths path []))
  vector-at path below = is.vector path below ∙ ap (frontier_vector vector_of rate path) (frontier-at path below)

  -- a link that is on none of the paths is visited
  pub frontier-other : (new : ℕ → List ℕ) → ((link : ℕ) → link < bound → new link ≡ vector_of link) → ((path : ℕ) → path < rate → is_among (slice_index_or paths path []) bound ≡ false)
      → IsAtFrontier new rate paths (bound + 1) frontier vectors
  frontier-other new same apart = record {
    links =
        is.links
        ∙ ext_get_or None (map (last_below bound) paths) (map (last_below (bound + 1)) paths) (length-map paths (last_below bound) ∙ sym (length-map paths (last_below (bound + 1))))
        (λ path within.
        let below : path < length paths = omega (arith, length-map paths (last_below bound)) in
        get_or-map (last_below bound) paths path [] None below ∙ sym (last_below-next_other bound (slice_index_or paths path []) (apart path (omega (arith, many))))
        ∙ sym (get_or-map (last_below (bound + 1)) paths path [] None below));
    vector = λ path below.
        vector-at path below ∙ sym (frontier_vector-agree vector_of new rate path bound same (slice_index_or paths path []))
        ∙ ap (frontier_vector new rate path) (sym (frontier-at path below));
  }

  -- the next link of one of the paths is visited, and gets a vector
  pub frontier-next : (new : ℕ → List ℕ) → ((link : ℕ) → link < bound → new link ≡ vector_of link) → (path : ℕ) → path < rate → IsTrue (is_rising (slice_index_or paths path []))
      → is_among (slice_index_or paths path []) bound ≡ true → ((other : ℕ) → other < rate → other ≢ path → is_among (slice_index_or paths other []) bound ≡ false)
      → length vectors ≡ rate
      → IsAtFrontier new rate paths (bound + 1) (slice_set frontier path (Some bound)) (slice_set vectors path (new bound))
  frontier-next new same path below rising among apart tall =
      let moved = slice_set frontier path (Some bound) in
      let size : length frontier ≡ rate = ap length is.links ∙ length-map paths (last_below bound) ∙ many in
      let at : (k : ℕ) → k < rate → get_or moved k None ≡ last_below (bound + 1) (slice_index_or paths k []) = λ k within. elim (cases_eq k path) [
        | inl here ↦
            ap (λ k. get_or moved k None) here ∙ get_or-set_same frontier path (Some bound) None (omega (arith, size))
            ∙ sym (last_below-next bound (slice_index_or paths path []) rising among) ∙ ap (λ k. last_below (bound + 1) (slice_index_or paths k [])) (sym here)
        | inr other ↦
            get_or-set_other frontier path k (Some bound) None other ∙ frontier-at k within
            ∙ sym (last_below-next_other bound (slice_index_or paths k []) (apart k within other))
      ] in
      record {
        links =
            ext_get_or None moved (map (last_below (bound + 1)) paths) (length-set frontier path (Some bound) ∙ size ∙ sym (length-map paths (last_below (bound + 1)) ∙ many))
            (λ k within.
            let inside : k < rate = omega (arith, length-set frontier path (Some bound), size) in
            at k inside ∙ sym (get_or-map (last_below (bound + 1)) paths k [] None (omega (arith, many))));
        vector = λ k within. elim (cases_eq k path) [
          | inl here ↦
              ap (λ k. slice_index_or (slice_set vectors path (new bound)) k []) here ∙ get_or-set_same vectors path (new bound) [] (omega (arith, tall))
              ∙ ap (frontier_vector new rate k) (sym (ap (λ k. get_or moved k None) here ∙ get_or-set_same frontier path (Some bound) None (omega (arith, size))))
          | inr other ↦
              get_or-set_other vectors path k (new bound) [] other ∙ vector-at k within
              ∙ sym (frontier_vector-agree vector_of new rate k bound same (slice_index_or paths k []))
              ∙ ap (frontier_vector new rate k) (sym (frontier-at k within) ∙ sym (get_or-set_other frontier path k (Some bound) None other))
        ];
      }

module _ (net : Net) (rate : ℕ) (routes : Routes) (order : IsTrue (are_in_order [] net.links)) (are : AreRoutes net rate routes) (link : ℕ) (hop : Hop) (is : IsHop routes link hop) where
  -- what comes before a link on the path of a hop has the vector at the path's frontier
  pub hop-vector : (vector_of : ℕ → List ℕ) (frontier : List (Option ℕ)) (vectors : List (List ℕ)) → IsAtFrontier vector_of rate (paths_of routes hop.demand) link frontier vectors
      → source_vector (leaves_source net link) rate vector_of hop.before ≡ slice_index_or vectors hop.path []
  hop-vector vector_of frontier vectors stands = by_leaves (leaves_source net link) refl
    where
      within : hop.demand < demand_count net
      within = hop-demand net rate routes order are link hop is

      below : hop.path < rate
      below = hop-path net rate routes order are link hop is

      rising : IsTrue (is_rising (route_of routes hop.demand hop.path))
      rising = rising-route net rate routes order are hop.demand hop.path within below

      at : slice_index_or vectors hop.path [] ≡ frontier_vector vector_of rate hop.path (last_below link (route_of routes hop.demand hop.path))
      at =
          vector-at vector_of rate (paths_of routes hop.demand) link frontier vectors (are.many hop.demand within) stands hop.path below
          ∙ ap (λ route. frontier_vector vector_of rate hop.path (last_below link route)) (sym (unwrap_or-slice_get (paths_of routes hop.demand) hop.path []))

      by_leaves : (leaves : Bool) → leaves_source net link ≡ leaves → source_vector leaves rate vector_of hop.before ≡ slice_index_or vectors hop.path []
      by_leaves true leaves =
          let first : is.place ≡ 0 = eqb-true is.place 0 (sym (hop-leaves net rate routes order are link hop is) ∙ leaves) in
          ap (unit_row rate) (hop-before_first net rate routes order are link hop is leaves)
          ∙ sym (at ∙ ap (frontier_vector vector_of rate hop.path)
          (last_below-before_first link (route_of routes hop.demand hop.path) rising (ap (slice_index (route_of routes hop.demand hop.path)) (sym first) ∙ is.here)))
      by_leaves false leaves =
          let inner = hop-before_inner net rate routes order are link hop is leaves in
          ap vector_of inner.1
          ∙ sym (at ∙ ap (frontier_vector vector_of rate hop.path) (last_below-before link (route_of routes hop.demand hop.path) is.place rising inner.0 is.within is.here))
