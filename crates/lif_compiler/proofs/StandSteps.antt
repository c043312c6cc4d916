-- How each demand's basis stands after a link is visited.
use Rattle.std.specs.Prelude.{◌≡◌, ◌<◌, ◌+◌, ℕ, true, false, IsTrue, List, [], ◌++◌, ◌∷◌, Option, Some, length, map, slice_get, slice_index, slice_index_or, slice_set, ◌⊎◌}
use Rattle.std.proofs.Common.{refl, sym, ap, ◌∙◌, arith, get_or, inl, inr, subst}
use Rattle.std.proofs.lemmas.Bool.{cases_Bool, cases_eq, cases_lt, both_ways}
use Rattle.std.proofs.lemmas.List.{get_or-map, get_or_default, length-append, length-map, map-set}
use Rattle.std.proofs.lemmas.Option.{get_or_from_slice_get, slice_get-get_or, slice_get_within, unwrap_or-slice_get}
use Rattle.field_vectors.specs.Grid.{Grid, row_of}
use Rattle.std.specs.declared.cmp.PartialEq.{Ghosts as EqualityWords}
use Rattle.gf_tables.specs.declared.field.Field.{Ghosts as FieldWords}
use Rattle.linear_algebra.specs.Elements.{numbers}
use Rattle.net_model.specs.Demands.{demand_count, pattern_of_demand}
use Rattle.net_model.specs.Failed.{failed_links}
use Rattle.net_model.specs.Lists.{is_among, is_rising}
use Rattle.net_model.specs.declared.net.Net.{Net}
use Rattle.node_program.specs.Code.{are_in_order}
use Rattle.node_program.specs.declared.Operand.{Operand}
use Rattle.sink_basis.specs.declared.basis.Basis.{Basis}
use Rattle.lif_compiler.proofs.DraftLaws.{global_vector-more}
use Rattle.lif_compiler.specs.Frontier.{IsAtFrontier}
use Rattle.lif_compiler.proofs.HopLaws.{hop-demand, hop-path, rising-route}
use Rattle.lif_compiler.specs.Hops.{IsHop, Routes, route_of}
use Rattle.net_model.proofs.RisingLaws.{is_among-from_Contains, place-from_is_among, rising-below}
use Rattle.lif_compiler.specs.Steps.{AreCarried, AreAdvanced, IsApart}
use Rattle.lif_compiler.specs.Tables.{vectors_for}
use Rattle.lif_compiler.proofs.VisitLaws.{frontier-next, frontier-other}
use Rattle.lif_compiler.specs.Visits.{CanVisit, IsVisited, Stands, paths_of, vector_under}
use Rattle.lif_compiler.specs.Bases.{frontier_in, vectors_in}
use Rattle.lif_compiler.specs.Compiled.{marked_kind}
use Rattle.lif_compiler.specs.PartialCodes.{AreChosenBy}
use Rattle.lif_compiler.specs.declared.hops.Hop.{Hop}
use Rattle.lif_compiler.specs.declared.partial_code.PartialCode.{PartialCode}
use Rattle.lif_compiler.proofs.BasesLaws.{LawsOf, vectors_in-at}
use Rattle.lif_compiler.proofs.VisitedLaws.{IsVisited-of}
use Rattle.lif_compiler.proofs.AfterSteps.{chosen_more, new_vector, vectors_more}
use Rattle.lif_compiler.proofs.ReadySteps.{basis_count, item_of, ordered, widths}

-- hops of one demand are one
same_hop : (hops : List Hop) → IsTrue (is_rising (map (λ hop. hop.demand) hops)) → (j k : ℕ) (one other : Hop) → slice_get hops j ≡ Some one → slice_get hops k ≡ Some other → one.demand ≡ other.demand → one ≡ other
same_hop hops rising j k one other here there same = elim (cases_eq j k) [
  | inl equal ↦ (let both : Some one ≡ Some other = sym here ∙ ap (slice_get hops) equal ∙ there in cc)
  | inr apart ↦
      (let demand : Hop → ℕ = λ hop. hop.demand in
      let at : (i : ℕ) (hop : Hop) → slice_get hops i ≡ Some hop → slice_index (map demand hops) i ≡ hop.demand = λ i hop found.
      get_or-map demand hops i hop 0 (slice_get_within hops i hop found) ∙ ap demand (get_or_from_slice_get hops i hop hop found) in
      let size : length (map demand hops) ≡ length hops = length-map hops demand in
      elim (cases_lt j k) [
        | inl before ↦ absurd (omega (arith, rising-below (map demand hops) j k rising before (omega (arith, size, slice_get_within hops k other there)), at j one here, at k other there))
        | inr behind ↦ absurd (omega (arith, rising-below (map demand hops) k j rising (omega arith) (omega (arith, size, slice_get_within hops j one here)), at j one here, at k other there))
      ])
]

-- a demand has a hop, or none is of it
one_or_apart : (hops : List Hop) (demand : ℕ) → ((k : ℕ) × (hop : Hop) × (slice_get hops k ≡ Some hop) × (hop.demand ≡ demand)) ⊎ IsApart hops (length hops) demand
one_or_apart hops demand =
    let demand_of : Hop → ℕ = λ hop. hop.demand in
    let size : length (map demand_of hops) ≡ length hops = length-map hops demand_of in
    elim (cases_Bool (is_among (map demand_of hops) demand)) [
      | inl there ↦
          (let found = place-from_is_among (map demand_of hops) demand there in
          let none : Hop = record { demand = 0; path = 0; before = 0 } in
          let within : found.0 < length hops = omega (arith, found.1, size) in
          inl (found.0, get_or hops found.0 none, slice_get-get_or hops found.0 none within, sym (get_or-map demand_of hops found.0 none 0 within) ∙ found.2))
      | inr apart ↦
          inr (λ k hop below here same.
          both_ways _ apart (is_among-from_Contains (map demand_of hops) demand
          (k, omega (arith, size), get_or-map demand_of hops k hop demand below ∙ ap demand_of (get_or_from_slice_get hops k hop hop here) ∙ same)))
    ]

module _ {X : Type 0} {F : FieldWords X} {E : EqualityWords X} (L : LawsOf F) {net : Net} {routes : Routes} {hops : List Hop} {code : PartialCode X F E}
    (can : CanVisit net routes hops code)
    (next : length code.operands.items < length net.links) (operands : List Operand) (chosen : AreChosenBy net (length code.operands.items) hops code operands)
    (new : List (Grid X)) (carried : AreCarried (marked_kind F.MARK) F.number net (length code.operands.items) operands code.vectors.items new)
    (new_bases : List (Basis X F E)) (advanced : AreAdvanced (length code.operands.items) new hops code.bases.items new_bases) where
  abbrev link : ℕ
  link = length code.operands.items

  abbrev longer : List (List Operand)
  longer = code.operands.items ++ operands ∷ []

  order : IsTrue (are_in_order [] net.links)
  order = ordered L can

  more : length longer ≡ link + 1
  more = length-append code.operands.items (operands ∷ [])

  -- the vectors of the earlier links stay
  agree : (pattern e : ℕ) → e < link → vector_under net (marked_kind F.MARK) code.rate longer pattern e ≡ vector_under net (marked_kind F.MARK) code.rate code.operands.items pattern e
  agree pattern e below =
      global_vector-more code.operands.items operands (chosen_more L can next operands chosen).draft (failed_links net.patterns pattern) e below

  -- a path has the link where its hop stands
  on_path : (demand path : ℕ) (hop : Hop) → IsHop routes link hop → hop.demand ≡ demand → hop.path ≡ path → is_among (slice_index_or (paths_of routes demand) path []) link ≡ true
  on_path demand path hop is same there =
      let route = route_of routes hop.demand hop.path in
      let here : is_among route link ≡ true = is_among-from_Contains route link (is.place, is.within, get_or_default route is.place link 0 is.within ∙ is.here) in
      let route_is : route ≡ slice_index_or (paths_of routes demand) path [] = ap (λ demand. route_of routes demand hop.path) same ∙ ap (route_of routes demand) there ∙ unwrap_or-slice_get (paths_of routes demand) path [] in
      ap (λ route. is_among route link) (sym route_is) ∙ here

  -- only paths of hops have it
  off_path : (demand path : ℕ) → ((k : ℕ) (hop : Hop) → slice_get hops k ≡ Some hop → hop.demand ≡ demand → hop.path ≡ path → ⊥) → is_among (slice_index_or (paths_of routes demand) path []) link ≡ false
  off_path demand path apart = elim (cases_Bool (is_among (slice_index_or (paths_of routes demand) path []) link)) [
    | inl there ↦
        (let found = can.hops_over.all demand path (ap (λ route. is_among route link) (unwrap_or-slice_get (paths_of routes demand) path []) ∙ there) in
        absurd (apart found.0 found.1 found.2 found.3 found.4))
    | inr absent ↦ absent
  ]

  -- a basis has as many vectors as the rate says
  tall_at : (demand : ℕ) → demand < length code.bases.items → length (vectors_in code.bases.items demand).rows ≡ code.rate
  tall_at demand inside =
      let first = item_of code.bases.items (omega arith) in
      let basis = get_or code.bases.items demand first in
      ap (λ (m : Grid X). length m.rows) (vectors_in-at code.bases.items demand first inside) ∙ basis.basis.vectors_high ∙ widths L can demand first inside

  -- a demand that no hop is of
  stands_other : (demand : ℕ) → demand < demand_count net → IsApart hops (length hops) demand
      → Stands net routes code.rate longer new_bases demand
  stands_other demand within apart =
      let stands = can.before.stands demand within in
      let pattern = pattern_of_demand net demand in
      let At : ℕ → List (Option ℕ) → Grid X → Type 0 = λ bound frontier grid.
      IsAtFrontier (vector_under net (marked_kind F.MARK) code.rate longer pattern) code.rate (paths_of routes demand) bound frontier (map (numbers F.number) grid.rows) in
      subst (λ bound. At bound (frontier_in new_bases demand) (vectors_in new_bases demand)) (sym more)
      (subst (λ frontier. At (link + 1) frontier (vectors_in new_bases demand)) (sym (advanced.links_other demand apart))
      (subst (At (link + 1) (frontier_in code.bases.items demand)) (sym (advanced.vectors_other demand apart))
      (frontier-other (vector_under net (marked_kind F.MARK) code.rate code.operands.items pattern) code.rate (paths_of routes demand) link _ _ (can.routes_fit.many demand within) stands (vector_under net (marked_kind F.MARK) code.rate longer pattern) (agree pattern)
      (λ path below. off_path demand path (λ k hop here same there. apart k hop (slice_get_within hops k hop here) here same)))))

  -- a demand with a hop
  stands_hop : (k : ℕ) (hop : Hop) → slice_get hops k ≡ Some hop
      → Stands net routes code.rate longer new_bases hop.demand
  stands_hop k hop here =
      let is = can.hops_over.each k hop here in
      let demand = hop.demand in
      let within = hop-demand net code.rate routes order can.routes_fit link hop is in
      let below = hop-path net code.rate routes order can.routes_fit link hop is in
      let stands = can.before.stands demand within in
      let pattern = pattern_of_demand net demand in
      let paths = paths_of routes demand in
      let frontier = frontier_in code.bases.items demand in
      let old = vectors_in code.bases.items demand in
      let row = row_of (vectors_for new demand) link in
      let inside : demand < length code.bases.items = omega (arith, within, basis_count L can) in
      let At : ℕ → List (Option ℕ) → List (List ℕ) → Type 0 = IsAtFrontier (vector_under net (marked_kind F.MARK) code.rate longer pattern) code.rate paths in
      let all : k < length hops = slice_get_within hops k hop here in
      let links_are : frontier_in new_bases demand ≡ slice_set frontier hop.path (Some link) = advanced.links_at k hop all here in
      let rows_are : map (numbers F.number) (vectors_in new_bases demand).rows ≡ slice_set (map (numbers F.number) old.rows) hop.path (vector_under net (marked_kind F.MARK) code.rate longer pattern link) =
      ap (λ (m : Grid X). map (numbers F.number) m.rows) (advanced.vectors_at k hop all here) ∙ map-set (numbers F.number) old.rows hop.path row
      ∙ ap (slice_set (map (numbers F.number) old.rows) hop.path) (new_vector L can next operands chosen new carried k hop here) in
      let tall : length (map (numbers F.number) old.rows) ≡ code.rate = length-map old.rows (numbers F.number) ∙ tall_at demand inside in
      let rising = subst (λ route. IsTrue (is_rising route)) (unwrap_or-slice_get paths hop.path []) (rising-route net code.rate routes order can.routes_fit demand hop.path within below) in
      subst (λ bound. At bound (frontier_in new_bases demand) (map (numbers F.number) (vectors_in new_bases demand).rows)) (sym more)
      (subst (λ frontier. At (link + 1) frontier (map (numbers F.number) (vectors_in new_bases demand).rows)) (sym links_are)
      (subst (At (link + 1) (slice_set frontier hop.path (Some link))) (sym rows_are)
      (frontier-next (vector_under net (marked_kind F.MARK) code.rate code.operands.items pattern) code.rate paths link frontier (map (numbers F.number) old.rows) (can.routes_fit.many demand within) stands (vector_under net (marked_kind F.MARK) code.rate longer pattern) (agree pattern)
      hop.path below rising (on_path demand hop.path hop is refl refl)
      (λ other bound apart. off_path demand other (λ j one there same path_is. apart (sym path_is ∙ ap (λ (hop : Hop). hop.path) (same_hop hops can.hops_over.rising j k one hop there here same))))
      tall)))

  -- so all links up to this one are visited
  pub visited_more : (new_code : PartialCode X F E) → new_code.rate ≡ code.rate → new_code.operands.items ≡ longer → new_code.vectors.items ≡ new → new_code.bases.items ≡ new_bases → IsVisited net routes new_code
  visited_more new_code same_rate operands_are vectors_are bases_are =
      IsVisited-of code.rate longer new new_bases new_code same_rate operands_are vectors_are bases_are
      (chosen_more L can next operands chosen) (vectors_more L can next operands chosen new carried) (advanced.same_count ∙ can.before.each_basis)
      (λ demand within. elim (one_or_apart hops demand) [
        | inl found ↦ subst (Stands net routes code.rate longer new_bases) found.3 (stands_hop found.0 found.1 found.2)
        | inr apart ↦ stands_other demand within apart
      ])
