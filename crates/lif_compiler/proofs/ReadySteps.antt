-- What is known before a link is visited: the parts of the code fit one another, and on each path over the link what comes
-- before it has a product with the path's inverse vector that isn't zero.
use Rattle.std.specs.Prelude.{◌≡◌, ◌≢◌, ◌<◌, ◌≤◌, ◌-◌, ◌%◌, ℕ, Bool, true, false, IsTrue, List, [], ◌∷◌, All, Some, length, map, replicate, slice_get, slice_index_or, if◌then◌else◌}
use Rattle.std.proofs.Common.{refl, sym, ap, ◌∙◌, arith, get_or, inl, inr, subst}
use Rattle.std.proofs.Math.Path.{ap₂}
use Rattle.std.proofs.lemmas.Bool.{cases_lt}
use Rattle.std.proofs.lemmas.List.{get_or-map, length-map}
use Rattle.std.proofs.lemmas.Option.{slice_get-get_or}
use Rattle.failure_patterns.proofs.DemandLaws.{pattern_place_within, some_demand, some_pattern}
use Rattle.field_vectors.proofs.DotOfLaws.{identity_entry-on}
use Rattle.field_vectors.specs.Elements.{dot_of}
use Rattle.field_vectors.specs.Grid.{Grid, row_of}
use Rattle.field_vectors.proofs.GridLaws.{row_of-elements}
use Rattle.field_vectors.proofs.NumberLaws.{number-dot_of}
use Rattle.std.specs.declared.cmp.PartialEq.{Ghosts as EqualityWords}
use Rattle.gf_tables.specs.declared.field.Field.{Ghosts as FieldWords}
use Rattle.linear_algebra.specs.Elements.{numbers}
use Rattle.linear_algebra.specs.Rows.{dot}
use Rattle.net_model.specs.Demands.{demand_count, pattern_of_demand}
use Rattle.net_model.specs.declared.net.Net.{Net}
use Rattle.node_program.specs.Carried.{numbers_at, source_vector}
use Rattle.node_program.specs.Code.{are_in_order}
use Rattle.node_program.specs.Value.{leaves_source}
use Rattle.node_program.specs.declared.Operand.{Operand}
use Rattle.sink_basis.specs.declared.basis.Basis.{Basis}
use Rattle.lif_compiler.proofs.HopLaws.{hop-before_first, hop-before_inner, hop-demand, hop-path, rising-route}
use Rattle.lif_compiler.specs.Hops.{IsHop, Routes, route_of}
use Rattle.net_model.proofs.RisingLaws.{rising-below, rising-place}
use Rattle.lif_compiler.specs.Tables.{AreAmong, AreOfShape, CanFeed, grid_at}
use Rattle.lif_compiler.proofs.VisitLaws.{hop-vector}
use Rattle.lif_compiler.specs.Visits.{AreVectorsOf, CanVisit, HasVectors, vector_under}
use Rattle.lif_compiler.specs.Bases.{HasMatrices, HasWidth, vectors_in}
use Rattle.lif_compiler.specs.Compiled.{marked_kind}
use Rattle.lif_compiler.specs.Operands.{befores}
use Rattle.lif_compiler.specs.PartialCodes.{product_of, vector_of_source}
use Rattle.lif_compiler.specs.declared.hops.Hop.{Hop}
use Rattle.lif_compiler.specs.declared.partial_code.PartialCode.{PartialCode}
use Rattle.lif_compiler.proofs.ChoosingSteps.{All-befores}
use Rattle.lif_compiler.proofs.BasesLaws.{LawsOf, frontier_in-at, inverses_in-at, vectors_in-at}

-- an item of a list that has one
pub item_of : {B : Type 0} (xs : List B) → 0 < length xs → B
item_of [] some = absurd (omega arith)
item_of (x ∷ xs) some = x

-- matrices of vectors have a row for each link and a column for each row of the source's block
pub vectors_shape : {X : Type 0} {F : FieldWords X} {net : Net} {rate : ℕ} {visited : List (List Operand)} (vectors : List (Grid X))
    → AreVectorsOf F net rate visited vectors → AreOfShape (length net.links) rate vectors
vectors_shape vectors are k d within =
    let has = are.at k (get_or vectors k d) (slice_get-get_or vectors k d within) in
    (has.height, has.columns)

module _ {X : Type 0} {F : FieldWords X} {E : EqualityWords X} (L : LawsOf F) {net : Net} {routes : Routes} {hops : List Hop} {code : PartialCode X F E}
    (can : CanVisit net routes hops code) where
  -- the next link
  abbrev link : ℕ
  link = length code.operands.items

  -- the links are in order
  pub ordered : IsTrue (are_in_order [] net.links)
  ordered = can.before.chosen.draft.link_order

  -- the hop at a place is one over the link
  pub hop_at : (k : ℕ) (hop : Hop) → slice_get hops k ≡ Some hop → IsHop routes link hop
  hop_at = can.hops_over.each

  -- there is a basis for each demand
  pub basis_count : length code.bases.items ≡ demand_count net
  basis_count = can.before.each_basis

  -- each frontier is as long as the rate says
  pub widths : All (HasWidth code.rate) code.bases.items
  widths = λ k d within.
      let demand : k < demand_count net = omega (arith, basis_count) in
      let stands = can.before.stands k demand in
      ap length (sym (frontier_in-at code.bases.items k d within)) ∙ ap length stands.links ∙ length-map _ _ ∙ can.routes_fit.many k demand

  -- each hop is one of a demand and a path that there are
  pub among : AreAmong (length code.bases.items) code.rate hops
  among = λ k d within.
      let hop = get_or hops k d in
      let is = hop_at k hop (slice_get-get_or hops k d within) in
      (omega (arith, basis_count, hop-demand net code.rate routes ordered can.routes_fit link hop is), hop-path net code.rate routes ordered can.routes_fit link hop is)

  -- there are no more hops than demands
  pub few_hops : length hops ≤ demand_count net
  few_hops = elim (cases_lt (demand_count net) (length hops)) [
    | inl more ↦
        (let demand : Hop → ℕ = λ hop. hop.demand in
        let none : Hop = record { demand = 0; path = 0; before = 0 } in
        let place = rising-place (map demand hops) (demand_count net) can.hops_over.rising (omega (arith, length-map hops demand)) in
        absurd (omega (arith, place, get_or-map demand hops (demand_count net) none 0 more, (among (demand_count net) none more).0, basis_count)))
    | inr few ↦ few
  ]

  -- there is a matrix of vectors for each pattern
  pub some_vectors : 0 < length code.vectors.items
  some_vectors = omega (arith, can.before.carried.each_pattern, some_pattern net 0 (some_demand net))

  pub vectors_here : (pattern : ℕ) → pattern < length code.vectors.items → HasVectors F net code.rate code.operands.items pattern (grid_at code.vectors.items pattern)
  vectors_here pattern within = can.before.carried.at pattern (grid_at code.vectors.items pattern) (slice_get-get_or code.vectors.items pattern (record { columns = 0; rows = [] }) within)

  pub shape : AreOfShape (length net.links) code.rate code.vectors.items
  shape = vectors_shape code.vectors.items can.before.carried

  -- the rows of the link are zeros
  pub zeros_here : link < length net.links → All (λ m. row_of m link ≡ replicate code.rate F.zero) code.vectors.items
  zeros_here next = λ k d within. (can.before.carried.at k (get_or code.vectors.items k d) (slice_get-get_or code.vectors.items k d within)).zeros link (omega arith) next

  -- there is a basis
  pub some_basis : 0 < length code.bases.items
  some_basis = omega (arith, basis_count, some_demand net)

  -- the vectors for a demand are those under its pattern
  pub pattern_for : (demand : ℕ) → demand % length code.vectors.items ≡ pattern_of_demand net demand
  pattern_for demand = ap (λ count. demand % count) can.before.carried.each_pattern

  module _ (k : ℕ) (hop : Hop) (here : slice_get hops k ≡ Some hop) where
    is : IsHop routes link hop
    is = hop_at k hop here

    within : hop.demand < demand_count net
    within = hop-demand net code.rate routes ordered can.routes_fit link hop is

    -- what comes before the link on a path is a row of the source's block or an earlier link
    pub before_row : leaves_source net link ≡ true → hop.before < code.rate
    before_row leaves =
        subst (λ row. row < code.rate) (sym (hop-before_first net code.rate routes ordered can.routes_fit link hop is leaves)) (hop-path net code.rate routes ordered can.routes_fit link hop is)

    pub before_link : leaves_source net link ≡ false → hop.before < link
    before_link leaves =
        let inner = hop-before_inner net code.rate routes ordered can.routes_fit link hop is leaves in
        let route = route_of routes hop.demand hop.path in
        let path = hop-path net code.rate routes ordered can.routes_fit link hop is in
        let below = rising-below route (is.place - 1) is.place (rising-route net code.rate routes ordered can.routes_fit hop.demand hop.path within path) (omega (arith, inner.0)) is.within in
        omega (arith, below, inner.1, is.here)

    -- by either bound
    pub named : link < length net.links → hop.before < (if leaves_source net link then code.rate else length net.links)
    named next = by_leaves (leaves_source net link) refl
      where
        by_leaves : (leaves : Bool) → leaves_source net link ≡ leaves → hop.before < (if leaves then code.rate else length net.links)
        by_leaves true leaves = before_row leaves
        by_leaves false leaves = omega (arith, before_link leaves, next)

    -- the vector that it has
    pub source_same : vector_of_source (leaves_source net link) code hop.demand hop.before
        ≡ source_vector (leaves_source net link) code.rate (vector_under net (marked_kind F.MARK) code.rate code.operands.items (pattern_of_demand net hop.demand)) hop.before
    source_same = by_leaves (leaves_source net link) refl
      where
        by_leaves : (leaves : Bool) → leaves_source net link ≡ leaves
            → vector_of_source leaves code hop.demand hop.before ≡ source_vector leaves code.rate (vector_under net (marked_kind F.MARK) code.rate code.operands.items (pattern_of_demand net hop.demand)) hop.before
        by_leaves true leaves = refl
        by_leaves false leaves =
            let same = pattern_for hop.demand in
            let inside : hop.demand % length code.vectors.items < length code.vectors.items = omega (arith, same, pattern_place_within net hop.demand within, can.before.carried.each_pattern) in
            (vectors_here (hop.demand % length code.vectors.items) inside).vector hop.before (before_link leaves) ∙ ap (λ pattern. vector_under net (marked_kind F.MARK) code.rate code.operands.items pattern hop.before) same

    module _ (matrices : All HasMatrices code.bases.items) (first : Basis X F E) where
      inside : hop.demand < length code.bases.items
      inside = omega (arith, within, basis_count)

      abbrev basis : Basis X F E
      basis = get_or code.bases.items hop.demand first

      -- its product with the path's inverse vector isn't zero
      pub own_product : product_of (marked_kind F.MARK) (leaves_source net link) code hop hop.before ≢ 0
      own_product zero =
          let path = hop-path net code.rate routes ordered can.routes_fit link hop is in
          let wide : length basis.frontier ≡ code.rate = widths hop.demand first inside in
          let dual = basis.basis in
          let kept = matrices hop.demand first inside in
          let high : hop.path < length basis.vectors.rows = omega (arith, dual.vectors_high, wide, path) in
          let high' : hop.path < length basis.inverses.rows = omega (arith, dual.inverses_high, wide, path) in
          let stands = can.before.stands hop.demand within in
          let at : slice_index_or (map (numbers F.number) (vectors_in code.bases.items hop.demand).rows) hop.path [] ≡ numbers F.number (row_of basis.vectors hop.path) =
          ap (λ (m : Grid X). slice_index_or (map (numbers F.number) m.rows) hop.path []) (vectors_in-at code.bases.items hop.demand first inside)
          ∙ get_or-map (numbers F.number) basis.vectors.rows hop.path [] [] high in
          let source = source_same ∙ hop-vector net code.rate routes ordered can.routes_fit link hop is _ _ _ stands ∙ at in
          let one_is : F.number (dot_of F.zero F.add F.mul (row_of basis.vectors hop.path) (row_of basis.inverses hop.path)) ≡ 1 =
          ap F.number (dual.dual hop.path hop.path (omega (arith, wide, path)) (omega (arith, wide, path)) ∙ identity_entry-on F.zero F.one hop.path) ∙ L.numbering.number_one in
          let product_is = number-dot_of L.field L.numbering (marked_kind F.MARK) L.of_kind (row_of basis.vectors hop.path) (row_of basis.inverses hop.path)
          (row_of-elements basis.vectors hop.path kept.0 high) (row_of-elements basis.inverses hop.path kept.1 high') in
          let shown = ap₂ (dot (marked_kind F.MARK)) source (ap (λ (m : Grid X). numbers_at F.number m hop.path) (inverses_in-at code.bases.items hop.demand first inside)) in
          omega (arith, sym zero, shown, product_is, one_is)

  -- so what comes before the link on all paths can feed it
  pub feeding : link < length net.links → CanFeed net code.rate link (befores hops)
  feeding next =
      All-befores (λ from. from < (if leaves_source net link then code.rate else length net.links)) hops (λ k d within. named k (get_or hops k d) (slice_get-get_or hops k d within) next)
