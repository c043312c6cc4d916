-- What is known after a link is visited: its operands fit it, its vector under each pattern is that of its operands, and
-- each demand's basis stands behind it.
use Rattle.std.specs.Prelude.{◌≡◌, ◌≢◌, ◌<◌, ◌&&◌, ◌%◌, nat_lt, ℕ, Bool, true, false, List, [], ◌++◌, ◌∷◌, All, Some, length, map, slice_get, slice_index_or, if◌then◌else◌}
use Rattle.std.proofs.Common.{refl, sym, ap, ◌∙◌, arith, get_or, inl, inr, subst}
use Rattle.std.proofs.Math.Seq.{get_or-append_seam}
use Rattle.std.proofs.lemmas.Bool.{and_from, cases_eq, lt-ltb}
use Rattle.std.proofs.lemmas.List.{get_or_append_left, length-append}
use Rattle.std.proofs.lemmas.List.Elements.{All-weaker}
use Rattle.std.proofs.lemmas.List.Sums.{list_all-from_AllPass}
use Rattle.std.proofs.lemmas.Option.{get_or_from_slice_get, slice_get-get_or, slice_get_within}
use Rattle.std.proofs.lemmas.Simd.{map-map}
use Rattle.failure_patterns.proofs.DemandLaws.{pattern_place_within}
use Rattle.field_vectors.specs.Elements.{dot_of}
use Rattle.field_vectors.specs.Grid.{Grid, IsMatrix, row_of}
use Rattle.field_vectors.proofs.GridLaws.{length-row_of, row_of-elements}
use Rattle.field_vectors.proofs.NumberLaws.{number-dot_of, numbers-IsRow, numbers-zeros}
use Rattle.std.specs.declared.cmp.PartialEq.{Ghosts as EqualityWords}
use Rattle.item_list.proofs.Maps.{map-agree}
use Rattle.gf_tables.specs.declared.field.Field.{Ghosts as FieldWords}
use Rattle.gf_tables.specs.Product.{size_of}
use Rattle.linear_algebra.proofs.CombinationLaws.{dot-combination}
use Rattle.linear_algebra.specs.Elements.{numbers}
use Rattle.linear_algebra.proofs.RowLaws.{unit_row-IsRow}
use Rattle.linear_algebra.specs.Rows.{IsRow, combination, dot, unit_row, zero_row}
use Rattle.net_model.specs.Demands.{demand_count, pattern_of_demand}
use Rattle.net_model.specs.Failed.{failed_links, is_failed_in}
use Rattle.net_model.specs.Lists.{is_among, is_rising}
use Rattle.net_model.specs.declared.Link.{Link}
use Rattle.net_model.specs.declared.net.Net.{Net}
use Rattle.node_program.specs.Carried.{IsCarried, numbers_at, source_vector}
use Rattle.node_program.specs.Code.{are_operands, is_source_of}
use Rattle.node_program.specs.Value.{leaves_source}
use Rattle.node_program.proofs.VectorLaws.{IsRow-global_vector}
use Rattle.node_program.specs.declared.Operand.{Operand}
use Rattle.sink_basis.specs.declared.basis.Basis.{Basis}
use Rattle.lif_compiler.proofs.DraftLaws.{IsDraft-more, global_vector-last, global_vector-more}
use Rattle.lif_compiler.proofs.HopLaws.{hop-demand, hop-path, hop-source, hop-works}
use Rattle.lif_compiler.specs.Hops.{IsHop, Routes}
use Rattle.lif_compiler.proofs.OperandLaws.{All-operands_of, AreRows-map, combination-operands_of, rising-operands_of}
use Rattle.lif_compiler.specs.Operands.{befores}
use Rattle.lif_compiler.specs.Steps.{AreCarried, IsCarriedUnless}
use Rattle.lif_compiler.specs.Tables.{grid_at, vectors_for}
use Rattle.lif_compiler.specs.Visits.{AreChosen, AreVectorsOf, CanVisit, HasVectors, IsOfHop, vector_under}
use Rattle.lif_compiler.specs.Bases.{HasMatrices, inverses_in}
use Rattle.lif_compiler.specs.Compiled.{marked_kind}
use Rattle.lif_compiler.specs.PartialCodes.{AreChosenBy}
use Rattle.lif_compiler.specs.declared.hops.Hop.{Hop}
use Rattle.lif_compiler.specs.declared.partial_code.PartialCode.{PartialCode}
use Rattle.lif_compiler.proofs.BasesLaws.{LawsOf, inverses_in-at}
use Rattle.lif_compiler.proofs.ChoosingSteps.{All-befores, All-sources, nonzero-from_number}
use Rattle.lif_compiler.proofs.ReadySteps.{basis_count, before_link, before_row, ordered, pattern_for, vectors_here, widths}

module _ {X : Type 0} {F : FieldWords X} {E : EqualityWords X} (L : LawsOf F) {net : Net} {routes : Routes} {hops : List Hop} {code : PartialCode X F E}
    (can : CanVisit net routes hops code)
    (next : length code.operands.items < length net.links) (operands : List Operand) (chosen : AreChosenBy net (length code.operands.items) hops code operands) where
  -- the link, whether it leaves the source, and the operands of all links up to it
  abbrev link : ℕ
  link = length code.operands.items

  abbrev leaves : Bool
  leaves = leaves_source net link

  abbrev longer : List (List Operand)
  longer = code.operands.items ++ operands ∷ []

  abbrev none : Grid X
  none = record { columns = 0; rows = [] }

  -- what holds of what comes before the link on each path holds of each source
  each_source : (Q : ℕ → Type 0) → ((k : ℕ) (hop : Hop) → slice_get hops k ≡ Some hop → Q hop.before) → All Q chosen.sources
  each_source Q each = All-sources Q (befores hops) chosen.sources chosen.are_sources (All-befores Q hops (λ k d within. each k (get_or hops k d) (slice_get-get_or hops k d within)))

  -- and of each operand, whose coefficient is a nonzero element
  each_operand : (Q : ℕ → Type 0) → ((k : ℕ) (hop : Hop) → slice_get hops k ≡ Some hop → Q hop.before) → All (λ (o : Operand). Q o.from × (o.times < size_of (marked_kind F.MARK)) × (0 < o.times)) operands
  each_operand Q each =
      subst (λ (os : List Operand). All (λ (o : Operand). Q o.from × (o.times < size_of (marked_kind F.MARK)) × (0 < o.times)) os) (sym chosen.operands_are)
      (All-operands_of Q (λ times. times < size_of (marked_kind F.MARK)) chosen.sources chosen.times (each_source Q each) chosen.elements)

  -- the coefficients are elements
  pub operand_times : All (λ (o : Operand). o.times < F.SIZE) operands
  operand_times =
      All-weaker (λ (o : Operand). Unit {0} × (o.times < size_of (marked_kind F.MARK)) × (0 < o.times)) (λ (o : Operand). o.times < F.SIZE) (λ o is. omega (arith, is.1, L.of_kind.size)) operands (each_operand (λ _. Unit {0}) (λ k hop here. tt))

  -- each operand names a row of the source's block or an earlier link
  pub operand_rows : leaves ≡ true → All (λ (o : Operand). o.from < code.rate) operands
  operand_rows is =
      All-weaker (λ (o : Operand). (o.from < code.rate) × (o.times < size_of (marked_kind F.MARK)) × (0 < o.times)) (λ (o : Operand). o.from < code.rate) (λ o is. is.0) operands
      (each_operand (λ from. from < code.rate) (λ k hop here. before_row L can k hop here is))

  pub operand_links : leaves ≡ false → All (λ (o : Operand). o.from < link) operands
  operand_links is =
      All-weaker (λ (o : Operand). (o.from < link) × (o.times < size_of (marked_kind F.MARK)) × (0 < o.times)) (λ (o : Operand). o.from < link) (λ o is. is.0) operands
      (each_operand (λ from. from < link) (λ k hop here. before_link L can k hop here is))

  -- the operands fit the link
  fits : (at : Link) → slice_get net.links link ≡ Some at → are_operands net code.rate (marked_kind F.MARK) at operands ≡ true
  fits at there =
      let Named : ℕ → Type 0 = λ from. is_source_of net code.rate at from ≡ true in
      let test : Operand → Bool = λ operand. is_source_of net code.rate at operand.from && nat_lt 0 operand.times && nat_lt operand.times (size_of (marked_kind F.MARK)) in
      let each = each_operand Named (λ k hop here.
      hop-source net code.rate routes (ordered L can) can.routes_fit link hop (can.hops_over.each k hop here) at there) in
      and_from _ _
      (ap (λ (os : List Operand). is_rising (map (λ (o : Operand). o.from) os)) chosen.operands_are ∙ rising-operands_of chosen.sources chosen.times chosen.are_sources.rising)
      (list_all-from_AllPass test operands (λ k d within.
      let is = each k d within in
      and_from _ _ (and_from _ _ is.0 (lt-ltb _ _ is.2)) (lt-ltb _ _ is.1)))

  -- they come from hops
  of_hops : All (IsOfHop routes link) operands
  of_hops =
      let Q : ℕ → Type 0 = λ from. (hop : Hop) × IsHop routes link hop × (hop.before ≡ from) in
      All-weaker (λ (o : Operand). Q o.from × (o.times < size_of (marked_kind F.MARK)) × (0 < o.times)) (IsOfHop routes link) (λ o is. is.0) operands (each_operand Q (λ k hop here. (hop, can.hops_over.each k hop here, refl)))

  -- so the operands of all links up to this one are chosen
  pub chosen_more : AreChosen net (marked_kind F.MARK) code.rate routes longer
  chosen_more =
      let there = slice_get-get_or net.links link (record { name = []; tail = 0; head = 0 }) next in
      record {
        draft = IsDraft-more code.operands.items operands (get_or net.links link (record { name = []; tail = 0; head = 0 })) can.before.chosen.draft there (fits (get_or net.links link (record { name = []; tail = 0; head = 0 })) there);
        few_visits = omega (arith, length-append code.operands.items (operands ∷ []));
        of_hops = λ e below. elim (cases_eq e link) [
          | inl same ↦
              (let Good : ℕ → List Operand → Type 0 = λ e os. All (IsOfHop routes e) os in
              subst (λ e. Good e (slice_index_or longer e [])) (sym same) (subst (Good link) (sym (get_or-append_seam code.operands.items operands [] [])) of_hops))
          | inr apart ↦
              (let before : e < link = omega (arith, length-append code.operands.items (operands ∷ [])) in
              subst (λ (os : List Operand). All (IsOfHop routes e) os) (sym (get_or_append_left code.operands.items (operands ∷ []) [] e before)) (can.before.chosen.of_hops e before))
        ];
      }

  -- ---- the vectors of the link

  module _ (new : List (Grid X)) (carried : AreCarried (marked_kind F.MARK) F.number net link operands code.vectors.items new) where
    -- what the link's operands carry under a pattern, by the matrix and by definition
    same_rows : (pattern : ℕ) (m : Grid X) → HasVectors F net code.rate code.operands.items pattern m
        → map (λ (operand : Operand). source_vector leaves m.columns (numbers_at F.number m) operand.from) operands
        ≡ map (λ (operand : Operand). if leaves then unit_row code.rate operand.from else vector_under net (marked_kind F.MARK) code.rate code.operands.items pattern operand.from) operands
    same_rows pattern m has = by_leaves leaves refl
      where
        by_leaves : (l : Bool) → leaves ≡ l
            → map (λ (operand : Operand). source_vector l m.columns (numbers_at F.number m) operand.from) operands
            ≡ map (λ (operand : Operand). if l then unit_row code.rate operand.from else vector_under net (marked_kind F.MARK) code.rate code.operands.items pattern operand.from) operands
        by_leaves true is = ap (λ width. map (λ (operand : Operand). unit_row width operand.from) operands) has.columns
        by_leaves false is =
            map-agree (λ (operand : Operand). numbers_at F.number m operand.from) (λ (operand : Operand). vector_under net (marked_kind F.MARK) code.rate code.operands.items pattern operand.from) (λ (operand : Operand). operand.from < link)
            (λ operand below. has.vector operand.from below) operands (operand_links is)

    -- the row of the link is its vector
    own_row : (pattern : ℕ) (failed : Bool) (old m : Grid X) → is_among (failed_links net.patterns pattern) link ≡ failed → HasVectors F net code.rate code.operands.items pattern old → IsCarriedUnless failed (marked_kind F.MARK) F.number leaves operands link old m
        → numbers_at F.number m link ≡ vector_under net (marked_kind F.MARK) code.rate longer pattern link
    own_row pattern true old m fails has made =
        ap (λ (m : Grid X). numbers_at F.number m link) made ∙ ap (numbers F.number) (has.zeros link (omega arith) next) ∙ numbers-zeros F.number F.zero L.numbering.number_zero code.rate
        ∙ sym (global_vector-last code.operands.items operands chosen_more.draft (failed_links net.patterns pattern)
        ∙ ap (λ (failed : Bool). if failed then zero_row code.rate
        else combination (marked_kind F.MARK) code.rate (map (λ (operand : Operand). operand.times) operands) (map (λ (operand : Operand). if leaves then unit_row code.rate operand.from else vector_under net (marked_kind F.MARK) code.rate code.operands.items pattern operand.from) operands)) fails)
    own_row pattern false old m works has made =
        made.own
        ∙ ap (λ width. combination (marked_kind F.MARK) width (map (λ (operand : Operand). operand.times) operands) (map (λ (operand : Operand). source_vector leaves old.columns (numbers_at F.number old) operand.from) operands)) has.columns
        ∙ ap (combination (marked_kind F.MARK) code.rate (map (λ (operand : Operand). operand.times) operands)) (same_rows pattern old has)
        ∙ sym (global_vector-last code.operands.items operands chosen_more.draft (failed_links net.patterns pattern)
        ∙ ap (λ (failed : Bool). if failed then zero_row code.rate
        else combination (marked_kind F.MARK) code.rate (map (λ (operand : Operand). operand.times) operands) (map (λ (operand : Operand). if leaves then unit_row code.rate operand.from else vector_under net (marked_kind F.MARK) code.rate code.operands.items pattern operand.from) operands)) works)

    -- the other rows stay
    other_row : (failed : Bool) (old m : Grid X) → IsCarriedUnless failed (marked_kind F.MARK) F.number leaves operands link old m → (row : ℕ) → row ≢ link → row_of m row ≡ row_of old row
    other_row true old m made row apart = ap (λ (m : Grid X). row_of m row) made
    other_row false old m made row apart = made.others row apart

    same_columns : (failed : Bool) (old m : Grid X) → IsCarriedUnless failed (marked_kind F.MARK) F.number leaves operands link old m → m.columns ≡ old.columns
    same_columns true old m made = ap (λ (m : Grid X). m.columns) made
    same_columns false old m made = made.columns

    same_height : (failed : Bool) (old m : Grid X) → IsCarriedUnless failed (marked_kind F.MARK) F.number leaves operands link old m → length m.rows ≡ length old.rows
    same_height true old m made = ap (λ (m : Grid X). length m.rows) made
    same_height false old m made = made.height

    -- each matrix has the vectors of the links up to this one
    pub has_more : (pattern : ℕ) → pattern < length code.vectors.items → HasVectors F net code.rate longer pattern (grid_at new pattern)
    has_more pattern within =
        let failed = is_failed_in net.patterns pattern link in
        let old = grid_at code.vectors.items pattern in
        let m = grid_at new pattern in
        let has = vectors_here L can pattern within in
        let made : IsCarriedUnless failed (marked_kind F.MARK) F.number leaves operands link old m = carried.made pattern within within in
        record {
          columns = same_columns failed old m made ∙ has.columns;
          height = same_height failed old m made ∙ has.height;
          vector = λ e below. elim (cases_eq e link) [
            | inl same ↦ (let Good : ℕ → Type 0 = λ e. numbers_at F.number m e ≡ vector_under net (marked_kind F.MARK) code.rate longer pattern e in subst Good (sym same) (own_row pattern failed old m refl has made))
            | inr apart ↦
                (let before : e < link = omega (arith, length-append code.operands.items (operands ∷ [])) in
                ap (numbers F.number) (other_row failed old m made e apart) ∙ has.vector e before ∙ sym (global_vector-more code.operands.items operands chosen_more.draft (failed_links net.patterns pattern) e before))
          ];
          zeros = λ e from below. other_row failed old m made e (λ same. absurd (omega (arith, length-append code.operands.items (operands ∷ [])))) ∙ has.zeros e (omega (arith, length-append code.operands.items (operands ∷ []))) below;
        }

    pub vectors_more : AreVectorsOf F net code.rate longer new
    vectors_more = record {
      each_pattern = carried.each_pattern ∙ can.before.carried.each_pattern;
      at = λ pattern m there.
          let within : pattern < length code.vectors.items = omega (arith, slice_get_within new pattern m there, carried.each_pattern) in
          subst (HasVectors F net code.rate longer pattern) (get_or_from_slice_get new pattern m none there) (has_more pattern within);
    }

    -- ---- the bases of the demands

    module _ (k : ℕ) (hop : Hop) (here : slice_get hops k ≡ Some hop) where
      is : IsHop routes link hop
      is = can.hops_over.each k hop here

      within : hop.demand < demand_count net
      within = hop-demand net code.rate routes (ordered L can) can.routes_fit link hop is

      path : hop.path < code.rate
      path = hop-path net code.rate routes (ordered L can) can.routes_fit link hop is

      same : hop.demand % length code.vectors.items ≡ pattern_of_demand net hop.demand
      same = pattern_for L can hop.demand

      pattern_within : hop.demand % length code.vectors.items < length code.vectors.items
      pattern_within = omega (arith, same, pattern_place_within net hop.demand within, can.before.carried.each_pattern)

      pub pattern_same : vectors_for new hop.demand ≡ grid_at new (pattern_of_demand net hop.demand)
      pattern_same = ap (grid_at new) (ap (λ count. hop.demand % count) carried.each_pattern ∙ same)

      -- the link's vector under the demand's pattern
      pub new_vector : numbers_at F.number (vectors_for new hop.demand) link ≡ vector_under net (marked_kind F.MARK) code.rate longer (pattern_of_demand net hop.demand) link
      new_vector =
          let inside : pattern_of_demand net hop.demand < length code.vectors.items = omega (arith, pattern_within, same) in
          ap (λ (m : Grid X). numbers_at F.number m link) pattern_same
          ∙ (has_more (pattern_of_demand net hop.demand) inside).vector link (omega (arith, length-append code.operands.items (operands ∷ [])))

      -- the sources' vectors are rows of elements
      source_rows : All (λ from. IsRow (marked_kind F.MARK) code.rate (source_vector leaves code.rate (numbers_at F.number (vectors_for code.vectors.items hop.demand)) from)) chosen.sources
      source_rows = by_leaves leaves refl
        where
          by_leaves : (l : Bool) → leaves ≡ l → All (λ from. IsRow (marked_kind F.MARK) code.rate (source_vector l code.rate (numbers_at F.number (vectors_for code.vectors.items hop.demand)) from)) chosen.sources
          by_leaves true leaving = λ k d inside. unit_row-IsRow (marked_kind F.MARK) code.rate (get_or chosen.sources k d)
          by_leaves false staying =
              let pattern = hop.demand % length code.vectors.items in
              let has = vectors_here L can pattern pattern_within in
              All-weaker (λ from. from < link) (λ from. IsRow (marked_kind F.MARK) code.rate (numbers_at F.number (vectors_for code.vectors.items hop.demand) from))
              (λ from below. subst (IsRow (marked_kind F.MARK) code.rate) (sym (has.vector from below)) (IsRow-global_vector can.before.chosen.draft (failed_links net.patterns pattern) from)) chosen.sources
              (each_source (λ from. from < link) (λ k hop here. before_link L can k hop here staying))

      -- it is the sum of the sources' vectors with their coefficients
      of_sources : numbers_at F.number (vectors_for new hop.demand) link
          ≡ combination (marked_kind F.MARK) code.rate chosen.times (map (source_vector leaves code.rate (numbers_at F.number (vectors_for code.vectors.items hop.demand))) chosen.sources)
      of_sources =
          let pattern = hop.demand % length code.vectors.items in
          let old = vectors_for code.vectors.items hop.demand in
          let has = vectors_here L can pattern pattern_within in
          let works : is_failed_in net.patterns pattern link ≡ false =
          ap (λ pattern. is_failed_in net.patterns pattern link) same
          ∙ hop-works net code.rate routes (ordered L can) can.routes_fit link hop is in
          let made : IsCarried (marked_kind F.MARK) F.number leaves operands link old (grid_at new pattern) =
          subst (λ (failed : Bool). IsCarriedUnless failed (marked_kind F.MARK) F.number leaves operands link old (grid_at new pattern)) works (carried.made pattern pattern_within pattern_within) in
          let vector : ℕ → List ℕ = source_vector leaves code.rate (numbers_at F.number old) in
          ap (λ (m : Grid X). numbers_at F.number m link) (ap (grid_at new) (ap (λ count. hop.demand % count) carried.each_pattern))
          ∙ made.own
          ∙ ap (λ width. combination (marked_kind F.MARK) width (map (λ (operand : Operand). operand.times) operands) (map (λ (operand : Operand). source_vector leaves width (numbers_at F.number old) operand.from) operands)) has.columns
          ∙ ap (λ (os : List Operand). combination (marked_kind F.MARK) code.rate (map (λ (operand : Operand). operand.times) os) (map (λ (operand : Operand). vector operand.from) os)) chosen.operands_are
          ∙ combination-operands_of (marked_kind F.MARK) code.rate vector chosen.sources chosen.times source_rows

      module _ (matrices : All HasMatrices code.bases.items) (kept : All (IsMatrix F.is_element) new) (first : Basis X F E) where
        -- the vector's product with the path's inverse vector isn't zero
        pub product_nonzero : dot_of F.zero F.add F.mul (row_of (vectors_for new hop.demand) link) (row_of (inverses_in code.bases.items hop.demand) hop.path) ≢ F.zero
        product_nonzero =
            let inside : hop.demand < length code.bases.items = omega (arith, within, basis_count L can) in
            let basis = get_or code.bases.items hop.demand first in
            let wide : length basis.frontier ≡ code.rate = widths L can hop.demand first inside in
            let inverses = inverses_in code.bases.items hop.demand in
            let inverses_are : inverses ≡ basis.inverses = inverses_in-at code.bases.items hop.demand first inside in
            let inverse_matrix : IsMatrix F.is_element inverses = subst (IsMatrix F.is_element) (sym inverses_are) (matrices hop.demand first inside).1 in
            let high : hop.path < length inverses.rows = omega (arith, ap (λ (m : Grid X). length m.rows) inverses_are, basis.basis.inverses_high, wide, path) in
            let columns : inverses.columns ≡ code.rate = ap (λ (m : Grid X). m.columns) inverses_are ∙ basis.basis.inverses_wide ∙ wide in
            let m = vectors_for new hop.demand in
            let new_place : hop.demand % length new < length new = omega (arith, pattern_within, carried.each_pattern, ap (λ count. hop.demand % count) carried.each_pattern) in
            let m_matrix : IsMatrix F.is_element m = kept (hop.demand % length new) none new_place in
            let pattern_inside : pattern_of_demand net hop.demand < length code.vectors.items = omega (arith, pattern_within, same) in
            let m_high : link < length m.rows = omega (arith, ap (λ (m : Grid X). length m.rows) pattern_same, (has_more (pattern_of_demand net hop.demand) pattern_inside).height, next) in
            let x = row_of m link in
            let y = row_of inverses hop.path in
            let y_row : IsRow (marked_kind F.MARK) code.rate (numbers F.number y) = numbers-IsRow L.field L.numbering (marked_kind F.MARK) L.of_kind code.rate y (length-row_of inverses hop.path inverse_matrix high ∙ columns) (row_of-elements inverses hop.path inverse_matrix high) in
            let vector : ℕ → List ℕ = source_vector leaves code.rate (numbers_at F.number (vectors_for code.vectors.items hop.demand)) in
            nonzero-from_number L.field L.numbering (marked_kind F.MARK) L.of_kind (dot_of F.zero F.add F.mul x y) (λ zero.
            chosen.nonzero k hop here
            (ap (dot (marked_kind F.MARK) chosen.times) (sym (map-map (λ (row : List ℕ). dot (marked_kind F.MARK) row (numbers F.number y)) vector chosen.sources))
            ∙ sym (dot-combination (marked_kind F.MARK) code.rate chosen.times (map vector chosen.sources) (numbers F.number y) chosen.elements (AreRows-map (marked_kind F.MARK) code.rate vector chosen.sources source_rows) y_row)
            ∙ ap (λ (row : List ℕ). dot (marked_kind F.MARK) row (numbers F.number y)) (sym of_sources)
            ∙ sym (number-dot_of L.field L.numbering (marked_kind F.MARK) L.of_kind x y (row_of-elements m link m_matrix m_high) (row_of-elements inverses hop.path inverse_matrix high)) ∙ zero))
