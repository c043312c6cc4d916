-- Laws of the end of the compiler, where all links are visited: the last link of each path of a demand stands on the
-- demand's frontier, and the decoders that are read off the bases make an accepted code.
use Rattle.std.specs.Prelude.{◌≡◌, ◌<◌, ◌-◌, ◌==◌, ℕ, zero, suc, true, false, nat_eq, nat_lt, List, [], ◌∷◌, ◌++◌, Option, All, None, Some, is_some, length, map, slice_get, slice_index, slice_index_or, if◌then◌else◌}
use Rattle.std.specs.List.{concat, range_with_len}
use Rattle.std.proofs.Common.{arith, refl, sym, ap, subst, ◌∙◌, get_or, inl, inr}
use Rattle.std.proofs.Math.Path.{ap₂}
use Rattle.std.proofs.lemmas.Bool.{and_from, and_parts, both_ways, eq-eqb, eqb-true, false_from_ne_true, lt-ltb, not-true, or_cases, or_left, or_parts, or_right}
use Rattle.std.proofs.lemmas.List.{get_or_default, get_or-map, length-map}
use Rattle.std.proofs.lemmas.List.Folds.{list_any-append, list_any_at}
use Rattle.std.proofs.lemmas.List.FromFn.{get_or-range_with_len, length-range_with_len}
use Rattle.std.proofs.lemmas.List.Sorted.{All-permutation, length_permutation}
use Rattle.std.proofs.lemmas.List.Sums.{list_all-from_AllPass}
use Rattle.std.specs.declared.cmp.PartialEq.{Ghosts as EqualityWords}
use Rattle.gf_tables.specs.declared.field.Field.{Ghosts as FieldWords}
use Rattle.gf_tables.specs.Product.{size_of}
use Rattle.failure_patterns.specs.Demands.{demand_of}
use Rattle.field_vectors.specs.Elements.{column_of}
use Rattle.field_vectors.proofs.InverseLaws.{column_of-elements}
use Rattle.field_vectors.proofs.NumberLaws.{number-dot_of, numbers-column_of, numbers-matrix}
use Rattle.linear_algebra.specs.Elements.{numbers}
use Rattle.linear_algebra.specs.Rows.{AreRows, dot}
use Rattle.net_model.specs.Demands.{demand_count, pattern_of_demand, sink_of_demand}
use Rattle.net_model.specs.Failed.{failed_links}
use Rattle.net_model.specs.Flows.{IsPath, flow_network}
use Rattle.net_model.proofs.ListLaws.{is_among-same}
use Rattle.net_model.specs.Lists.{are_distinct, is_among}
use Rattle.net_model.proofs.WalkLaws.{IsWalk-below}
use Rattle.net_model.specs.declared.net.Net.{Net}
use Rattle.node_program.proofs.LinkLaws.{leads_into-head_of}
use Rattle.node_program.specs.Code.{IsCode, IsDraft, is_decoder, leads_into}
use Rattle.node_program.specs.Decoding.{IsAccepted}
use Rattle.node_program.specs.Value.{global_vector}
use Rattle.node_program.specs.declared.Decoder.{Decoder}
use Rattle.node_program.specs.declared.Operand.{Operand}
use Rattle.node_program.specs.declared.code.Code.{Code}
use Rattle.sink_basis.specs.declared.basis.Basis.{Basis}
use Rattle.lif_compiler.proofs.DecoderLaws.{IsAccepted-bases}
use Rattle.lif_compiler.specs.Decoders.{AreInverse, IsBasisDecoder, IsReadOff}
use Rattle.lif_compiler.proofs.DraftLaws.{draft_of-whole}
use Rattle.lif_compiler.specs.Frontier.{frontier_vector, last_below}
use Rattle.lif_compiler.proofs.FrontierLaws.{last_below-whole}
use Rattle.lif_compiler.specs.Bases.{HasMatrices, frontier_in, vectors_in}
use Rattle.lif_compiler.specs.Compiled.{marked_kind}
use Rattle.lif_compiler.specs.Hops.{Routes}
use Rattle.lif_compiler.specs.declared.partial_code.PartialCode.{PartialCode}
use Rattle.lif_compiler.proofs.BasesLaws.{LawsOf}
use Rattle.lif_compiler.specs.ReadOff.{AreApart, AreReached}
use Rattle.lif_compiler.proofs.VisitLaws.{frontier-at}
use Rattle.lif_compiler.specs.Visits.{AreRoutes, IsVisited, paths_of, vector_under}
use Rattle.node_program.proofs.DecodingLaws.{are_decoders-demands}

-- of numbers of which none stands twice, those at the front don't stand behind it
apart_behind : (xs ys : List ℕ) (q : ℕ) → are_distinct nat_eq (xs ++ ys) ≡ true → is_among xs q ≡ true → is_among ys q ≡ false
apart_behind [] ys q distinct among = absurd cc
apart_behind (x ∷ xs) ys q distinct among =
    let parts = and_parts _ _ distinct in
    elim (or_cases _ _ among) [
      | inl here ↦
          (let new = or_parts _ _ (sym (list_any-append (nat_eq x) xs ys) ∙ not-true _ parts.0) in
          ap (is_among ys) (sym (eqb-true x q here)) ∙ sym (is_among-same ys x) ∙ new.1)
      | inr later ↦ apart_behind xs ys q parts.1 later
    ]

-- and none of those behind it stands twice
distinct_behind : (xs ys : List ℕ) → are_distinct nat_eq (xs ++ ys) ≡ true → are_distinct nat_eq ys ≡ true
distinct_behind [] ys distinct = distinct
distinct_behind (x ∷ xs) ys distinct = distinct_behind xs ys (and_parts _ _ distinct).1

-- a number of one list is one of all lists
is_among-joined : (lists : List (List ℕ)) (j q : ℕ) → j < length lists → is_among (get_or lists j []) q ≡ true → is_among (concat lists) q ≡ true
is_among-joined [] j q within among = absurd (omega arith)
is_among-joined (xs ∷ lists) zero q within among = list_any-append (λ one. one == q) xs (concat lists) ∙ or_left _ _ among
is_among-joined (xs ∷ lists) (suc j) q within among = list_any-append (λ one. one == q) xs (concat lists) ∙ or_right _ _ (is_among-joined lists j q (omega arith) among)

-- where no number stands twice in all lists, none stands in two of them
pub lists_apart : (lists : List (List ℕ)) (i j q : ℕ) → are_distinct nat_eq (concat lists) ≡ true → i < j → j < length lists → is_among (get_or lists i []) q ≡ true → is_among (get_or lists j []) q ≡ false
lists_apart [] i j q distinct before within among = absurd (omega arith)
lists_apart (xs ∷ lists) i zero q distinct before within among = absurd (omega arith)
lists_apart (xs ∷ lists) zero (suc j) q distinct before within among =
    false_from_ne_true _ (λ found. both_ways _ (apart_behind xs (concat lists) q distinct among) (is_among-joined lists j q (omega arith) found))
lists_apart (xs ∷ lists) (suc i) (suc j) q distinct before within among = lists_apart lists i j q (distinct_behind xs (concat lists) distinct) (omega arith) (omega arith) among

module _ {X : Type 0} {F : FieldWords X} {E : EqualityWords X} (L : LawsOf F) where
  -- the numbers of a basis and of its inverse vectors
  pub AreInverse-numbers : (basis : Basis X F E) → HasMatrices basis
      → AreInverse (marked_kind F.MARK) (length basis.frontier) (map (numbers F.number) basis.vectors.rows) (map (numbers F.number) basis.inverses.rows)
  AreInverse-numbers basis kept =
      let dual = basis.basis in
      record {
        vectors_high = length-map basis.vectors.rows (numbers F.number) ∙ dual.vectors_high;
        vector_rows = subst (λ width. AreRows (marked_kind F.MARK) width (map (numbers F.number) basis.vectors.rows)) dual.vectors_wide (numbers-matrix L.field L.numbering (marked_kind F.MARK) L.of_kind basis.vectors kept.0);
        inverses_high = length-map basis.inverses.rows (numbers F.number) ∙ dual.inverses_high;
        spans = λ i j below inside.
            ap₂ (dot (marked_kind F.MARK)) (sym (numbers-column_of L.field L.numbering (marked_kind F.MARK) L.of_kind basis.inverses.rows i))
            (sym (numbers-column_of L.field L.numbering (marked_kind F.MARK) L.of_kind basis.vectors.rows j))
            ∙ sym (number-dot_of L.field L.numbering (marked_kind F.MARK) L.of_kind (column_of F.zero i basis.inverses.rows) (column_of F.zero j basis.vectors.rows)
            (column_of-elements F.zero basis.inverses i kept.1 (omega (arith, dual.inverses_wide))) (column_of-elements F.zero basis.vectors j kept.0 (omega (arith, dual.vectors_wide))))
            ∙ ap F.number (dual.spans i j below inside)
            ∙ elim (i == j) as (λ b. F.number (if b then F.one else F.zero) ≡ (if b then 1 else 0)) [ true ↦ L.numbering.number_one | false ↦ L.numbering.number_zero ];
      }

module _ {X : Type 0} {F : FieldWords X} {E : EqualityWords X} {net : Net} {routes : Routes} {code : PartialCode X F E}
    (are : AreRoutes net code.rate routes) (whole : length code.operands.items ≡ length net.links) (is : IsVisited net routes code) where
  -- a path of a demand
  abbrev route : ℕ → ℕ → List ℕ
  route demand path = slice_index_or (paths_of routes demand) path []

  route_path : (demand path : ℕ) → demand < demand_count net → path < code.rate → IsPath (flow_network net (demand_of net demand)) (route demand path)
  route_path demand path within below = (are.flow demand within).each path [] (omega (arith, are.many demand within))

  -- its last link
  abbrev last_link : ℕ → ℕ → ℕ
  last_link demand path = slice_index (route demand path) (length (route demand path) - 1)

  -- it stands on the path
  last_among : (demand path : ℕ) → demand < demand_count net → path < code.rate → is_among (route demand path) (last_link demand path) ≡ true
  last_among demand path within below =
      let some : 0 < length (route demand path) = (route_path demand path within below).some in
      list_any_at (λ one. one == last_link demand path) (route demand path) (length (route demand path) - 1) 0 (omega arith) (eq-eqb _ _ refl)

  -- it is one of the network's links, and leads into the demand's sink
  last_within : (demand path : ℕ) → demand < demand_count net → path < code.rate → last_link demand path < length net.links
  last_within demand path within below =
      let through = route_path demand path within below in
      IsWalk-below net.links (route demand path) through.walk (length (route demand path) - 1) 0 (omega (arith, through.some))

  last_leads : (demand path : ℕ) → demand < demand_count net → path < code.rate → leads_into net.links (sink_of_demand net demand) (last_link demand path) ≡ true
  last_leads demand path within below =
      leads_into-head_of net.links (sink_of_demand net demand) (last_link demand path) (last_within demand path within below) (route_path demand path within below).end

  -- and it is the path's frontier link
  frontier-last : (demand path : ℕ) → demand < demand_count net → path < code.rate → slice_index_or (frontier_in code.bases.items demand) path None ≡ Some (last_link demand path)
  frontier-last demand path within below =
      let through = route_path demand path within below in
      frontier-at (vector_under net (marked_kind F.MARK) code.rate code.operands.items (pattern_of_demand net demand)) code.rate (paths_of routes demand) (length code.operands.items) (frontier_in code.bases.items demand)
      (map (numbers F.number) (vectors_in code.bases.items demand).rows) (are.many demand within) (is.stands demand within) path below
      ∙ last_below-whole (length code.operands.items) (route demand path)
      (subst (λ bound. All (λ link. link < bound) (route demand path)) (sym whole) (IsWalk-below net.links (route demand path) through.walk)) through.some

  -- a demand's frontier has a place for each path
  pub length-frontier : (demand : ℕ) → demand < demand_count net → length (frontier_in code.bases.items demand) ≡ code.rate
  length-frontier demand within = ap length (is.stands demand within).links ∙ length-map (paths_of routes demand) (last_below (length code.operands.items)) ∙ are.many demand within

  -- each path has a frontier link
  pub reached : (demand : ℕ) → demand < demand_count net → AreReached (frontier_in code.bases.items demand)
  reached demand within path d below =
      let inside : path < code.rate = omega (arith, length-frontier demand within) in
      ap is_some (get_or_default (frontier_in code.bases.items demand) path d None below ∙ frontier-last demand path within inside)

  -- no two paths have the same
  pub apart : (demand : ℕ) → demand < demand_count net → AreApart (frontier_in code.bases.items demand)
  apart demand within i j before below same =
      let inside : j < code.rate = omega (arith, length-frontier demand within) in
      let first : i < code.rate = omega arith in
      let one : Some (last_link demand i) ≡ Some (last_link demand j) = sym (frontier-last demand i within first) ∙ same ∙ frontier-last demand j within inside in
      let link : last_link demand i ≡ last_link demand j = cc in
      both_ways _
      (lists_apart (paths_of routes demand) i j (last_link demand i) (are.flow demand within).disjoint before (omega (arith, are.many demand within)) (last_among demand i within first))
      (ap (is_among (route demand j)) link ∙ last_among demand j within inside)

  -- a decoder that is read off a demand's frontier
  module _ {size : ℕ} {inverses : List (List ℕ)} (demand : ℕ) (decoder : Decoder) (within : demand < demand_count net)
      (read : IsReadOff size code.rate (frontier_in code.bases.items demand) inverses decoder) where
    path_count : length read.paths ≡ code.rate
    path_count = length_permutation (range_with_len 0 code.rate) read.paths read.entries.each_path ∙ length-range_with_len 0 code.rate

    link_count : length decoder.links ≡ code.rate
    link_count =
        sym (length-map decoder.links Some) ∙ ap length read.links_are
        ∙ length-map read.paths (λ path. slice_index_or (frontier_in code.bases.items demand) path None) ∙ path_count

    -- its links lie on paths
    path_below : (j : ℕ) → j < code.rate → slice_index read.paths j < code.rate
    path_below j below =
        All-permutation (λ k. k < code.rate) (range_with_len 0 code.rate) read.paths read.entries.each_path
        (λ k d inside. let first : k < code.rate = omega (arith, length-range_with_len 0 code.rate) in omega (arith, get_or-range_with_len 0 code.rate k d first))
        j 0 (omega (arith, path_count))

    -- each is its path's frontier link
    link_there : (j : ℕ) → j < code.rate → Some (slice_index decoder.links j) ≡ slice_index_or (frontier_in code.bases.items demand) (slice_index read.paths j) None
    link_there j below =
        sym (get_or-map Some decoder.links j 0 None (omega (arith, link_count)))
        ∙ ap (λ (links : List (Option ℕ)). slice_index_or links j None) read.links_are
        ∙ get_or-map (λ path. slice_index_or (frontier_in code.bases.items demand) path None) read.paths j 0 None (omega (arith, path_count))

    -- and so its path's last link
    link_last : (j : ℕ) → j < code.rate → slice_index decoder.links j ≡ last_link demand (slice_index read.paths j)
    link_last j below =
        let same : Some (slice_index decoder.links j) ≡ Some (last_link demand (slice_index read.paths j)) =
        link_there j below ∙ frontier-last demand (slice_index read.paths j) within (path_below j below) in
        cc

    -- with the demand's inverse vectors it comes from the demand's basis
    pub IsBasisDecoder-final : AreInverse (marked_kind F.MARK) code.rate (map (numbers F.number) (vectors_in code.bases.items demand).rows) inverses → IsBasisDecoder net code.rate (marked_kind F.MARK) code.operands.items demand decoder
    IsBasisDecoder-final inverse = record {
      vectors = map (numbers F.number) (vectors_in code.bases.items demand).rows;
      inverses = inverses;
      paths = read.paths;
      basis = inverse;
      entries = read.entries;
      vector = λ j below.
          ap (λ (operands : List (List Operand)). global_vector net (marked_kind F.MARK) operands (failed_links net.patterns (pattern_of_demand net demand)) code.rate (slice_index decoder.links j))
          (sym (draft_of-whole (length net.links) code.operands.items whole))
          ∙ ap (frontier_vector (vector_under net (marked_kind F.MARK) code.rate code.operands.items (pattern_of_demand net demand)) code.rate (slice_index read.paths j)) (link_there j below)
          ∙ sym ((is.stands demand within).vector (slice_index read.paths j) (path_below j below));
    }

    -- it passes the test of the demand's decoder
    pub is_decoder-final : size ≡ size_of (marked_kind F.MARK) → is_decoder net code.rate (marked_kind F.MARK) (sink_of_demand net demand) decoder ≡ true
    is_decoder-final same =
        let sink = sink_of_demand net demand in
        let into = list_all-from_AllPass (leads_into net.links sink) decoder.links
        (λ k d below.
        let inside : k < code.rate = omega (arith, link_count) in
        ap (leads_into net.links sink) (get_or_default decoder.links k d 0 below ∙ link_last k inside) ∙ last_leads demand (slice_index read.paths k) within (path_below k inside)) in
        let elements = list_all-from_AllPass (λ entry. nat_lt entry (size_of (marked_kind F.MARK))) decoder.entries
        (λ k d below. let small = read.below k d below in lt-ltb _ _ (omega (arith, small, same))) in
        and_from _ _ (and_from _ _ (and_from _ _ (and_from _ _ (eq-eqb _ _ link_count) read.rising) into) (eq-eqb _ _ read.entry_count)) elements

  -- a decoder for each demand, each read off the demand's frontier
  module _ {size : ℕ} (inverses : ℕ → List (List ℕ)) (decoders : List Decoder)
      (read : (demand : ℕ) (decoder : Decoder) → demand < demand_count net → slice_get decoders demand ≡ Some decoder
      → IsReadOff size code.rate (frontier_in code.bases.items demand) (inverses demand) decoder) where
    -- they make a code
    pub IsCode-final : size ≡ size_of (marked_kind F.MARK) → length decoders ≡ demand_count net → IsCode net code.rate (marked_kind F.MARK) code.operands.items decoders
    IsCode-final same count = record {
      draft = subst (IsDraft net code.rate (marked_kind F.MARK)) (draft_of-whole (length net.links) code.operands.items whole) is.chosen.draft;
      demand_decoders = are_decoders-demands net code.rate (marked_kind F.MARK) decoders count
          (λ demand decoder within at. is_decoder-final demand decoder within (read demand decoder within at) same);
    }

    -- and with the inverse vectors of the demands an accepted one
    pub IsAccepted-final : ((demand : ℕ) → demand < demand_count net → AreInverse (marked_kind F.MARK) code.rate (map (numbers F.number) (vectors_in code.bases.items demand).rows) (inverses demand))
        → (made : Code) → made.net ≡ net → made.rate ≡ code.rate → made.field ≡ (marked_kind F.MARK) → made.operands ≡ code.operands.items → made.decoders ≡ decoders → IsAccepted made
    IsAccepted-final inverse made same_net same_rate same_field same_operands same_decoders =
        IsAccepted-bases made (λ demand decoder within at.
        let inside : demand < demand_count net = subst (λ net. demand < demand_count net) same_net within in
        let there : slice_get decoders demand ≡ Some decoder = ap (λ (all : List Decoder). slice_get all demand) (sym same_decoders) ∙ at in
        rw (same_net, same_rate, same_field, same_operands)
        (IsBasisDecoder-final demand decoder inside (read demand decoder inside there) (inverse demand inside)))
