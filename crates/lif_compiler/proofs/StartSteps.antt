-- What is known before any link is visited.
use Rattle.std.specs.Prelude.{◌≡◌, ◌<◌, ◌≤◌, ℕ, IsTrue, List, [], ◌++◌, ◌∷◌, All, Some, None, length, map, replicate, slice_get, slice_index_or}
use Rattle.std.proofs.Common.{refl, sym, ap, ◌∙◌, arith, get_or, subst}
use Rattle.std.proofs.lemmas.List.{get_or-replicate, length-replicate}
use Rattle.std.proofs.lemmas.List.Elements.{All-append, All-cons, All-nil}
use Rattle.std.proofs.lemmas.List.FromFn.{get_or-map-range_with_len}
use Rattle.std.proofs.lemmas.Option.{get_or_from_slice_get, slice_get_within}
use Rattle.field_vectors.specs.Elements.{identity_of}
use Rattle.field_vectors.specs.Grid.{Grid, grid_of}
use Rattle.field_vectors.proofs.NumberLaws.{numbers-identity_of}
use Rattle.std.specs.declared.cmp.PartialEq.{Ghosts as EqualityWords}
use Rattle.gf_tables.specs.declared.field.Field.{Ghosts as FieldWords}
use Rattle.linear_algebra.specs.Elements.{numbers}
use Rattle.linear_algebra.specs.Rows.{unit_row}
use Rattle.net_model.specs.Demands.{demand_count, pattern_of_demand}
use Rattle.net_model.specs.declared.net.Net.{Net}
use Rattle.node_program.specs.Code.{are_in_order, choice_of}
use Rattle.lif_compiler.proofs.DraftLaws.{IsDraft-none}
use Rattle.lif_compiler.specs.Frontier.{frontier_vector, last_below}
use Rattle.lif_compiler.proofs.FrontierLaws.{last_below-none}
use Rattle.lif_compiler.specs.Bases.{HasNoLinks, HasUnitVectors, frontier_in, vectors_in}
use Rattle.lif_compiler.specs.Compiled.{marked_kind}
use Rattle.lif_compiler.specs.Hops.{Routes}
use Rattle.lif_compiler.specs.declared.partial_code.PartialCode.{PartialCode}
use Rattle.sink_basis.specs.declared.basis.Basis.{Basis}
use Rattle.lif_compiler.proofs.BasesLaws.{LawsOf, frontier_in-at, vectors_in-at}
use Rattle.lif_compiler.proofs.ReadySteps.{item_of}
use Rattle.lif_compiler.proofs.VisitedLaws.{IsVisited-of}
use Rattle.lif_compiler.specs.Visits.{AreRoutes, AreVectorsOf, HasVectors, IsBegun, Stands, paths_of, vector_under}

-- what holds of some and of one more
pub All-more : {X : Type 0} (P : X → Type 0) (xs new : List X) (x : X) → new ≡ xs ++ x ∷ [] → All P xs → P x → All P new
All-more P xs new x is all one = subst (All P) (sym is) (All-append P xs (x ∷ []) all (All-cons P x [] one (All-nil P)))

-- below 0 no path has a link
none_below : (paths : List (List ℕ)) → map (last_below 0) paths ≡ replicate (length paths) None
none_below [] = refl
none_below (path ∷ paths) = rw (last_below-none path, none_below paths) refl

module _ {X : Type 0} {F : FieldWords X} {E : EqualityWords X} (L : LawsOf F) (net : Net) (rate : ℕ) (vectors : List (Grid X)) (bases : List (Basis X F E))
    (zeros : vectors ≡ replicate (length net.patterns) (grid_of (length net.links) rate F.zero)) (count : length bases ≡ demand_count net)
    (none : All (HasNoLinks rate) bases) (units : All (HasUnitVectors rate) bases) where
  -- each matrix is one of zeros
  zeros_at : (pattern : ℕ) (m : Grid X) → slice_get vectors pattern ≡ Some m → HasVectors F net rate [] pattern m
  zeros_at pattern m there =
      let all = grid_of (length net.links) rate F.zero in
      let within : pattern < length net.patterns = omega (arith, slice_get_within vectors pattern m there, ap length zeros, length-replicate (length net.patterns) all) in
      let is : m ≡ all = sym (get_or_from_slice_get vectors pattern m all there) ∙ ap (λ ms. get_or ms pattern all) zeros ∙ get_or-replicate (length net.patterns) pattern all all within in
      let Has : Grid X → Type 0 = HasVectors F net rate [] pattern in
      subst Has (sym is) (record {
        columns = refl;
        height = length-replicate (length net.links) (replicate rate F.zero);
        vector = λ link below. absurd (omega arith);
        zeros = λ link from below. get_or-replicate (length net.links) link (replicate rate F.zero) [] below;
      })

  vectors_none : AreVectorsOf F net rate [] vectors
  vectors_none = record { each_pattern = ap length zeros ∙ length-replicate (length net.patterns) _; at = zeros_at }

  -- each basis is that of the unit vectors
  stands_first : (routes : Routes) → AreRoutes net rate routes → (demand : ℕ) → demand < demand_count net
      → Stands net routes rate [] bases demand
  stands_first routes are demand within =
      let inside : demand < length bases = omega (arith, count) in
      let first = item_of bases (omega arith) in
      let paths = paths_of routes demand in
      let links : frontier_in bases demand ≡ replicate rate None = frontier_in-at bases demand first inside ∙ none demand first inside in
      let rows : (vectors_in bases demand).rows ≡ identity_of F.zero F.one rate = ap (λ (m : Grid X). m.rows) (vectors_in-at bases demand first inside) ∙ units demand first inside in
      record {
        links = links ∙ sym (none_below paths ∙ ap (λ count. replicate count None) (are.many demand within));
        vector = λ path below.
            ap (λ rows. slice_index_or (map (numbers F.number) rows) path []) rows ∙ ap (λ rows. slice_index_or rows path []) (numbers-identity_of L.field L.numbering (marked_kind F.MARK) L.of_kind rate)
            ∙ get_or-map-range_with_len (unit_row rate) 0 rate path path [] below (omega arith)
            ∙ ap (frontier_vector (vector_under net (marked_kind F.MARK) rate [] (pattern_of_demand net demand)) rate path)
            (sym (ap (λ links. slice_index_or links path None) links ∙ get_or-replicate rate path None None below));
      }

  -- no link is visited
  pub visited_none : 1 ≤ rate → rate ≤ 32 → demand_count net ≤ 65536 → IsTrue (are_in_order [] net.links) → net.field ≡ choice_of (marked_kind F.MARK) → net.wanted ≡ None
      → (code : PartialCode X F E) → code.rate ≡ rate → code.operands.items ≡ [] → code.vectors.items ≡ vectors → code.bases.items ≡ bases → IsBegun net code
  visited_none some low few order named unwanted code same_rate operands_are vectors_are bases_are routes are =
      IsVisited-of rate [] vectors bases code same_rate operands_are vectors_are bases_are
      (record { draft = IsDraft-none net rate (marked_kind F.MARK) some low few order named unwanted; few_visits = omega arith; of_hops = λ link below. absurd (omega arith) })
      vectors_none count (stands_first routes (subst (λ rate. AreRoutes net rate routes) same_rate are))
