-- Steps of the bases that a link advances.
use Rattle.std.specs.Prelude.{◌≡◌, ◌≢◌, ◌<◌, ◌+◌, ℕ, IsTrue, List, [], All, Option, Some, length, map, slice_get, slice_index, slice_index_or, slice_set}
use Rattle.std.proofs.Common.{sym, ap, ◌∙◌, arith, get_or, inl, inr, subst}
use Rattle.std.proofs.lemmas.Bool.{cases_eq}
use Rattle.std.proofs.lemmas.List.{get_or-map, get_or-set_other, get_or-set_same, length-map, length-set, map-set}
use Rattle.std.proofs.lemmas.List.Elements.{All-set}
use Rattle.std.proofs.lemmas.Option.{get_or_from_slice_get, slice_get_within}
use Rattle.field_vectors.specs.Elements.{dot_of}
use Rattle.field_vectors.specs.Grid.{Grid, row_of, with_row}
use Rattle.std.specs.declared.cmp.PartialEq.{Ghosts as EqualityWords}
use Rattle.gf_tables.specs.declared.field.Field.{Ghosts as FieldWords}
use Rattle.net_model.specs.Lists.{is_rising}
use Rattle.sink_basis.specs.declared.basis.Basis.{Basis}
use Rattle.lif_compiler.specs.Bases.{HasWidth, inverses_in}
use Rattle.net_model.proofs.RisingLaws.{rising-below}
use Rattle.lif_compiler.specs.Steps.{AreAdvanced, AreAdvancedTo, IsApart}
use Rattle.lif_compiler.specs.Tables.{vectors_for}
use Rattle.lif_compiler.specs.declared.hops.Hop.{Hop}

-- no earlier hop is of the demand of a hop
pub apart_before : (hops : List Hop) (k : ℕ) (hop : Hop) → IsTrue (is_rising (map (λ hop. hop.demand) hops)) → slice_get hops k ≡ Some hop → IsApart hops k hop.demand
apart_before hops k hop once here j other before there same =
    let demand : Hop → ℕ = λ hop. hop.demand in
    let within = slice_get_within hops k hop here in
    let at : (i : ℕ) (one : Hop) → slice_get hops i ≡ Some one → slice_index (map demand hops) i ≡ one.demand = λ i one found.
    get_or-map demand hops i one 0 (slice_get_within hops i one found) ∙ ap demand (get_or_from_slice_get hops i one one found) in
    let below = rising-below (map demand hops) j k once before (omega (arith, length-map hops demand)) in
    absurd (omega (arith, below, at j other there, at k hop here))

module _ {W : Type 0} {F : FieldWords W} {E : EqualityWords W} (hops : List Hop) (k : ℕ) (hop : Hop) (once : IsTrue (is_rising (map (λ hop. hop.demand) hops))) (here : slice_get hops k ≡ Some hop) (old now : List (Basis W F E)) (basis new : Basis W F E)
    (within : hop.demand < length now) (is : basis ≡ slice_index_or now hop.demand basis) where
  abbrev changed : List (Basis W F E)
  changed = slice_set now hop.demand new

  module _ {X : Type 0} (f : Basis W F E → X) (none : X) where
    -- what is read at the demand, and at any other
    at_demand : get_or (map f changed) hop.demand none ≡ f new
    at_demand = ap (λ xs. get_or xs hop.demand none) (map-set f now hop.demand new) ∙ get_or-set_same (map f now) hop.demand (f new) none (omega (arith, length-map now f))

    at_other : (demand : ℕ) → demand ≢ hop.demand → get_or (map f changed) demand none ≡ get_or (map f now) demand none
    at_other demand apart = ap (λ xs. get_or xs demand none) (map-set f now hop.demand new) ∙ get_or-set_other (map f now) hop.demand demand (f new) none apart

    was : f basis ≡ get_or (map f now) hop.demand none
    was = ap f is ∙ sym (get_or-map f now hop.demand basis none within)

    module _ (so_other : (demand : ℕ) → IsApart hops k demand → get_or (map f now) demand none ≡ get_or (map f old) demand none) where
      -- at a demand that no hop is of, nothing is changed
      pub more_other : (demand : ℕ) → IsApart hops (k + 1) demand → get_or (map f changed) demand none ≡ get_or (map f old) demand none
      more_other demand apart = at_other demand (λ same. apart k hop (omega arith) here (sym same)) ∙ so_other demand (λ j other before there. apart j other (omega arith) there)

      -- at the demand of each hop there is a change
      pub more_at : (change : Hop → X → X) → f new ≡ change hop (f basis)
          → ((j : ℕ) (other : Hop) → j < k → slice_get hops j ≡ Some other → get_or (map f now) other.demand none ≡ change other (get_or (map f old) other.demand none))
          → (j : ℕ) (other : Hop) → j < k + 1 → slice_get hops j ≡ Some other → get_or (map f changed) other.demand none ≡ change other (get_or (map f old) other.demand none)
      more_at change made so_far j other below there = elim (cases_eq j k) [
        | inl same ↦
            (let both : Some hop ≡ Some other = sym here ∙ ap (slice_get hops) (sym same) ∙ there in
            let one : hop ≡ other = cc in
            let Good : Hop → Type 0 = λ hop. get_or (map f changed) hop.demand none ≡ change hop (get_or (map f old) hop.demand none) in
            subst Good one (at_demand ∙ made ∙ ap (change hop) (was ∙ so_other hop.demand (apart_before hops k hop once here))))
        | inr apart ↦
            (let before : j < k = omega arith in
            at_other other.demand (apart_before hops k hop once here j other before there) ∙ so_far j other before there)
      ]

  -- one more basis is advanced
  pub advanced_more : (link : ℕ) (vectors : List (Grid W)) (v : List W) → AreAdvancedTo link vectors hops k old now
      → new.frontier ≡ slice_set basis.frontier hop.path (Some link) → new.vectors ≡ with_row basis.vectors hop.path v → v ≡ row_of (vectors_for vectors hop.demand) link
      → AreAdvancedTo link vectors hops (k + 1) old changed
  advanced_more link vectors v so_far frontier made v_is =
      let none : Grid W = record { columns = 0; rows = [] } in
      let links : Basis W F E → List (Option ℕ) = λ one. one.frontier in
      let grid : Basis W F E → Grid W = λ one. one.vectors in
      record {
        same_count = length-set now hop.demand new ∙ so_far.same_count;
        links_at = more_at links [] so_far.links_other (λ hop found. slice_set found hop.path (Some link)) frontier so_far.links_at;
        vectors_at = more_at grid none so_far.vectors_other (λ hop found. with_row found hop.path (row_of (vectors_for vectors hop.demand) link)) (made ∙ ap (with_row basis.vectors hop.path) v_is) so_far.vectors_at;
        links_other = more_other links [] so_far.links_other;
        vectors_other = more_other grid none so_far.vectors_other;
      }

  -- the inverse vectors at a demand that no hop is of stay
  pub inverses_more : ((demand : ℕ) → IsApart hops k demand → inverses_in now demand ≡ inverses_in old demand)
      → (demand : ℕ) → IsApart hops (k + 1) demand → inverses_in changed demand ≡ inverses_in old demand
  inverses_more so_far = more_other (λ (one : Basis W F E). one.inverses) (record { columns = 0; rows = [] }) so_far

  -- the frontiers stay as long as they are
  pub widths_more : (rate link : ℕ) → All (HasWidth rate) now → new.frontier ≡ slice_set basis.frontier hop.path (Some link) → All (HasWidth rate) changed
  widths_more rate link widths frontier = All-set (HasWidth rate) now hop.demand new
      (ap length frontier ∙ length-set basis.frontier hop.path (Some link) ∙ subst (HasWidth rate) (sym is) (widths hop.demand basis within)) widths

-- a product that isn't zero
pub advanced_nonzero : {A : Type 0} (zero : A) (add mul : A → A → A) (x y : List A) (m n : Grid A) (path : ℕ) → dot_of zero add mul y (row_of n path) ≢ zero → x ≡ y → m ≡ n → dot_of zero add mul x (row_of m path) ≢ zero
advanced_nonzero zero add mul x y m n path nonzero same matrix is = nonzero (ap (λ y. dot_of zero add mul y (row_of n path)) (sym same) ∙ ap (λ n. dot_of zero add mul x (row_of n path)) (sym matrix) ∙ is)

-- by equal links, vectors and bases the same is advanced
module _ {X : Type 0} {F : FieldWords X} {E : EqualityWords X} {link link' : ℕ} {vectors vectors' : List (Grid X)} {bases bases' : List (Basis X F E)} (l : link ≡ link') (v : vectors ≡ vectors') (b : bases ≡ bases') where
  pub advanced_at : (hops : List Hop) (new : List (Basis X F E)) → AreAdvanced link vectors hops bases new → AreAdvanced link' vectors' hops bases' new
  advanced_at hops new is =
      subst (λ link. AreAdvanced link vectors' hops bases' new) l
      (subst (λ vectors. AreAdvanced link vectors hops bases' new) v (subst (λ bases. AreAdvanced link vectors hops bases new) b is))

  -- and the product isn't zero
  pub nonzero_at_link : (hop : Hop) → dot_of F.zero F.add F.mul (row_of (vectors_for vectors' hop.demand) link') (row_of (inverses_in bases' hop.demand) hop.path) ≢ F.zero
      → dot_of F.zero F.add F.mul (row_of (vectors_for vectors hop.demand) link) (row_of (inverses_in bases hop.demand) hop.path) ≢ F.zero
  nonzero_at_link hop nonzero is =
      let product : ℕ → List (Grid X) → List (Basis X F E) → X = λ link vectors bases. dot_of F.zero F.add F.mul (row_of (vectors_for vectors hop.demand) link) (row_of (inverses_in bases hop.demand) hop.path) in
      nonzero (sym (ap (λ link. product link vectors bases) l ∙ ap (λ vectors. product link' vectors bases) v ∙ ap (product link' vectors') b) ∙ is)
