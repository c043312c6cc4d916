-- Going back from the sink to the source, along the links by which the nodes were reached.
use Rattle.std.specs.Prelude.{◌≡◌, ◌≢◌, ◌<◌, ◌≤◌, ◌-◌, ℕ, Bool, false, ◌==◌, cond, List, length, slice_index, slice_set, Some}
use Rattle.std.specs.List.{position_or_len}
use Rattle.std.proofs.Common.{refl, sym, ◌∙◌, ap, subst, arith, inl, inr}
use Rattle.std.proofs.lemmas.Bool.{both_ways, cases_eq, eq-eqb, ne_eqb}
use Rattle.std.proofs.lemmas.List.{length-set}
use Rattle.std.proofs.lemmas.List.Sums.{position_or_len_is}
use Rattle.net_model.specs.Flows.{FlowNetwork}
use Rattle.net_model.specs.Walks.{head_of, tail_of}
use Rattle.net_model.specs.declared.Link.{Link}
use Rattle.unit_flow.specs.Conservation.{IsConserved, IsConservedFrom}
use Rattle.unit_flow.proofs.ConservationLaws.{IsConservedFrom-freed, IsConservedFrom-used, is_free-set_other, is_used-set_other}
use Rattle.unit_flow.proofs.PassageLaws.{free_alone, passage_cases}
use Rattle.unit_flow.specs.Residual.{is_free, is_used, passage}
use Rattle.unit_flow.specs.Searching.{CameByLink, EndsAt, IsWay, link_at, node_at}
use Rattle.unit_flow.specs.declared.residual.LinkState.{LinkState}
use Rattle.unit_flow.specs.declared.residual.LinkState.TheVariants.{Free, Used}
use Rattle.unit_flow.specs.declared.search.Search.{Search}

-- the place of a node on the way
abbrev pub place_of : Search → ℕ → ℕ
place_of search node = position_or_len (λ one. one == node) search.way.items

-- of a node that stands there
pub place_of-node_at : (network : FlowNetwork) (states : List LinkState) (search : Search) (place : ℕ) → IsWay network states search → place < search.depth → place_of search (node_at search place) ≡ place
place_of-node_at network states search place is inside =
    position_or_len_is (λ one. one == node_at search place) search.way.items place 0 (omega (arith, is.within, is.places.way))
    (λ k before. ne_eqb _ _ (is.distinct k place before inside))
    (λ within. eq-eqb _ _ refl)

-- from the sink back to a node, the links by which the nodes were reached are turned, and no others: so the used links are a flow with a unit more from that node on
pub record IsGoingBack (network : FlowNetwork) (old : List LinkState) (search : Search) (states : List LinkState) (place node : ℕ) : Type 0 where
  pub each_link : length states ≡ length network.links
  pub inside : place < search.depth
  pub at : node_at search place ≡ node
  pub before_sink : (k : ℕ) → k < place → node_at search k ≢ network.sink
  pub free : (k : ℕ) → 0 < k → k ≤ place → is_free states (link_at search k) ≡ is_free old (link_at search k)
  pub used : (k : ℕ) → 0 < k → k ≤ place → is_used states (link_at search k) ≡ is_used old (link_at search k)
  pub conserved : (value : ℕ) → IsConserved network old value → IsConservedFrom network states value node

-- at the sink
pub back_none : (network : FlowNetwork) (old : List LinkState) (search : Search) → IsWay network old search → length old ≡ length network.links → EndsAt network.sink search
    → IsGoingBack network old search old (place_of search network.sink) network.sink
back_none network old search is whole ends =
    let last = search.depth - 1 in
    let inside : last < search.depth = omega (arith, ends.some) in
    let place : place_of search network.sink ≡ last = ap (place_of search) (sym ends.last) ∙ place_of-node_at network old search last is inside in
    let Back : ℕ → Type 0 = λ k. IsGoingBack network old search old k network.sink in
    subst Back (sym place)
    (record {
      each_link = whole;
      inside = inside;
      at = ends.last;
      before_sink = λ k before same. is.distinct k last before inside (same ∙ sym ends.last);
      free = λ k some early. refl;
      used = λ k some early. refl;
      conserved = λ value conserved. conserved;
    })

-- a link leads to one node, from wherever it is passed
one_end : (links : List Link) (states : List LinkState) (link a b x y : ℕ) → passage links states link a ≡ Some x → passage links states link b ≡ Some y → x ≡ y
one_end links states link a b x y one two = elim (passage_cases links states link a x one) [
  | inl forward ↦ elim (passage_cases links states link b y two) [
    | inl too ↦ forward.2 ∙ sym too.2
    | inr back ↦ absurd (both_ways _ (free_alone states link forward.0).0 back.0)
  ]
  | inr back ↦ elim (passage_cases links states link b y two) [
    | inl forward ↦ absurd (both_ways _ (free_alone states link forward.0).0 back.0)
    | inr too ↦ back.2 ∙ sym too.2
  ]
]

-- one link further back
module _ (network : FlowNetwork) (old : List LinkState) (search : Search) (states : List LinkState) (place node : ℕ) (way : IsWay network old search) (is : IsGoingBack network old search states place node)
    (apart : node ≢ network.source) where
  some : 0 < place
  some = elim (cases_eq place 0) [ inl first ↦ absurd (apart (sym is.at ∙ ap (node_at search) first ∙ way.first (omega (arith, is.inside)))) | inr other ↦ omega arith ]

  link_is : link_at search place ≡ slice_index search.came.items node
  link_is = ap (λ n. slice_index search.came.items n) is.at

  came : CameByLink network.links old search place
  came = way.came place some is.inside

  pub link_within : slice_index search.came.items node < length network.links
  link_within = rw (← link_is) came.within

  -- the node before, from which the link was passed
  module _ (link : ℕ) (read : slice_index search.came.items node ≡ link) where
    same : link_at search place ≡ link
    same = link_is ∙ read

    leads : passage network.links old link (node_at search came.from) ≡ Some node
    leads =
        let Leads : ℕ → ℕ → Type 0 = λ l to. passage network.links old l (node_at search came.from) ≡ Some to in
        subst (Leads link) is.at (subst (λ l. Leads l (node_at search place)) same came.leads)

    within : link < length network.links
    within = rw (← read) link_within

    -- the links of the nodes before it are others
    others : (k : ℕ) → 0 < k → k ≤ came.from → link_at search k ≢ link
    others k more early alike =
        let there : k < search.depth = omega (arith, came.before, is.inside) in
        let was = way.came k more there in
        let Leads : ℕ → Type 0 = λ l. passage network.links old l (node_at search was.from) ≡ Some (node_at search k) in
        way.distinct k place (omega (arith, came.before)) is.inside
        (one_end network.links old link (node_at search was.from) (node_at search came.from) (node_at search k) node (subst Leads alike was.leads) leads ∙ sym is.at)

    free_same : is_free states link ≡ is_free old link
    free_same = let Free_same : ℕ → Type 0 = λ l. is_free states l ≡ is_free old l in subst Free_same same (is.free place some (omega arith))

    used_same : is_used states link ≡ is_used old link
    used_same = let Used_same : ℕ → Type 0 = λ l. is_used states l ≡ is_used old l in subst Used_same same (is.used place some (omega arith))

    -- whatever state the link gets, all but the flow stays
    turned : (state : LinkState) (next : ℕ) → node_at search came.from ≡ next → ((value : ℕ) → IsConserved network old value → IsConservedFrom network (slice_set states link state) value next)
        → IsGoingBack network old search (slice_set states link state) came.from next
    turned state next at conserved = record {
      each_link = length-set states link state ∙ is.each_link;
      inside = omega (arith, came.before, is.inside);
      at = at;
      before_sink = λ k early. is.before_sink k (omega (arith, came.before));
      free = λ k more early. is_free-set_other states link (link_at search k) state (others k more early) ∙ is.free k more (omega (arith, came.before));
      used = λ k more early. is_used-set_other states link (link_at search k) state (others k more early) ∙ is.used k more (omega (arith, came.before));
      conserved = conserved;
    }

    -- a free link is used then, and a used one free
    turned_back : (new : List LinkState) (next : ℕ) → new ≡ slice_set states link (cond (is_used states link) Free Used) → next ≡ cond (is_used states link) (head_of network.links link) (tail_of network.links link)
        → IsGoingBack network old search new came.from next
    turned_back new next new_is next_is =
        let Back : LinkState → ℕ → Type 0 = λ state to. IsGoingBack network old search (slice_set states link state) came.from to in
        let Cases : Bool → Type 0 = λ used. Back (cond used Free Used) (cond used (head_of network.links link) (tail_of network.links link)) in
        let cases : Cases (is_used states link) = elim (passage_cases network.links old link (node_at search came.from) node leads) [
          | inl forward ↦
              let Conserved : ℕ → ℕ → Type 0 = λ value from. IsConservedFrom network states value from in
              let unused : is_used states link ≡ false = used_same ∙ (free_alone old link forward.0).0 in
              subst Cases (sym unused)
              (turned Used (tail_of network.links link) forward.1 (λ value conserved.
              IsConservedFrom-used network states value link (subst (Conserved value) forward.2 (is.conserved value conserved)) within (free_same ∙ forward.0) (λ at. apart (forward.2 ∙ at))
              (λ at. is.before_sink came.from came.before (forward.1 ∙ at))))
          | inr back ↦
              let Conserved : ℕ → ℕ → Type 0 = λ value from. IsConservedFrom network states value from in
              subst Cases (sym (used_same ∙ back.0))
              (turned Free (head_of network.links link) back.1 (λ value conserved. IsConservedFrom-freed network states value link (subst (Conserved value) back.2 (is.conserved value conserved)) within (used_same ∙ back.0)))
        ] in
        let Back_to : List LinkState → ℕ → Type 0 = λ some to. IsGoingBack network old search some came.from to in
        subst (λ some. Back_to some next) (sym new_is) (subst (Back_to _) (sym next_is) cases)

    -- so the way goes on from an earlier place
    pub gone_back : (new : List LinkState) (next : ℕ) → new ≡ slice_set states link (cond (is_used states link) Free Used) → next ≡ cond (is_used states link) (head_of network.links link) (tail_of network.links link)
        → IsGoingBack network old search new (place_of search next) next × (place_of search next < place)
    gone_back new next new_is next_is =
        let back = turned_back new next new_is next_is in
        let earlier : place_of search next ≡ came.from = ap (place_of search) (sym back.at) ∙ place_of-node_at network old search came.from way back.inside in
        let Back : ℕ → Type 0 = λ k. IsGoingBack network old search new k next in
        (subst Back (sym earlier) back, omega (arith, earlier, came.before))
