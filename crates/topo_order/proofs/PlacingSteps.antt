-- What the links placed so far say of the next, and what placing one keeps.
use Rattle.std.specs.Prelude.{◌≡◌, ◌≢◌, ◌<◌, ◌-◌, ℕ, Bool, true, false, List, [], ◌∷◌, ◌++◌, length, slice_index, slice_index_or, slice_set, replicate, Some}
use Rattle.std.proofs.Common.{refl, sym, ◌∙◌, ap, subst, arith, inl, inr}
use Rattle.std.proofs.lemmas.Bool.{and_from, and_left, and_right, or_right, eq-eqb, not_from_true, not_from_false, cases_eq, cases_lt, both_ways, false_from_ne_true}
use Rattle.std.proofs.lemmas.List.{length-set, get_or-set_other, get_or-set_same, get_or_read, get_or-replicate, length-replicate}
use Rattle.net_model.specs.Lists.{is_among}
use Rattle.net_model.specs.Walks.{head_of, tail_of}
use Rattle.net_model.specs.declared.Link.{Link}
use Rattle.topo_order.specs.Order.{is_reached, is_ready, next_link, order_from, order_of, IsPlaced}
use Rattle.topo_order.proofs.OrderLaws.{IsPlaced-none, IsPlaced-append, is_among-append, is_among-append_other, reached_from, reached_at, next_link-ready, order_from-step}
use Rattle.link_chains.specs.Chains.{AreFirsts}
use Rattle.topo_order.specs.Placing.{IsNextInto, IsPlacing}
use Rattle.topo_order.specs.declared.placing.Placing.{Placing}

-- a node, and the link that is watched there
module _ (links : List Link) (nodes : ℕ) (placing : Placing) (state : IsPlacing links nodes placing) (node into : ℕ) (below : node < nodes)
    (read : into ≡ slice_index_or placing.into.items node into) where
  watched_read : IsNextInto links placing.placed.items node 0 into
  watched_read =
      let inside : node < length placing.into.items = omega (arith, state.watched) in
      let Next : ℕ → Type 0 = λ r. IsNextInto links placing.placed.items node 0 r in
      subst Next (sym (get_or_read placing.into.items node into inside read 0)) (state.next node below)

  pub reached_read : into ≡ length links → is_reached links placing.order.items node ≡ true
  reached_read all = reached_from links placing.order.items node (λ k inside leads. sym (state.marked k inside) ∙ watched_read.before k (omega arith) (omega arith) leads)

  pub blocked_read : into ≢ length links → is_reached links placing.order.items node ≡ false
  blocked_read some =
      let inside : into < length links = omega (arith, watched_read.within) in
      false_from_ne_true _ (λ all. both_ways (is_among placing.order.items into)
      (sym (state.marked into inside) ∙ watched_read.not_placed inside) (reached_at links placing.order.items node all into inside (watched_read.leads inside)))

module _ (links : List Link) (nodes : ℕ) (placing : Placing) (state : IsPlacing links nodes placing) (l : ℕ) (within : l < length links) where
  -- what the flag of a link says
  marked_read : (flag : Bool) → flag ≡ slice_index_or placing.placed.items l flag → is_among placing.order.items l ≡ flag
  marked_read flag read =
      let inside : l < length placing.placed.items = omega (arith, state.flags) in
      sym (get_or_read placing.placed.items l flag inside read false ∙ state.marked l within)

  module _ (node into : ℕ) (leaves : node ≡ tail_of links l) (below : node < nodes) (read : into ≡ slice_index_or placing.into.items node into) where
    -- the link that is watched at the tail
    pub next_read : IsNextInto links placing.placed.items (tail_of links l) 0 into
    next_read =
        let inside : node < length placing.into.items = omega (arith, state.watched) in
        let Next : ℕ → ℕ → Type 0 = λ n r. IsNextInto links placing.placed.items n 0 r in
        subst (λ n. Next n into) leaves (subst (Next node) (sym (get_or_read placing.into.items node into inside read 0)) (state.next node below))

    -- a link that isn't placed, whose tail no link leads into that isn't placed
    pub ready : (flag : Bool) → flag ≡ slice_index_or placing.placed.items l flag → flag ≡ false → into ≡ length links → is_ready links placing.order.items l ≡ true
    ready flag reads unset all =
        and_from _ _ (not_from_false _ (marked_read flag reads ∙ unset))
        (reached_from links placing.order.items (tail_of links l) (λ k inside leads. sym (state.marked k inside) ∙ next_read.before k (omega arith) (omega arith) leads))

    -- one whose tail a link leads into that isn't placed
    pub blocked : into ≢ length links → is_ready links placing.order.items l ≡ false
    blocked some =
        let inside : into < length links = omega (arith, next_read.within) in
        and_right _ _ (false_from_ne_true _ (λ all. both_ways (is_among placing.order.items into)
        (sym (state.marked into inside) ∙ next_read.not_placed inside) (reached_at links placing.order.items (tail_of links l) all into inside (next_read.leads inside))))

  -- one that is placed
  pub placed : (flag : Bool) → flag ≡ slice_index_or placing.placed.items l flag → flag ≡ true → is_ready links placing.order.items l ≡ false
  placed flag reads set = and_left _ _ (not_from_true _ (marked_read flag reads ∙ set))

-- a flag that is set stays so
set_true : (flags : List Bool) (x l : ℕ) → x < length flags → slice_index_or flags l false ≡ true → slice_index_or (slice_set flags x true) l false ≡ true
set_true flags x l within flag = elim (cases_eq l x) [
  | inl same ↦ let At : ℕ → Type 0 = λ n. slice_index_or (slice_set flags x true) n false ≡ true in subst At (sym same) (get_or-set_same flags x true false within)
  | inr other ↦ get_or-set_other flags x l true false other ∙ flag
]

-- the next link into a node that isn't placed, after another was placed
next_kept : (links : List Link) (flags : List Bool) (node r x : ℕ) → x < length flags → r ≢ x → IsNextInto links flags node 0 r → IsNextInto links (slice_set flags x true) node 0 r
next_kept links flags node r x within other next = record {
  not_before = next.not_before;
  within = next.within;
  before = λ l above below leads. set_true flags x l within (next.before l above below leads);
  leads = next.leads;
  not_placed = λ inside. get_or-set_other flags x r true false other ∙ next.not_placed inside;
}

-- and after it was placed itself, from what was found from it on
next_moved : (links : List Link) (flags : List Bool) (node r x : ℕ) → x < length flags → IsNextInto links flags node 0 x → IsNextInto links (slice_set flags x true) node x r → IsNextInto links (slice_set flags x true) node 0 r
next_moved links flags node r x within old new = record {
  not_before = omega arith;
  within = new.within;
  before = λ l above below leads. elim (cases_lt l x) [
    | inl earlier ↦ set_true flags x l within (old.before l (omega arith) earlier leads)
    | inr later ↦ new.before l later below leads
  ];
  leads = new.leads;
  not_placed = new.not_placed;
}

-- what placing the next link keeps, where the links that are watched are right
module _ (links : List Link) (nodes : ℕ) (old new : Placing) (x : ℕ) (state : IsPlacing links nodes old) (found : next_link links old.order.items ≡ Some x)
    (room : length old.order.items < length links) (order : new.order.items ≡ old.order.items ++ x ∷ []) (flags : new.placed.items ≡ slice_set old.placed.items x true) where
  marked_more : (l : ℕ) → l < length links → slice_index_or (slice_set old.placed.items x true) l false ≡ is_among (old.order.items ++ x ∷ []) l
  marked_more l within =
      let inside : x < length old.placed.items = omega (arith, state.flags, (next_link-ready links old.order.items x found).0) in
      elim (cases_eq l x) [
        | inl same ↦
            let At : ℕ → Type 0 = λ n. slice_index_or (slice_set old.placed.items x true) n false ≡ is_among (old.order.items ++ x ∷ []) n in
            subst At (sym same) (get_or-set_same old.placed.items x true false inside ∙ sym (is_among-append old.order.items x x ∙ or_right _ _ (eq-eqb x x refl)))
        | inr other ↦
            get_or-set_other old.placed.items x l true false other ∙ state.marked l within
            ∙ sym (is_among-append_other old.order.items x l other)
      ]

  pub placing_more : length new.into.items ≡ nodes → ((node : ℕ) → node < nodes → IsNextInto links new.placed.items node 0 (slice_index new.into.items node)) → IsPlacing links nodes new
  placing_more watched next =
      let ready = next_link-ready links old.order.items x found in
      let From : List ℕ → Type 0 = λ placed. order_from links (length links - length placed) placed ≡ order_of links in
      let Marked : List Bool → List ℕ → Type 0 = λ flags placed. (l : ℕ) → l < length links → slice_index_or flags l false ≡ is_among placed l in
      record {
        begins = subst From (sym order) (sym (order_from-step links old.order.items x room found) ∙ state.begins);
        sound = subst (IsPlaced links) (sym order) (IsPlaced-append links old.order.items x state.sound ready.0 ready.1);
        flags = ap length flags ∙ length-set old.placed.items x true ∙ state.flags;
        marked = subst (λ placed. Marked new.placed.items placed) (sym order) (subst (λ flags. Marked flags (old.order.items ++ x ∷ [])) (sym flags) marked_more);
        watched = watched;
        next = next;
      }

  -- where the link wasn't watched at its head
  pub placing_kept : (into : ℕ) → new.into.items ≡ old.into.items → head_of links x < nodes → into ≡ slice_index_or old.into.items (head_of links x) into → into ≢ x → IsPlacing links nodes new
  placing_kept into same below read other =
      let within = (next_link-ready links old.order.items x found).0 in
      let inside : x < length old.placed.items = omega (arith, state.flags, within) in
      let at : head_of links x < length old.into.items = omega (arith, state.watched) in
      let is : into ≡ slice_index old.into.items (head_of links x) = get_or_read old.into.items (head_of links x) into at read 0 in
      let Next : List Bool → List ℕ → Type 0 = λ flags watched. (node : ℕ) → node < nodes → IsNextInto links flags node 0 (slice_index watched node) in
      let kept : Next (slice_set old.placed.items x true) old.into.items = λ node here.
      let next = state.next node here in
      next_kept links old.placed.items node (slice_index old.into.items node) x inside
      (λ hit. other (is ∙ ap (λ n. slice_index old.into.items n) (ap (head_of links) (sym hit) ∙ next.leads (omega arith)) ∙ hit)) next in
      placing_more (ap length same ∙ state.watched) (subst (λ watched. Next new.placed.items watched) (sym same) (subst (λ flags. Next flags old.into.items) (sym flags) kept))

  -- where it was, and the next was found
  pub placing_moved : (into node r : ℕ) → node ≡ head_of links x → node < nodes → into ≡ slice_index_or old.into.items node into → into ≡ x
      → IsNextInto links (slice_set old.placed.items x true) node x r → new.into.items ≡ slice_set old.into.items node r → IsPlacing links nodes new
  placing_moved into node r leads below read hit next put =
      let within = (next_link-ready links old.order.items x found).0 in
      let inside : x < length old.placed.items = omega (arith, state.flags, within) in
      let at : node < length old.into.items = omega (arith, state.watched) in
      let is : into ≡ slice_index old.into.items node = get_or_read old.into.items node into at read 0 in
      let Next : List Bool → List ℕ → Type 0 = λ flags watched. (n : ℕ) → n < nodes → IsNextInto links flags n 0 (slice_index watched n) in
      let At : ℕ → ℕ → Type 0 = λ n r. IsNextInto links (slice_set old.placed.items x true) n 0 r in
      let Was : ℕ → Type 0 = λ r. IsNextInto links old.placed.items node 0 r in
      let moved : Next (slice_set old.placed.items x true) (slice_set old.into.items node r) = λ n here. elim (cases_eq n node) [
        | inl same ↦
            subst (λ m. At m (slice_index (slice_set old.into.items node r) m)) (sym same)
            (subst (At node) (sym (get_or-set_same old.into.items node r 0 at)) (next_moved links old.placed.items node r x inside (subst Was (sym is ∙ hit) (state.next node below)) next))
        | inr other ↦
            let was = state.next n here in
            subst (At n) (sym (get_or-set_other old.into.items node n r 0 other))
            (next_kept links old.placed.items n (slice_index old.into.items n) x inside
            (λ same. other (sym (was.leads (omega arith)) ∙ ap (head_of links) same ∙ sym leads)) was)
      ] in
      placing_more (ap length put ∙ length-set old.into.items node r ∙ state.watched)
      (subst (λ watched. Next new.placed.items watched) (sym put) (subst (λ flags. Next flags (slice_set old.into.items node r)) (sym flags) moved))

-- nothing placed
pub placing_none : (links : List Link) (nodes : ℕ) (placing : Placing) → placing.order.items ≡ [] → placing.placed.items ≡ replicate (length links) false → length placing.into.items ≡ nodes
    → ((node : ℕ) → node < nodes → IsNextInto links placing.placed.items node 0 (slice_index placing.into.items node)) → IsPlacing links nodes placing
placing_none links nodes placing none unset watched next =
    let From : List ℕ → Type 0 = λ placed. order_from links (length links - length placed) placed ≡ order_of links in
    let left : length links - length {A = ℕ} [] ≡ length links = omega arith in
    record {
      begins = subst From (sym none) (ap (λ n. order_from links n []) left);
      sound = subst (IsPlaced links) (sym none) (IsPlaced-none links);
      flags = ap length unset ∙ length-replicate (length links) false;
      marked = λ l within. ap (λ flags. slice_index_or flags l false) unset ∙ get_or-replicate (length links) l false false within ∙ sym (ap (λ placed. is_among placed l) none);
      watched = watched;
      next = next;
    }

-- where nothing is placed, the first links into nodes are watched
pub firsts_watched : (links : List Link) (nodes : ℕ) (firsts : List ℕ) (flags : List Bool) → flags ≡ replicate (length links) false → AreFirsts (head_of links) (length links) nodes 0 firsts
    → (node : ℕ) → node < nodes → IsNextInto links flags node 0 (slice_index firsts node)
firsts_watched links nodes firsts flags unset are node below =
    let at = are.first node below in
    record {
      not_before = omega arith;
      within = at.within;
      before = λ l above inside leads. absurd (at.before l above inside leads);
      leads = at.ends;
      not_placed = λ inside. ap (λ some. slice_index_or some (slice_index firsts node) false) unset ∙ get_or-replicate (length links) (slice_index firsts node) false false inside;
    }
