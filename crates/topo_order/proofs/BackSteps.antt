-- Going back from a link that isn't placed, where none may be placed next.
use Rattle.std.specs.Prelude.{◌≡◌, ◌≢◌, ◌<◌, ◌≤◌, ◌+◌, ◌-◌, ℕ, true, false, List, [], ◌∷◌, ◌++◌, length, drop, slice_index, slice_index_or, slice_set, None}
use Rattle.std.proofs.Common.{refl, sym, ◌∙◌, ap, subst, arith, inl, inr}
use Rattle.std.proofs.lemmas.Bool.{both_ways, cases_eq}
use Rattle.std.proofs.lemmas.List.{length-append, length-set, length-drop, get_or-set_other, get_or-set_same, get_or-drop}
use Rattle.std.proofs.Math.ListN.{get_or-append}
use Rattle.std.proofs.Math.Seq.{get_or-append_seam}
use Rattle.net_model.specs.Walks.{head_of, tail_of}
use Rattle.net_model.specs.declared.Link.{Link}
use Rattle.topo_order.specs.GoingBack.{IsTurn}
use Rattle.topo_order.specs.Order.{next_link}
use Rattle.topo_order.proofs.OrderLaws.{next_link-stuck, length-whole}
use Rattle.topo_order.specs.Placing.{IsPlacing}
use Rattle.topo_order.specs.declared.placing.Placing.{Placing}
use Rattle.topo_order.proofs.PlacingSteps.{ready, next_read}

-- some link isn't placed
pub some_unplaced : (links : List Link) (nodes : ℕ) (placing : Placing) → IsPlacing links nodes placing → length placing.order.items < length links
    → ((l : ℕ) → l < length links → slice_index_or placing.placed.items l false ≡ true) → ⊥
some_unplaced links nodes placing state some all =
    let whole = length-whole links placing.order.items (λ l within. sym (state.marked l within) ∙ all l within) in
    omega (arith, whole)

-- a link that isn't placed leads into the tail of one that isn't
pub unplaced_before : (links : List Link) (nodes : ℕ) (placing : Placing) → IsPlacing links nodes placing → next_link links placing.order.items ≡ None → (l : ℕ) → l < length links
    → slice_index_or placing.placed.items l false ≡ false → (node into : ℕ) → node ≡ tail_of links l → node < nodes → into ≡ slice_index_or placing.into.items node into
    → (into < length links) × (slice_index_or placing.placed.items into false ≡ false) × (head_of links into ≡ tail_of links l)
unplaced_before links nodes placing state stuck l within unplaced node into leaves below read =
    let next = next_read links nodes placing state l within node into leaves below read in
    let some : into ≢ length links = λ all. both_ways _ (next_link-stuck links placing.order.items stuck l within)
    (ready links nodes placing state l within node into leaves below read false (sym unplaced) refl all) in
    let inside : into < length links = omega (arith, next.within) in
    (inside, next.not_placed inside, next.leads inside)

-- links, each into the tail of the one before, and for each node the place after that of the link among all but the last that leaves it, or 0
pub record IsPathBack (links : List Link) (nodes : ℕ) (path seen : List ℕ) (link : ℕ) : Type 0 where
  pub some : 0 < length path
  pub last : slice_index path (length path - 1) ≡ link
  pub within : (k : ℕ) → k < length path → slice_index path k < length links
  pub back : (k : ℕ) → k + 1 < length path → head_of links (slice_index path (k + 1)) ≡ tail_of links (slice_index path k)
  pub each_node : length seen ≡ nodes
  pub known : (node : ℕ) → node < nodes → 0 < slice_index seen node → (slice_index seen node < length path) × (tail_of links (slice_index path (slice_index seen node - 1)) ≡ node)
  pub marked : (k : ℕ) → k + 1 < length path → slice_index seen (tail_of links (slice_index path k)) ≡ k + 1

-- and one more
module _ (links : List Link) (nodes : ℕ) (path seen : List ℕ) (link more node : ℕ) (is : IsPathBack links nodes path seen link) (leaves : node ≡ tail_of links link) (below : node < nodes)
    (unseen : slice_index seen node ≡ 0) (within : more < length links) (leads : head_of links more ≡ tail_of links link) where
  before : (k : ℕ) → k < length path → slice_index (path ++ more ∷ []) k ≡ slice_index path k
  before k inside = get_or-append path (more ∷ []) 0 k inside

  here : (k : ℕ) → k ≡ length path → slice_index (path ++ more ∷ []) k ≡ more
  here k end = ap (λ n. slice_index (path ++ more ∷ []) n) end ∙ get_or-append_seam path more [] 0

  within_more : (k : ℕ) → k < length (path ++ more ∷ []) → slice_index (path ++ more ∷ []) k < length links
  within_more k inside =
      let Within : ℕ → Type 0 = λ l. l < length links in
      elim (cases_eq k (length path)) [
        | inl end ↦ subst Within (sym (here k end)) within
        | inr other ↦ let old : k < length path = omega (arith, length-append path (more ∷ [])) in subst Within (sym (before k old)) (is.within k old)
      ]

  back_more : (k : ℕ) → k + 1 < length (path ++ more ∷ []) → head_of links (slice_index (path ++ more ∷ []) (k + 1)) ≡ tail_of links (slice_index (path ++ more ∷ []) k)
  back_more k inside =
      let old : k < length path = omega (arith, length-append path (more ∷ [])) in
      elim (cases_eq (k + 1) (length path)) [
        | inl end ↦
            let was : slice_index path k ≡ link = ap (λ n. slice_index path n) {x = k} {y = length path - 1} (omega arith) ∙ is.last in
            ap (head_of links) (here (k + 1) end) ∙ leads ∙ sym (ap (tail_of links) (before k old ∙ was))
        | inr other ↦
            let next : k + 1 < length path = omega (arith, length-append path (more ∷ [])) in
            ap (head_of links) (before (k + 1) next) ∙ is.back k next ∙ sym (ap (tail_of links) (before k old))
      ]

  known_more : (n : ℕ) → n < nodes → 0 < slice_index (slice_set seen node (length path)) n
      → (slice_index (slice_set seen node (length path)) n < length (path ++ more ∷ [])) × (tail_of links (slice_index (path ++ more ∷ []) (slice_index (slice_set seen node (length path)) n - 1)) ≡ n)
  known_more n inside =
      let Known : ℕ → Type 0 = λ s. 0 < s → (s < length (path ++ more ∷ [])) × (tail_of links (slice_index (path ++ more ∷ []) (s - 1)) ≡ n) in
      let at : node < length seen = omega (arith, is.each_node) in
      elim (cases_eq n node) [
        | inl same ↦
            let stored : slice_index (slice_set seen node (length path)) n ≡ length path = ap (λ m. slice_index (slice_set seen node (length path)) m) same ∙ get_or-set_same seen node (length path) 0 at in
            subst Known (sym stored) (λ some. (
              omega (arith, length-append path (more ∷ [])),
              ap (tail_of links) (before (length path - 1) (omega arith) ∙ is.last) ∙ sym leaves ∙ sym same,
            ))
        | inr other ↦
            subst Known (sym (get_or-set_other seen node n (length path) 0 other)) (λ some.
            let old = is.known n inside some in
            (omega (arith, old.0, length-append path (more ∷ [])), ap (tail_of links) (before (slice_index seen n - 1) (omega (arith, old.0))) ∙ old.1))
      ]

  marked_last : (k : ℕ) → k + 1 ≡ length path → slice_index (slice_set seen node (length path)) (tail_of links (slice_index path k)) ≡ k + 1
  marked_last k end =
      let at : node < length seen = omega (arith, is.each_node) in
      let was : slice_index path k ≡ link = ap (λ n. slice_index path n) {x = k} {y = length path - 1} (omega arith) ∙ is.last in
      ap (λ n. slice_index (slice_set seen node (length path)) n) (ap (tail_of links) was ∙ sym leaves) ∙ get_or-set_same seen node (length path) 0 at ∙ sym end

  marked_before : (k : ℕ) → k + 1 < length path → slice_index (slice_set seen node (length path)) (tail_of links (slice_index path k)) ≡ k + 1
  marked_before k inside =
      let was = is.marked k inside in
      let other : tail_of links (slice_index path k) ≢ node = λ same. let zero : k + 1 ≡ 0 = sym was ∙ ap (λ n. slice_index seen n) same ∙ unseen in omega arith in
      get_or-set_other seen node (tail_of links (slice_index path k)) (length path) 0 other ∙ was

  marked_more : (k : ℕ) → k + 1 < length (path ++ more ∷ []) → slice_index (slice_set seen node (length path)) (tail_of links (slice_index (path ++ more ∷ []) k)) ≡ k + 1
  marked_more k inside =
      let old : k < length path = omega (arith, length-append path (more ∷ [])) in
      ap (λ l. slice_index (slice_set seen node (length path)) (tail_of links l)) (before k old)
      ∙ elim (cases_eq (k + 1) (length path)) [
        | inl end ↦ marked_last k end
        | inr other ↦ marked_before k (omega arith)
      ]

  pub path_more : IsPathBack links nodes (path ++ more ∷ []) (slice_set seen node (length path)) more
  path_more = record {
    some = omega (arith, length-append path (more ∷ []));
    last = here (length (path ++ more ∷ []) - 1) (omega (arith, length-append path (more ∷ [])));
    within = within_more;
    back = back_more;
    each_node = length-set seen node (length path) ∙ is.each_node;
    known = known_more;
    marked = marked_more;
  }

-- the links from the place on at which the last link's tail was left
module _ (links : List Link) (nodes : ℕ) (path seen : List ℕ) (link node from : ℕ) (is : IsPathBack links nodes path seen link) (leaves : node ≡ tail_of links link) (below : node < nodes)
    (at : slice_index seen node ≡ from) (some : 0 < from) where
  from_within : (from < length path) × (tail_of links (slice_index path (from - 1)) ≡ node)
  from_within =
      let Known : ℕ → Type 0 = λ s. (s < length path) × (tail_of links (slice_index path (s - 1)) ≡ node) in
      subst Known at (is.known node below (rw at some))

  pub from_inside : from < length path
  from_inside = from_within.0

  in_turn : (k : ℕ) → slice_index (drop from path) k ≡ slice_index path (from + k)
  in_turn k = get_or-drop from path k 0

  turn_back : (k : ℕ) → k + 1 < length (drop from path) → head_of links (slice_index (drop from path) (k + 1)) ≡ tail_of links (slice_index (drop from path) k)
  turn_back k inside =
      let next : from + k + 1 < length path = omega (arith, length-drop from path) in
      let place : from + (k + 1) ≡ from + k + 1 = omega arith in
      ap (head_of links) (in_turn (k + 1) ∙ ap (λ n. slice_index path n) place) ∙ is.back (from + k) next ∙ sym (ap (tail_of links) (in_turn k))

  turn_closed : head_of links (slice_index (drop from path) 0) ≡ tail_of links (slice_index (drop from path) (length (drop from path) - 1))
  turn_closed =
      let first : from + 0 ≡ from - 1 + 1 = omega arith in
      let inside : from - 1 + 1 < length path = omega (arith, from_inside) in
      let end : from + (length (drop from path) - 1) ≡ length path - 1 = omega (arith, length-drop from path, from_inside) in
      ap (head_of links) (in_turn 0 ∙ ap (λ n. slice_index path n) first) ∙ is.back (from - 1) inside ∙ from_within.1 ∙ leaves
      ∙ sym (ap (tail_of links) (in_turn (length (drop from path) - 1) ∙ ap (λ n. slice_index path n) end ∙ is.last))

  path_once : (a b : ℕ) → from ≤ a → a < b → b < length path → tail_of links (slice_index path a) ≢ tail_of links (slice_index path b)
  path_once a b later before inside same =
      let first : slice_index seen (tail_of links (slice_index path a)) ≡ a + 1 = is.marked a (omega arith) in
      elim (cases_eq (b + 1) (length path)) [
        | inl end ↦
            let last : slice_index path b ≡ link = ap (λ n. slice_index path n) {x = b} {y = length path - 1} (omega arith) ∙ is.last in
            let place : a + 1 ≡ from = sym first ∙ ap (λ n. slice_index seen n) (same ∙ ap (tail_of links) last ∙ sym leaves) ∙ at in
            omega arith
        | inr other ↦
            let place : a + 1 ≡ b + 1 = sym first ∙ ap (λ n. slice_index seen n) same ∙ is.marked b (omega arith) in
            omega arith
      ]

  pub turn_found : IsTurn links (drop from path)
  turn_found = record {
    some = omega (arith, length-drop from path, from_inside);
    within = λ k inside. let old : from + k < length path = omega (arith, length-drop from path) in rw (in_turn k) (is.within (from + k) old);
    back = turn_back;
    closed = turn_closed;
    once = λ i j before inside same. path_once (from + i) (from + j) (omega arith) (omega arith) (omega (arith, length-drop from path))
        (ap (tail_of links) (sym (in_turn i)) ∙ same ∙ ap (tail_of links) (in_turn j));
  }
