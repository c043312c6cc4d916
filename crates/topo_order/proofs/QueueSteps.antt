-- What the queue has, as links are placed.
use Rattle.std.specs.Prelude.{◌≡◌, ◌≢◌, ◌<◌, ◌≤◌, ◌+◌, ℕ, Bool, true, false, not, ◌&&◌, ◌||◌, ◌==◌, cond, List, [], ◌∷◌, ◌++◌, length, Some, None}
use Rattle.std.specs.List.{list_any}
use Rattle.std.specs.BTreeMap.{is_at}
use Rattle.std.specs.Cmp.{both_ways as same_truth}
use Rattle.std.specs.Ordering.{nat_cmp, is_eq, is_gt}
use Rattle.std.proofs.Common.{refl, sym, ◌∙◌, ap, subst, arith, inl, inr}
use Rattle.std.proofs.lemmas.Bool.{and_from, and_left, and_right, or_right, eq-eqb, ne_eqb, lt-ltb, le-ltb, not_from_true, not_from_false, cases_lt, cases_eq, cases_order, both_ways, false_from_ne_true}
use Rattle.std.proofs.Math.Bool.{or-false}
use Rattle.net_model.specs.Lists.{is_among}
use Rattle.net_model.specs.Walks.{head_of, tail_of}
use Rattle.net_model.specs.declared.Link.{Link}
use Rattle.topo_order.specs.Order.{is_reached, is_ready, next_link, IsPlaced}
use Rattle.topo_order.proofs.OrderLaws.{is_among-append, is_among-append_other, is_reached-append, reached_from, reached_at, next_link-first, next_link-none, ready_parts}
use Rattle.topo_order.specs.Queue.{AreReady, HasLeaving}

-- what the comparison of numbers says
pub nat_cmp_same : (k q : ℕ) → is_eq (nat_cmp k q) ≡ (k == q)
nat_cmp_same k q = elim (cases_order k q) [
  | inl same ↦ rw (le-ltb k q (omega arith), eq-eqb k q same) refl
  | inr (inl less) ↦ rw (lt-ltb k q less, ne_eqb k q (λ same. omega arith)) refl
  | inr (inr more) ↦ rw (le-ltb k q (omega arith), ne_eqb k q (λ same. omega arith)) refl
]

not_above : (k q : ℕ) → is_gt (nat_cmp k q) ≡ false → k ≤ q
not_above k q at = elim (cases_lt q k) [
  | inl less ↦ absurd (both_ways _ at (rw (le-ltb k q (omega arith), ne_eqb k q (λ same. omega arith)) refl))
  | inr most ↦ most
]

-- the first link of a queue is the next one
pub first_is_next : (links : List Link) (placed : List ℕ) (has : ℕ → Bool) (x : ℕ) → AreReady links placed (length links) has → has x ≡ true → ((q : ℕ) → has q ≡ true → is_gt (nat_cmp x q) ≡ false)
    → next_link links placed ≡ Some x
first_is_next links placed has x are is least =
    let within = are.below x is in
    next_link-first links placed x within (sym (are.each x within) ∙ is)
    (λ l before. sym (are.each l (omega arith)) ∙ false_from_ne_true (has l) (λ there. let low = not_above x l (least l there) in omega arith))

-- where it has none, there is none
pub none_is_next : (links : List Link) (placed : List ℕ) (has : ℕ → Bool) → AreReady links placed (length links) has → ((q : ℕ) → has q ≡ false) → next_link links placed ≡ None
none_is_next links placed has are none = next_link-none links placed (λ l within. sym (are.each l within) ∙ none l)

-- a link more, as it may be placed or not
pub ready_more : (links : List Link) (placed : List ℕ) (link : ℕ) (old new : ℕ → Bool) → AreReady links placed link old → is_ready links placed link ≡ true
    → ((q : ℕ) → new q ≡ cond (is_eq (nat_cmp link q)) true (old q)) → AreReady links placed (link + 1) new
ready_more links placed link old new are ready added = record {
  below = λ l there. elim (cases_eq link l) [
    | inl same ↦ omega arith
    | inr other ↦ let before = are.below l (sym (added l ∙ rw (nat_cmp_same link l, ne_eqb link l other) refl) ∙ there) in omega arith
  ];
  each = λ l within. elim (cases_eq link l) [
    | inl same ↦ added l ∙ rw (nat_cmp_same link l, eq-eqb link l same) (sym (ap (is_ready links placed) (sym same) ∙ ready))
    | inr other ↦ added l ∙ rw (nat_cmp_same link l, ne_eqb link l other) (are.each l (omega arith))
  ];
}

pub ready_skip : (links : List Link) (placed : List ℕ) (link : ℕ) (has : ℕ → Bool) → AreReady links placed link has → is_ready links placed link ≡ false → AreReady links placed (link + 1) has
ready_skip links placed link has are blocked = record {
  below = λ l there. let before = are.below l there in omega arith;
  each = λ l within. elim (cases_eq l link) [
    | inl same ↦ false_from_ne_true (has l) (λ there. let before = are.below l there in omega arith) ∙ sym (ap (is_ready links placed) same ∙ blocked)
    | inr other ↦ are.each l (omega arith)
  ];
}

-- what may be placed once a link was
module _ (links : List Link) (placed : List ℕ) (x : ℕ) (sound : IsPlaced links placed) (within : x < length links) (ready : is_ready links placed x ≡ true) where
  fresh : is_among placed x ≡ false
  fresh = (ready_parts links placed x ready).0

  among_other : (l : ℕ) → l ≢ x → is_among (placed ++ x ∷ []) l ≡ is_among placed l
  among_other = is_among-append_other placed x

  reached_other : (node : ℕ) → node ≢ head_of links x → is_reached links (placed ++ x ∷ []) node ≡ is_reached links placed node
  reached_other node other = same_truth _ _
      (λ new. reached_from links placed node (λ l inside leads. sym (among_other l (λ same. other (sym leads ∙ ap (head_of links) same))) ∙ reached_at links (placed ++ x ∷ []) node new l inside leads))
      (is_reached-append links placed x node)

  ready_self : is_ready links (placed ++ x ∷ []) x ≡ false
  ready_self = and_left _ _ (not_from_true _ (is_among-append placed x x ∙ or_right _ _ (eq-eqb x x refl)))

  ready_other : (l : ℕ) → l ≢ x → tail_of links l ≢ head_of links x → is_ready links (placed ++ x ∷ []) l ≡ is_ready links placed l
  ready_other l other apart =
      ap (λ a. not a && is_reached links (placed ++ x ∷ []) (tail_of links l)) (among_other l other)
      ∙ ap (λ r. not (is_among placed l) && r) (reached_other (tail_of links l) apart)

  ready_before : (l : ℕ) → tail_of links l ≡ head_of links x → is_ready links placed l ≡ false
  ready_before l leaves = and_right _ _ (false_from_ne_true _ (λ reached. both_ways (is_among placed x) fresh (reached_at links placed (tail_of links l) reached x within (sym leaves))))

  not_self : (l : ℕ) → tail_of links l ≡ head_of links x → l ≢ x
  not_self l leaves same = both_ways _ (ready_before x (ap (tail_of links) (sym same) ∙ leaves)) ready

  ready_after : is_reached links (placed ++ x ∷ []) (head_of links x) ≡ true → (l : ℕ) → tail_of links l ≡ head_of links x → is_ready links (placed ++ x ∷ []) l ≡ true
  ready_after reached l leaves =
      let Reached : ℕ → Type 0 = λ n. is_reached links (placed ++ x ∷ []) n ≡ true in
      and_from _ _ (not_from_false _ (among_other l (not_self l leaves) ∙ false_from_ne_true _ (λ there.
      both_ways (is_among placed x) fresh (reached_at links placed (tail_of links l) (sound.reached l there) x within (sym leaves)))))
      (subst Reached (sym leaves) reached)

  module _ (old popped : ℕ → Bool) (are : AreReady links placed (length links) old) (removed : (q : ℕ) → popped q ≡ cond (is_eq (nat_cmp x q)) false (old q)) where
    popped_self : popped x ≡ false
    popped_self = removed x ∙ rw (nat_cmp_same x x, eq-eqb x x refl) refl

    popped_other : (l : ℕ) → l ≢ x → popped l ≡ old l
    popped_other l other = removed l ∙ rw (nat_cmp_same x l, ne_eqb x l (λ same. other (sym same))) refl

    popped_below : (l : ℕ) → popped l ≡ true → l < length links
    popped_below l there = elim (cases_eq l x) [
      | inl same ↦ omega arith
      | inr other ↦ are.below l (sym (popped_other l other) ∙ there)
    ]

    popped_apart : (l : ℕ) → l < length links → tail_of links l ≢ head_of links x → popped l ≡ is_ready links (placed ++ x ∷ []) l
    popped_apart l inside apart = elim (cases_eq l x) [
      | inl same ↦ ap popped same ∙ popped_self ∙ sym (ap (is_ready links (placed ++ x ∷ [])) same ∙ ready_self)
      | inr other ↦ popped_other l other ∙ are.each l inside ∙ sym (ready_other l other apart)
    ]

    popped_leaving : (l : ℕ) → l < length links → tail_of links l ≡ head_of links x → popped l ≡ false
    popped_leaving l inside leaves = popped_other l (not_self l leaves) ∙ are.each l inside ∙ ready_before l leaves

    -- where its head is not reached yet
    pub ready_kept : is_reached links (placed ++ x ∷ []) (head_of links x) ≡ false → AreReady links (placed ++ x ∷ []) (length links) popped
    ready_kept blocked = record {
      below = popped_below;
      each = λ l inside. elim (cases_eq (tail_of links l) (head_of links x)) [
        | inl leaves ↦ popped_leaving l inside leaves ∙ sym (and_right _ _ (ap (is_reached links (placed ++ x ∷ [])) leaves ∙ blocked))
        | inr apart ↦ popped_apart l inside apart
      ];
    }

    -- where it is, with the links that leave it
    pub ready_joined : (new : ℕ → Bool) → is_reached links (placed ++ x ∷ []) (head_of links x) ≡ true → HasLeaving links (head_of links x) popped new → AreReady links (placed ++ x ∷ []) (length links) new
    ready_joined new reached more = record {
      below = λ l there. elim (more.below l there) [ inl before ↦ popped_below l before | inr inside ↦ inside ];
      each = λ l inside. elim (cases_eq (tail_of links l) (head_of links x)) [
        | inl leaves ↦ more.each l inside ∙ or_right _ _ (eq-eqb _ _ leaves) ∙ sym (ready_after reached l leaves)
        | inr apart ↦ more.each l inside ∙ ap (λ b. popped l || b) (ne_eqb _ _ apart) ∙ or-false (popped l) ∙ popped_apart l inside apart
      ];
    }

-- a set without keys has none
pub none_in_empty : (keys : List ℕ) (q : ℕ) → ¬ (0 < length keys) → list_any (is_at (nat_cmp q)) keys ≡ false
none_in_empty [] q none = refl
none_in_empty (key ∷ keys) q none = absurd (none (omega arith))
