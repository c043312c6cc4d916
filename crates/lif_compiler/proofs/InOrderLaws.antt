-- Laws of links in order: the order of an acyclic network puts them so, and walks over them rise.
use Rattle.std.specs.Prelude.{◌≡◌, ◌≢◌, ◌<◌, ◌≤◌, ℕ, suc, Bool, true, false, ◌==◌, nat_eq, nat_lt, IsTrue, List, [], ◌∷◌, length, take, slice_index}
use Rattle.std.specs.List.{IsDistinct}
use Rattle.std.proofs.Common.{refl, sym, ◌∙◌, arith, inl, inr}
use Rattle.std.proofs.lemmas.Bool.{and_from, and_parts, both_ways, cases_lt, lt-ltb, ltb-true, ne_eqb, not_from_false, or_from}
use Rattle.std.proofs.lemmas.List.{get_or-take, get_or_default, length-take-le}
use Rattle.std.proofs.lemmas.List.Elements.{All-from_recursion}
use Rattle.std.proofs.lemmas.List.Folds.{list_any_none}
use Rattle.std.proofs.lemmas.List.Sums.{list_all-from_AllPass}
use Rattle.std.proofs.lemmas.Map.Keys.{IsDistinct-head, IsDistinct-tail, apart_from_distinct}
use Rattle.item_list.proofs.Tests.{list_all-implied}
use Rattle.net_model.proofs.ListLaws.{IsDistinct-from_are_distinct}
use Rattle.net_model.specs.Lists.{are_distinct, is_among, is_rising}
use Rattle.net_model.specs.Renumbering.{HasEachOnce, renumbered_links}
use Rattle.net_model.proofs.RenumberingLaws.{head_of-renumbered, length-renumbered_links, old_number-below, tail_of-renumbered}
use Rattle.net_model.specs.Walks.{IsAcyclic, IsWalk, head_of, tail_of}
use Rattle.net_model.specs.declared.Link.{Link}
use Rattle.node_program.proofs.LinkLaws.{apart_behind}
use Rattle.node_program.specs.Code.{are_in_order}
use Rattle.topo_order.specs.Order.{order_of}
use Rattle.topo_order.proofs.OrderLaws.{IsDistinct-order_of, length-order_of, order_below, order_of-after}

-- and links of which that holds are in order behind tails that none leads into
order_behind : (tails : List ℕ) (links : List Link) → ((j : ℕ) → j < length links → is_among tails (head_of links j) ≡ false)
    → ((i j : ℕ) → i ≤ j → j < length links → head_of links j ≢ tail_of links i) → are_in_order tails links ≡ true
order_behind tails [] none apart = refl
order_behind tails (link ∷ links) none apart =
    and_from _ _
    (not_from_false _ (or_from _ _ (ne_eqb _ _ (λ same. apart 0 0 (omega arith) (omega arith) (sym same))) (none 0 (omega arith))))
    (order_behind (link.tail ∷ tails) links
    (λ j within. or_from _ _ (ne_eqb _ _ (λ same. apart 0 (suc j) (omega arith) (omega arith) (sym same))) (none (suc j) (omega arith)))
    (λ i j before within. apart (suc i) (suc j) (omega arith) (omega arith)))

-- of links in order, none leads into the tail of itself or of an earlier one
pub are_in_order-at : (links : List Link) → IsTrue (are_in_order [] links) → (i j : ℕ) → i ≤ j → j < length links → head_of links j ≢ tail_of links i
are_in_order-at links order = apart_behind [] links order

-- links of which none does are in order
pub are_in_order-from_at : (links : List Link) → ((i j : ℕ) → i ≤ j → j < length links → head_of links j ≢ tail_of links i) → IsTrue (are_in_order [] links)
are_in_order-from_at links apart = order_behind [] links (λ j within. refl) apart

-- distinct items in the words of the library pass the test of `are_distinct`
are_distinct-from_IsDistinct : {X : Type 0} (same : X → X → Bool) (xs : List X) → IsDistinct same xs → are_distinct same xs ≡ true
are_distinct-from_IsDistinct same [] distinct = refl
are_distinct-from_IsDistinct same (x ∷ xs) distinct =
    and_from _ _
    (not_from_false _ (list_any_none (same x) xs (All-from_recursion (λ y. same x y ≡ false) xs (IsDistinct-head same x xs distinct))))
    (are_distinct-from_IsDistinct same xs (IsDistinct-tail same x xs distinct))

-- the order of an acyclic network has the number of each link once
pub HasEachOnce-order_of : (links : List Link) → IsAcyclic links → HasEachOnce (length links) (order_of links)
HasEachOnce-order_of links acyclic = record {
  whole = length-order_of links acyclic;
  below = list_all-from_AllPass (λ number. nat_lt number (length links)) (order_of links) (λ k d within. lt-ltb _ _ (order_below links k d within));
  distinct = are_distinct-from_IsDistinct nat_eq (order_of links) (IsDistinct-order_of links);
}

-- a number of a list of distinct ones isn't among those before its place
new_at : (order : List ℕ) (i j : ℕ) → IsDistinct nat_eq order → i ≤ j → j < length order → is_among (take i order) (slice_index order j) ≡ false
new_at order i j distinct most within =
    list_any_none (λ one. one == slice_index order j) (take i order) (λ k d inside.
    let size : length (take i order) ≡ i = let shorter : i ≤ length order = omega arith in length-take-le i order shorter in
    let before : k < i = omega arith in
    rw (get_or-take i order k d before, get_or_default order k d 0 (omega arith)) (apart_from_distinct nat_eq order k j 0 distinct (omega arith) within))

-- links are in order where each has its place once, after all links into its tail
in_order_from_after : (links : List Link) (order : List ℕ) → HasEachOnce (length links) order
    → ((place l : ℕ) → place < length order → l < length links → head_of links l ≡ tail_of links (slice_index order place) → is_among (take place order) l ≡ true)
    → are_in_order [] (renumbered_links links order) ≡ true
in_order_from_after links order once after =
    are_in_order-from_at (renumbered_links links order) (λ i j before within same.
    let last : j < length order = omega (arith, length-renumbered_links links once, once.whole) in
    let first : i < length order = omega arith in
    let leads = sym (head_of-renumbered links once j last) ∙ same ∙ tail_of-renumbered links once i first in
    both_ways _
    (new_at order i j (IsDistinct-from_are_distinct nat_eq order once.distinct) before last)
    (after i (slice_index order j) first (old_number-below once j last) leads))

-- in the order of an acyclic network the links are in order
pub are_in_order-renumbered : (links : List Link) → IsAcyclic links → IsTrue (are_in_order [] (renumbered_links links (order_of links)))
are_in_order-renumbered links acyclic = in_order_from_after links (order_of links) (HasEachOnce-order_of links acyclic) (order_of-after links)

-- a walk over links in order goes over rising numbers
pub is_rising-walk : (links : List Link) (path : List ℕ) → IsTrue (are_in_order [] links) → IsWalk links path → IsTrue (is_rising path)
is_rising-walk links [] order is = refl
is_rising-walk links (link ∷ []) order is = refl
is_rising-walk links (link ∷ next ∷ path) order is =
    let rest = is_rising-walk links (next ∷ path) order is.2 in
    let above : link < next = elim (cases_lt link next) [
      | inl above ↦ above
      | inr below ↦ absurd (are_in_order-at links order next link below is.0 (sym is.1))
    ] in
    and_from _ _
    (and_from _ _ (lt-ltb link next above)
    (list_all-implied (nat_lt next) (nat_lt link) path (λ later after. let more = ltb-true next later after in lt-ltb link later (omega arith)) (and_parts _ _ rest).0))
    rest
