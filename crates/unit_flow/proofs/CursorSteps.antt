-- Cursors into the chains of links that leave each node.
use Rattle.std.specs.Prelude.{◌≡◌, ◌<◌, ℕ, true, false, ◌&&◌, ◌==◌, IsSome, is_some, Some, None, List, length, slice_index, slice_set}
use Rattle.std.proofs.Common.{sym, ◌∙◌, ap, subst, arith, inl, inr}
use Rattle.std.proofs.lemmas.Bool.{and_from, and_parts, both_ways, cases_eq, cases_lt, eq-eqb, eqb-true, false_from_ne_true}
use Rattle.std.proofs.lemmas.List.{length-set, get_or-set_other, get_or-set_same}
use Rattle.item_list.proofs.Ranges.{find_first, find_least, find_nothing}
use Rattle.link_chains.specs.Chains.{AreFirsts, AreNexts}
use Rattle.net_model.specs.Walks.{tail_of}
use Rattle.net_model.specs.declared.Link.{Link}
use Rattle.unit_flow.proofs.ConservationLaws.{is_used-set_other, is_used-set_same, used_leaving_is}
use Rattle.unit_flow.specs.Residual.{is_used}
use Rattle.unit_flow.specs.Decomposition.{used_leaving}
use Rattle.unit_flow.specs.Taking.{AreCursors, IsCursor}
use Rattle.unit_flow.specs.declared.residual.LinkState.{LinkState}
use Rattle.unit_flow.specs.declared.residual.LinkState.TheVariants.{Free}

-- the first link of each chain is one
pub cursors_start : (links : List Link) (nodes : ℕ) (states : List LinkState) (firsts : List ℕ) → AreFirsts (tail_of links) (length links) nodes 0 firsts → AreCursors links nodes states firsts
cursors_start links nodes states firsts are = record {
  each_node = are.each_node;
  cursor = λ node inside.
      let at = are.first node inside in
      record {
        within = at.within;
        leaves = at.ends;
        before = λ l below leaves. absurd (at.before l (omega arith) below leaves);
      };
}

-- a link before a cursor isn't a used one that leaves the node
passed_over : (links : List Link) (states : List LinkState) (node link l : ℕ) → IsCursor links states node link → l < link → (is_used states l && (tail_of links l == node)) ≡ false
passed_over links states node link l cursor below = false_from_ne_true _ (λ leaves.
    let parts = and_parts _ _ leaves in
    both_ways _ (cursor.before l below (eqb-true _ _ parts.1)) parts.0)

-- where some used link leaves the node, a cursor is a link
pub cursor_within : (links : List Link) (states : List LinkState) (node link : ℕ) → IsCursor links states node link → IsSome (used_leaving links states node) → link < length links
cursor_within links states node link cursor some = elim (cases_lt link (length links)) [
  | inl within ↦ within
  | inr beyond ↦
      let none : used_leaving links states node ≡ None = find_nothing (λ l. is_used states l && (tail_of links l == node)) 0 (length links) (λ l above below. passed_over links states node link l cursor (omega arith)) in
      absurd (both_ways _ (ap is_some none) some)
]

-- a used link at a cursor is the least that leaves the node
pub cursor_found : (links : List Link) (states : List LinkState) (node link : ℕ) → IsCursor links states node link → link < length links → is_used states link ≡ true → used_leaving links states node ≡ Some link
cursor_found links states node link cursor within used =
    find_first (λ l. is_used states l && (tail_of links l == node)) 0 (length links) link (omega arith) (omega arith) (and_from _ _ used (eq-eqb _ _ (cursor.leaves within)))
    (λ l above below. passed_over links states node link l cursor below)

-- one that isn't used is passed over
pub cursor_next : (links : List Link) (states : List LinkState) (node link : ℕ) (nexts : List ℕ) → IsCursor links states node link → link < length links → is_used states link ≡ false
    → AreNexts (tail_of links) (length links) 0 nexts → IsCursor links states node (slice_index nexts link)
cursor_next links states node link nexts cursor within unused are =
    let here : tail_of links link ≡ node = cursor.leaves within in
    let at = are.next link (omega arith) within in
    record {
      within = at.within;
      leaves = λ inside. at.ends inside ∙ here;
      before = λ l below leaves. elim (cases_eq l link) [
        | inl same ↦ ap (is_used states) same ∙ unused
        | inr other ↦ elim (cases_lt l link) [
          | inl before ↦ cursor.before l before leaves
          | inr after ↦ absurd (at.before l (omega arith) below (leaves ∙ sym here))
        ]
      ];
    }

-- the least used link that leaves a node becomes free, and is the node's cursor
pub cursors_freed : (links : List Link) (nodes : ℕ) (states : List LinkState) (cursors : List ℕ) (node link : ℕ) → AreCursors links nodes states cursors → length states ≡ length links → node < nodes
    → used_leaving links states node ≡ Some link → AreCursors links nodes (slice_set states link Free) (slice_set cursors node link)
cursors_freed links nodes states cursors node link are whole inside found =
    let is = used_leaving_is links states node link found in
    let place : node < length cursors = omega (arith, are.each_node) in
    record {
      each_node = length-set cursors node link ∙ are.each_node;
      cursor = λ n here. elim (cases_eq n node) [
        | inl same ↦
            let Cursor : ℕ → Type 0 = λ r. IsCursor links (slice_set states link Free) n r in
            let at : IsCursor links (slice_set states link Free) n link = record {
              within = omega (arith, is.0);
              leaves = λ inside. is.2 ∙ sym same;
              before = λ l below leaves. freed l (false_from_ne_true _ (λ used.
                  let passes : (is_used states l && (tail_of links l == node)) ≡ true = and_from _ _ used (eq-eqb _ _ (leaves ∙ same)) in
                  let least = find_least (λ x. is_used states x && (tail_of links x == node)) 0 (length links) link l found (omega arith) (omega (arith, is.0)) passes in
                  absurd (omega arith)));
            } in
            subst Cursor (sym (ap (λ m. slice_index (slice_set cursors node link) m) same ∙ get_or-set_same cursors node link 0 place)) at
        | inr other ↦
            let Cursor : ℕ → Type 0 = λ r. IsCursor links (slice_set states link Free) n r in
            let old = are.cursor n here in
            let at : IsCursor links (slice_set states link Free) n (slice_index cursors n) = record {
              within = old.within;
              leaves = old.leaves;
              before = λ l below leaves. freed l (old.before l below leaves);
            } in
            subst Cursor (sym (get_or-set_other cursors node n link 0 other)) at
      ];
    }
  where
    freed : (l : ℕ) → is_used states l ≡ false → is_used (slice_set states link Free) l ≡ false
    freed l unused = elim (cases_eq l link) [
      | inl same ↦
          let is = used_leaving_is links states node link found in
          ap (is_used (slice_set states link Free)) same ∙ is_used-set_same states link Free (omega (arith, is.0))
      | inr other ↦ is_used-set_other states link l Free other ∙ unused
    ]
