-- Chains grow by one link, from the last link on.
use Rattle.std.specs.Prelude.{◌≡◌, ◌≢◌, ◌<◌, ◌+◌, ℕ, List, length, slice_index, slice_index_or, slice_set}
use Rattle.std.proofs.Common.{refl, sym, ◌∙◌, ap, subst, arith, inl, inr}
use Rattle.std.proofs.lemmas.Bool.{cases_eq}
use Rattle.std.proofs.lemmas.List.{length-set, get_or-set_other, get_or-set_same, get_or_read}
use Rattle.link_chains.specs.Chains.{IsNextAt, AreFirsts, AreNexts}

-- the next link at a node, one number earlier
earlier_other : (end : ℕ → ℕ) (count node low next : ℕ) → end low ≢ node → IsNextAt end count node (low + 1) next → IsNextAt end count node low next
earlier_other end count node low next other at = record {
  not_before = omega (arith, at.not_before);
  within = at.within;
  before = λ l above below. elim (cases_eq l low) [
    | inl same ↦ λ ends. other (ap end (sym same) ∙ ends)
    | inr apart ↦ at.before l (omega arith) below
  ];
  ends = at.ends;
}

earlier_same : (end : ℕ → ℕ) (count low : ℕ) → low < count → IsNextAt end count (end low) low low
earlier_same end count low within = record { not_before = omega arith; within = omega arith; before = λ l above below. absurd (omega arith); ends = λ inside. refl }

-- one link more, from the last on
pub firsts_more : (end : ℕ → ℕ) (count nodes low node : ℕ) (firsts : List ℕ) → node ≡ end low → node < nodes → low < count → AreFirsts end count nodes (low + 1) firsts
    → AreFirsts end count nodes low (slice_set firsts node low)
firsts_more end count nodes low node firsts is below within at =
    let inside : node < length firsts = omega (arith, at.each_node) in
    record {
      each_node = length-set firsts node low ∙ at.each_node;
      first = λ n here. elim (cases_eq n node) [
        | inl same ↦
            let Next : ℕ → Type 0 = λ r. IsNextAt end count n low r in
            let Node : ℕ → Type 0 = λ m. IsNextAt end count m low low in
            subst Next (sym (ap (λ m. slice_index (slice_set firsts node low) m) same ∙ get_or-set_same firsts node low 0 inside))
            (subst Node (sym (same ∙ is)) (earlier_same end count low within))
        | inr other ↦
            let Next : ℕ → Type 0 = λ r. IsNextAt end count n low r in
            subst Next (sym (get_or-set_other firsts node n low 0 other))
            (earlier_other end count n low (slice_index firsts n) (λ ends. other (sym ends ∙ sym is)) (at.first n here))
      ];
    }

pub nexts_more : (end : ℕ → ℕ) (count nodes low node next : ℕ) (firsts nexts : List ℕ) → node ≡ end low → node < nodes → low < count → AreFirsts end count nodes (low + 1) firsts
    → next ≡ slice_index_or firsts node next → AreNexts end count (low + 1) nexts → AreNexts end count low (slice_set nexts low next)
nexts_more end count nodes low node next firsts nexts is below within first read at =
    let inside : node < length firsts = omega (arith, first.each_node) in
    let place : low < length nexts = omega (arith, at.each_link) in
    record {
      each_link = length-set nexts low next ∙ at.each_link;
      next = λ l above here. elim (cases_eq l low) [
        | inl same ↦
            let Next : ℕ → Type 0 = λ r. IsNextAt end count (end l) (l + 1) r in
            let Link : ℕ → Type 0 = λ m. IsNextAt end count (end m) (m + 1) next in
            let Node : ℕ → Type 0 = λ m. IsNextAt end count m (low + 1) next in
            let First : ℕ → Type 0 = λ r. IsNextAt end count node (low + 1) r in
            subst Next (sym (ap (λ m. slice_index (slice_set nexts low next) m) same ∙ get_or-set_same nexts low next 0 place))
            (subst Link (sym same) (subst Node is (subst First (sym (get_or_read firsts node next inside read 0)) (first.first node below))))
        | inr other ↦
            let Next : ℕ → Type 0 = λ r. IsNextAt end count (end l) (l + 1) r in
            subst Next (sym (get_or-set_other nexts low l next 0 other)) (at.next l (omega arith) here)
      ];
    }
