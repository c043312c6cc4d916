-- How many pairs of links in order there can be of which one leads into the node that the other leaves.
use Rattle.std.specs.Prelude.{◌≡◌, ◌≢◌, ◌<◌, ◌≤◌, ◌+◌, ◌*◌, ◌-◌, ◌==◌, ℕ, suc, Bool, true, false, cond, List, [], ◌∷◌, length, get_or, count_by}
use Rattle.std.specs.List.{sum_by}
use Rattle.std.proofs.Common.{refl, sym, ap, ◌∙◌, arith, inl, inr}
use Rattle.std.proofs.lemmas.Bool.{cases_eq, cases_lt, eqb-true, ne_eqb}
use Rattle.std.proofs.lemmas.List.Sums.{sum_by-cons}
use Rattle.std.proofs.lemmas.Option.{slice_get-get_or}
use Rattle.item_list.proofs.Tests.{count_by-none, uncounted}
use Rattle.net_model.specs.Walks.{head_of, tail_of}
use Rattle.net_model.specs.declared.Link.{Link}
use Rattle.node_program.proofs.LinkLaws.{apart_behind}
use Rattle.node_program.proofs.OperandLaws.{order_behind}
use Rattle.node_program.specs.Adjacent.{adjacent_count, into_count}
use Rattle.node_program.specs.Code.{are_in_order}

-- how many links leave a node
abbrev out_count : List Link → ℕ → ℕ
out_count links node = count_by (λ link. node == link.tail) links

-- one link more that leads into a node is counted there
pub into_count-cons : (link : Link) (links : List Link) (node : ℕ) → into_count (link ∷ links) node ≡ cond (link.head == node) 1 0 + into_count links node
into_count-cons link links node = sum_by-cons (λ a. cond (a.head == node) 1 0) link links

-- and one that leaves a node is counted there
out_count-cons : (link : Link) (links : List Link) (node : ℕ) → out_count (link ∷ links) node ≡ cond (node == link.tail) 1 0 + out_count links node
out_count-cons link links node = sum_by-cons (λ a. cond (node == a.tail) 1 0) link links

-- no link of an order leads into the first one's tail
none_into_first : (tails : List ℕ) (link : Link) (links : List Link) → are_in_order tails (link ∷ links) ≡ true → into_count (link ∷ links) link.tail ≡ 0
none_into_first tails link links order = count_by-none (λ one. one.head == link.tail) (link ∷ links) none
  where
    none : (k : ℕ) (d : Link) → k < length (link ∷ links) → ((get_or (link ∷ links) k d).head == link.tail) ≡ false
    none k d within =
        let apart : head_of (link ∷ links) k ≢ tail_of (link ∷ links) 0 = apart_behind tails (link ∷ links) order 0 k (omega arith) within in
        ne_eqb _ _ (rw (slice_get-get_or (link ∷ links) k d within) at apart)

-- one link more before some others is adjacent to those of them that leave its head
more_pairs : (link : Link) (links others : List Link)
    → sum_by (λ b. into_count (link ∷ links) b.tail) others ≡ out_count others link.head + sum_by (λ b. into_count links b.tail) others
more_pairs link links [] = refl
more_pairs link links (b ∷ others) =
    omega (
      arith,
      sum_by-cons (λ b. into_count (link ∷ links) b.tail) b others,
      sum_by-cons (λ b. into_count links b.tail) b others,
      into_count-cons link links b.tail,
      out_count-cons b others link.head,
      more_pairs link links others,
    )

-- one link more before all others of an order
adjacent_count-cons : (tails : List ℕ) (link : Link) (links : List Link) → are_in_order tails (link ∷ links) ≡ true
    → adjacent_count (link ∷ links) ≡ out_count links link.head + adjacent_count links
adjacent_count-cons tails link links order =
    omega (arith, sum_by-cons (λ b. into_count (link ∷ links) b.tail) link links, none_into_first tails link links order, more_pairs link links links)

-- a test counts one at most
counted_once : (passed : Bool) → cond passed 1 0 ≤ 1
counted_once true = omega arith
counted_once false = omega arith

-- no link leaves two nodes
apart_tails : (links : List Link) (one other : ℕ) → one ≢ other → out_count links one + out_count links other ≤ length links
apart_tails [] one other apart = omega arith
apart_tails (link ∷ links) one other apart =
    omega (
      arith,
      out_count-cons link links one,
      out_count-cons link links other,
      apart_tails links one other apart,
      here (one == link.tail) (other == link.tail) (λ e f. apart (eqb-true one link.tail e ∙ sym (eqb-true other link.tail f))),
    )
  where
    here : (a b : Bool) → (a ≡ true → b ≡ true → ⊥) → cond a 1 0 + cond b 1 0 ≤ 1
    here true true apart = absurd (apart refl refl)
    here true false apart = omega arith
    here false b apart = omega (arith, counted_once b)

-- some number is at least how many links leave each node, and the pairs are at most that number times how many other links there are
most_out : (tails : List ℕ) (links : List Link) → are_in_order tails links ≡ true
    → (most : ℕ) × ((node : ℕ) → out_count links node ≤ most) × (adjacent_count links + most * most ≤ most * length links)
most_out tails [] order = (0, (λ node. omega arith), omega arith)
most_out tails (link ∷ links) order =
    let (most, widest, few) = most_out (link.tail ∷ tails) links (order_behind tails link links order) in
    let pairs = adjacent_count-cons tails link links order in
    elim (cases_lt (out_count links link.tail) most) [
      | inl fits ↦ (most, still most widest fits, omega (arith, pairs, few, widest link.head))
      | inr over ↦ (
        suc most,
        (λ node. omega (arith, out_count-cons link links node, counted_once (node == link.tail), widest node)),
        omega (arith, pairs, few, apart_tails links link.head link.tail (apart_behind tails (link ∷ links) order 0 0 (omega arith) (omega arith))),
      )
    ]
  where
    still : (most : ℕ) → ((node : ℕ) → out_count links node ≤ most) → out_count links link.tail < most → (node : ℕ) → out_count (link ∷ links) node ≤ most
    still most widest fits node = elim (cases_eq node link.tail) [
      | inl same ↦
          let there : out_count links node < most = rw same fits in
          omega (arith, out_count-cons link links node, counted_once (node == link.tail))
      | inr apart ↦ omega (arith, out_count-cons link links node, uncounted _ (ne_eqb node link.tail apart), widest node)
    ]

-- links in order have at most a fourth of the square of their number as pairs
pub adjacent_count-bound : (links : List Link) → are_in_order [] links ≡ true → 4 * adjacent_count links ≤ length links * length links
adjacent_count-bound links order =
    let (most, widest, few) = most_out [] links order in
    square (length links) most (adjacent_count links) few
  where
    square : (m n few : ℕ) → few + n * n ≤ n * m → 4 * few ≤ m * m
    square m n few within = elim (cases_lt m (2 * n)) [
      | inl less ↦
          let k : ℕ = 2 * n - m in
          let e : m + k ≡ 2 * n = omega arith in
          omega (arith, ap (λ x. x * m) e, ap (λ x. x * n) e, ap (λ x. x * k) e)
      | inr more ↦
          let k : ℕ = m - 2 * n in
          let e : m ≡ 2 * n + k = omega arith in
          omega (arith, ap (λ x. x * m) e, ap (λ x. x * n) e, ap (λ x. x * k) e)
    ]
