-- Laws of the heads of links: which node a link leads into, and that links in order lead into no earlier tail.
use Rattle.std.specs.Prelude.{◌≡◌, ◌≢◌, ◌<◌, ◌≤◌, ℕ, zero, suc, true, false, List, [], ◌∷◌, length}
use Rattle.std.proofs.Common.{arith, sym}
use Rattle.std.proofs.lemmas.Bool.{and_parts, eq-eqb, eqb-false, eqb-true, false≢true, not-true, or_parts}
use Rattle.net_model.specs.Lists.{is_among}
use Rattle.net_model.specs.Walks.{head_of, tail_of}
use Rattle.net_model.specs.declared.Link.{Link}
use Rattle.node_program.specs.Code.{are_in_order, leads_into}

-- a link that leads into a node has it for its head
pub head_of-leads_into : (links : List Link) (node link : ℕ) → leads_into links node link ≡ true → head_of links link ≡ node
head_of-leads_into [] node link into = absurd (false≢true into)
head_of-leads_into (first ∷ links) node zero into = eqb-true first.head node into
head_of-leads_into (first ∷ links) node (suc link) into = head_of-leads_into links node link into

-- and one of the links leads into its head
pub leads_into-head_of : (links : List Link) (node link : ℕ) → link < length links → head_of links link ≡ node → leads_into links node link ≡ true
leads_into-head_of [] node link within head = absurd (omega arith)
leads_into-head_of (first ∷ links) node zero within head = eq-eqb first.head node head
leads_into-head_of (first ∷ links) node (suc link) within head = leads_into-head_of links node link (omega arith) head

-- no link of an order leads into a tail that was before it
none_behind : (tails : List ℕ) (links : List Link) → are_in_order tails links ≡ true → (j : ℕ) → j < length links → is_among tails (head_of links j) ≡ false
none_behind tails [] order j within = absurd (omega arith)
none_behind tails (link ∷ links) order zero within = (or_parts _ _ (not-true _ (and_parts _ _ order).0)).1
none_behind tails (link ∷ links) order (suc j) within = (or_parts _ _ (none_behind (link.tail ∷ tails) links (and_parts _ _ order).1 j (omega arith))).1

-- behind any tails, no link's head is the tail of it or of an earlier link
pub apart_behind : (tails : List ℕ) (links : List Link) → are_in_order tails links ≡ true → (i j : ℕ) → i ≤ j → j < length links → head_of links j ≢ tail_of links i
apart_behind tails [] order i j before within = absurd (omega arith)
apart_behind tails (link ∷ links) order zero zero before within = λ same. eqb-false _ _ (or_parts _ _ (not-true _ (and_parts _ _ order).0)).0 (sym same)
apart_behind tails (link ∷ links) order zero (suc j) before within =
    λ same. eqb-false _ _ (or_parts _ _ (none_behind (link.tail ∷ tails) links (and_parts _ _ order).1 j (omega arith))).0 (sym same)
apart_behind tails (link ∷ links) order (suc i) zero before within = absurd (omega arith)
apart_behind tails (link ∷ links) order (suc i) (suc j) before within = apart_behind (link.tail ∷ tails) links (and_parts _ _ order).1 i j (omega arith) (omega arith)
