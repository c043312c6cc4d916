-- What the operands of a draft's links read.
use Rattle.std.specs.Prelude.{◌≡◌, ℕ, zero, suc, ◌<◌, Bool, true, false, ◌&&◌, ◌==◌, nat_lt, Option, Some, None, List, [], ◌∷◌, length, slice_get}
use Rattle.std.specs.List.{All, list_all}
use Rattle.std.specs.Option.{option_map_or}
use Rattle.std.proofs.Common.{refl, sym, subst, ◌∙◌, arith}
use Rattle.std.proofs.lemmas.Bool.{false≢true, and_parts, or_parts, or_left, or_right, both_ways, not-true, eqb-true, eqb-false, eq-eqb, ne_eqb, ltb-true}
use Rattle.std.proofs.lemmas.List.Elements.{All-nil, All-cons}
use Rattle.gf_tables.specs.Product.{size_of}
use Rattle.gf_tables.specs.declared.kind.FieldKind.{FieldKind}
use Rattle.net_model.specs.Lists.{is_among}
use Rattle.net_model.specs.declared.Link.{Link}
use Rattle.net_model.specs.declared.net.Net.{Net}
use Rattle.node_program.specs.Code.{IsDraft, leads_into, are_in_order, is_source_of, are_operands, are_operands_of}
use Rattle.node_program.specs.Operands.{IsOperand}
use Rattle.node_program.specs.Value.{operands_at}
use Rattle.node_program.specs.declared.Operand.{Operand}

-- whether the link of a number leads out of a node
abbrev leads_from : List Link → ℕ → ℕ → Bool
leads_from links node link = option_map_or (λ l. l.tail == node) (slice_get links link) false

-- the links after the first are in order behind it
pub order_behind : (tails : List ℕ) (link : Link) (links : List Link) → are_in_order tails (link ∷ links) ≡ true → are_in_order (link.tail ∷ tails) links ≡ true
order_behind tails link links order = (and_parts _ _ order).1

-- no link leads into the tail of an earlier one
none_into : (tails : List ℕ) (links : List Link) (node k : ℕ) → are_in_order tails links ≡ true → is_among tails node ≡ true → leads_into links node k ≡ false
none_into tails [] node k order among = refl
none_into tails (link ∷ links) node zero order among =
    let apart = or_parts _ _ (not-true _ (and_parts _ _ order).0) in
    ne_eqb link.head node (λ e. both_ways _ apart.1 (subst (λ n. is_among tails n ≡ true) (sym e) among))
none_into tails (link ∷ links) node (suc k) order among =
    none_into (link.tail ∷ tails) links node k (order_behind tails link links order) (or_right (link.tail == node) _ among)

-- a link that leads into the tail of another is before it
before_link : (tails : List ℕ) (links : List Link) (node i k : ℕ) → are_in_order tails links ≡ true
    → leads_from links node i ≡ true → leads_into links node k ≡ true → k < i
before_link tails [] node i k order out into = absurd (false≢true out)
before_link tails (link ∷ links) node zero zero order out into =
    let apart = or_parts _ _ (not-true _ (and_parts _ _ order).0) in
    absurd (eqb-false link.tail link.head apart.0 (eqb-true link.tail node out ∙ sym (eqb-true link.head node into)))
before_link tails (link ∷ links) node zero (suc k) order out into =
    absurd (both_ways _ (none_into (link.tail ∷ tails) links node k (order_behind tails link links order) (or_left (link.tail == node) _ out)) into)
before_link tails (link ∷ links) node (suc i) zero order out into = omega arith
before_link tails (link ∷ links) node (suc i) (suc k) order out into =
    let rest : k < i = before_link (link.tail ∷ tails) links node i k (order_behind tails link links order) out into in
    omega arith

-- whether operands fit a link; no operand fits where there is no link
abbrev fits_link : Net → ℕ → FieldKind → Option Link → List Operand → Bool
fits_link net rate field link operands = option_map_or (λ l. are_operands net rate field l operands) link (length operands == 0)

-- the operands of each link fit it
operands_fit : (net : Net) (rate : ℕ) (field : FieldKind) (links : List Link) (operands : List (List Operand)) (link : ℕ)
    → are_operands_of net rate field links operands ≡ true → fits_link net rate field (slice_get links link) (operands_at operands link) ≡ true
operands_fit net rate field [] [] link h = refl
operands_fit net rate field [] (first ∷ operands) link h = absurd (false≢true h)
operands_fit net rate field (l ∷ links) [] link h = absurd (false≢true h)
operands_fit net rate field (l ∷ links) (first ∷ operands) zero h = (and_parts _ _ h).0
operands_fit net rate field (l ∷ links) (first ∷ operands) (suc link) h = operands_fit net rate field links operands link (and_parts _ _ h).1

module _ (net : Net) (rate : ℕ) (field : FieldKind) (link : ℕ) (order : are_in_order [] net.links ≡ true) where
  -- one operand of a link
  is_operand : (l : Link) (operand : Operand) → slice_get net.links link ≡ Some l
      → (is_source_of net rate l operand.from && nat_lt 0 operand.times && nat_lt operand.times (size_of field)) ≡ true
      → IsOperand net rate field link operand
  is_operand l operand at_link h =
      let upper = and_parts (is_source_of net rate l operand.from && nat_lt 0 operand.times) (nat_lt operand.times (size_of field)) h in
      let lower = and_parts (is_source_of net rate l operand.from) (nat_lt 0 operand.times) upper.0 in
      let out : leads_from net.links l.tail link ≡ true = rw at_link (eq-eqb l.tail l.tail refl) in
      record {
        coefficient = ltb-true operand.times (size_of field) upper.1;
        nonzero = ltb-true 0 operand.times lower.1;
        source_row = λ leaves.
            let here : (l.tail == net.source) ≡ true = rw at_link at leaves in
            let row : nat_lt operand.from rate ≡ true = rw here at lower.0 in
            ltb-true operand.from rate row;
        earlier_link = λ leaves.
            let here : (l.tail == net.source) ≡ false = rw at_link at leaves in
            let into : leads_into net.links l.tail operand.from ≡ true = rw here at lower.0 in
            before_link [] net.links l.tail link operand.from order out into;
      }

  -- all of them
  each_operand : (l : Link) (operands : List Operand) → slice_get net.links link ≡ Some l
      → list_all (λ operand. is_source_of net rate l operand.from && nat_lt 0 operand.times && nat_lt operand.times (size_of field)) operands ≡ true
      → All (IsOperand net rate field link) operands
  each_operand l [] at_link h = All-nil (IsOperand net rate field link)
  each_operand l (operand ∷ operands) at_link h =
      let parts = and_parts _ _ h in
      All-cons (IsOperand net rate field link) operand operands (is_operand l operand at_link parts.0) (each_operand l operands at_link parts.1)

  -- those that fit a link
  fitting_operands : (l : Option Link) (operands : List Operand) → slice_get net.links link ≡ l → fits_link net rate field l operands ≡ true
      → All (IsOperand net rate field link) operands
  fitting_operands None [] at_link h = All-nil (IsOperand net rate field link)
  fitting_operands None (operand ∷ operands) at_link h = absurd (omega (arith, eqb-true (length (operand ∷ operands)) 0 h))
  fitting_operands (Some l) operands at_link h = each_operand l operands at_link (and_parts _ _ h).1

-- the operands of each link of a draft
pub operands_of_draft : {net : Net} {rate : ℕ} {field : FieldKind} {operands : List (List Operand)} → IsDraft net rate field operands
    → (link : ℕ) → All (IsOperand net rate field link) (operands_at operands link)
operands_of_draft {net} {rate} {field} {operands} draft link =
    fitting_operands net rate field link draft.link_order (slice_get net.links link) (operands_at operands link) refl
    (operands_fit net rate field net.links operands link draft.link_operands)
