-- Laws of drafts: what the compiler gives to later links doesn't change the vectors of the earlier ones.
use Rattle.std.specs.Prelude.{◌≡◌, ℕ, zero, suc, ◌-◌, ◌<◌, ◌≤◌, true, None, Some, List, [], ◌∷◌, ◌++◌, IsTrue, length, map, replicate, slice_get, if◌then◌else◌}
use Rattle.std.specs.List.{All}
use Rattle.std.proofs.Common.{refl, sym, ap, ◌∙◌, subst, arith, get_or, inl, inr}
use Rattle.std.proofs.Math.Seq.{get_or-append_seam}
use Rattle.std.proofs.lemmas.Bool.{cases_Bool, and_parts, and_from}
use Rattle.std.proofs.lemmas.List.{append_assoc, append-nil, length-append, get_or_append_left}
use Rattle.std.proofs.lemmas.Option.{slice_get_within, unwrap_or-slice_get}
use Rattle.item_list.proofs.Maps.{map-agree}
use Rattle.gf_tables.specs.declared.kind.FieldKind.{FieldKind}
use Rattle.net_model.specs.Demands.{demand_count}
use Rattle.net_model.specs.Lists.{is_among}
use Rattle.net_model.specs.declared.Link.{Link}
use Rattle.net_model.specs.declared.net.Net.{Net}
use Rattle.linear_algebra.specs.Rows.{combination, unit_row, zero_row}
use Rattle.node_program.specs.Code.{IsDraft, are_in_order, are_operands, are_operands_of, choice_of}
use Rattle.node_program.proofs.OperandLaws.{operands_of_draft}
use Rattle.node_program.specs.Operands.{IsOperand}
use Rattle.node_program.specs.Value.{width_of, row_at, operands_at, leaves_source, value_within, value, unit_block, global_vector}
use Rattle.node_program.proofs.ValueLaws.{value_from-agree}
use Rattle.node_program.proofs.VectorLaws.{global_vector-equation}
use Rattle.node_program.specs.declared.Operand.{Operand}
use Rattle.lif_compiler.specs.Drafts.{draft_of}

-- no operands fit each link
no_operands : (net : Net) (rate : ℕ) (field : FieldKind) (links : List Link) → are_operands_of net rate field links (replicate (length links) []) ≡ true
no_operands net rate field [] = refl
no_operands net rate field (link ∷ links) = no_operands net rate field links

-- where no link is visited yet, no link has operands, and that is a draft
pub IsDraft-none : (net : Net) (rate : ℕ) (field : FieldKind) → 1 ≤ rate → rate ≤ 32 → demand_count net ≤ 65536 → IsTrue (are_in_order [] net.links) → net.field ≡ choice_of field → net.wanted ≡ None
    → IsDraft net rate field (draft_of (length net.links) [])
IsDraft-none net rate field some low few order named unwanted =
    let whole : length net.links - 0 ≡ length net.links = omega arith in
    record {
      some_rate = some;
      low_rate = low;
      few_demands = few;
      link_order = order;
      link_operands = rw whole (no_operands net rate field net.links);
      named_field = named;
      no_wanted = unwanted;
    }

-- operands that fit the link after the visited ones
next_operands : (net : Net) (rate : ℕ) (field : FieldKind) (links : List Link) (visited others : List (List Operand)) (none operands : List Operand) (link : Link)
    → are_operands_of net rate field links (visited ++ none ∷ others) ≡ true → slice_get links (length visited) ≡ Some link → are_operands net rate field link operands ≡ true
    → are_operands_of net rate field links (visited ++ operands ∷ others) ≡ true
next_operands net rate field [] visited others none operands link are at fits = cc
next_operands net rate field (first ∷ links) [] others none operands link are at fits =
    let here : first ≡ link = cc in
    let fits_here : are_operands net rate field first operands ≡ true = rw here fits in
    and_from _ _ fits_here (and_parts _ _ are).1
next_operands net rate field (first ∷ links) (those ∷ visited) others none operands link are at fits =
    let parts = and_parts _ _ are in
    and_from _ _ parts.0 (next_operands net rate field links visited others none operands link parts.1 at fits)

-- a draft, with the next link apart from the visited ones and the others
before_next : (count : ℕ) (visited : List (List Operand)) (operands : List Operand) → length visited < count
    → draft_of count visited ≡ visited ++ [] ∷ replicate (count - length (visited ++ operands ∷ [])) []
before_next count visited operands below =
    let more : count - length visited ≡ suc (count - length (visited ++ operands ∷ [])) = omega (arith, length-append visited (operands ∷ [])) in
    rw more refl

-- the draft in which the next link has operands, likewise
with_next : (count : ℕ) (visited : List (List Operand)) (operands : List Operand)
    → draft_of count (visited ++ operands ∷ []) ≡ visited ++ operands ∷ replicate (count - length (visited ++ operands ∷ [])) []
with_next count visited operands = append_assoc visited (operands ∷ []) (replicate (count - length (visited ++ operands ∷ [])) [])

-- the next link gets operands that fit it, and that is a draft again
pub IsDraft-more : {net : Net} {rate : ℕ} {field : FieldKind} (visited : List (List Operand)) (operands : List Operand) (link : Link)
    → IsDraft net rate field (draft_of (length net.links) visited) → slice_get net.links (length visited) ≡ Some link → IsTrue (are_operands net rate field link operands)
    → IsDraft net rate field (draft_of (length net.links) (visited ++ operands ∷ []))
IsDraft-more {net} {rate} {field} visited operands link draft at fits =
    let within = slice_get_within net.links (length visited) link at in
    let others = replicate (length net.links - length (visited ++ operands ∷ [])) [] in
    record {
      some_rate = draft.some_rate;
      low_rate = draft.low_rate;
      few_demands = draft.few_demands;
      link_order = draft.link_order;
      link_operands = rw (with_next (length net.links) visited operands)
          (next_operands net rate field net.links visited others [] operands link (rw (before_next (length net.links) visited operands within) at draft.link_operands) at fits);
      named_field = draft.named_field;
      no_wanted = draft.no_wanted;
    }

-- where each link is visited, the draft has their operands
pub draft_of-whole : (count : ℕ) (visited : List (List Operand)) → length visited ≡ count → draft_of count visited ≡ visited
draft_of-whole count visited whole =
    let none : count - length visited ≡ 0 = omega arith in
    rw none (append-nil visited)

-- the values of a link under operands that agree for the links up to it, with one bound
value_within-same : {net : Net} {rate : ℕ} {field : FieldKind} {operands : List (List Operand)} → IsDraft net rate field operands → (others : List (List Operand))
    → (failed : List ℕ) (block : List (List ℕ)) (bound link : ℕ) → ((e : ℕ) → e ≤ link → operands_at operands e ≡ operands_at others e)
    → value_within bound net field operands failed block link ≡ value_within bound net field others failed block link
unfolding value_within
value_within-same draft others failed block zero link same = refl
value_within-same {net} {rate} {field} {operands} draft others failed block (suc bound) link same =
    let values : ℕ → List ℕ = λ from. value_within bound net field others failed block from in
    value_from-agree draft failed block (λ from. value_within bound net field operands failed block from) values link
    (λ from before. value_within-same draft others failed block bound from (λ e upto. same e (omega arith)))
    ∙ ap (λ (own : List Operand).
    if is_among failed link then zero_row (width_of block)
    else combination field (width_of block) (map (λ operand. operand.times) own)
    (map (λ operand. if leaves_source net link then row_at block operand.from else values operand.from) own)) (same link (omega arith))

-- a draft, and operands that agree with it for the links up to one, give that link the same value
pub value-same : {net : Net} {rate : ℕ} {field : FieldKind} {operands : List (List Operand)} → IsDraft net rate field operands → (others : List (List Operand))
    → (failed : List ℕ) (block : List (List ℕ)) (link : ℕ) → ((e : ℕ) → e ≤ link → operands_at operands e ≡ operands_at others e)
    → value net field operands failed block link ≡ value net field others failed block link
value-same draft others failed block link same = value_within-same draft others failed block (suc link) link same

-- the operands of a visited link
operands_at-visited : (count : ℕ) (visited : List (List Operand)) (e : ℕ) → e < length visited → operands_at (draft_of count visited) e ≡ get_or visited e []
operands_at-visited count visited e below =
    unwrap_or-slice_get (draft_of count visited) e [] ∙ get_or_append_left visited (replicate (count - length visited) []) [] e below

-- the operands of a visited link stay as they are
operands_at-more : (count : ℕ) (visited : List (List Operand)) (operands : List Operand) (e : ℕ) → e < length visited
    → operands_at (draft_of count (visited ++ operands ∷ [])) e ≡ operands_at (draft_of count visited) e
operands_at-more count visited operands e below =
    operands_at-visited count (visited ++ operands ∷ []) e (omega (arith, length-append visited (operands ∷ [])))
    ∙ get_or_append_left visited (operands ∷ []) [] e below
    ∙ sym (operands_at-visited count visited e below)

-- the operands that the next link gets
operands_at-last : (count : ℕ) (visited : List (List Operand)) (operands : List Operand)
    → operands_at (draft_of count (visited ++ operands ∷ [])) (length visited) ≡ operands
operands_at-last count visited operands =
    operands_at-visited count (visited ++ operands ∷ []) (length visited) (omega (arith, length-append visited (operands ∷ [])))
    ∙ get_or-append_seam visited operands [] []

-- the operands of the next link leave the vectors of the visited links as they are
pub global_vector-more : {net : Net} {rate : ℕ} {field : FieldKind} (visited : List (List Operand)) (operands : List Operand)
    → IsDraft net rate field (draft_of (length net.links) (visited ++ operands ∷ [])) → (failed : List ℕ) (link : ℕ) → link < length visited
    → global_vector net field (draft_of (length net.links) (visited ++ operands ∷ [])) failed rate link
    ≡ global_vector net field (draft_of (length net.links) visited) failed rate link
global_vector-more {net} {rate} {field} visited operands draft failed link below =
    value-same draft (draft_of (length net.links) visited) failed (unit_block rate) link
    (λ e upto. operands_at-more (length net.links) visited operands e (omega arith))

-- the vector of the next link, by its operands and the vectors of the visited links
pub global_vector-last : {net : Net} {rate : ℕ} {field : FieldKind} (visited : List (List Operand)) (operands : List Operand)
    → IsDraft net rate field (draft_of (length net.links) (visited ++ operands ∷ [])) → (failed : List ℕ)
    → global_vector net field (draft_of (length net.links) (visited ++ operands ∷ [])) failed rate (length visited)
    ≡ (if is_among failed (length visited) then zero_row rate
    else combination field rate
    (map (λ operand. operand.times) operands)
    (map (λ operand. if leaves_source net (length visited) then unit_row rate operand.from
    else global_vector net field (draft_of (length net.links) visited) failed rate operand.from) operands))
global_vector-last {net} {rate} {field} visited operands draft failed =
    let longer = draft_of (length net.links) (visited ++ operands ∷ []) in
    let link = length visited in
    let last = operands_at-last (length net.links) visited operands in
    let Fit : List Operand → Type 0 = λ own. All (IsOperand net rate field link) own in
    let fit : Fit operands = subst Fit last (operands_of_draft draft link) in
    let from_longer : Operand → List ℕ = λ operand. if leaves_source net link then unit_row rate operand.from else global_vector net field longer failed rate operand.from in
    let from_shorter : Operand → List ℕ =
    λ operand. if leaves_source net link then unit_row rate operand.from else global_vector net field (draft_of (length net.links) visited) failed rate operand.from in
    let same : (operand : Operand) → IsOperand net rate field link operand → from_longer operand ≡ from_shorter operand =
    λ operand is. elim (cases_Bool (leaves_source net link)) [
      | inl leaves ↦ rw leaves refl
      | inr inner ↦ rw inner (global_vector-more visited operands draft failed operand.from (is.earlier_link inner))
    ] in
    global_vector-equation draft failed link
    ∙ ap (λ (own : List Operand).
    if is_among failed link then zero_row rate else combination field rate (map (λ operand. operand.times) own) (map from_longer own)) last
    ∙ ap (λ (rows : List (List ℕ)).
    if is_among failed link then zero_row rate else combination field rate (map (λ operand. operand.times) operands) rows)
    (map-agree from_longer from_shorter (IsOperand net rate field link) same operands fit)
