-- Live links and their live operands.
use Rattle.std.specs.Prelude.{◌≡◌, ◌<◌, ◌&&◌, ◌==◌, ℕ, zero, suc, true, false, nat_lt, Some, List, [], ◌∷◌, All, filter, length, slice_get}
use Rattle.std.proofs.Common.{arith, get_or, refl, sym, subst, ◌∙◌}
use Rattle.std.proofs.lemmas.Bool.{and_parts, false≢true}
use Rattle.std.proofs.lemmas.List.Elements.{All-filter, filter_passes}
use Rattle.gf_tables.specs.Product.{size_of}
use Rattle.gf_tables.specs.declared.kind.FieldKind.{FieldKind}
use Rattle.net_model.proofs.NetworkLaws.{passes_at}
use Rattle.net_model.specs.Walks.{head_of, leaves_source, tail_of}
use Rattle.net_model.specs.declared.Link.{Link}
use Rattle.net_model.specs.declared.net.Net.{Net}
use Rattle.node_program.proofs.LinkLaws.{head_of-leads_into}
use Rattle.node_program.proofs.OperandLaws.{operands_of_draft}
use Rattle.node_program.specs.Code.{are_operands_of, is_source_of, leads_into}
use Rattle.node_program.specs.CodeValue.{is_live_in, reads_live_in}
use Rattle.node_program.specs.Operands.{IsOperand}
use Rattle.node_program.specs.Value.{operands_at}
use Rattle.node_program.specs.declared.Operand.{Operand}
use Rattle.node_program.specs.declared.code.Code.{Code}
use Rattle.coded_traffic.specs.Traffic.{live_operands}

-- the item at a place
at_place : {X : Type 0} (xs : List X) (i : ℕ) → i < length xs → (x : X) × (slice_get xs i ≡ Some x)
at_place [] i within = absurd (omega arith)
at_place (x ∷ xs) zero within = (x, refl)
at_place (x ∷ xs) (suc i) within = at_place xs i (omega arith)

-- the operands of each link name what the link may read
sources_of : (net : Net) (rate : ℕ) (field : FieldKind) (links : List Link) (operands : List (List Operand)) (link : ℕ) (l : Link)
    → are_operands_of net rate field links operands ≡ true → slice_get links link ≡ Some l
    → All (λ operand. is_source_of net rate l operand.from ≡ true) (operands_at operands link)
sources_of net rate field [] [] link l are found = cc
sources_of net rate field [] (first ∷ operands) link l are found = absurd (false≢true are)
sources_of net rate field (other ∷ links) [] link l are found = absurd (false≢true are)
sources_of net rate field (other ∷ links) (first ∷ operands) zero l are found =
    let same : other ≡ l = cc in
    subst (λ (m : Link). All (λ operand. is_source_of net rate m operand.from ≡ true) first) same (λ k d within.
    let each = and_parts _ _ (and_parts _ _ are).0 in
    (and_parts _ _ (and_parts _ _ (passes_at
    (λ operand. is_source_of net rate other operand.from && nat_lt 0 operand.times && nat_lt operand.times (size_of field)) first k d each.1 within)).0).0)
sources_of net rate field (other ∷ links) (first ∷ operands) (suc link) l are found =
    sources_of net rate field links operands link l (and_parts _ _ are).1 found

-- an operand that is a live link of a lower number, into the tail of the link that reads it
pub record IsLiveInto (code : Code) (pattern link : ℕ) (operand : Operand) : Type 0 where
  pub earlier : operand.from < link
  pub live : is_live_in code pattern operand.from ≡ true
  pub into_tail : head_of code.net.links operand.from ≡ tail_of code.net.links link

-- the live operands of a link that doesn't leave the source
pub live_operands-into : (code : Code) (pattern link : ℕ) → link < length code.net.links → leaves_source code.net link ≡ false
    → All (IsLiveInto code pattern link) (live_operands code pattern link)
live_operands-into code pattern link within inner k d here =
    let operands = operands_at code.operands link in
    let reads = reads_live_in code pattern link in
    let Is : Operand → Type 0 = IsOperand code.net code.rate code.field link in
    let is = All-filter reads Is operands (operands_of_draft code.code.draft link) k d here in
    let operand = get_or (filter reads operands) k d in
    let passes : reads operand ≡ true = filter_passes reads operands k d here in
    let found = at_place code.net.links link within in
    let Source : Operand → Type 0 = λ operand. is_source_of code.net code.rate found.0 operand.from ≡ true in
    let source : Source operand = All-filter reads Source operands (sources_of code.net code.rate code.field code.net.links code.operands link found.0 code.code.draft.link_operands found.1) k d here in
    let other : (found.0.tail == code.net.source) ≡ false = rw found.1 at inner in
    let leads : leads_into code.net.links found.0.tail operand.from ≡ true = rw other at source in
    record {
      earlier = is.earlier_link inner;
      live = rw inner at passes;
      into_tail = head_of-leads_into code.net.links found.0.tail operand.from leads ∙ sym (rw found.1 refl);
    }
