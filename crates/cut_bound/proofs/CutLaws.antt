-- Where a block is zero on the links of a cut, it is zero on all links into the sink.
use Rattle.std.specs.Prelude.{◌≡◌, ℕ, zero, suc, ◌<◌, true, false, ◌||◌, List, [], ◌∷◌, ◌++◌, map, if◌then◌else◌}
use Rattle.std.specs.List.{All, list_any}
use Rattle.std.proofs.Common.{arith, refl, sym, ◌∙◌, inl, inr, get_or}
use Rattle.std.proofs.lemmas.Bool.{cases_Bool, or_cases, both_ways}
use Rattle.std.proofs.lemmas.List.Folds.{list_any-append}
use Rattle.std.proofs.lemmas.List.Elements.{All-map}
use Rattle.gf_tables.specs.declared.kind.FieldKind.{FieldKind}
use Rattle.linear_algebra.proofs.CombinationLaws.{combination-zero_rows}
use Rattle.linear_algebra.specs.Rows.{zero_row}
use Rattle.net_model.proofs.EndLaws.{tail_of-leaves_source}
use Rattle.net_model.specs.Failed.{failed_links}
use Rattle.net_model.specs.Flows.{flow_network, FlowNetwork, IsCut}
use Rattle.net_model.specs.Lists.{is_among}
use Rattle.net_model.specs.Walks.{leaves_source}
use Rattle.net_model.specs.declared.Demand.{Demand}
use Rattle.net_model.specs.declared.net.Net.{Net}
use Rattle.node_program.proofs.LinkLaws.{head_of-leads_into}
use Rattle.node_program.specs.Code.{IsDraft, leads_into}
use Rattle.node_program.specs.Value.{width_of, row_at, operands_at, value}
use Rattle.node_program.proofs.OperandLaws.{operands_of_draft}
use Rattle.node_program.proofs.ValueLaws.{value-equation, coefficients-elements}
use Rattle.node_program.specs.declared.Operand.{Operand}
use Rattle.cut_bound.proofs.WayLaws.{IsWay, IsWay-first, IsWay-more, IsPath-way}
use Rattle.cut_bound.proofs.ReadLaws.{inner_operands, IsInner}

-- each way to the link has one of the cut
abbrev IsBehind : FlowNetwork → List ℕ → ℕ → Type 0
IsBehind network cut link = (before : List ℕ) → IsWay network before link → list_any (is_among cut) (before ++ link ∷ []) ≡ true

-- one of links and a last one that isn't of the cut
before_last : (cut before : List ℕ) (link : ℕ) → is_among cut link ≡ false → list_any (is_among cut) (before ++ link ∷ []) ≡ true
    → list_any (is_among cut) before ≡ true
before_last cut before link apart some =
    let split : (list_any (is_among cut) before || list_any (is_among cut) (link ∷ [])) ≡ true = sym (list_any-append (is_among cut) before (link ∷ [])) ∙ some in
    elim (or_cases _ _ split) [
      | inl here ↦ here
      | inr last ↦ elim (or_cases _ _ last) [
        | inl among ↦ absurd (both_ways _ apart among)
        | inr none ↦ absurd (both_ways _ refl none)
      ]
    ]

module _ {net : Net} {rate : ℕ} {field : FieldKind} {operands : List (List Operand)} (draft : IsDraft net rate field operands) (demand : Demand) (cut : List ℕ)
    (block : List (List ℕ))
    (zeros : (link : ℕ) → is_among cut link ≡ true → value net field operands (failed_links net.patterns demand.pattern) block link ≡ zero_row (width_of block)) where
  abbrev network : FlowNetwork
  network = flow_network net demand

  -- what a link reads that is behind the cut is behind it
  IsBehind-read : (link : ℕ) → is_among cut link ≡ false → is_among network.failed link ≡ false → IsBehind network cut link → (operand : Operand) → IsInner net link operand
      → IsBehind network cut operand.from
  IsBehind-read link apart whole behind operand is before way =
      before_last cut (before ++ operand.from ∷ []) link apart
      (behind (before ++ operand.from ∷ []) (IsWay-more network before operand.from link way is.within is.on whole))

  -- a link that leaves the source isn't behind the cut, where it works and isn't of the cut
  no_first : (link : ℕ) → is_among cut link ≡ false → is_among network.failed link ≡ false → IsBehind network cut link → leaves_source net link ≡ true → ⊥
  no_first link apart whole behind leaves =
      let ends = tail_of-leaves_source net link leaves in
      both_ways false refl (before_last cut [] link apart (behind [] (IsWay-first network link ends.0 ends.1 whole)))

  -- a link behind the cut is zero
  zero_behind : (bound link : ℕ) → link < bound → IsBehind network cut link
      → value net field operands (failed_links net.patterns demand.pattern) block link ≡ zero_row (width_of block)
  zero_behind zero link below behind = absurd (omega arith)
  zero_behind (suc bound) link below behind = elim (cases_Bool (is_among cut link)) [
    | inl among ↦ zeros link among
    | inr apart ↦ value-equation draft (failed_links net.patterns demand.pattern) block link ∙ elim (cases_Bool (is_among (failed_links net.patterns demand.pattern) link)) [
      | inl fails ↦ rw fails refl
      | inr whole ↦ elim (cases_Bool (leaves_source net link)) [
        | inl leaves ↦ absurd (no_first link apart whole behind leaves)
        | inr inner ↦
            let IsZero : List ℕ → Type 0 = λ row. row ≡ zero_row (width_of block) in
            let carried : Operand → List ℕ =
            λ operand. if leaves_source net link then row_at block operand.from
            else value net field operands (failed_links net.patterns demand.pattern) block operand.from in
            let rows : All IsZero (map carried (operands_at operands link)) =
            All-map IsZero carried (operands_at operands link) (λ k d within.
            let operand = get_or (operands_at operands link) k d in
            let earlier = operands_of_draft draft link k d within in
            let read = inner_operands draft link inner k d within in
            rw inner (zero_behind bound operand.from (omega (arith, earlier.earlier_link inner)) (IsBehind-read link apart whole behind operand read))) in
            rw whole (combination-zero_rows field (width_of block) _ _ (coefficients-elements draft link) rows)
      ]
    ]
  ]

  -- a link into the sink is zero, where the links are a cut
  pub zero_behind_cut : IsCut network cut → (link : ℕ) → leads_into net.links network.sink link ≡ true
      → value net field operands (failed_links net.patterns demand.pattern) block link ≡ zero_row (width_of block)
  zero_behind_cut is link into =
      zero_behind (suc link) link (omega arith) (λ before way.
      is (before ++ link ∷ []) (IsPath-way network before link way (head_of-leads_into net.links network.sink link into)))
