-- The order of a code's links: no live link leads into the source.
use Rattle.std.specs.Prelude.{◌≡◌, ◌≢◌, ℕ, zero, suc, ◌<◌, ◌≤◌, true, []}
use Rattle.std.proofs.Common.{sym, ◌∙◌, arith, inl, inr}
use Rattle.std.proofs.lemmas.Bool.{cases_Bool}
use Rattle.std.proofs.lemmas.List.Folds.{Any-from_list_any}
use Rattle.net_model.proofs.EndLaws.{tail_of-leaves_source}
use Rattle.net_model.specs.Walks.{head_of, leaves_source}
use Rattle.node_program.proofs.LinkLaws.{apart_behind}
use Rattle.node_program.proofs.LiveLaws.{live-below, live-reads}
use Rattle.node_program.proofs.OperandLaws.{operands_of_draft}
use Rattle.node_program.specs.CodeValue.{is_live_in, reads_live_in}
use Rattle.node_program.specs.Value.{operands_at}
use Rattle.node_program.specs.declared.Operand.{Operand}
use Rattle.node_program.specs.declared.code.Code.{Code}

module _ (code : Code) (pattern : ℕ) where
  -- a live link or an earlier one leaves the source
  origin : (bound link : ℕ) → link < bound → is_live_in code pattern link ≡ true → (first : ℕ) × (first ≤ link) × (leaves_source code.net first ≡ true)
  origin zero link below live = absurd (omega arith)
  origin (suc bound) link below live = elim (cases_Bool (leaves_source code.net link)) [
    | inl leaves ↦ (link, omega arith, leaves)
    | inr inner ↦
        let operands = operands_at code.operands link in
        let some = Any-from_list_any (reads_live_in code pattern link) operands (live-reads code pattern link live) in
        let operand : Operand = some.1 in
        let earlier : operand.from < link = rw some.3 at ((operands_of_draft code.code.draft link some.0 operand some.2).earlier_link inner) in
        let reads : is_live_in code pattern operand.from ≡ true = rw inner at some.4 in
        let rest = origin bound operand.from (omega arith) reads in
        (rest.0, omega (arith, rest.1), rest.2)
  ]

  -- no live link leads into the source
  pub source-no_ins : (link : ℕ) → is_live_in code pattern link ≡ true → head_of code.net.links link ≢ code.net.source
  source-no_ins link live =
      let first = origin (suc link) link (omega arith) live in
      λ into. apart_behind [] code.net.links code.code.draft.link_order first.0 link first.1 (live-below code pattern link live) (into ∙ sym (tail_of-leaves_source code.net first.0 first.2).1)
