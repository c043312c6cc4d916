-- Where a node has no mark of a used link that leads into it, no link into it is passed back.
use Rattle.std.specs.Prelude.{◌≡◌, ◌≢◌, ℕ, Bool, true, false, List, replicate, Some}
use Rattle.std.proofs.Common.{ap, sym, ◌∙◌, inl, inr}
use Rattle.std.proofs.lemmas.Bool.{both_ways}
use Rattle.std.proofs.lemmas.List.{length-replicate}
use Rattle.net_model.specs.Flows.{is_on}
use Rattle.net_model.specs.Walks.{head_of, tail_of}
use Rattle.net_model.specs.declared.Link.{Link}
use Rattle.unit_flow.proofs.PassageLaws.{passage_cases}
use Rattle.unit_flow.specs.Residual.{AreEntered, is_used, passage}
use Rattle.unit_flow.specs.declared.residual.LinkState.{LinkState}

-- where no link is used, none needs a mark
pub entered_none : (links : List Link) (nodes : ℕ) (states : List LinkState) → ((link : ℕ) → is_used states link ≡ false) → AreEntered links nodes states (replicate nodes false)
entered_none links nodes states unused = record {
  each_node = length-replicate nodes false;
  marked = λ link used. absurd (both_ways _ (unused link) used);
}

-- from a node without a mark no link into it is passed
pub nothing_entered : (links : List Link) (nodes : ℕ) (states : List LinkState) (entered : List Bool) (node link next : ℕ) → AreEntered links nodes states entered → is_on entered node ≡ false
    → head_of links link ≡ node → tail_of links link ≢ head_of links link → passage links states link node ≡ Some next → is_on entered node ≡ true
nothing_entered links nodes states entered node link next are unmarked here apart leads = elim (passage_cases links states link node next leads) [
  | inl forward ↦ absurd (apart (sym forward.1 ∙ sym here))
  | inr back ↦ ap (is_on entered) (sym here) ∙ are.marked link back.0
]
