-- Laws of the live links of a code.
use Rattle.std.specs.Prelude.{◌≡◌, ℕ, suc, ◌<◌, true, false, List, [], ◌∷◌, Some, None, length, slice_get}
use Rattle.std.specs.List.{All, list_any}
use Rattle.std.proofs.Common.{refl, sym, ◌∙◌, ap, get_or, arith, inl, inr}
use Rattle.std.proofs.lemmas.Bool.{and_parts, cases_lt, false≢true}
use Rattle.std.proofs.lemmas.List.Folds.{list_any_at}
use Rattle.std.proofs.lemmas.Option.{slice_get_past}
use Rattle.gf_tables.specs.declared.kind.FieldKind.{FieldKind}
use Rattle.net_model.specs.Failed.{failed_links, is_failed_in}
use Rattle.net_model.specs.declared.Link.{Link}
use Rattle.net_model.specs.declared.net.Net.{Net}
use Rattle.node_program.specs.Code.{IsDraft, are_operands_of}
use Rattle.node_program.specs.CodeValue.{is_live_in, reads_live_in}
use Rattle.node_program.proofs.OperandLaws.{operands_of_draft}
use Rattle.node_program.specs.Operands.{IsOperand}
use Rattle.node_program.specs.Value.{operands_at}
use Rattle.node_program.proofs.ValueLaws.{is_live-equation}
use Rattle.node_program.specs.declared.Operand.{Operand}
use Rattle.node_program.specs.declared.code.Code.{Code}

-- as many lists of operands as links
as_many_lists : (net : Net) (rate : ℕ) (field : FieldKind) (links : List Link) (operands : List (List Operand)) → are_operands_of net rate field links operands ≡ true
    → length operands ≡ length links
as_many_lists net rate field [] [] are = refl
as_many_lists net rate field [] (first ∷ operands) are = absurd (false≢true are)
as_many_lists net rate field (link ∷ links) [] are = absurd (false≢true are)
as_many_lists net rate field (link ∷ links) (first ∷ operands) are = ap suc (as_many_lists net rate field links operands (and_parts _ _ are).1)

-- a draft has a list of operands for each link
pub length-operands : {net : Net} {rate : ℕ} {field : FieldKind} {operands : List (List Operand)} → IsDraft net rate field operands
    → length operands ≡ length net.links
length-operands {net} {rate} {field} {operands} draft = as_many_lists net rate field net.links operands draft.link_operands

-- a list of operands that stands at a link's place has operands of that link
pub operands_of_link : (code : Code) (link : ℕ) (operands : List Operand) → slice_get code.operands link ≡ Some operands
    → All (IsOperand code.net code.rate code.field link) operands
operands_of_link code link operands found = rw found at (operands_of_draft code.code.draft link)

-- a failed link isn't live
pub is_live_in-failed : (code : Code) (pattern link : ℕ) → is_failed_in code.net.patterns pattern link ≡ true → is_live_in code pattern link ≡ false
is_live_in-failed code pattern link failed =
    is_live-equation code.code.draft (failed_links code.net.patterns pattern) link ∙ rw failed refl

-- another is live where an operand of it is a source row or a live link
pub is_live_in-operands : (code : Code) (pattern link : ℕ) → is_failed_in code.net.patterns pattern link ≡ false
    → is_live_in code pattern link ≡ list_any (reads_live_in code pattern link) (operands_at code.operands link)
is_live_in-operands code pattern link whole =
    is_live-equation code.code.draft (failed_links code.net.patterns pattern) link ∙ rw whole refl

-- so it is where one of them is
pub is_live_in-some : (code : Code) (pattern link : ℕ) (operands : List Operand) (i : ℕ) (d : Operand) → is_failed_in code.net.patterns pattern link ≡ false
    → operands ≡ operands_at code.operands link → i < length operands → reads_live_in code pattern link (get_or operands i d) ≡ true
    → is_live_in code pattern link ≡ true
is_live_in-some code pattern link operands i d whole at within reads =
    is_live_in-operands code pattern link whole
    ∙ ap (list_any (reads_live_in code pattern link)) (sym at)
    ∙ list_any_at (reads_live_in code pattern link) operands i d within reads

-- and isn't where none is
pub is_live_in-none : (code : Code) (pattern link : ℕ) (operands : List Operand) → is_failed_in code.net.patterns pattern link ≡ false
    → operands ≡ operands_at code.operands link → list_any (reads_live_in code pattern link) operands ≡ false
    → is_live_in code pattern link ≡ false
is_live_in-none code pattern link operands whole at none =
    is_live_in-operands code pattern link whole ∙ ap (list_any (reads_live_in code pattern link)) (sym at) ∙ none

-- a live link has an operand that is a source row or a live link
pub live-reads : (code : Code) (pattern link : ℕ) → is_live_in code pattern link ≡ true
    → list_any (reads_live_in code pattern link) (operands_at code.operands link) ≡ true
live-reads code pattern link live = (and_parts _ _ (sym (is_live-equation code.code.draft (failed_links code.net.patterns pattern) link) ∙ live)).1

-- and is one of the network's
pub live-below : (code : Code) (pattern link : ℕ) → is_live_in code pattern link ≡ true → link < length code.net.links
live-below code pattern link live = elim (cases_lt link (length code.net.links)) [
  | inl within ↦ within
  | inr past ↦
      let none : slice_get code.operands link ≡ None = slice_get_past code.operands link (omega (arith, length-operands code.code.draft)) in
      absurd (false≢true (rw none at (live-reads code pattern link live)))
]
