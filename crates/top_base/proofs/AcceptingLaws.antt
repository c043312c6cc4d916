-- Accepted codes as inputs: bytes are a file of one accepted code, or are refused in one way.
use Rattle.std.specs.Prelude.{◌≡◌, ◌<◌, ℕ, List, IsTrue}
use Rattle.std.proofs.Common.{refl, sym, ap, subst, ◌∙◌}
use Rattle.item_list.proofs.Numbers.{neither_below}
use Rattle.code_checker.specs.Checking.{FailsFirst, DiffersFirst, entry_at, demand_product}
use Rattle.code_checker.proofs.CheckingLaws.{FailsFirst-refuses}
use Rattle.node_program.specs.Decoding.{IsAccepted}
use Rattle.node_program.specs.declared.code.Code.{Code}
use Rattle.code_file.specs.Limits.{code_limit}
use Rattle.top_base.specs.Accepting.{IsCodeOf, RefusesCode}
use Rattle.top_base.proofs.CodeFileLaws.{file_apart, same_file_refusal}
use Rattle.top_base.proofs.InputLaws.{IsInput}
use Rattle.top_base.specs.Inputs.{is_refusal}
use Rattle.top_base.specs.Outcome.{any_witness}
use Rattle.top_base.proofs.SameCode.{same_code}
use Rattle.top_base.specs.declared.status.Status.{Status}
use Rattle.top_base.specs.declared.status.Status.TheVariants.{CodeRefused, CheckFailed}

-- the first entry that differs
same_entry : (size : ℕ) (rows : List (List ℕ)) (i j found k l other : ℕ) → DiffersFirst size rows i j found → DiffersFirst size rows k l other → (i ≡ k) × (j ≡ l) × (found ≡ other)
same_entry size rows i j found k l other one two =
    let row : i ≡ k = neither_below i k (λ lt. one.differs (one.value ∙ two.rows_before i j lt one.in_column)) (λ lt. two.differs (two.value ∙ one.rows_before k l lt two.in_column)) in
    let two_here : DiffersFirst size rows i l other = subst (λ row. DiffersFirst size rows row l other) (sym row) two in
    let column : j ≡ l = neither_below j l (λ lt. one.differs (one.value ∙ two_here.before j lt)) (λ lt. two_here.differs (two_here.value ∙ one.before l lt)) in
    (row, column, one.value ∙ ap (entry_at rows i) column ∙ sym two_here.value)

-- the first demand that fails
not_earlier : (code : Code) (demand i j found demand' k l other : ℕ) → FailsFirst code demand i j found → FailsFirst code demand' k l other → ¬ (demand < demand')
not_earlier code demand i j found demand' k l other one two lt =
    one.shown.differs (one.shown.value ∙ ap (λ (rows : List (List ℕ)). entry_at rows i j) (two.before demand one.from_on lt))

-- the first demand that fails, and its first entry
same_fails : (code : Code) (demand i j found demand' k l other : ℕ) → FailsFirst code demand i j found → FailsFirst code demand' k l other
    → (demand ≡ demand') × (i ≡ k) × (j ≡ l) × (found ≡ other)
same_fails code demand i j found demand' k l other one two =
    let same : demand ≡ demand' = neither_below demand demand' (not_earlier code demand i j found demand' k l other one two) (not_earlier code demand' k l other demand i j found two one) in
    let two_here : FailsFirst code demand k l other = subst (λ d. FailsFirst code d k l other) (sym same) two in
    let entry = same_entry code.rate (demand_product code demand) i j found k l other one.shown two_here.shown in
    (same, entry.0, entry.1, entry.2)

-- bytes are refused by a refusal
kind : (bytes : List ℕ) (status : Status) (line : List ℕ) → RefusesCode bytes status line → IsTrue (is_refusal status)
kind bytes (CodeRefused why) line refused = refl
kind bytes (CheckFailed demand row column found) line refused = refl
kind bytes status line refused = absurd refused

-- the bytes of an accepted code aren't refused
apart : (bytes : List ℕ) (code : Code) (status : Status) (line : List ℕ) → IsCodeOf bytes code → RefusesCode bytes status line → ⊥
apart bytes code (CodeRefused why) line is refused = file_apart bytes code (CodeRefused why) line is.spelled refused
apart bytes code (CheckFailed demand row column found) line is refused =
    FailsFirst-refuses refused.0 demand row column found refused.2 (subst IsAccepted (same_code bytes code refused.0 is.spelled refused.1) is.accepted)
apart bytes code status line is refused = absurd refused

-- bytes are refused in one way
same_refusal : (bytes : List ℕ) (status : Status) (line : List ℕ) (status' : Status) (line' : List ℕ) → RefusesCode bytes status line → RefusesCode bytes status' line' → status ≡ status'
same_refusal bytes (CodeRefused why) line (CodeRefused why') line' one other = same_file_refusal bytes (CodeRefused why) line (CodeRefused why') line' one other
same_refusal bytes (CodeRefused why) line (CheckFailed demand row column found) line' one other =
    absurd (file_apart bytes other.0 (CodeRefused why) line other.1 one)
same_refusal bytes (CheckFailed demand row column found) line (CodeRefused why) line' one other =
    absurd (file_apart bytes one.0 (CodeRefused why) line' one.1 other)
same_refusal bytes (CheckFailed demand row column found) line (CheckFailed demand' row' column' found') line' one other =
    let same : other.0 ≡ one.0 = same_code bytes other.0 one.0 other.1 one.1 in
    let fails : FailsFirst one.0 demand' row' column' found' = subst (λ (code : Code). FailsFirst code demand' row' column' found') same other.2 in
    let there = same_fails one.0 demand row column found demand' row' column' found' one.2 fails in
    cc
same_refusal bytes (CodeRefused why) line status' line' one other = absurd other
same_refusal bytes (CheckFailed demand row column found) line status' line' one other = absurd other
same_refusal bytes status line status' line' one other = absurd one

-- what has to be known of an accepted code as an input
pub code_input : IsInput code_limit IsCodeOf RefusesCode
code_input = record {
  kind = kind;
  same = λ bytes one other is_one is_other. same_code bytes one other is_one.spelled is_other.spelled;
  apart = apart;
  alike = λ bytes status line status' line' one other. ap any_witness (same_refusal bytes status line status' line' one other);
}
