-- Codes as inputs, whether they are accepted or not: bytes are a file of one code, or are refused in one way. The laws of refused
-- bytes are those of drafts' files too.
use Rattle.std.specs.Prelude.{◌≡◌, ℕ, List, IsTrue, Result, Err}
use Rattle.std.proofs.Common.{refl, sym, ap, ◌∙◌}
use Rattle.code_file.specs.Items.{IsFileOf}
use Rattle.code_file.specs.Limits.{code_limit}
use Rattle.code_file.specs.Reading.{contents_of}
use Rattle.code_file.specs.declared.CodeRefusal.{CodeRefusal}
use Rattle.code_file.proofs.ReadingLaws.{file_not_refused}
use Rattle.node_program.specs.declared.code.Code.{Code}
use Rattle.top_base.specs.CodeFiles.{IsRefused, RefusesFile}
use Rattle.top_base.specs.Inputs.{is_refusal}
use Rattle.top_base.specs.Outcome.{any_witness}
use Rattle.top_base.proofs.InputLaws.{IsInput}
use Rattle.top_base.proofs.SameCode.{same_code}
use Rattle.top_base.specs.declared.status.Status.{Status}
use Rattle.top_base.specs.declared.status.Status.TheVariants.{CodeRefused}

-- What bytes say, as a file of one kind.
module _ {X Y : Type 0} (Is : List ℕ → X → Type 0) (said_of : List ℕ → Result Y CodeRefusal) where
  -- bytes are refused by a refusal
  kind : (bytes : List ℕ) (status : Status) (line : List ℕ) → IsRefused (said_of bytes) status line → IsTrue (is_refusal status)
  kind bytes (CodeRefused why) line refused = refl
  kind bytes status line refused = absurd refused

  -- they are refused in one way
  pub same_refusal : (bytes : List ℕ) (status : Status) (line : List ℕ) (status' : Status) (line' : List ℕ)
      → IsRefused (said_of bytes) status line → IsRefused (said_of bytes) status' line' → status ≡ status'
  same_refusal bytes (CodeRefused why) line (CodeRefused why') line' one other =
      let says = sym one.0 ∙ other.0 in
      let same : why ≡ why' = cc in
      ap (λ w. CodeRefused w) same
  same_refusal bytes (CodeRefused why) line status' line' one other = absurd other
  same_refusal bytes status line status' line' one other = absurd one

  module _ (good : (bytes : List ℕ) (x : X) (why : CodeRefusal) → Is bytes x → said_of bytes ≡ Err why → ⊥) where
    -- what they are isn't refused
    pub apart : (bytes : List ℕ) (x : X) (status : Status) (line : List ℕ) → Is bytes x → IsRefused (said_of bytes) status line → ⊥
    apart bytes x (CodeRefused why) line is refused = good bytes x why is refused.0
    apart bytes x status line is refused = absurd refused

    -- what has to be known of them as an input
    pub input_of : ((bytes : List ℕ) (one other : X) → Is bytes one → Is bytes other → one ≡ other)
        → IsInput code_limit Is (λ bytes status line. IsRefused (said_of bytes) status line)
    input_of same = record {
      kind = kind;
      same = same;
      apart = apart;
      alike = λ bytes status line status' line' one other. ap any_witness (same_refusal bytes status line status' line' one other);
    }

-- the file of a code isn't refused
pub file_apart : (bytes : List ℕ) (code : Code) (status : Status) (line : List ℕ) → IsFileOf bytes code → RefusesFile bytes status line → ⊥
file_apart = apart IsFileOf contents_of file_not_refused

-- bytes are refused in one way
pub same_file_refusal : (bytes : List ℕ) (status : Status) (line : List ℕ) (status' : Status) (line' : List ℕ) → RefusesFile bytes status line → RefusesFile bytes status' line' → status ≡ status'
same_file_refusal = same_refusal IsFileOf contents_of

-- what has to be known of a code as an input
pub file_input : IsInput code_limit IsFileOf RefusesFile
file_input = input_of IsFileOf contents_of file_not_refused same_code
