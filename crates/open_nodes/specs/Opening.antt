-- Codes that are read and checked, and why bytes are refused.
use Rattle.std.specs.Prelude.{◌≡◌, ◌<◌, ℕ, List, length, Result, Ok, Err}
use Rattle.code_checker.specs.Checking.{FailsFirst}
use Rattle.code_file.specs.Items.{IsFileOf}
use Rattle.code_file.specs.Limits.{code_limit}
use Rattle.code_file.specs.Reading.{contents_of}
use Rattle.code_items.specs.declared.refusal.CodeRefusal.{CodeRefusal}
use Rattle.cut_bound.specs.Cuts.{IsWithinCuts}
use Rattle.node_program.specs.Decoding.{IsAccepted}
use Rattle.node_program.specs.declared.code.Code.{Code}
use Rattle.open_nodes.specs.declared.opening.OpenRefusal.{OpenRefusal}
use Rattle.open_nodes.specs.declared.opening.OpenRefusal.TheVariants.{BadCode, NotDecoding, OutOfMemory, TooLong}

-- bytes are a file of an accepted code, whose rate no cut of a demand is below
pub record IsAcceptedFile (bytes : List ℕ) (code : Code) : Type 0 where
  pub file : IsFileOf bytes code
  pub accepted : IsAccepted code
  pub cuts : IsWithinCuts code.net code.rate

-- Bytes are refused by the first item that isn't good, which no file of a code has, or by the first demand of the code that
-- doesn't decode, which no accepted code has.
pub record IsNoFile (bytes : List ℕ) (why : CodeRefusal) : Type 0 where
  pub refusal : contents_of bytes ≡ Err why
  pub no_file : (code : Code) → IsFileOf bytes code → ⊥

pub record IsNotDecoding (bytes : List ℕ) (demand row column found : ℕ) : Type 0 where
  pub code : Code
  pub file : IsFileOf bytes code
  pub fails : FailsFirst code demand row column found
  pub unaccepted : IsAccepted code → ⊥

abbrev pub IsOpenRefusal : List ℕ → OpenRefusal → Type 0
IsOpenRefusal bytes TooLong = code_limit < length bytes
IsOpenRefusal bytes (BadCode why) = IsNoFile bytes why
IsOpenRefusal bytes (NotDecoding demand row column found) = IsNotDecoding bytes demand row column found
IsOpenRefusal bytes OutOfMemory = Unit {0}

-- bytes are opened as a code, or refused
abbrev pub OpensCode : List ℕ → Result Code OpenRefusal → Type 0
OpensCode bytes (Ok code) = IsAcceptedFile bytes code
OpensCode bytes (Err why) = IsOpenRefusal bytes why
