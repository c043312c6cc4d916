-- The texts of batches of certificates, put together.
use Rattle.std.specs.Prelude.{◌≡◌, ℕ, List, [], ◌++◌, All, IsOk, Err, Ok, Result, Vec, flat_map}
use Rattle.std.specs.Global.{Global}
use Rattle.std.specs.declared.alloc.AllocError.{AllocError}

-- what was made of a batch: its text, or none where memory ran out
abbrev pub made_text : Result (Vec ℕ Global) AllocError → List ℕ
made_text (Ok text) = text.items
made_text (Err why) = []

-- every text was made, and the whole is one after another, behind what was before
pub record AreJoined (before : List ℕ) (texts : List (Result (Vec ℕ Global) AllocError)) (whole : List ℕ) : Type 0 where
  pub made : All IsOk texts
  pub in_order : whole ≡ before ++ flat_map made_text texts
