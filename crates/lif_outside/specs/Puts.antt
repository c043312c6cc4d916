-- Puts on a sink with their answers, and what they do to the bytes that it holds.
use Rattle.std.specs.Prelude.{◌≡◌, ◌⊎◌, ℕ, List, [], ◌∷◌, ◌++◌, Result, Ok, Err, take, Bool, true, false, IsFalse}
use Rattle.std.specs.List.{list_any}
use Rattle.lif_outside.specs.declared.Failed.{Failed}

-- A call of `put`, with its answer.
pub data Put : Type 0 where
  said : (bytes : List ℕ) → Put
  put_failed : (bytes : List ℕ) → Put

-- the call by its answer
abbrev pub put_event : List ℕ → Result Unit Failed → Put
put_event bytes (Ok done) = said bytes
put_event bytes (Err why) = put_failed bytes

abbrev pub is_failed_put : Put → Bool
is_failed_put (said bytes) = false
is_failed_put (put_failed bytes) = true

-- The bytes grow as these calls say. A failed put has added a prefix.
abbrev pub Grow : List Put → List ℕ → List ℕ → Type 0
Grow [] old new = new ≡ old
Grow (said bytes ∷ puts) old new = Grow puts (old ++ bytes) new
Grow (put_failed bytes ∷ puts) old new = (kept : ℕ) × Grow puts (old ++ take kept bytes) new

-- what was said, in order
abbrev pub bytes_said : List Put → List ℕ
bytes_said [] = []
bytes_said (said bytes ∷ puts) = bytes ++ bytes_said puts
bytes_said (put_failed bytes ∷ puts) = bytes_said puts

-- A text was put, in one piece or more, and each was done.
pub record SaysAll (text : List ℕ) (puts : List Put) : Type 0 where
  pub done : IsFalse (list_any is_failed_put puts)
  pub all : bytes_said puts ≡ text

-- A front of a text was put, and then the put of a piece that follows in it failed.
pub record SaysPart (text : List ℕ) (puts : List Put) : Type 0 where
  pub front : List Put
  pub piece : List ℕ
  pub rest : List ℕ
  pub puts_are : puts ≡ front ++ put_failed piece ∷ []
  pub done : IsFalse (list_any is_failed_put front)
  pub part : bytes_said front ++ (piece ++ rest) ≡ text

-- A text was put, all of it or as far as it could be.
abbrev pub Says : List ℕ → List Put → Type 0
Says text puts = SaysAll text puts ⊎ SaysPart text puts
