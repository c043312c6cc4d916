-- All of a file: a part from its first byte on, and nothing behind it.
use Rattle.std.specs.Prelude.{ℕ, ◌==◌, List, length, Ok, Err, if◌then◌else◌}
use Rattle.code_items.specs.declared.refusal.CodeRefusal.TheVariants.{TrailingBytes}
use Rattle.code_items.specs.Reading.{Rest, Reading, Refusable, ◌>>=◌}

-- the first byte of a file, and all behind it
abbrev pub start_of : List ℕ → Rest
start_of bytes = record { at = 0; bytes = bytes }

-- the end of a file, before which no bytes may remain
abbrev pub end_at : Rest → Refusable (Unit {0})
end_at rest = if length rest.bytes == 0 then Ok tt else Err (TrailingBytes rest.at)

-- a part, and then the end
abbrev pub whole_of : {X : Type 0} → (Rest → Reading X) → List ℕ → Refusable X
whole_of part bytes = do
  it ← part (start_of bytes)
  ended ← end_at it.1
  Ok it.0
