-- Rows of eight pieces each, as far as their pieces have come.
use Rattle.std.specs.Prelude.{◌≡◌, ◌≢◌, ◌+◌, ◌*◌, ◌/◌, ℕ, Bool, true, false, List, [], length, take, drop, slice_index_or}
use Rattle.std.specs.List.{concat, list_all}

-- the payloads of all pieces, row after row, and which of them have come
pub record Held : Type 0 where
  pub payloads : List (List ℕ)
  pub marks : List Bool

-- the place of a piece of a row
abbrev pub place : ℕ → ℕ → ℕ
place row piece = row * 8 + piece

-- how many rows there are
abbrev pub row_count : Held → ℕ
row_count held = length held.marks / 8

-- whole rows, with a payload for each piece
pub record AreRows (payloads : List (List ℕ)) (marks : List Bool) : Type 0 where
  pub whole : length marks ≡ length marks / 8 * 8
  pub each : length payloads ≡ length marks

-- a piece of a row has come
abbrev pub is_held : Held → ℕ → ℕ → Bool
is_held held row piece = slice_index_or held.marks (place row piece) false

-- the bytes of a piece
abbrev pub payload_of : Held → ℕ → ℕ → List ℕ
payload_of held row piece = slice_index_or held.payloads (place row piece) []

-- all pieces of a row have come
abbrev pub is_whole : Held → ℕ → Bool
is_whole held row = list_all (λ mark. mark) (take 8 (drop (row * 8) held.marks))

-- the bytes of a row, piece after piece
abbrev pub row_of : Held → ℕ → List ℕ
row_of held row = concat (take 8 (drop (row * 8) held.payloads))

-- no piece has come
abbrev pub HoldsNone : Held → Type 0
HoldsNone held = (row piece : ℕ) → is_held held row piece ≡ false

-- a piece of a row has come with these bytes, and every other is as before
pub record Holds (row piece : ℕ) (payload : List ℕ) (old new : Held) : Type 0 where
  pub held : is_held new row piece ≡ true
  pub bytes : payload_of new row piece ≡ payload
  pub same_marks : (other : ℕ) → other ≢ place row piece
      → slice_index_or new.marks other false ≡ slice_index_or old.marks other false
  pub same_payloads : (other : ℕ) → other ≢ place row piece
      → slice_index_or new.payloads other [] ≡ slice_index_or old.payloads other []
