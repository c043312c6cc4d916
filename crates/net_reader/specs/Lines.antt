-- The lines of a network text, and their words.
use Rattle.std.specs.Prelude.{ℕ, Bool, not, ◌||◌, ◌&&◌, ◌==◌, nat_lt, nat_le, List, [], ◌∷◌, length, if◌then◌else◌, take_while, filter}
use Rattle.std.specs.List.{slice_split}

-- pieces without the last one where that is empty
abbrev pub without_empty_end : List (List ℕ) → List (List ℕ)
without_empty_end [] = []
without_empty_end (piece ∷ []) = if length piece == 0 then [] else piece ∷ []
without_empty_end (piece ∷ next ∷ pieces) = piece ∷ without_empty_end (next ∷ pieces)

-- a text cut at each line feed
abbrev pub pieces_of : List ℕ → List (List ℕ)
pieces_of text = slice_split (λ byte. byte == 10) text

-- its lines: a last piece that is empty is none
abbrev pub lines_of : List ℕ → List (List ℕ)
lines_of text = without_empty_end (pieces_of text)

-- a line without a carriage return at its end
abbrev pub without_return : List ℕ → List ℕ
without_return [] = []
without_return (byte ∷ []) = if byte == 13 then [] else byte ∷ []
without_return (byte ∷ next ∷ bytes) = byte ∷ without_return (next ∷ bytes)

-- what is left of a line: no carriage return at its end, and no comment
abbrev pub content_of : List ℕ → List ℕ
content_of line = take_while (λ byte. not (byte == 35)) (without_return line)

-- a tab, or from the space to the tilde
abbrev pub is_text : ℕ → Bool
is_text byte = (byte == 9) || (nat_le 32 byte && nat_le byte 126)

-- a space or a tab
abbrev pub is_blank : ℕ → Bool
is_blank byte = (byte == 32) || (byte == 9)

-- the words between spaces and tabs
abbrev pub words_of : List ℕ → List (List ℕ)
words_of content = filter (λ word. nat_lt 0 (length word)) (slice_split is_blank content)
