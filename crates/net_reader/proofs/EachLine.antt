-- Lines, one after another.
use Rattle.std.specs.Prelude.{◌≡◌, ℕ, ◌+◌, Bool, true, List, ◌∷◌, ◌++◌, Result, Ok, Err, if◌then◌else◌}
use Rattle.std.specs.List.{list_all}
use Rattle.std.proofs.Common.{ap, sym, ◌∙◌}
use Rattle.net_reader.specs.Lines.{content_of, is_text, words_of}
use Rattle.net_reader.specs.declared.refusal.ReadRefusal.{ReadRefusal}
use Rattle.net_reader.specs.declared.refusal.ReadRefusal.TheVariants.{BadByte}
use Rattle.net_reader.specs.Statements.{Statement, read_line, read_words}
use Rattle.net_reader.specs.State.{with_line, with_words}
use Rattle.net_reader.specs.Text.{and_then, read_lines}

-- what is said by a line that is good, and by the lines after it
good_by : (read : Result (List Statement) ReadRefusal) (earlier new : List Statement) (number : ℕ) (lines : List (List ℕ)) → and_then read (λ statements. Ok (earlier ++ statements)) ≡ Ok new
    → and_then read (λ statements. read_lines (earlier ++ statements) (number + 1) lines) ≡ read_lines new (number + 1) lines
good_by (Ok statements) earlier new number lines e = let same : earlier ++ statements ≡ new = cc in ap (λ (all : List Statement). read_lines all (number + 1) lines) same
good_by (Err refusal) earlier new number lines e = absurd cc

-- a refusal is that of all lines
bad_by : (read : Result (List Statement) ReadRefusal) (earlier : List Statement) (number : ℕ) (lines : List (List ℕ)) (why : ReadRefusal) → and_then read (λ statements. Ok (earlier ++ statements)) ≡ Err why
    → and_then read (λ statements. read_lines (earlier ++ statements) (number + 1) lines) ≡ Err why
bad_by (Ok statements) earlier number lines why e = absurd cc
bad_by (Err refusal) earlier number lines why e = e

module _ (earlier : List Statement) (number : ℕ) (line : List ℕ) (lines : List (List ℕ)) where
  -- after a line that is good the others are read
  pub line_good : (new : List Statement) → with_line number line earlier ≡ Ok new → read_lines earlier number (line ∷ lines) ≡ read_lines new (number + 1) lines
  line_good new e = good_by (read_line earlier number line) earlier new number lines e

  -- a line that isn't good refuses them all
  pub line_bad : (why : ReadRefusal) → with_line number line earlier ≡ Err why → read_lines earlier number (line ∷ lines) ≡ Err why
  line_bad why e = bad_by (read_line earlier number line) earlier number lines why e

-- what a line of text says is what its words say
pub line_read : (earlier : List Statement) (number : ℕ) (bytes : List ℕ) (words : List (List ℕ)) → list_all is_text (content_of bytes) ≡ true → words ≡ words_of (content_of bytes)
    → with_line number bytes earlier ≡ with_words number words earlier
line_read earlier number bytes words text same =
    ap (λ read. and_then read (λ statements. Ok (earlier ++ statements)))
    (ap (λ (b : Bool). if b then read_words earlier number (words_of (content_of bytes)) else Err (BadByte number)) text ∙ ap (λ (all : List (List ℕ)). read_words earlier number all) (sym same))
