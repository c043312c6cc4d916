-- Laws of rows that are held in pieces.
use Rattle.std.specs.Prelude.{◌≡◌, ◌<◌, ◌≤◌, ◌+◌, ◌*◌, ℕ, Bool, true, false, List, [], length, take, drop}
use Rattle.std.specs.List.{concat, list_all, range_with_len}
use Rattle.std.proofs.Common.{arith, sym, ap, ◌∙◌, get_or, inl, inr}
use Rattle.std.proofs.lemmas.Bool.{cases_lt}
use Rattle.std.proofs.lemmas.List.{ext_get_or, get_or-drop, get_or-take, get_or_past, length-drop, length-take-le}
use Rattle.std.proofs.lemmas.List.Folds.{list_all_at}
use Rattle.std.proofs.lemmas.List.FromFn.{get_or-range_with_len, length-range_with_len}
use Rattle.std.proofs.lemmas.List.Sums.{AllPass-from_list_all, list_all-from_AllPass}
use Rattle.linear_algebra.proofs.EntryLaws.{concat-rows_of, get_or-rows_of}
use Rattle.linear_algebra.proofs.MatrixLaws.{length-rows_of}
use Rattle.linear_algebra.specs.Matrices.{rows_of}
use Rattle.generation_frame.specs.Blocks.{piece_bytes, piece_of_row, pieces, row_bytes}
use Rattle.held_rows.specs.Held.{Held, is_held, is_whole, payload_of, row_count, row_of}

-- a test that each number below passes, and what follows of one
pub all_below : (test : ℕ → Bool) (n : ℕ) → ((k : ℕ) → k < n → test k ≡ true) → list_all test (range_with_len 0 n) ≡ true
all_below test n each =
    list_all-from_AllPass test (range_with_len 0 n)
    (λ k d within.
    let below : k < n = omega (arith, within, length-range_with_len 0 n) in
    ap test (get_or-range_with_len 0 n k d below ∙ omega arith) ∙ each k below)

pub fails_below : (test : ℕ → Bool) (n k : ℕ) → k < n → test k ≡ false → list_all test (range_with_len 0 n) ≡ false
fails_below test n k below fails =
    let number : get_or (range_with_len 0 n) k 0 ≡ k = get_or-range_with_len 0 n k 0 below ∙ omega arith in
    list_all_at test (range_with_len 0 n) k 0 (omega (arith, below, length-range_with_len 0 n)) (ap test number ∙ fails)

-- all pieces of a row that is whole have come
pub is_held-whole : (held : Held) (row piece : ℕ) → row < row_count held → piece < pieces → is_whole held row ≡ true → is_held held row piece ≡ true
is_held-whole held row piece within low whole =
    let rest = drop (row * 8) held.marks in
    let room : 8 ≤ length rest = omega (arith, within, length-drop (row * 8) held.marks) in
    let inside : piece < length (take 8 rest) = omega (arith, low, length-take-le 8 rest room) in
    sym (get_or-drop (row * 8) held.marks piece false)
    ∙ sym (get_or-take 8 rest piece false low)
    ∙ AllPass-from_list_all (λ (mark : Bool). mark) (take 8 rest) whole piece false inside

-- bytes whose pieces are those of a row are the row
pub row_of-pieces : (held : Held) (row : ℕ) (bytes : List ℕ) → length bytes ≡ row_bytes
    → ((piece : ℕ) → piece < pieces → payload_of held row piece ≡ piece_of_row bytes piece) → row_of held row ≡ bytes
row_of-pieces held row bytes long same =
    let rest = drop (row * 8) held.payloads in
    let last : length (payload_of held row 7) ≡ piece_bytes =
    ap (length {A = ℕ}) (same 7 (omega arith)) ∙ length-take-le piece_bytes (drop (7 * piece_bytes) bytes) (omega (arith, long, length-drop (7 * piece_bytes) bytes)) in
    let there : row * 8 + 7 < length held.payloads = elim (cases_lt (row * 8 + 7) (length held.payloads)) [
      | inl within ↦ within
      | inr past ↦ absurd (omega (arith, last, ap (length {A = ℕ}) (get_or_past held.payloads (row * 8 + 7) [] past)))
    ] in
    let room : 8 ≤ length rest = omega (arith, there, length-drop (row * 8) held.payloads) in
    let each : take 8 rest ≡ rows_of 8 piece_bytes bytes =
    ext_get_or [] (take 8 rest) (rows_of 8 piece_bytes bytes) (length-take-le 8 rest room ∙ sym (length-rows_of 8 piece_bytes bytes))
    (λ piece inside.
    let low : piece < 8 = omega (arith, inside, length-take-le 8 rest room) in
    get_or-take 8 rest piece [] low ∙ get_or-drop (row * 8) held.payloads piece [] ∙ same piece low ∙ sym (get_or-rows_of 8 piece_bytes piece bytes low)) in
    ap (λ (parts : List (List ℕ)). concat parts) each ∙ concat-rows_of 8 piece_bytes bytes long
