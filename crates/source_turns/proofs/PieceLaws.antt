-- The pieces of a source, joined.
use Rattle.std.specs.Prelude.{◌≡◌, ◌≤◌, ℕ, true, nat_lt, List, [], ◌∷◌, ◌++◌, cond, filter, length, map}
use Rattle.std.specs.List.{concat, range_with_len}
use Rattle.std.proofs.Common.{refl, sym, ap, ◌∙◌, arith}
use Rattle.generation_frame.proofs.PieceLaws.{concat-pieces_of}
use Rattle.generation_frame.specs.Blocks.{block_count, piece_of}

-- lists without bytes may be left out
some-concat : (lists : List (List ℕ)) → concat (filter (λ bytes. nat_lt 0 (length bytes)) lists) ≡ concat lists
some-concat [] = refl
some-concat ([] ∷ lists) = some-concat lists
some-concat ((byte ∷ bytes) ∷ lists) =
    let some : nat_lt 0 (length (byte ∷ bytes)) ≡ true = grind arith in
    let rest = filter (λ bytes. nat_lt 0 (length bytes)) lists in
    ap (λ test. concat (cond test ((byte ∷ bytes) ∷ rest) rest)) some ∙ ap (λ later. (byte ∷ bytes) ++ later) (some-concat lists)

-- all pieces are the file
pub pieces-file : (file : List ℕ) (rate : ℕ) → 1 ≤ rate → concat (map (piece_of file rate) (range_with_len 0 (block_count file rate))) ≡ file
pieces-file file rate some = sym (some-concat (map (piece_of file rate) (range_with_len 0 (block_count file rate)))) ∙ concat-pieces_of file rate some
