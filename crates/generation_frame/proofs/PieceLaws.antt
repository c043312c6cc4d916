-- The pieces of a file, one behind the other, and that they are the file.
use Rattle.std.specs.Prelude.{◌≡◌, ℕ, zero, suc, ◌≤◌, ◌<◌, ◌+◌, ◌*◌, true, if◌then◌else◌, nat_lt, List, [], ◌∷◌, ◌++◌, length, take, drop}
use Rattle.std.specs.List.{concat}
use Rattle.std.proofs.Common.{refl, sym, ap, ◌∙◌, arith}
use Rattle.std.proofs.Math.Nat.{lt-div-mul-add}
use Rattle.std.proofs.Math.Seq.{take-add}
use Rattle.std.proofs.lemmas.List.{append-nil, length-take, take_all}
use Rattle.std.proofs.lemmas.List.Folds.{concat-append}
use Rattle.std.proofs.lemmas.List.FromFn.{filter_of_map_range_with_len_more}
use Rattle.generation_frame.specs.Blocks.{capacity, block_count, piece_of, pieces_before, pieces_of}

-- a piece has no more bytes than a block has room for
pub length-piece_of : (file : List ℕ) (rate generation : ℕ) → length (piece_of file rate generation) ≤ capacity rate
length-piece_of file rate generation = omega (arith, length-take (capacity rate) (drop (generation * capacity rate) file))

pub pieces_before-more : (file : List ℕ) (rate generations : ℕ)
    → pieces_before file rate (generations + 1) ≡ pieces_before file rate generations ++ (if nat_lt 0 (length (piece_of file rate generations)) then piece_of file rate generations ∷ [] else [])
pieces_before-more file rate generations = filter_of_map_range_with_len_more (λ piece. nat_lt 0 (length piece)) (piece_of file rate) 0 generations generations (omega arith)

-- a piece of no bytes adds none
concat_some : (piece : List ℕ) → concat (if nat_lt 0 (length piece) then piece ∷ [] else []) ≡ piece
concat_some [] = refl
concat_some (byte ∷ piece) =
    let some : nat_lt 0 (length (byte ∷ piece)) ≡ true = grind arith in
    ap (λ test. concat (if test then (byte ∷ piece) ∷ [] else [])) some ∙ append-nil (byte ∷ piece)

-- the pieces before a generation are the front of the file
pub concat-pieces_before : (file : List ℕ) (rate generations : ℕ) → concat (pieces_before file rate generations) ≡ take (generations * capacity rate) file
concat-pieces_before file rate zero = let none : 0 * capacity rate ≡ 0 = omega arith in ap (λ n. take n file) (sym none)
concat-pieces_before file rate (suc n) =
    let room = capacity rate in
    let piece = piece_of file rate n in
    let more : suc n ≡ n + 1 = omega arith in
    let long : n * room + room ≡ suc n * room = grind arith in
    ap (λ generations. concat (pieces_before file rate generations)) more ∙ ap concat (pieces_before-more file rate n)
    ∙ concat-append (pieces_before file rate n) (if nat_lt 0 (length piece) then piece ∷ [] else [])
    ∙ ap (λ front. front ++ concat (if nat_lt 0 (length piece) then piece ∷ [] else [])) (concat-pieces_before file rate n) ∙ ap (λ last. take (n * room) file ++ last) (concat_some piece)
    ∙ sym (take-add (n * room) room file) ∙ ap (λ count. take count file) long

-- all pieces are the file
pub concat-pieces_of : (file : List ℕ) (rate : ℕ) → 1 ≤ rate → concat (pieces_of file rate) ≡ file
concat-pieces_of file rate some =
    let room = capacity rate in
    let below : 0 < room = omega arith in
    let enough : length file ≤ block_count file rate * room = grind (arith, lt-div-mul-add {a = length file} below) in
    concat-pieces_before file rate (block_count file rate) ∙ take_all (block_count file rate * room) file enough
