-- Blocks that are cut one after another into a room for them, and how long they are.
use Rattle.std.specs.Prelude.{◌≡◌, ◌≤◌, ◌+◌, ◌*◌, ℕ, List, [], ◌∷◌, ◌++◌, length, take}
use Rattle.std.specs.List.{concat}
use Rattle.std.proofs.Common.{sym, ap, ◌∙◌, arith}
use Rattle.std.proofs.lemmas.List.{append-nil, length-append}
use Rattle.std.proofs.lemmas.List.Folds.{concat-append}
use Rattle.generation_frame.proofs.BlockLaws.{length-block}
use Rattle.generation_frame.proofs.PieceLaws.{length-piece_of}
use Rattle.generation_frame.specs.Blocks.{piece_of, row_bytes}
use Rattle.source_delivery.proofs.CarriedLaws.{blocks_in-append}
use Rattle.source_delivery.proofs.Pieces.{put-block}
use Rattle.source_delivery.specs.Carried.{blocks_in, file_block}
use Rattle.source_delivery.specs.Twin.{twin_block}

-- a block that was cut behind the first ones
pub cut-next : (made : ℕ → List ℕ) (blocks block rest : List ℕ) (place size : ℕ) → place * size + size ≤ length blocks → length (made place) ≡ size
    → take (place * size) blocks ≡ concat (blocks_in made 0 place) → block ≡ made place
    → take ((place + 1) * size) (take (place * size) blocks ++ (block ++ rest)) ≡ concat (blocks_in made 0 (place + 1))
cut-next made blocks block rest place size room long stand is =
    let first = blocks_in made 0 place in
    let start : 0 + place ≡ place = omega arith in
    put-block blocks block rest (concat first) place size (omega (arith, room)) (ap length is ∙ long) stand
    ∙ ap (λ block. concat first ++ block) (is ∙ sym (append-nil (made place)))
    ∙ sym (concat-append first (made place ∷ []))
    ∙ ap concat (sym (blocks_in-append made 0 place 1 ∙ ap (λ place. first ++ blocks_in made place 1) start))

-- a block has as many bytes as its rows
pub length-file_block : (file : List ℕ) (rate generation : ℕ) → 1 ≤ rate → length (file_block file rate generation) ≡ rate * row_bytes
length-file_block file rate generation some = length-block rate (piece_of file rate generation) some (length-piece_of file rate generation)

pub length-twin_block : (first_rate second_rate : ℕ) (first second : List ℕ) (generation : ℕ) → 1 ≤ first_rate → 1 ≤ second_rate
    → length (twin_block first_rate second_rate first second generation) ≡ (first_rate + second_rate) * row_bytes
length-twin_block first_rate second_rate first second generation some others =
    let front = file_block first first_rate generation in
    let rest = file_block second second_rate generation in
    omega (arith, length-append front rest, length-file_block first first_rate generation some, length-file_block second second_rate generation others)
