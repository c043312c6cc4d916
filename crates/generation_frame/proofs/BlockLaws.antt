-- A block gives back its bytes, has the length of its rows, and is of bytes.
use Rattle.std.specs.Prelude.{◌≡◌, ℕ, ◌≤◌, ◌<◌, ◌^◌, ◌-◌, ◌*◌, List, ◌++◌, length, take, replicate}
use Rattle.std.proofs.Common.{refl, ap, ◌∙◌, arith}
use Rattle.std.proofs.lemmas.List.{take_at, length-append, length-replicate}
use Rattle.std.proofs.lemmas.Nat.{from_be_bytes-to_be_bytes_4}
use Rattle.generation_frame.specs.Blocks.{capacity, block_of, counted_bytes}

-- the bytes that a block counts are those that it was made of
pub counted-block : (rate : ℕ) (piece : List ℕ) → length piece < 2 ^ 32 → counted_bytes (block_of rate piece) ≡ piece
counted-block rate piece fits =
    let zeros = replicate {A = ℕ} (capacity rate - length piece) 0 in
    let whole : length piece ≤ length (piece ++ zeros) = omega (arith, length-append piece zeros) in
    ap (λ n. take n (piece ++ zeros)) (omega (arith, from_be_bytes-to_be_bytes_4 (length piece) fits)) ∙ take_at piece zeros (length piece) refl

-- a block has as many bytes as its rows
pub length-block : (rate : ℕ) (piece : List ℕ) → 1 ≤ rate → length piece ≤ capacity rate → length (block_of rate piece) ≡ rate * 1024
length-block rate piece some fits =
    let zeros = replicate {A = ℕ} (capacity rate - length piece) 0 in
    omega (arith, length-append piece zeros, length-replicate {A = ℕ} (capacity rate - length piece) 0)
