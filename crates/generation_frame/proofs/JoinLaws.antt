-- Joining the blocks of a file, one after another.
use Rattle.std.specs.Prelude.{◌≡◌, ◌<◌, ◌≤◌, ◌^◌, ◌==◌, ◌*◌, ◌/◌, ◌%◌, ℕ, false, nat_lt, if◌then◌else◌, List, length, take, drop, suc, ◌+◌}
use Rattle.std.proofs.Common.{refl, ap, ◌∙◌, arith}
use Rattle.std.proofs.Math.Nat.{mod-lt, div-mul-le_self, div-add-mod, le_trans, mul-le-mul_right, mul_comm}
use Rattle.std.proofs.lemmas.Bool.{eq-eqb, le-ltb, ne_eqb}
use Rattle.std.proofs.lemmas.List.{length-drop, length-take}
use Rattle.std.proofs.lemmas.Nat.{from_be_bytes-to_be_bytes_4}
use Rattle.generation_frame.specs.Blocks.{capacity, block_of, count_of, piece_of}
use Rattle.generation_frame.specs.Joins.{Joining, joined}
use Rattle.generation_frame.specs.declared.joiner.Joined.{Joined}
use Rattle.generation_frame.specs.declared.joiner.Joined.TheVariants.{More, Last, BadCount}

-- a joiner before the last block
abbrev pub fresh : ℕ → Joining
fresh rate = record { rate = rate; ended = false }

-- what a count says of a block
abbrev said : ℕ → ℕ → Joined
said rate count = if nat_lt (capacity rate) count then BadCount count else if count == capacity rate then More count else Last count

-- a block counts the bytes that it was made of
pub count_of-block : (rate : ℕ) (piece : List ℕ) → length piece < 2 ^ 32 → count_of (block_of rate piece) ≡ length piece
count_of-block rate piece fits = from_be_bytes-to_be_bytes_4 (length piece) fits

-- a full block is followed by more
pub joined-full : (rate : ℕ) (piece : List ℕ) → rate ≤ 32 → length piece ≡ capacity rate → joined (fresh rate) (block_of rate piece) ≡ More (capacity rate)
joined-full rate piece low full =
    let count : count_of (block_of rate piece) ≡ capacity rate = count_of-block rate piece (omega (arith, full, low)) ∙ full in
    ap (said rate) count ∙ ap (λ bad. if bad then BadCount (capacity rate) else if capacity rate == capacity rate then More (capacity rate) else Last (capacity rate)) (le-ltb (capacity rate) (capacity rate) (omega arith))
    ∙ ap (λ whole. if whole then More (capacity rate) else Last (capacity rate)) (eq-eqb (capacity rate) (capacity rate) refl)

-- a block with less is the last
pub joined-last : (rate : ℕ) (piece : List ℕ) → rate ≤ 32 → length piece < capacity rate → joined (fresh rate) (block_of rate piece) ≡ Last (length piece)
joined-last rate piece low less =
    ap (said rate) (count_of-block rate piece (omega (arith, less, low)))
    ∙ ap (λ bad. if bad then BadCount (length piece) else if length piece == capacity rate then More (length piece) else Last (length piece)) (le-ltb (capacity rate) (length piece) (omega (arith, less)))
    ∙ ap (λ whole. if whole then More (length piece) else Last (length piece)) (ne_eqb (length piece) (capacity rate) (omega (arith, less)))

module _ (file : List ℕ) (rate : ℕ) (some : 1 ≤ rate) (low : rate ≤ 32) where
  -- a block before the last one of a file is full, and followed by more
  pub joined-before : (generation : ℕ) → generation < length file / capacity rate
      → joined (fresh rate) (block_of rate (piece_of file rate generation)) ≡ More (capacity rate)
  joined-before generation before =
      let room = capacity rate in
      let rest = drop (generation * room) file in
      let whole : suc generation * room ≤ length file = le_trans (mul-le-mul_right room before) (div-mul-le_self (length file) room) in
      let next : suc generation * room ≡ generation * room + room = grind arith in
      let left : room ≤ length rest = omega (arith, whole, next, length-drop (generation * room) file) in
      joined-full rate (take room rest) low (omega (arith, left, length-take room rest))

  -- the block at the end has the rest of the file, and is the last
  pub joined-at_end : joined (fresh rate) (block_of rate (piece_of file rate (length file / capacity rate))) ≡ Last (length file % capacity rate)
  joined-at_end =
      let room = capacity rate in
      let begin = length file / room * room in
      let rest = drop begin file in
      let parts : room * (length file / room) + length file % room ≡ length file = div-add-mod (length file) room in
      let turned : room * (length file / room) ≡ begin = mul_comm room (length file / room) in
      let less : length file % room < room = mod-lt (length file) (omega (arith, some)) in
      let left : length rest ≡ length file % room = omega (arith, parts, turned, length-drop begin file) in
      let piece : length (take room rest) ≡ length file % room = omega (arith, left, less, length-take room rest) in
      joined-last rate (take room rest) low (omega (arith, piece, less)) ∙ ap Last piece
