-- The blocks of a file: each counts what it has of the file, and no count is wrong.
use Rattle.std.specs.Prelude.{◌≡◌, ◌<◌, ◌≤◌, ◌+◌, ◌-◌, ◌*◌, ◌/◌, ◌^◌, ◌==◌, ℕ, false, if◌then◌else◌, nat_lt, not, List, [], drop, length, min}
use Rattle.std.proofs.Common.{ap, ◌∙◌, arith, inl, inr}
use Rattle.std.proofs.Math.Nat.{add-mul, div-mul-le_self, lt-div-mul-add, mul-le-mul_right}
use Rattle.std.proofs.lemmas.Bool.{cases_lt, eq-eqb, lt-ltb, ne_eqb}
use Rattle.std.proofs.lemmas.List.{length-drop, length-take}
use Rattle.std.proofs.lemmas.List.FromFn.{get_or-map-range_with_len, length-map-range_with_len}
use Rattle.std.proofs.lemmas.Nat.{from_be_bytes-to_be_bytes_4}
use Rattle.coded_traffic.specs.Traffic.{Window, block_at}
use Rattle.generation_frame.proofs.BlockLaws.{counted-block}
use Rattle.generation_frame.proofs.PieceLaws.{length-piece_of}
use Rattle.generation_frame.specs.Blocks.{block_count, block_of, blocks_of, capacity, count_of, counted_bytes, piece_of}
use Rattle.net_model.specs.Limits.{highest_rate}
use Rattle.top_nodes.specs.Sink.{is_bad}

-- the blocks of a file, numbered from 0
abbrev pub file_window : List ℕ → ℕ → Window
file_window file rate = record { first = 0; blocks = blocks_of file rate }

pub length-file_window : (file : List ℕ) (rate : ℕ) → length (file_window file rate).blocks ≡ block_count file rate
length-file_window file rate = length-map-range_with_len (λ generation. block_of rate (piece_of file rate generation)) 0 (block_count file rate)

pub block_at-file : (file : List ℕ) (rate generation : ℕ) → generation < block_count file rate → block_at (file_window file rate) generation ≡ block_of rate (piece_of file rate generation)
block_at-file file rate generation below =
    let at : 0 + (generation - 0) ≡ generation = omega arith in
    get_or-map-range_with_len (λ number. block_of rate (piece_of file rate number)) 0 (block_count file rate) (generation - 0) generation [] (omega arith) at

module _ (file : List ℕ) (rate : ℕ) (some : 1 ≤ rate) (low : rate ≤ highest_rate) where
  -- a block's piece, its count and its bytes
  abbrev piece : ℕ → List ℕ
  piece generation = piece_of file rate generation

  fits : (generation : ℕ) → length (piece generation) < 2 ^ 32
  fits generation = let short = length-piece_of file rate generation in omega (arith, short, low)

  pub count_of-file : (generation : ℕ) → count_of (block_of rate (piece generation)) ≡ length (piece generation)
  count_of-file generation = from_be_bytes-to_be_bytes_4 (length (piece generation)) (fits generation)

  pub counted-file : (generation : ℕ) → counted_bytes (block_of rate (piece generation)) ≡ piece generation
  counted-file generation = counted-block rate (piece generation) (fits generation)

  -- ---- their lengths

  length-piece : (generation : ℕ) → length (piece generation) ≡ min (capacity rate) (length file - generation * capacity rate)
  length-piece generation =
      length-take (capacity rate) (drop (generation * capacity rate) file) ∙ ap (min (capacity rate)) (length-drop (generation * capacity rate) file)

  whole-piece : (generation : ℕ) → generation + 1 < block_count file rate → length (piece generation) ≡ capacity rate
  whole-piece generation below =
      let size = capacity rate in
      let least : (generation + 1) * size ≤ length file / size * size = mul-le-mul_right size (omega (arith, below)) in
      let next : (generation + 1) * size ≡ generation * size + 1 * size = add-mul generation 1 size in
      let is = length-piece generation in
      omega (arith, is, least, next, div-mul-le_self (length file) size)

  last-piece : (generation : ℕ) → generation + 1 ≡ block_count file rate → length (piece generation) < capacity rate
  last-piece generation last =
      let size = capacity rate in
      let some_size : 0 < size = omega (arith, some) in
      let same : generation * size ≡ length file / size * size = ap (λ n. n * size) (omega (arith, last)) in
      let is = length-piece generation in
      omega (arith, is, same, some_size, lt-div-mul-add {a = length file} some_size)

  -- so no count is wrong
  pub count_is-good : (generation : ℕ) → generation < block_count file rate → is_bad (capacity rate) (block_count file rate) generation (length (piece generation)) ≡ false
  count_is-good generation below = elim (cases_lt (generation + 1) (block_count file rate)) [
    | inl before ↦
        ap (λ last. if last then not (nat_lt (length (piece generation)) (capacity rate)) else not (length (piece generation) == capacity rate)) (ne_eqb (generation + 1) (block_count file rate) (λ same. absurd (omega (arith, same, before))))
        ∙ ap not (eq-eqb (length (piece generation)) (capacity rate) (whole-piece generation before))
    | inr last ↦
        let is : generation + 1 ≡ block_count file rate = omega (arith, last, below) in
        ap (λ last. if last then not (nat_lt (length (piece generation)) (capacity rate)) else not (length (piece generation) == capacity rate)) (eq-eqb (generation + 1) (block_count file rate) is)
        ∙ ap not (lt-ltb (length (piece generation)) (capacity rate) (last-piece generation is))
  ]
