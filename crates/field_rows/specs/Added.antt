-- What is added to the bytes of a row, place by place.
use Rattle.std.specs.Prelude.{◌≡◌, ◌<◌, ◌≤◌, ℕ, List, length, slice_index, bit_xor}

-- below n, what stands for the place has been added to each byte of `old`, and the other bytes are as they were
pub record IsAddedBelow (added : ℕ → ℕ) (n : ℕ) (old new : List ℕ) : Type 0 where
  pub count : length new ≡ length old
  pub below : (k : ℕ) → k < n → slice_index new k ≡ bit_xor (slice_index old k) (added k)
  pub above : (k : ℕ) → n ≤ k → slice_index new k ≡ slice_index old k

-- f of the byte at a place
abbrev pub of_byte : (ℕ → ℕ) → List ℕ → ℕ → ℕ
of_byte f from k = f (slice_index from k)
