-- How far a row has been added to, from one step to the next.
use Rattle.std.proofs.Common.{◌≡◌, ℕ, ◌+◌, ◌-◌, ◌<◌, ◌≤◌, List, map, length, get_or, refl, ap, sym, ◌∙◌, arith, inl, inr, bit_xor}
use Rattle.std.proofs.lemmas.Bool.{cases_lt}
use Rattle.std.proofs.lemmas.List.{get_or-map, length-map, ext_get_or}
use Rattle.std.proofs.lemmas.Simd.{length-zip2, get_or-zip2, length-chunk, get_or-chunk, length-put_chunk, get_or-put_chunk_below, get_or-put_chunk_at, get_or-put_chunk_above}
use Rattle.std.specs.Simd.Lanes.{zip2, chunk, put_chunk}
use Rattle.field_rows.specs.Added.{IsAddedBelow, of_byte}

-- one more block of 64 bytes
module _ (added : ℕ → ℕ) (n : ℕ) (old current lanes : List ℕ) (h : IsAddedBelow added n old current) (long : length lanes ≡ 64)
    (each : (j : ℕ) → j < 64 → get_or lanes j 0 ≡ added (n + j)) (room : n + 64 ≤ length old) where
  abbrev sums : List ℕ
  sums = zip2 bit_xor (chunk n 64 current) lanes

  chunk_long : length (chunk n 64 current) ≡ 64
  chunk_long = length-chunk n 64 current (omega (arith, h.count))

  count : length sums ≡ 64
  count = length-zip2 bit_xor (chunk n 64 current) lanes (chunk_long ∙ sym long) ∙ chunk_long

  sum_at : (j : ℕ) → j < 64 → get_or sums j 0 ≡ bit_xor (get_or old (n + j) 0) (added (n + j))
  sum_at j l =
      let e : get_or (chunk n 64 current) j 0 ≡ get_or old (n + j) 0 = get_or-chunk n 64 current j 0 l ∙ h.above (n + j) (omega arith) in
      get_or-zip2 bit_xor (chunk n 64 current) lanes j 0 0 0 (omega (arith, chunk_long)) (omega (arith, long)) ∙ rw (e, each j l) refl

  pub added_block : IsAddedBelow added (n + 64) old (put_chunk n current sums)
  added_block = record {
    count = length-put_chunk n current sums ∙ h.count;
    below = λ k l. elim (cases_lt k n) [
      | inl p ↦ get_or-put_chunk_below n current sums k 0 p ∙ h.below k p
      | inr p ↦
          let e : n + (k - n) ≡ k = omega arith in
          rw e at (get_or-put_chunk_at n current sums (k - n) 0 (omega (arith, count)) (omega (arith, count, h.count)) ∙ sum_at (k - n) (omega arith))
    ];
    above = λ k l. get_or-put_chunk_above n current sums k 0 (omega (arith, count)) ∙ h.above k (omega arith);
  }

-- lanes that hold what tables in both halves give for the bytes of a block, where the tables give what f does
pub lanes_of_block : (f : ℕ → ℕ) (tables : ℕ → ℕ → ℕ) (from lanes : List ℕ) (n : ℕ)
    → ((i byte : ℕ) → i < 32 → byte < 256 → tables i byte ≡ f byte) → ((i byte : ℕ) → 32 ≤ i → i < 64 → byte < 256 → tables i byte ≡ f byte)
    → ((k : ℕ) → get_or from k 0 < 256) → ((j : ℕ) → j < 64 → get_or lanes j 0 ≡ tables j (get_or (chunk n 64 from) j 0))
    → (j : ℕ) → j < 64 → get_or lanes j 0 ≡ of_byte f from (n + j)
lanes_of_block f tables from lanes n lower upper fits given j l =
    let byte = get_or from (n + j) 0 in
    let is_f : tables j byte ≡ f byte = elim (cases_lt j 32) [ inl p ↦ lower j byte p (fits (n + j)) | inr p ↦ upper j byte p l (fits (n + j)) ] in
    given j l ∙ ap (tables j) (get_or-chunk n 64 from j 0 l) ∙ is_f

-- all bytes
pub added_all : (f : ℕ → ℕ) (n : ℕ) (old from new : List ℕ) → IsAddedBelow (of_byte f from) n old new → length old ≡ length from → length from ≤ n → new ≡ zip2 bit_xor old (map f from)
added_all f n old from new h same all =
    let long : length (map f from) ≡ length from = length-map from f in
    let count : length (zip2 bit_xor old (map f from)) ≡ length old = length-zip2 bit_xor old (map f from) (omega arith) in
    ext_get_or 0 _ _ (h.count ∙ sym count) (λ k l.
    let d = get_or-map f from k 0 0 (omega (arith, h.count)) in
    h.below k (omega (arith, h.count)) ∙ sym (get_or-zip2 bit_xor old (map f from) k 0 0 0 (omega (arith, h.count)) (omega (arith, h.count)) ∙ ap (bit_xor (get_or old k 0)) d))
