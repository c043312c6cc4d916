-- A headed frame that was read gives back its bytes, and one that was written its packet and its vector.
use Rattle.std.specs.Prelude.{◌≡◌, ℕ, zero, suc, ◌<◌, ◌≤◌, ◌+◌, ◌*◌, ◌==◌, ◌&&◌, if◌then◌else◌, nat_lt, true, List, [], ◌∷◌, ◌++◌, length, take, drop, slice_index_or, Result, Ok, Err}
use Rattle.std.specs.Int.{to_be_bytes, from_be_bytes, w32}
use Rattle.std.proofs.Common.{arith, sym, ap, ◌∙◌, inl, inr}
use Rattle.std.proofs.lemmas.Bool.{and_parts, eqb-true, eq-eqb, le-ltb}
use Rattle.std.proofs.Math.Path.{ap₂}
use Rattle.std.proofs.lemmas.List.{take_at, drop_at, take-append-drop, length-append, length-take, length-drop, drop-drop}
use Rattle.std.proofs.lemmas.List.Elements.{All-from_get_or, All-take, All-drop}
use Rattle.std.proofs.lemmas.Nat.{from_be_bytes-to_be_bytes_4}
use Rattle.gf_tables.specs.Field.{AreSizes}
use Rattle.gf_tables.specs.declared.kind.FieldKind.TheVariants.{Eight, Sixteen}
use Rattle.generation_frame.proofs.FrameLaws.{frame_of-packet_in}
use Rattle.generation_frame.specs.Frames.{Fits}
use Rattle.generation_frame.specs.declared.frame.Packet.{Packet}
use Rattle.linear_algebra.proofs.ElementsLaws.{elements_of-bytes_of_row, bytes_of_row-elements_of, length-bytes_of_row}
use Rattle.linear_algebra.specs.Elements.{AreBytes, bytes_of_numbers, numbers_of_bytes}
use Rattle.vector_headers.specs.Heads.{width_of_bytes, headed, vector_in, packet_in, is_marked, head_length, head_read}
use Rattle.vector_headers.specs.declared.heads.HeadRefusal.{HeadRefusal}
use Rattle.vector_headers.specs.declared.heads.HeadRefusal.TheVariants.{BadLength, BadPiece}

-- bytes with another version
with_version : (a b c piece : ℕ) (rest : List ℕ) → ((i : ℕ) → slice_index_or (a ∷ b ∷ c ∷ piece ∷ rest) i 0 < 256) → (i : ℕ) → slice_index_or (a ∷ b ∷ 0x01 ∷ piece ∷ rest) i 0 < 256
with_version a b c piece rest are zero = are 0
with_version a b c piece rest are (suc zero) = are 1
with_version a b c piece rest are (suc (suc zero)) = omega arith
with_version a b c piece rest are (suc (suc (suc i))) = are (suc (suc (suc i)))

module _ (bytes size : ℕ) (sizes : AreSizes bytes size) where
  -- numbers give back those of their bytes
  numbers_again : (row : List ℕ) → numbers_of_bytes (width_of_bytes bytes) (bytes_of_numbers (width_of_bytes bytes) row) ≡ row
  numbers_again row = elim sizes [
    | inl s ↦ rw s.0 (elements_of-bytes_of_row Eight row)
    | inr s ↦ rw s.0 (elements_of-bytes_of_row Sixteen row)
  ]

  -- the bytes of whole numbers give back those bytes
  bytes_again : (row : List ℕ) (n : ℕ) → AreBytes row → length row ≡ n * bytes → bytes_of_numbers (width_of_bytes bytes) (numbers_of_bytes (width_of_bytes bytes) row) ≡ row
  bytes_again row n are long = elim sizes [
    | inl s ↦ let whole : length row ≡ 1 * n = rw s.0 at long ∙ omega arith in rw s.0 (bytes_of_row-elements_of Eight n row are whole)
    | inr s ↦ let whole : length row ≡ 2 * n = rw s.0 at long ∙ omega arith in rw s.0 (bytes_of_row-elements_of Sixteen n row are whole)
  ]

  -- how many bytes numbers have
  pub length-bytes : (row : List ℕ) → length (bytes_of_numbers (width_of_bytes bytes) row) ≡ length row * bytes
  length-bytes row = elim sizes [
    | inl s ↦ rw s.0 (length-bytes_of_row Eight row ∙ omega arith)
    | inr s ↦ rw s.0 (length-bytes_of_row Sixteen row ∙ omega arith)
  ]

  -- a headed frame has the vector that it was made of
  pub vector_in-headed : (vector : List ℕ) (packet : Packet) → vector_in bytes (length vector) (headed bytes vector packet) ≡ vector
  vector_in-headed vector packet =
      let made = bytes_of_numbers (width_of_bytes bytes) vector in
      ap (numbers_of_bytes (width_of_bytes bytes)) (take_at made packet.payload (length vector * bytes) (length-bytes vector)) ∙ numbers_again vector

  -- a headed frame is read
  pub head_read-headed : (vector : List ℕ) (packet : Packet) → Fits packet → length packet.payload ≡ 128
      → head_read bytes (length vector) (headed bytes vector packet) ≡ Ok packet
  head_read-headed vector packet fits long =
      let made = bytes_of_numbers (width_of_bytes bytes) vector in
      let n = length vector * bytes in
      let frame = headed bytes vector packet in
      let whole : length frame ≡ 140 + n = omega (arith, length-append made packet.payload, length-bytes vector, long) in
      let payload : drop (12 + n) frame ≡ packet.payload = sym (drop-drop n 12 frame) ∙ drop_at made packet.payload n (length-bytes vector) in
      let read = packet_in (12 + n) frame in
      let Answer : Type 0 = Result Packet HeadRefusal in
      ap (λ right. let answer : Answer = if right then (if nat_lt 7 packet.piece then Err BadPiece else Ok read) else Err BadLength in answer) (eq-eqb (length frame) (140 + n) whole)
      ∙ ap (λ high. let answer : Answer = if high then Err BadPiece else Ok read in answer) (le-ltb 7 packet.piece (let low = fits.piece in omega arith))
      ∙ ap Ok (
      ap (λ (bytes : List ℕ). let p : Packet = record { link = read.link; generation = read.generation; piece = packet.piece; payload = bytes } in p) payload
      ∙ ap (λ (n : ℕ). let p : Packet = record { link = n; generation = read.generation; piece = packet.piece; payload = packet.payload } in p) (from_be_bytes-to_be_bytes_4 packet.link fits.link)
      ∙ ap (λ (n : ℕ). let p : Packet = record { link = packet.link; generation = n; piece = packet.piece; payload = packet.payload } in p) (from_be_bytes-to_be_bytes_4 packet.generation fits.generation)
      )

  -- a headed frame that was read gives back its bytes
  pub headed-packet_in : (frame : List ℕ) (count : ℕ) → length frame ≡ head_length bytes count → ((i : ℕ) → slice_index_or frame i 0 < 256) → is_marked frame ≡ true
      → headed bytes (vector_in bytes count frame) (packet_in (12 + count * bytes) frame) ≡ frame
  headed-packet_in [] count long are marked = absurd (omega arith)
  headed-packet_in (a ∷ []) count long are marked = absurd (omega arith)
  headed-packet_in (a ∷ b ∷ []) count long are marked = absurd (omega arith)
  headed-packet_in (a ∷ b ∷ c ∷ []) count long are marked = absurd (omega arith)
  headed-packet_in (a ∷ b ∷ c ∷ piece ∷ rest) count long are marked =
      let frame = a ∷ b ∷ c ∷ piece ∷ rest in
      let n = count * bytes in
      let letters = and_parts ((a == 0x4c) && (b == 0x46)) (c == 0x02) marked in
      let both = and_parts (a == 0x4c) (b == 0x46) letters.0 in
      let other = a ∷ b ∷ 0x01 ∷ piece ∷ rest in
      let law = frame_of-packet_in other (omega (arith, long)) (with_version a b c piece rest are) (ap (λ t. t && true) letters.0) in
      let vector = take n (drop 8 rest) in
      let enough : n ≤ length (drop 8 rest) = omega (arith, length-drop 8 rest, long) in
      let many : length vector ≡ n = omega (arith, length-take n (drop 8 rest), enough) in
      let own : AreBytes frame = All-from_get_or (λ byte. byte < 256) frame 0 (λ k _. are k) in
      let made : bytes_of_numbers (width_of_bytes bytes) (vector_in bytes count frame) ≡ vector =
      bytes_again vector count (All-take (λ byte. byte < 256) n (drop 12 frame) (All-drop (λ byte. byte < 256) 12 frame own)) many
      in
      let joined : bytes_of_numbers (width_of_bytes bytes) (vector_in bytes count frame) ++ drop (12 + n) frame ≡ drop 8 rest =
      ap₂ (λ (xs ys : List ℕ). xs ++ ys) made (sym (drop-drop n 12 frame)) ∙ take-append-drop n (drop 8 rest)
      in
      let front = to_be_bytes w32 (from_be_bytes w32 (take 4 rest)) ++ to_be_bytes w32 (from_be_bytes w32 (take 4 (drop 4 rest))) in
      ap (λ (xs : List ℕ). 0x4c ∷ 0x46 ∷ 0x02 ∷ piece ∷ (front ++ xs)) joined
      ∙ ap (λ (xs : List ℕ). 0x4c ∷ 0x46 ∷ 0x02 ∷ drop 3 xs) law
      ∙ ap (λ x. x ∷ 0x46 ∷ 0x02 ∷ piece ∷ rest) (sym (eqb-true a 0x4c both.0))
      ∙ ap (λ x. a ∷ x ∷ 0x02 ∷ piece ∷ rest) (sym (eqb-true b 0x46 both.1))
      ∙ ap (λ x. a ∷ b ∷ x ∷ piece ∷ rest) (sym (eqb-true c 0x02 letters.1))
