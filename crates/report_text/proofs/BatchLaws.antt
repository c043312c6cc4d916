-- The texts of batches, put together in order, are those of all that was cut into batches.
use Rattle.std.specs.Prelude.{◌≡◌, ◌<◌, ◌≤◌, ℕ, zero, suc, ◌+◌, ◌*◌, ◌/◌, ◌%◌, min, List, [], ◌++◌, All, IfOk, IsOk, Err, Ok, Result, Vec, flat_map, get_or, length, take}
use Rattle.std.specs.Fork.{IsChunk, slice_chunk}
use Rattle.std.specs.Global.{Global}
use Rattle.std.specs.declared.alloc.AllocError.{AllocError}
use Rattle.std.proofs.Common.{sym, ◌∙◌, ap, subst, arith}
use Rattle.std.proofs.Math.Nat.{suc-mul, zero-mul}
use Rattle.std.proofs.Math.Numerals.{add-one}
use Rattle.std.proofs.Math.Seq.{take-add}
use Rattle.std.proofs.lemmas.Grind.{div_ceil_times}
use Rattle.std.proofs.lemmas.List.{flat_map_more, take_all, take_more}
use Rattle.std.proofs.lemmas.List.Concat.{flat_map-append}
use Rattle.report_text.specs.Batches.{AreJoined, made_text}

-- the text of a batch that was made
made_is : (one : Result (Vec ℕ Global) AllocError) (lines : List ℕ) → IsOk one → IfOk one (λ text. text.items ≡ lines) → made_text one ≡ lines
made_is (Ok text) lines made is = is
made_is (Err why) lines made is = absurd cc

module _ {X : Type 0} (f : X → List ℕ) (size : ℕ) (xs : List X) (texts : List (Result (Vec ℕ Global) AllocError)) where
  -- each text, where it was made, is that of the batch of its number
  abbrev pub AreOfBatches : Type 0
  AreOfBatches = (n : ℕ) (d : Result (Vec ℕ Global) AllocError) → n < length texts → (batch : List X) × IsChunk xs size (n * size) batch × IfOk (get_or texts n d) (λ text. text.items ≡ flat_map f batch)

  module _ (are : AreOfBatches) (made : All IsOk texts) (d : Result (Vec ℕ Global) AllocError) where
    each : (n : ℕ) → n < length texts → made_text (get_or texts n d) ≡ flat_map f (slice_chunk xs size n)
    each n within =
        let one = are n d within in
        made_is (get_or texts n d) (flat_map f one.0) (made n d within) one.2 ∙ ap (flat_map f) one.1.value

    -- the first texts are those of the first batches
    so_far : (n : ℕ) → n ≤ length texts → flat_map made_text (take n texts) ≡ flat_map f (take (n * size) xs)
    so_far zero within = ap (λ k. flat_map f (take k xs)) (sym (zero-mul size))
    so_far (suc n) within =
        let there : n < length texts = omega arith in
        let before : n ≤ length texts = omega arith in
        let front = so_far n before in
        let this = each n there in
        let first = take (n * size) xs in
        let batch = slice_chunk xs size n in
        let one = get_or texts n d in
        let longer = ap (λ k. flat_map made_text (take k texts)) (sym (add-one n)) ∙ ap (flat_map made_text) (take_more texts n d there) ∙ sym (flat_map_more made_text [] (take n texts) one) in
        let further = ap (λ k. flat_map f (take k xs)) (suc-mul n size) ∙ ap (flat_map f) (take-add (n * size) size xs) ∙ flat_map-append f first batch in
        longer ∙ ap (λ lines. lines ++ made_text one) front ∙ ap (λ lines. flat_map f first ++ lines) this ∙ sym further

    all_batches : 0 < size → length texts ≡ length xs / size + min 1 (length xs % size) → flat_map made_text texts ≡ flat_map f xs
    all_batches some count =
        let whole : length xs ≤ length texts * size = subst (λ n. length xs ≤ n * size) (sym count) (div_ceil_times (length xs) size some).0 in
        sym (ap (flat_map made_text) (take_all (length texts) texts (omega arith))) ∙ so_far (length texts) (omega arith) ∙ ap (flat_map f) (take_all (length texts * size) xs whole)

  -- the texts of all batches
  pub joined_batches : (before : List ℕ) (whole : Result (Vec ℕ Global) AllocError) → 0 < size → length texts ≡ length xs / size + min 1 (length xs % size) → AreOfBatches → IfOk whole (λ text. AreJoined before texts text.items)
      → IfOk whole (λ text. text.items ≡ before ++ flat_map f xs)
  joined_batches before (Ok text) some count are is = is.in_order ∙ ap (λ lines. before ++ lines) (all_batches are is.made (Ok text) some count)
  joined_batches before (Err why) some count are is = is
