-- Decoders that are put at the numbers of their demands, sink by sink.
use Rattle.std.specs.Prelude.{◌≡◌, ◌≢◌, ◌<◌, ◌+◌, ◌*◌, ℕ, List, Some, length, set, slice_get}
use Rattle.std.proofs.Common.{sym, ap, ◌∙◌, arith, inl, inr}
use Rattle.std.proofs.lemmas.Bool.{cases_lt}
use Rattle.std.proofs.lemmas.List.{get_or-set_other, get_or-set_same, length-set}
use Rattle.std.proofs.lemmas.Option.{slice_get-get_or, slice_get_past}
use Rattle.code_file.specs.declared.draft.Draft.{Draft}
use Rattle.code_finish.proofs.DecoderLaws.{decoder_decodes}
use Rattle.code_finish.specs.Solved.{AreSolvedAt, DecodesIn, HasDecoder, IsDecoderOf}
use Rattle.failure_patterns.proofs.FirstLaws.{clear_more}
use Rattle.failure_patterns.specs.First.{AreClear}
use Rattle.item_list.proofs.Places.{row_end}
use Rattle.node_program.specs.declared.Decoder.{Decoder}

-- what stands at a place of a list after an item was put there, and at another
pub put_here : {X : Type 0} (xs : List X) (i : ℕ) (x : X) → i < length xs → slice_get (set xs i x) i ≡ Some x
put_here xs i x within = slice_get-get_or (set xs i x) i x (omega (arith, within, length-set xs i x)) ∙ ap Some (get_or-set_same xs i x x within)

pub put_elsewhere : {X : Type 0} (xs : List X) (i j : ℕ) (x : X) → j ≢ i → slice_get (set xs i x) j ≡ slice_get xs j
put_elsewhere xs i j x apart = elim (cases_lt j (length xs)) [
  | inl within ↦ slice_get-get_or (set xs i x) j x (omega (arith, within, length-set xs i x)) ∙ ap Some (get_or-set_other xs i j x x apart) ∙ sym (slice_get-get_or xs j x within)
  | inr past ↦ slice_get_past (set xs i x) j (omega (arith, past, length-set xs i x)) ∙ sym (slice_get_past xs j past)
]

module _ (draft : Draft) (pattern begin : ℕ) (below : pattern < length draft.net.patterns) where
  -- the decoder of the next sink was put at its demand
  pub solved_more : (decoders : List Decoder) (sink number : ℕ) (decoder : Decoder) → number < length decoders → number ≡ sink * length draft.net.patterns + pattern
      → IsDecoderOf draft number decoder → AreSolvedAt draft pattern begin sink decoders → AreSolvedAt draft pattern begin (sink + 1) (set decoders number decoder)
  solved_more decoders sink number decoder within this is solved =
      let patterns = length draft.net.patterns in
      clear_more draft.net (HasDecoder draft (set decoders number decoder)) pattern begin sink number this (decoder, put_here decoders number decoder within, is)
      (λ other begun before.
      let old = solved other begun before in
      (old.0, put_elsewhere decoders number (other * patterns + pattern) decoder (λ same. absurd (omega (arith, same, this, row_end other sink patterns before, below))) ∙ old.1, old.2))

  -- so they decode
  pub solved_decode : (decoders : List Decoder) (end : ℕ) → AreSolvedAt draft pattern begin end decoders → AreClear draft.net (DecodesIn draft) pattern begin end
  solved_decode decoders end solved sink begun before =
      let found = solved sink begun before in
      decoder_decodes draft (sink * length draft.net.patterns + pattern) found.0 found.2
