-- What a reader of shared decoders keeps of the earlier ones, as it reads one more.
use Rattle.std.proofs.Common.{◌≡◌, ℕ, ◌-◌, ◌+◌, ◌<◌, ◌≤◌, Bool, true, false, not, List, [], ◌∷◌, ◌++◌, length, take, Ok, refl, sym, ap, ◌∙◌, length-append, inl, inr, arith}
use Rattle.std.specs.Prelude.{suc, zero, ◌==◌}
use Rattle.std.proofs.lemmas.Bool.{cases_lt}
use Rattle.std.proofs.lemmas.List.{get_or_push, length_push, take-append-le}
use Rattle.std.proofs.lemmas.List.Folds.{list_any_at}
use Rattle.std.proofs.Math.Dec.{eqb-suc-zero}
use Rattle.std.proofs.Math.ListN.{get_or-append}
use Rattle.std.proofs.Math.Seq.{take-append_seam}
use Rattle.gf_tables.specs.Product.{bytes_of_element}
use Rattle.node_program.specs.declared.Decoder.{Decoder}
use Rattle.code_items.specs.Reading.{Rest, Front, Conditions, refused_first, decoder_at, new_decoder_at, named_decoder_at}
use Rattle.code_items.specs.declared.refusal.CodeRefusal.TheVariants.{Written}
use Rattle.code_items.specs.Shared.{AreFirsts, decoder_text}
use Rattle.code_items.specs.Sharing.{is_same_decoder, is_shared, decoder_of, no_decoder, shares}
use Rattle.code_items.specs.Written.{has_elements, has_size}
use Rattle.code_items.proofs.PartLaws.{has_elements-from_read, has_size-from_read}
use Rattle.code_items.proofs.PartReaders.{decoder_reader}
use Rattle.code_items.proofs.Readers.{IsBytes, bind_ok, else_ok, ok_is}
use Rattle.code_items.proofs.SharingLaws.{is_same_decoder-Decides}

-- a decoder that was read: how it is, and the bytes that were taken
pub record IsTaken (front : Front) (rest left : Rest) (decoder : Decoder) : Type 0 where
  pub sized : has_size front.rate decoder ≡ true
  pub elements : has_elements front.field decoder ≡ true
  pub text : take (length rest.bytes - length left.bytes) rest.bytes ≡ decoder_text front.field decoder

-- so is what reading gives
pub IsTaken-from_read : (front : Front) (sink : ℕ) (rest left : Rest) (decoder : Decoder) → IsBytes rest.bytes → decoder_at front sink rest ≡ Ok (decoder, left) → IsTaken front rest left decoder
IsTaken-from_read front sink rest left decoder fits read =
    let took = (decoder_reader front sink).takes rest decoder left fits read in
    let text = decoder_text front.field decoder in
    let size : length rest.bytes ≡ length text + length left.bytes = ap length took.0.parts ∙ length-append text left.bytes in
    let taken : length rest.bytes - length left.bytes ≡ length text = omega arith in
    record {
      sized = has_size-from_read front sink decoder took.1;
      elements = has_elements-from_read front sink decoder took.1;
      text = rw (taken, took.0.parts) (take-append_seam text left.bytes);
    }

-- an earlier demand's decoder is shared
pub is_shared-earlier : (earlier : List Decoder) (demand : ℕ) → demand < length earlier → is_shared earlier (decoder_of earlier demand) ≡ true
is_shared-earlier earlier demand below =
    list_any_at (is_same_decoder (decoder_of earlier demand)) earlier demand no_decoder below ((is_same_decoder-Decides (decoder_of earlier demand) (decoder_of earlier demand)).1 refl)

-- what is read for a number is new exactly where the number is 0
pub is_new-from_read : (front : Front) (earlier : List Decoder) (sink same : ℕ) (rest left : Rest) (decoder : Decoder) → same ≤ length earlier → named_decoder_at front earlier sink same rest ≡ Ok (decoder, left)
    → (same == 0) ≡ not (is_shared earlier decoder)
unfolding new_decoder_at
is_new-from_read front earlier sink zero rest left decoder within read =
    let told : Decoder × Rest → Conditions = λ x. (is_shared earlier x.0, Written (x.1.at - bytes_of_element front.field)) ∷ [] in
    let first = bind_ok (decoder_at front sink rest) (λ x. refused_first (told x) x) (decoder, left) read in
    let checked = else_ok (is_shared earlier first.0.0) (Written (first.0.1.at - bytes_of_element front.field)) (Ok first.0) (decoder, left) first.2 in
    let same : first.0.0 ≡ decoder = ap (λ (x : Decoder × Rest). x.0) (ok_is first.0 (decoder, left) checked.1) in
    sym (ap not (sym (ap (is_shared earlier) same) ∙ checked.0))
is_new-from_read front earlier sink (suc demand) rest left decoder within read =
    let same : decoder_of earlier demand ≡ decoder = ap (λ (x : Decoder × Rest). x.0) (ok_is (decoder_of earlier demand, rest) (decoder, left) read) in
    eqb-suc-zero demand ∙ sym (ap not (sym (ap (is_shared earlier) same) ∙ is_shared-earlier earlier demand (omega arith)))

-- one more mark
pub AreFirsts-push : (firsts : List Bool) (earlier : List Decoder) (one : Decoder) (is_first : Bool) → is_first ≡ not (is_shared earlier one)
    → AreFirsts firsts earlier → AreFirsts (firsts ++ is_first ∷ []) (earlier ++ one ∷ [])
AreFirsts-push firsts earlier one is_first is are = record {
  size = length_push firsts is_first ∙ ap (λ n. n + 1) are.size ∙ sym (length_push earlier one);
  each = λ demand below. elim (cases_lt demand (length earlier)) [
    | inl before ↦
        let same : shares (earlier ++ one ∷ []) demand ≡ shares earlier demand = rw (take-append-le demand earlier (one ∷ []) (omega arith), get_or-append earlier (one ∷ []) no_decoder demand before) refl in
        get_or-append firsts (is_first ∷ []) false demand (omega (arith, are.size)) ∙ are.each demand before ∙ ap not (sym same)
    | inr past ↦
        let last : demand ≡ length earlier = omega (arith, length_push earlier one) in
        let same : shares (earlier ++ one ∷ []) demand ≡ is_shared earlier one = rw (last, take-append_seam earlier (one ∷ []), get_or_push earlier one no_decoder (length earlier) refl) refl in
        get_or_push firsts is_first false demand (are.size ∙ sym last) ∙ is ∙ ap not (sym same)
  ];
}
