-- Whole files: what is read of one is spelled by it, what fits is read from its spelling, and no spelling begins another.
use Rattle.std.specs.Prelude.{◌≡◌, ℕ, ◌+◌, Bool, true, false, ◌==◌, List, [], ◌++◌, length, Ok, Err, if◌then◌else◌}
use Rattle.std.proofs.Common.{refl, sym, subst, ap, ◌∙◌, append-nil, arith}
use Rattle.std.proofs.lemmas.Bool.{eqb-true}
use Rattle.std.proofs.lemmas.List.{nil_from_length}
use Rattle.code_items.specs.Reading.{Rest, Reading, ◌>>=◌}
use Rattle.code_items.specs.Whole.{end_at, start_of, whole_of}
use Rattle.code_items.specs.declared.refusal.CodeRefusal.TheVariants.{TrailingBytes}
use Rattle.code_items.proofs.Readers.{IsBytes, IsReader, bind_ok, ok_is, ok_of}

-- at the end of a file nothing is left
end_ok : {X : Type 0} (x y : X) (left : Rest) → (end_at left >>= λ ended. ok_of x) ≡ Ok y → (left.bytes ≡ []) × (x ≡ y)
end_ok x y left = either (length left.bytes == 0) refl
  where
    either : (b : Bool) → (length left.bytes == 0) ≡ b → ((if b then Ok (tt {0}) else Err (TrailingBytes left.at)) >>= λ ended. ok_of x) ≡ Ok y → (left.bytes ≡ []) × (x ≡ y)
    either true is e = (nil_from_length left.bytes (eqb-true _ _ is), ok_is x y e)
    either false is e = absurd cc

-- a test of the end, and then what was read
ended : {X : Type 0} (b : Bool) (x : X) (at place : ℕ) → at ≡ place → ((if b then Ok (tt {0}) else Err (TrailingBytes at)) >>= λ ended. ok_of x) ≡ (if b then ok_of x else Err (TrailingBytes place))
ended true x at place same = refl
ended false x at place same = rw same refl

module _ {X : Type 0} {part : Rest → Reading X} {spell : X → List ℕ} {Fits : X → Type 0} (reader : IsReader part spell Fits) where
  -- what is read is spelled by the file, each byte of it, and fits
  pub whole-spelled : (bytes : List ℕ) (x : X) → IsBytes bytes → whole_of part bytes ≡ Ok x → (bytes ≡ spell x) × Fits x
  whole-spelled bytes x fits e =
      let b = bind_ok (part (start_of bytes)) (λ it. end_at it.1 >>= λ ended. ok_of it.0) x e in
      let over = end_ok b.0.0 x b.0.1 b.2 in
      let t = reader.takes (start_of bytes) b.0.0 b.0.1 fits b.1 in
      let spelled : bytes ≡ spell b.0.0 = t.0.parts ∙ ap (λ (left : List ℕ). spell b.0.0 ++ left) over.0 ∙ append-nil (spell b.0.0) in
      subst (λ (y : X). (bytes ≡ spell y) × Fits y) over.1 (spelled, t.1)

  -- what fits is read from its spelling, and bytes behind that are refused at their place
  pub whole-append : (x : X) (more : List ℕ) → Fits x → whole_of part (spell x ++ more) ≡ (if length more == 0 then ok_of x else Err (TrailingBytes (length (spell x))))
  whole-append x more fits =
      ap (λ (r : Reading X). r >>= λ it. end_at it.1 >>= λ ended. ok_of it.0) (reader.again 0 more x fits)
      ∙ ended (length more == 0) x (0 + length (spell x)) (length (spell x)) (omega arith)

  -- it is read from its spelling
  pub whole-again : (x : X) → Fits x → whole_of part (spell x) ≡ Ok x
  whole-again x fits = ap (whole_of part) (sym (append-nil (spell x))) ∙ whole-append x [] fits

  -- no spelling begins another one
  pub whole-prefix : (x y : X) (more : List ℕ) → Fits x → Fits y → spell x ++ more ≡ spell y → more ≡ []
  whole-prefix x y more fits fits' same =
      either (length more == 0) refl (sym (whole-append x more fits) ∙ ap (whole_of part) same ∙ whole-again y fits')
    where
      either : (b : Bool) → (length more == 0) ≡ b → (if b then ok_of x else Err (TrailingBytes (length (spell x)))) ≡ ok_of y → more ≡ []
      either true none e = nil_from_length more (eqb-true _ _ none)
      either false some e = absurd cc

  -- what has one spelling is one
  pub whole-same : (x y : X) → Fits x → Fits y → spell x ≡ spell y → x ≡ y
  whole-same x y fits fits' same = ok_is x y (sym (whole-again x fits) ∙ ap (whole_of part) same ∙ whole-again y fits')
