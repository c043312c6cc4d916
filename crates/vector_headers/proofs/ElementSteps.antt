-- One more element, written to bytes or read from them.
use Rattle.std.specs.Prelude.{◌≡◌, ℕ, zero, suc, ◌<◌, ◌+◌, ◌*◌, ◌/◌, ◌%◌, List, [], ◌∷◌, ◌++◌, length, take, get_or, set}
use Rattle.std.proofs.Common.{arith, refl, sym, ap, ◌∙◌}
use Rattle.std.proofs.lemmas.List.{take_more, take_more_set, length-set, map-append, append_assoc}
use Rattle.gf_tables.specs.declared.kind.FieldKind.TheVariants.{Sixteen}
use Rattle.linear_algebra.proofs.ElementsLaws.{bytes_of_row-append}
use Rattle.linear_algebra.specs.Elements.{bytes_of_pairs, numbers, pairs_of_bytes}

module _ {A : Type 0} (number : A → ℕ) where
  -- the numbers of one more element
  numbers-more : (vector : List A) (i : ℕ) (x : A) → i < length vector → x ≡ get_or vector i x → numbers number (take (i + 1) vector) ≡ numbers number (take i vector) ++ number x ∷ []
  numbers-more vector i x below is =
      ap (numbers number) (take_more vector i x below) ∙ map-append number (take i vector) (get_or vector i x ∷ [])
      ∙ ap (λ (y : A). numbers number (take i vector) ++ number y ∷ []) (sym is)

  -- two more bytes are written
  pub pair-written : (vector : List A) (into : List ℕ) (i : ℕ) (x : A) → i < length vector → 2 * i + 1 < length into → x ≡ get_or vector i x
      → take (2 * i) into ≡ bytes_of_pairs (numbers number (take i vector))
      → take (2 * (i + 1)) (set (set into (2 * i) (number x / 256)) (2 * i + 1) (number x % 256)) ≡ bytes_of_pairs (numbers number (take (i + 1) vector))
  pair-written vector into i x below inside is before =
      let high = number x / 256 in
      let low = number x % 256 in
      let first = set into (2 * i) high in
      let two : 2 * (i + 1) ≡ 2 * i + 1 + 1 = omega arith in
      ap (λ n. take n (set first (2 * i + 1) low)) two
      ∙ take_more_set first (2 * i + 1) low (simp length-set inside)
      ∙ ap (λ (front : List ℕ). front ++ low ∷ []) (take_more_set into (2 * i) high (omega arith) ∙ ap (λ (front : List ℕ). front ++ high ∷ []) before)
      ∙ append_assoc (bytes_of_pairs (numbers number (take i vector))) (high ∷ []) (low ∷ [])
      ∙ sym (ap bytes_of_pairs (numbers-more vector i x below is) ∙ bytes_of_row-append Sixteen (numbers number (take i vector)) (number x ∷ []))

  -- one more number is read
  pub number-read : (vector : List A) (row : List ℕ) (i : ℕ) (x : A) → i < length vector → i < length row → number x ≡ get_or row i 0
      → numbers number (take i vector) ≡ take i row → numbers number (take (i + 1) (set vector i x)) ≡ take (i + 1) row
  number-read vector row i x below inside is before =
      ap (numbers number) (take_more_set vector i x below) ∙ map-append number (take i vector) (x ∷ [])
      ∙ ap (λ (front : List ℕ). front ++ number x ∷ []) before ∙ ap (λ n. take i row ++ n ∷ []) is ∙ sym (take_more row i 0 inside)

-- the number of two bytes
pub get_or-pairs_of_bytes : (bytes : List ℕ) (i : ℕ) → 2 * i + 1 < length bytes → get_or (pairs_of_bytes bytes) i 0 ≡ 256 * get_or bytes (2 * i) 0 + get_or bytes (2 * i + 1) 0
get_or-pairs_of_bytes [] i inside = absurd (omega arith)
get_or-pairs_of_bytes (high ∷ []) i inside = absurd (omega arith)
get_or-pairs_of_bytes (high ∷ low ∷ bytes) zero inside = refl
get_or-pairs_of_bytes (high ∷ low ∷ bytes) (suc i) inside =
    let first : 2 * suc i ≡ suc (suc (2 * i)) = omega arith in
    let second : 2 * suc i + 1 ≡ suc (suc (2 * i + 1)) = omega arith in
    get_or-pairs_of_bytes bytes i (omega arith)
    ∙ sym (ap (λ k. 256 * get_or (high ∷ low ∷ bytes) k 0 + get_or (high ∷ low ∷ bytes) (2 * suc i + 1) 0) first ∙ ap (λ k. 256 * get_or bytes (2 * i) 0 + get_or (high ∷ low ∷ bytes) k 0) second)
