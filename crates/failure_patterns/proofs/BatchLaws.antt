-- Laws of batches: where they start, and how what was made of each is gone through in their order.
use Rattle.std.specs.Prelude.{◌≡◌, ℕ, ◌+◌, ◌<◌, ◌≤◌, List, [], ◌∷◌, ◌++◌, Some, length, slice_get}
use Rattle.std.proofs.Common.{refl, sym, ap, ◌∙◌, append_assoc, arith}
use Rattle.std.proofs.Math.Nat.{div-eq_of_lt-le, div-le_of_le-mul, mul-le-mul}
use Rattle.std.proofs.lemmas.List.{length-append}
use Rattle.failure_patterns.specs.Batches.{batch_start}

-- the first batch starts with the first number
pub batch_first : (batches count : ℕ) → batch_start 0 batches count ≤ 0
batch_first batches count = div-le_of_le-mul batches (omega arith)

-- no batch goes past the last number
pub batch_within : (batch batches count : ℕ) → batch ≤ batches → batch_start batch batches count ≤ count
batch_within batch batches count within = let below : count ≤ count = omega arith in div-le_of_le-mul batches (mul-le-mul within below)

-- the last batch ends with the last number
pub batch_last : (batches count : ℕ) → 0 < batches → batch_start batches batches count ≡ count
batch_last batches count some = div-eq_of_lt-le batches (omega arith) (omega arith)

-- what a list of two parts has behind the first one
slice_get-behind : {X : Type 0} (front : List X) (x : X) (rest : List X) → slice_get (front ++ x ∷ rest) (length front) ≡ Some x
slice_get-behind [] x rest = refl
slice_get-behind (y ∷ front) x rest = slice_get-behind front x rest

-- what was made of the first batches, and what of the rest, which are so many
pub record AreThrough {X : Type 0} (batches : ℕ) (made front rest : List X) (left : ℕ) : Type 0 where
  pub parts : made ≡ front ++ rest
  pub count : length front + left ≡ batches

-- none is gone through yet
pub through_none : {X : Type 0} (batches : ℕ) (made rest : List X) (left : ℕ) → rest ≡ made → left ≡ batches → AreThrough batches made [] rest left
through_none batches made rest left same all = record { parts = sym same; count = omega arith }

module _ {X : Type 0} (batches : ℕ) (made front rest further : List X) (left fewer : ℕ) (one : X)
    (are : AreThrough batches made front rest left) (next : rest ≡ one ∷ further) where
  -- the next one is that of the batch of its number
  pub through_next : slice_get made (length front) ≡ Some one
  through_next = ap (λ (list : List X). slice_get list (length front)) (are.parts ∙ ap (λ (list : List X). front ++ list) next) ∙ slice_get-behind front one further

  -- and is gone through
  pub through_more : fewer + 1 ≡ left → AreThrough batches made (front ++ one ∷ []) further fewer
  through_more less = record {
    parts = are.parts ∙ ap (λ (list : List X). front ++ list) next ∙ sym (append_assoc front (one ∷ []) further);
    count = omega (arith, length-append front (one ∷ []), are.count);
  }

-- after the last one all are gone through
pub through_last : {X : Type 0} (batches : ℕ) (made front rest : List X) (left : ℕ) → AreThrough batches made front rest left → left ≡ 0 → length front ≡ batches
through_last batches made front rest left are none = omega (arith, are.count)
