-- Lists that are written over.
use Rattle.std.specs.Prelude.{◌≡◌, ◌≢◌, ◌<◌, ℕ, zero, suc, List, [], ◌∷◌, ◌++◌, Some, length, take, drop, slice_get, slice_set}
use Rattle.std.proofs.Common.{refl, ap, arith}
use Rattle.std.proofs.lemmas.List.{take_at}

-- what is written back into a list, where it is as long
pub written_back : {A : Type 0} (old new : List A) (count : ℕ) → count ≡ length old → length new ≡ length old → take count (new ++ drop (length new) old) ≡ new
written_back old new count whole same = take_at new (drop (length new) old) count (omega arith)

-- what stands at a place that is set
pub slice_get-set_same : {X : Type 0} (xs : List X) (i : ℕ) (x : X) → i < length xs → slice_get (slice_set xs i x) i ≡ Some x
slice_get-set_same [] i x within = absurd (omega arith)
slice_get-set_same (first ∷ xs) zero x within = refl
slice_get-set_same (first ∷ xs) (suc i) x within = slice_get-set_same xs i x (omega arith)

-- and at another
pub slice_get-set_other : {X : Type 0} (xs : List X) (i k : ℕ) (x : X) → k ≢ i → slice_get (slice_set xs i x) k ≡ slice_get xs k
slice_get-set_other [] i k x apart = refl
slice_get-set_other (first ∷ xs) zero zero x apart = absurd (apart refl)
slice_get-set_other (first ∷ xs) zero (suc k) x apart = refl
slice_get-set_other (first ∷ xs) (suc i) zero x apart = refl
slice_get-set_other (first ∷ xs) (suc i) (suc k) x apart = slice_get-set_other xs i k x (λ same. apart (ap suc same))
