-- The first item that passes a test.
use Rattle.std.proofs.Common.{◌≡◌, ◌≤◌, ◌<◌, ◌∷◌, [], ℕ, Bool, true, false, List, Some, None, cond, get_or, length, nat_lt, position, slice_get, ap, refl, ◌∙◌, arith}
use Rattle.std.specs.List.{position_or_len}
use Rattle.std.proofs.lemmas.Bool.{le-ltb, lt-ltb}
use Rattle.std.proofs.lemmas.List.Sums.{position_or_len_is}
use Rattle.std.proofs.lemmas.Option.{get_or_from_slice_get}

-- an item that passes, where none before it does
pub position_here : {X : Type 0} (test : X → Bool) (xs : List X) (i : ℕ) (x : X) → i < length xs → ((k : ℕ) → k < i → (d : X) → test (get_or xs k d) ≡ false) → slice_get xs i ≡ Some x → test x ≡ true → position test xs ≡ Some i
position_here test xs i x within none here passes =
    let is = position_or_len_is test xs i x (omega arith) (λ k before. none k before x) (λ _. ap test (get_or_from_slice_get xs i x x here) ∙ passes) in
    ap (λ n. cond (nat_lt n (length xs)) (Some n) None) is ∙ ap (λ inside. cond inside (Some i) None) (lt-ltb i (length xs) within)

-- no item passes
pub position_none : {X : Type 0} (test : X → Bool) (xs : List X) (n : ℕ) → length xs ≤ n → ((k : ℕ) → k < n → (d : X) → test (get_or xs k d) ≡ false) → position test xs ≡ None
position_none test [] n all none = refl
position_none test (x ∷ xs) n all none =
    let size = length (x ∷ xs) in
    let is : position_or_len test (x ∷ xs) ≡ size = position_or_len_is test (x ∷ xs) size x (omega arith) (λ k before. none k (omega arith) x) (λ less. absurd (omega arith)) in
    ap (λ n. cond (nat_lt n size) (Some n) None) is ∙ ap (λ inside. cond inside (Some size) None) (le-ltb size size (omega arith))
