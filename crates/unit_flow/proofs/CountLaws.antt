-- Laws of counts and sums over a list, and over the numbers below a bound.
use Rattle.std.specs.Prelude.{◌≡◌, ◌≢◌, ◌⊎◌, ◌<◌, ◌≤◌, ◌+◌, ℕ, Bool, true, false, not, ◌&&◌, ◌||◌, ◌==◌, cond, nat_eq, List, [], ◌∷◌, length, All, sum_by, count_by}
use Rattle.std.specs.List.{AllByRecursion, IsDistinct, range_with_len}
use Rattle.std.proofs.Common.{refl, sym, ◌∙◌, ap, subst, get_or, arith, inl, inr}
use Rattle.std.proofs.lemmas.Bool.{and_from, and_parts, and_right, both_ways, cases_eq, eqb-true, eq-eqb, ne_eqb}
use Rattle.std.proofs.lemmas.Cmp.{nat_eq_equiv}
use Rattle.std.proofs.lemmas.List.Folds.{list_any_at}
use Rattle.std.proofs.lemmas.List.FromFn.{length-range_with_len, get_or-range_with_len}
use Rattle.std.proofs.lemmas.List.Sums.{sum_by-cons, get_or-le-sum_by}
use Rattle.std.proofs.lemmas.Map.Keys.{IsDistinct-from_apart, IsDistinct-head, IsDistinct-tail}
use Rattle.std.proofs.Math.Nat.{zero-add}
use Rattle.item_list.proofs.Tests.{count_by-none}
use Rattle.net_model.specs.Lists.{is_among}

-- the sum of two terms is the sum of the sums
pub sum_by-add : {X : Type 0} (f g : X → ℕ) (xs : List X) → sum_by (λ x. f x + g x) xs ≡ sum_by f xs + sum_by g xs
sum_by-add f g [] = refl
sum_by-add f g (x ∷ xs) = omega (arith, sum_by-cons (λ y. f y + g y) x xs, sum_by-cons f x xs, sum_by-cons g x xs, sum_by-add f g xs)

-- sums of equal terms are equal
pub sum_by-same : {X : Type 0} (f g : X → ℕ) (xs : List X) → ((x : X) → f x ≡ g x) → sum_by f xs ≡ sum_by g xs
sum_by-same f g xs same = ap (λ h. sum_by h xs) (λ i x. same x i)

-- where each item passes a test exactly if it passes one of two others, and none passes both, the counts add up
pub count_by-parts : {X : Type 0} (whole one other : X → Bool) (xs : List X) → ((x : X) → cond (whole x) 1 0 ≡ cond (one x) 1 0 + cond (other x) 1 0)
    → count_by whole xs ≡ count_by one xs + count_by other xs
count_by-parts whole one other xs parts =
    sum_by-same (λ x. cond (whole x) 1 0) (λ x. cond (one x) 1 0 + cond (other x) 1 0) xs parts ∙ sum_by-add (λ x. cond (one x) 1 0) (λ x. cond (other x) 1 0) xs

-- a test, by a second one
split_test : (p q : Bool) → cond p 1 0 ≡ cond (p && q) 1 0 + cond (p && not q) 1 0
split_test true true = refl
split_test true false = refl
split_test false q = refl

-- items that pass one test, by a second one
pub count_by-split : {X : Type 0} (p q : X → Bool) (xs : List X) → count_by p xs ≡ count_by (λ x. p x && q x) xs + count_by (λ x. p x && not (q x)) xs
count_by-split p q xs = count_by-parts p (λ x. p x && q x) (λ x. p x && not (q x)) xs (λ x. split_test (p x) (q x))

-- where the count is zero, no item passes
pub none-count_by : {X : Type 0} (p : X → Bool) (xs : List X) → count_by p xs ≡ 0 → All (λ x. p x ≡ false) xs
none-count_by p xs zero k d within =
    uncounted (p (get_or xs k d)) (omega (arith, get_or-le-sum_by (λ x. cond (p x) 1 0) xs k d within))
  where
    uncounted : (b : Bool) → cond b 1 0 ≤ 0 → b ≡ false
    uncounted true most = absurd (omega arith)
    uncounted false most = refl

-- a test that another one implies
implied : (p q : Bool) → (p ≡ true → q ≡ true) → cond q 1 0 ≡ cond p 1 0 + cond (q && not p) 1 0
implied true q implies = rw (implies refl) refl
implied false true implies = refl
implied false false implies = refl

-- a test that implies another one is passed by fewer items: by those less that pass the other alone
pub count_by-implied : {X : Type 0} (p q : X → Bool) (xs : List X) → ((x : X) → p x ≡ true → q x ≡ true) → count_by q xs ≡ count_by p xs + count_by (λ x. q x && not (p x)) xs
count_by-implied p q xs implies = count_by-parts q p (λ x. q x && not (p x)) xs (λ x. implied (p x) (q x) (implies x))

-- where every item that passes the weaker test passes the stronger one too, the counts are equal
pub count_by-same : {X : Type 0} (p q : X → Bool) (xs : List X) → ((x : X) → p x ≡ true → q x ≡ true) → All (λ x. q x ≡ true → p x ≡ true) xs → count_by p xs ≡ count_by q xs
count_by-same p q xs implies back =
    let none = count_by-none (λ x. q x && not (p x)) xs (λ k d within. alone (p (get_or xs k d)) (q (get_or xs k d)) (back k d within)) in
    omega (arith, none, count_by-implied p q xs implies)
  where
    alone : (one two : Bool) → (two ≡ true → one ≡ true) → (two && not one) ≡ false
    alone one true gives = rw (gives refl) refl
    alone one false gives = refl

-- tests that the items of a list pass alike count as many of them
pub count_by-alike : {X : Type 0} (p q : X → Bool) (xs : List X) → All (λ x. p x ≡ true → q x ≡ true) xs → All (λ x. q x ≡ true → p x ≡ true) xs → count_by p xs ≡ count_by q xs
count_by-alike p q xs to back =
    sym (count_by-same (λ x. p x && q x) p xs (λ x both. (and_parts _ _ both).0) (λ k d within passes. and_from _ _ passes (to k d within passes)))
    ∙ count_by-same (λ x. p x && q x) q xs (λ x both. (and_parts _ _ both).1) (λ k d within passes. and_from _ _ (back k d within passes) passes)

-- where a stronger test counts as many items as a weaker one, every item that passes the weaker test passes the stronger one too
pub same-count_by : {X : Type 0} (p q : X → Bool) (xs : List X) → ((x : X) → p x ≡ true → q x ≡ true) → count_by p xs ≡ count_by q xs → All (λ x. q x ≡ true → p x ≡ true) xs
same-count_by p q xs implies same k d within passes =
    let zero : count_by (λ x. q x && not (p x)) xs ≡ 0 = omega (arith, count_by-implied p q xs implies) in
    alone (p (get_or xs k d)) (q (get_or xs k d)) passes (none-count_by (λ x. q x && not (p x)) xs zero k d within)
  where
    alone : (one two : Bool) → two ≡ true → (two && not one) ≡ false → one ≡ true
    alone true two passes fails = refl
    alone false two passes fails = cc

-- a test of two cases that exclude each other
first_or_later : (p here later : Bool) → (here ≡ true → later ≡ false) → cond (p && (here || later)) 1 0 ≡ cond (p && here) 1 0 + cond (p && later) 1 0
first_or_later false here later apart = refl
first_or_later true true later apart = rw (apart refl) refl
first_or_later true false later apart = omega arith

-- a number that is equal to none of a list isn't among them
not_among : (ks : List ℕ) (k : ℕ) → AllByRecursion (λ y. nat_eq k y ≡ false) ks → is_among ks k ≡ false
not_among [] k apart = refl
not_among (y ∷ ks) k apart = rw (nat_eq_equiv.symm y k ∙ apart.0) (not_among ks k apart.1)

-- the items whose key is among distinct keys are those of each key, together
pub count_by-keys : {X : Type 0} (p : X → Bool) (key : X → ℕ) (xs : List X) (ks : List ℕ) → IsDistinct nat_eq ks
    → count_by (λ x. p x && is_among ks (key x)) xs ≡ sum_by (λ k. count_by (λ x. p x && (key x == k)) xs) ks
count_by-keys p key xs [] distinct = count_by-none (λ x. p x && false) xs (λ i d within. nothing (p (get_or xs i d)))
  where
    nothing : (b : Bool) → (b && false) ≡ false
    nothing true = refl
    nothing false = refl
count_by-keys p key xs (k ∷ ks) distinct =
    count_by-parts (λ x. p x && is_among (k ∷ ks) (key x)) (λ x. p x && (key x == k)) (λ x. p x && is_among ks (key x)) xs
    (λ x. rw (nat_eq_equiv.symm k (key x)) (first_or_later (p x) (key x == k) (is_among ks (key x)) (λ here. ap (is_among ks) (eqb-true _ _ here) ∙ not_among ks k (IsDistinct-head nat_eq k ks distinct))))
    ∙ ap (λ n. count_by (λ x. p x && (key x == k)) xs + n) (count_by-keys p key xs ks (IsDistinct-tail nat_eq k ks distinct))
    ∙ sym (sum_by-cons (λ j. count_by (λ x. p x && (key x == j)) xs) k ks)

-- over distinct numbers, a term at one number alone is its own sum, if the number is among them
pub sum_by-single : (ks : List ℕ) (at term : ℕ) → IsDistinct nat_eq ks → sum_by (λ k. cond (k == at) term 0) ks ≡ cond (is_among ks at) term 0
sum_by-single [] at term distinct = refl
sum_by-single (k ∷ ks) at term distinct =
    sum_by-cons (λ j. cond (j == at) term 0) k ks ∙ ap (λ n. cond (k == at) term 0 + n) (sum_by-single ks at term (IsDistinct-tail nat_eq k ks distinct))
    ∙ here_or_later (k == at) (is_among ks at) (λ here. ap (is_among ks) (sym (eqb-true _ _ here)) ∙ not_among ks k (IsDistinct-head nat_eq k ks distinct))
  where
    here_or_later : (here later : Bool) → (here ≡ true → later ≡ false) → cond here term 0 + cond later term 0 ≡ cond (here || later) term 0
    here_or_later true later apart = rw (apart refl) (omega arith)
    here_or_later false later apart = omega arith

-- what holds of each number below a bound holds of each in their list
pub All-range : (P : ℕ → Type 0) (n : ℕ) → ((k : ℕ) → k < n → P k) → All P (range_with_len 0 n)
All-range P n each k d within =
    let inside : k < n = rw length-range_with_len at within in
    subst P (sym (get_or-range_with_len 0 n k d inside ∙ zero-add k)) (each k inside)

-- and the other way round
pub All-range_at : (P : ℕ → Type 0) (n : ℕ) → All P (range_with_len 0 n) → (k : ℕ) → k < n → P k
All-range_at P n all k inside =
    let within : k < length (range_with_len 0 n) = rw length-range_with_len inside in
    subst P (get_or-range_with_len 0 n k 0 inside ∙ zero-add k) (all k 0 within)

-- the numbers below a bound are distinct
pub IsDistinct-range : (n : ℕ) → IsDistinct nat_eq (range_with_len 0 n)
IsDistinct-range n = IsDistinct-from_apart nat_eq (range_with_len 0 n) (λ i j d before within.
    let inside : j < n = rw length-range_with_len at within in
    ne_eqb _ _ (λ same. omega (arith, get_or-range_with_len 0 n i d (omega arith), get_or-range_with_len 0 n j d inside)))

-- each number below a bound is among them
pub is_among-range : (n k : ℕ) → k < n → is_among (range_with_len 0 n) k ≡ true
is_among-range n k inside =
    let within : k < length (range_with_len 0 n) = rw length-range_with_len inside in
    list_any_at (λ one. one == k) (range_with_len 0 n) k 0 within (eq-eqb _ _ (get_or-range_with_len 0 n k 0 inside ∙ zero-add k))

-- the items with a key that passes a test are those of each such key among distinct keys, together, where those keys have all of them
pub count_by-keys_on : {X : Type 0} (p : X → Bool) (on : ℕ → Bool) (key : X → ℕ) (xs : List X) (ks : List ℕ) → IsDistinct nat_eq ks
    → All (λ x. p x ≡ true → is_among ks (key x) ≡ true) xs
    → count_by (λ x. p x && on (key x)) xs ≡ sum_by (λ k. cond (on k) (count_by (λ x. p x && (key x == k)) xs) 0) ks
count_by-keys_on {X} p on key xs ks distinct all =
    sym (count_by-same (λ x. (p x && on (key x)) && is_among ks (key x)) (λ x. p x && on (key x)) xs (λ x passes. (and_parts _ _ passes).0)
    (λ i d within passes. and_from _ _ passes (all i d within (and_parts _ _ passes).0)))
    ∙ count_by-keys (λ x. p x && on (key x)) key xs ks distinct
    ∙ sum_by-same (λ k. count_by (λ x. (p x && on (key x)) && (key x == k)) xs) (λ k. cond (on k) (count_by (λ x. p x && (key x == k)) xs) 0) ks (λ k. of_key k (on k) refl)
  where
    agree : (passes on_key here : Bool) → (here ≡ true → on_key ≡ true) → cond {A = ℕ} ((passes && on_key) && here) 1 0 ≡ cond (passes && here) 1 0
    agree false on_key here is = refl
    agree true true here is = refl
    agree true false true is = absurd (both_ways false refl (is refl))
    agree true false false is = refl

    neither : (passes on_key here : Bool) → (here ≡ true → on_key ≡ false) → ((passes && on_key) && here) ≡ false
    neither false on_key here is = refl
    neither true on_key false is = and_right on_key false refl
    neither true on_key true is = rw (is refl) refl

    of_key : (k : ℕ) (b : Bool) → on k ≡ b → count_by (λ x. (p x && on (key x)) && (key x == k)) xs ≡ cond b (count_by (λ x. p x && (key x == k)) xs) 0
    of_key k true is = sum_by-same (λ x. cond ((p x && on (key x)) && (key x == k)) 1 0) (λ x. cond (p x && (key x == k)) 1 0) xs (λ x. agree (p x) (on (key x)) (key x == k) (λ here. ap on (eqb-true _ _ here) ∙ is))
    of_key k false is = count_by-none (λ x. (p x && on (key x)) && (key x == k)) xs (λ i d within. let x = get_or xs i d in neither (p x) (on (key x)) (key x == k) (λ here. ap on (eqb-true _ _ here) ∙ is))

-- a test that passes one number more than another counts one more of the numbers below a bound
pub count_by-one : (p q : ℕ → Bool) (n at : ℕ) → at < n → p at ≡ false → q at ≡ true → ((k : ℕ) → k ≢ at → q k ≡ p k)
    → count_by q (range_with_len 0 n) ≡ count_by p (range_with_len 0 n) + 1
count_by-one p q n at inside fails passes same =
    let range = range_with_len 0 n in
    let single : count_by (λ k. k == at) range ≡ 1 = sum_by-single range at 1 (IsDistinct-range n) ∙ ap (λ b. cond {A = ℕ} b 1 0) (is_among-range n at inside) in
    let parts : count_by q range ≡ count_by p range + count_by (λ k. k == at) range = count_by-parts q p (λ k. k == at) range (λ k. counted k (cases_eq k at)) in
    omega (arith, parts, single)
  where
    counted : (k : ℕ) → (k ≡ at) ⊎ (k ≢ at) → cond {A = ℕ} (q k) 1 0 ≡ cond (p k) 1 0 + cond (k == at) 1 0
    counted k (inl here) =
        let p_is : p k ≡ false = ap p here ∙ fails in
        let q_is : q k ≡ true = ap q here ∙ passes in
        rw (p_is, q_is, eq-eqb k at here) refl
    counted k (inr apart) = rw (same k apart, ne_eqb k at apart) (omega arith)
