-- Counts of the items that pass a test, and lists of which one has the items of the other.
use Rattle.std.specs.Prelude.{All, ◌≡◌, ◌≤◌, ◌+◌, ◌||◌, ℕ, Bool, true, false, cond, nat_lt, IsPermutation, List, [], ◌∷◌, ◌++◌, count_by, filter, length}
use Rattle.std.specs.List.{list_all, list_any}
use Rattle.std.proofs.Common.{arith, inl, inr, refl, sym, ap, subst, ◌∙◌, zero-add}
use Rattle.std.proofs.lemmas.Bool.{and_from, and_parts, cases_Bool, false≢true, lt-ltb, ltb-false, ltb-true, true≢false}
use Rattle.std.proofs.lemmas.List.{append-nil, length-append}
use Rattle.std.proofs.lemmas.List.Elements.{All-head, All-tail}
use Rattle.std.proofs.lemmas.List.Sorted.{IsPermutation-cons, IsPermutation-middle, IsPermutation-refl, IsPermutation-trans, length_permutation, sum_by-IsPermutation}
use Rattle.std.proofs.lemmas.List.Sums.{sum_by-append, sum_by-cons}
use Rattle.net_model.proofs.NetworkLaws.{passes_at}

-- one where a test passes
abbrev pub one_if : Bool → ℕ
one_if test = cond test 1 0

-- one of three tests, the second before the first
pub or_turned : (a b c : Bool) → (a || (b || c)) ≡ ((b || a) || c)
or_turned true true c = refl
or_turned true false c = refl
or_turned false true c = refl
or_turned false false c = refl

-- some items pass a test where their count isn't 0
any-count : {X : Type 0} (test : X → Bool) (xs : List X) → list_any test xs ≡ nat_lt 0 (count_by test xs)
any-count test [] = refl
any-count test (x ∷ xs) = by (test x) (any-count test xs) ∙ ap (nat_lt 0) (sym (sum_by-cons (λ y. one_if (test y)) x xs))
  where
    by : (b : Bool) → list_any test xs ≡ nat_lt 0 (count_by test xs) → (b || list_any test xs) ≡ nat_lt 0 (one_if b + count_by test xs)
    by true rest = sym (lt-ltb 0 (1 + count_by test xs) (omega arith))
    by false rest = rest ∙ ap (nat_lt 0) (sym (zero-add (count_by test xs)))

pub count-some : {X : Type 0} (test : X → Bool) (xs : List X) → list_any test xs ≡ true → 1 ≤ count_by test xs
count-some test xs some = ltb-true 0 (count_by test xs) (sym (any-count test xs) ∙ some)

pub count-none : {X : Type 0} (test : X → Bool) (xs : List X) → list_any test xs ≡ false → count_by test xs ≡ 0
count-none test xs none = let low = ltb-false 0 (count_by test xs) (sym (any-count test xs) ∙ none) in omega (arith, low)

pub some-count : {X : Type 0} (test : X → Bool) (xs : List X) → 1 ≤ count_by test xs → list_any test xs ≡ true
some-count test xs some = any-count test xs ∙ lt-ltb 0 (count_by test xs) (omega (arith, some))

-- an item of a kind that passes a test
pub passing : {X : Type 0} (P : X → Type 0) (test : X → Bool) (xs : List X) → list_any test xs ≡ true → All P xs → (x : X) × (test x ≡ true) × P x
passing P test [] some are = absurd (false≢true some)
passing P test (x ∷ xs) some are = elim (cases_Bool (test x)) [
  | inl passes ↦ (x, passes, All-head P x xs are)
  | inr fails ↦ passing P test xs (rw fails at some) (All-tail P x xs are)
]

-- an item of a kind that fails one
pub failing : {X : Type 0} (P : X → Type 0) (test : X → Bool) (xs : List X) → list_all test xs ≡ false → All P xs → (x : X) × (test x ≡ false) × P x
failing P test [] some are = absurd (true≢false some)
failing P test (x ∷ xs) some are = elim (cases_Bool (test x)) [
  | inl passes ↦ failing P test xs (rw passes at some) (All-tail P x xs are)
  | inr fails ↦ (x, fails, All-head P x xs are)
]

-- all items of a kind of which each item passes
pub all_pass : {X : Type 0} (P : X → Type 0) (test : X → Bool) (xs : List X) → ((x : X) → P x → test x ≡ true) → All P xs → list_all test xs ≡ true
all_pass P test [] passes are = refl
all_pass P test (x ∷ xs) passes are =
    and_from (test x) (list_all test xs) (passes x (All-head P x xs are)) (all_pass P test xs passes (All-tail P x xs are))

-- items of a kind that all pass are of the kind and pass
pub both : {X : Type 0} (P : X → Type 0) (test : X → Bool) (xs : List X) → All P xs → list_all test xs ≡ true → All (λ x. P x × (test x ≡ true)) xs
both P test xs are all = λ k d within. (are k d within, passes_at test xs k d all within)

-- no more items pass of those that pass another test
pub count-filter : {X : Type 0} (test other : X → Bool) (xs : List X) → count_by test (filter other xs) ≤ count_by test xs
count-filter test other [] = omega arith
count-filter {X} test other (x ∷ xs) =
    let one : X → ℕ = λ y. one_if (test y) in
    let rest = count-filter test other xs in
    elim (cases_Bool (other x)) [
      | inl passes ↦ rw passes (omega (arith, rest, sum_by-cons one x xs, sum_by-cons one x (filter other xs)))
      | inr fails ↦ rw fails (omega (arith, rest, sum_by-cons one x xs))
    ]

-- an item that passes a test, with the items before it and after it
split_where : {X : Type 0} (test : X → Bool) (xs : List X) → list_any test xs ≡ true
    → (front : List X) × (x : X) × (back : List X) × (xs ≡ front ++ x ∷ back) × (test x ≡ true)
split_where test [] some = absurd (false≢true some)
split_where {X} test (x ∷ xs) some = elim (cases_Bool (test x)) [
  | inl passes ↦ ([], x, xs, refl, passes)
  | inr fails ↦
      let rest = split_where test xs (rw fails at some) in
      (x ∷ rest.0, rest.1, rest.2, ap (λ ys. x ∷ ys) rest.3, rest.4)
]

-- of items of which some pass a test, and all of these another, one passes both
pub both_pass : {X : Type 0} (test other : X → Bool) (xs : List X) → list_any test xs ≡ true → list_all other (filter test xs) ≡ true
    → (x : X) × (test x ≡ true) × (other x ≡ true)
both_pass test other [] some all = absurd (false≢true some)
both_pass {X} test other (x ∷ xs) some all = elim (cases_Bool (test x)) [
  | inl passes ↦ (x, passes, (and_parts (other x) (list_all other (filter test xs)) (rw passes at all)).0)
  | inr fails ↦ both_pass test other xs (rw fails at some) (rw fails at all)
]

module _ {X : Type 0} (same : X → X → Bool) (is_same : (x y : X) → same x y ≡ true → x ≡ y) (itself : (x : X) → same x x ≡ true) where
  -- how often an item stands in a list
  abbrev count : X → List X → ℕ
  count item xs = count_by (λ x. same x item) xs

  own : (x : X) → one_if (same x x) ≡ 1
  own x = rw (itself x) refl

  -- a list of which each item stands at least as often in another, with the rest of the other
  pub rest_of : (xs ys : List X) → ((item : X) → count item xs ≤ count item ys) → (rest : List X) × IsPermutation ys (xs ++ rest)
  rest_of [] ys few = (ys, IsPermutation-refl ys)
  rest_of (x ∷ xs) ys few =
      let here : 1 ≤ count x (x ∷ xs) = omega (arith, sum_by-cons (λ y. one_if (same y x)) x xs, own x) in
      let found = split_where (λ y. same y x) ys (some-count (λ y. same y x) ys (omega (arith, here, few x))) in
      let others = found.0 ++ found.2 in
      let is : ys ≡ found.0 ++ x ∷ found.2 = found.3 ∙ ap (λ y. found.0 ++ y ∷ found.2) (is_same found.1 x found.4) in
      let moved : IsPermutation ys (x ∷ others) = subst (λ (zs : List X). IsPermutation zs (x ∷ others)) (sym is) (IsPermutation-middle found.0 x found.2) in
      let rest = rest_of xs others (λ item.
      omega (
        arith,
        few item,
        sum_by-IsPermutation (λ y. one_if (same y item)) ys (x ∷ others) moved,
        sum_by-cons (λ y. one_if (same y item)) x xs,
        sum_by-cons (λ y. one_if (same y item)) x others,
      )) in
      (rest.0, IsPermutation-trans ys (x ∷ others) (x ∷ (xs ++ rest.0)) moved (IsPermutation-cons x others (xs ++ rest.0) rest.1))

  -- which is no longer than the other
  pub length-fewer : (xs ys : List X) → ((item : X) → count item xs ≤ count item ys) → length xs ≤ length ys
  length-fewer xs ys few =
      let rest = rest_of xs ys few in
      omega (arith, length_permutation ys (xs ++ rest.0) rest.1, length-append xs rest.0)

  -- lists in which each item stands as often
  pub same_counts : (xs ys : List X) → ((item : X) → count item xs ≡ count item ys) → IsPermutation ys xs
  same_counts xs ys same_count =
      let rest = rest_of xs ys (λ item. omega (arith, same_count item)) in
      by rest.0 rest.1
    where
      by : (rest : List X) → IsPermutation ys (xs ++ rest) → IsPermutation ys xs
      by [] are = subst (λ (zs : List X). IsPermutation ys zs) (append-nil xs) are
      by (x ∷ rest) are =
          absurd (omega (
            arith,
            same_count x,
            sum_by-IsPermutation (λ y. one_if (same y x)) ys (xs ++ x ∷ rest) are,
            sum_by-append (λ y. one_if (same y x)) xs (x ∷ rest),
            sum_by-cons (λ y. one_if (same y x)) x rest,
            own x,
          ))
