-- Laws of sets as rising lists: how many there are, the step from one to the next, and what they are.
use Rattle.std.specs.Prelude.{◌≡◌, ℕ, zero, suc, ◌+◌, ◌-◌, ◌^◌, ◌<◌, ◌≤◌, Bool, true, false, ◌&&◌, nat_le, nat_lt, List, [], ◌∷◌, ◌++◌, length, map, replicate}
use Rattle.std.specs.List.{AllByRecursion, list_all, list_any, range_with_len}
use Rattle.std.specs.Str.{bytes_eq}
use Rattle.std.proofs.Common.{cond, drop, get_or, set, ◌≢◌, refl, sym, ap, ◌∙◌, subst, arith, add-one, inl, inr}
use Rattle.std.proofs.Math.Nat.{pow-le-pow_right, two-pow-succ}
use Rattle.std.proofs.lemmas.Bool.{and_from, and_parts, cases_eq, cases_lt, eq-eqb, le-leb, leb-true, lt-ltb, ltb-true, or_cases, or_left, or_right}
use Rattle.std.proofs.lemmas.List.{drop-drop, get_or-set_other, get_or-set_same, length-append, length-drop, length-map, length-set, map-id}
use Rattle.std.proofs.lemmas.List.Folds.{list_any-append}
use Rattle.std.proofs.lemmas.List.FromFn.{get_or-range_with_len, length-range_with_len, map-range_with_len_more}
use Rattle.item_list.proofs.Tests.{AllByRecursion-append, list_all-implied}
use Rattle.net_model.specs.Lists.{is_rising}
use Rattle.net_maker.specs.Subsets.{HasRoom, binomial, subsets_from, subsets_of}

-- ---- how many there are

pub binomial-zero : (n : ℕ) → binomial n 0 ≡ 1
unfolding binomial
binomial-zero zero = refl
binomial-zero (suc n) = refl

pub binomial-none : (k : ℕ) → binomial 0 (k + 1) ≡ 0
unfolding binomial
binomial-none k = rw add-one refl

pub binomial-step : (n k : ℕ) → binomial (n + 1) (k + 1) ≡ binomial n k + binomial n (k + 1)
unfolding binomial
binomial-step n k = rw (add-one, add-one) refl

-- no more than there are sets at all
pub binomial-le : (n k : ℕ) → binomial n k ≤ 2 ^ n
unfolding binomial
binomial-le zero zero = omega arith
binomial-le zero (suc k) = omega arith
binomial-le (suc n) zero = omega (arith, two-pow-succ n, binomial-le n 0, binomial-zero n)
binomial-le (suc n) (suc k) = omega (arith, two-pow-succ n, binomial-le n k, binomial-le n (suc k))

-- there is a set where there are as many numbers
pub binomial-some : (n k : ℕ) → k ≤ n → 0 < binomial n k
unfolding binomial
binomial-some zero zero among = omega arith
binomial-some zero (suc k) among = absurd (omega arith)
binomial-some (suc n) zero among = omega arith
binomial-some (suc n) (suc k) among = omega (arith, binomial-some n k (omega arith))

-- the sets are as many as Pascal's rule says
pub length-subsets_of : (first count k : ℕ) → length (subsets_of first count k) ≡ binomial count k
unfolding binomial subsets_of
length-subsets_of first zero zero = refl
length-subsets_of first (suc count) zero = refl
length-subsets_of first zero (suc k) = refl
length-subsets_of first (suc count) (suc k) =
    length-append (map (λ rest. first ∷ rest) (subsets_of (first + 1) count k)) (subsets_of (first + 1) count (suc k))
    ∙ omega (arith, length-map (subsets_of (first + 1) count k) (λ rest. first ∷ rest), length-subsets_of (first + 1) count k, length-subsets_of (first + 1) count (suc k))

-- of too few numbers there is none
pub subsets_of-none : (first count k : ℕ) → count < k → subsets_of first count k ≡ []
unfolding subsets_of
subsets_of-none first count zero few = absurd (omega arith)
subsets_of-none first zero (suc k) few = refl
subsets_of-none first (suc count) (suc k) few =
    rw (subsets_of-none (first + 1) count k (omega arith), subsets_of-none (first + 1) count (suc k) (omega arith)) refl

-- ---- from one to the next

-- they begin with the first numbers
pub subsets_of-from : (first count k bound : ℕ) → k ≤ count → first + count ≡ bound → subsets_of first count k ≡ subsets_from bound (range_with_len first k)
unfolding subsets_of subsets_from
subsets_of-from first zero zero bound among end = refl
subsets_of-from first (suc count) zero bound among end = refl
subsets_of-from first zero (suc k) bound among end = absurd (omega arith)
subsets_of-from first (suc count) (suc k) bound among end =
    let rest = subsets_of-from (first + 1) count k bound (omega arith) (omega arith) in
    let others : bound - (first + 1) ≡ count = omega arith in
    let size : length (range_with_len (first + 1) k) + 1 ≡ suc k = omega (arith, length-range_with_len (first + 1) k) in
    rw (rest, others, size) refl

-- members that follow one another
following : (first : ℕ) (set : List ℕ) → ((i : ℕ) → i < length set → get_or set i 0 ≡ first + i) → set ≡ range_with_len first (length set)
following first [] each = refl
following first (x ∷ set) each =
    let here : x ≡ first = omega (arith, each 0 (omega arith)) in
    let rest = following (first + 1) set (λ i within. omega (arith, each (suc i) (omega arith))) in
    ap (λ (l : List ℕ). x ∷ l) rest ∙ ap (λ (y : ℕ). y ∷ range_with_len (first + 1) (length set)) here

-- no set comes after the one whose members are as great as they can be
pub subsets_from-last : (bound : ℕ) (set : List ℕ) → ((i : ℕ) → i < length set → get_or set i 0 + length set ≡ bound + i) → subsets_from bound set ≡ set ∷ []
unfolding subsets_from
subsets_from-last bound [] full = refl
subsets_from-last bound (x ∷ set) full =
    let rest = subsets_from-last bound set (λ i within. omega (arith, full (suc i) (omega arith))) in
    let here = full 0 (omega arith) in
    let few : bound - (x + 1) < length set + 1 = omega (arith, here) in
    rw (rest, subsets_of-none (x + 1) (bound - (x + 1)) (length set + 1) few) refl

-- after one comes that which keeps its members before a place, and has there and from there on the least greater ones
pub subsets_from-next : (bound : ℕ) (set next : List ℕ) (place : ℕ) → length next ≡ length set → place < length set
    → ((i : ℕ) → i < place → get_or next i 0 ≡ get_or set i 0)
    → ((i : ℕ) → place ≤ i → i < length set → get_or next i 0 + place ≡ get_or set place 0 + 1 + i)
    → ((i : ℕ) → place < i → i < length set → get_or set i 0 + length set ≡ bound + i)
    → get_or set place 0 + length set < bound + place
    → subsets_from bound set ≡ set ∷ subsets_from bound next
unfolding subsets_from
subsets_from-next bound [] next place long within before after full free = absurd (omega arith)
subsets_from-next bound (x ∷ set) [] place long within before after full free = absurd (omega arith)
subsets_from-next bound (x ∷ set) (y ∷ next) zero long within before after full free =
    let last : subsets_from bound set ≡ set ∷ [] = subsets_from-last bound set (λ i inside. omega (arith, full (suc i) (omega arith) (omega arith))) in
    let size : length (y ∷ next) ≡ length set + 1 = omega arith in
    let same : y ∷ next ≡ range_with_len (x + 1) (length set + 1) =
    following (x + 1) (y ∷ next) (λ i inside. omega (arith, after i (omega arith) (omega arith))) ∙ ap (range_with_len (x + 1)) size in
    let others : subsets_of (x + 1) (bound - (x + 1)) (length set + 1) ≡ subsets_from bound (range_with_len (x + 1) (length set + 1)) =
    subsets_of-from (x + 1) (bound - (x + 1)) (length set + 1) bound (omega arith) (omega arith) in
    ap (λ (l : List (List ℕ)). map (λ others. x ∷ others) l ++ subsets_of (x + 1) (bound - (x + 1)) (length set + 1)) last
    ∙ ap (λ (l : List (List ℕ)). (x ∷ set) ∷ l) (others ∙ ap (subsets_from bound) (sym same))
subsets_from-next bound (x ∷ set) (y ∷ next) (suc place) long within before after full free =
    let size : length next ≡ length set = omega arith in
    let rest = subsets_from-next bound set next place size (omega arith) (λ i inside. before (suc i) (omega arith))
    (λ i from inside. omega (arith, after (suc i) (omega arith) (omega arith))) (λ i behind inside. omega (arith, full (suc i) (omega arith) (omega arith))) (omega arith) in
    let here : y ≡ x = before 0 (omega arith) in
    rw (rest, here, size) refl

-- ---- which they are

-- k rising numbers from `first` on, below a bound
pub record IsSetOf (first bound k : ℕ) (set : List ℕ) : Type 0 where
  pub long : length set ≡ k
  pub rising : is_rising set ≡ true
  pub within : list_all (λ x. nat_le first x && nat_lt x bound) set ≡ true

-- a number in a range
in_range : (first bound x : ℕ) → first ≤ x → x < bound → (nat_le first x && nat_lt x bound) ≡ true
in_range first bound x from below = and_from _ _ (le-leb first x from) (lt-ltb x bound below)

pub range_of : (first bound x : ℕ) → (nat_le first x && nat_lt x bound) ≡ true → (first ≤ x) × (x < bound)
range_of first bound x test = let parts = and_parts _ _ test in (leb-true first x parts.0, ltb-true x bound parts.1)

-- numbers above one of the range
pub above : (first bound x : ℕ) (set : List ℕ) → list_all (nat_lt x) set ≡ true → list_all (λ y. nat_le first y && nat_lt y bound) set ≡ true → list_all (λ y. nat_le (x + 1) y && nat_lt y bound) set ≡ true
above first bound x [] higher within = refl
above first bound x (y ∷ set) higher within =
    let ups = and_parts _ _ higher in
    let ins = and_parts _ _ within in
    let up : x < y = ltb-true x y ups.0 in
    and_from _ _ (in_range (x + 1) bound y (omega arith) (range_of first bound y ins.0).1) (above first bound x set ups.1 ins.1)

-- with one number more to choose from
wider : (first bound k : ℕ) (set : List ℕ) → IsSetOf (first + 1) bound k set → IsSetOf first bound k set
wider first bound k set is =
    record {
      long = is.long;
      rising = is.rising;
      within = list_all-implied (λ x. nat_le (first + 1) x && nat_lt x bound) (λ x. nat_le first x && nat_lt x bound) set
          (λ x test. let parts = range_of (first + 1) bound x test in in_range first bound x (omega (arith, parts.0)) parts.1) is.within;
    }

-- with the first number
longer : (first bound k : ℕ) (set : List ℕ) → first < bound → IsSetOf (first + 1) bound k set → IsSetOf first bound (suc k) (first ∷ set)
longer first bound k set some is =
    record {
      long = ap suc is.long;
      rising = and_from _ _ (list_all-implied (λ x. nat_le (first + 1) x && nat_lt x bound) (nat_lt first) set
          (λ x test. let parts = range_of (first + 1) bound x test in lt-ltb first x (omega (arith, parts.0))) is.within) is.rising;
      within = and_from _ _ (in_range first bound first (omega arith) some) (wider first bound k set is).within;
    }

all-implied : {X Y : Type 0} (P : X → Type 0) (Q : Y → Type 0) (f : X → Y) (xs : List X) → ((x : X) → P x → Q (f x)) → AllByRecursion P xs → AllByRecursion Q (map f xs)
all-implied P Q f [] implies all = tt
all-implied P Q f (x ∷ xs) implies all = (implies x all.0, all-implied P Q f xs implies all.1)

-- each of them is such a set
pub subsets_of-each : (first count k bound : ℕ) → first + count ≡ bound → AllByRecursion (IsSetOf first bound k) (subsets_of first count k)
unfolding subsets_of
subsets_of-each first zero zero bound end = (record { long = refl; rising = refl; within = refl }, tt)
subsets_of-each first (suc count) zero bound end = (record { long = refl; rising = refl; within = refl }, tt)
subsets_of-each first zero (suc k) bound end = tt
subsets_of-each first (suc count) (suc k) bound end =
    let with_first = all-implied (IsSetOf (first + 1) bound k) (IsSetOf first bound (suc k)) (λ rest. first ∷ rest) (subsets_of (first + 1) count k)
    (λ set is. longer first bound k set (omega arith) is) (subsets_of-each (first + 1) count k bound (omega arith)) in
    let others = subsets_of-each (first + 1) count (suc k) bound (omega arith) in
    AllByRecursion-append (IsSetOf first bound (suc k)) _ _ with_first
    (subst (λ (l : List (List ℕ)). AllByRecursion (IsSetOf first bound (suc k)) l) (map-id (subsets_of (first + 1) count (suc k)))
    (all-implied (IsSetOf (first + 1) bound (suc k)) (IsSetOf first bound (suc k)) (λ set. set) (subsets_of (first + 1) count (suc k)) (λ set is. wider first bound (suc k) set is) others))

-- each such set is among them
pub subsets_of-all : (first count k bound : ℕ) (set : List ℕ) → first + count ≡ bound → IsSetOf first bound k set → list_any (bytes_eq set) (subsets_of first count k) ≡ true
unfolding subsets_of
subsets_of-all first zero zero bound [] end is = refl
subsets_of-all first (suc count) zero bound [] end is = refl
subsets_of-all first zero zero bound (x ∷ set) end is = absurd (omega (arith, is.long))
subsets_of-all first (suc count) zero bound (x ∷ set) end is = absurd (omega (arith, is.long))
subsets_of-all first zero (suc k) bound [] end is = absurd (omega (arith, is.long))
subsets_of-all first (suc count) (suc k) bound [] end is = absurd (omega (arith, is.long))
subsets_of-all first zero (suc k) bound (x ∷ set) end is =
    let parts = range_of first bound x (and_parts _ _ is.within).0 in absurd (omega (arith, parts.0, parts.1))
subsets_of-all first (suc count) (suc k) bound (x ∷ set) end is =
    let parts = range_of first bound x (and_parts _ _ is.within).0 in
    let size : length set ≡ k = omega (arith, is.long) in
    let later : IsSetOf (x + 1) bound k set = record {
      long = size;
      rising = (and_parts _ _ is.rising).1;
      within = above first bound x set (and_parts _ _ is.rising).0 (and_parts _ _ is.within).1;
    } in
    let ones : List (List ℕ) = map (λ rest. first ∷ rest) (subsets_of (first + 1) count k) in
    let others : List (List ℕ) = subsets_of (first + 1) count (suc k) in
    list_any-append (bytes_eq (x ∷ set)) ones others ∙ elim (cases_eq x first) [
      | inl same ↦ or_left (list_any (bytes_eq (x ∷ set)) ones) (list_any (bytes_eq (x ∷ set)) others) (with_first set (subsets_of (first + 1) count k) same
          (subsets_of-all (first + 1) count k bound set (omega arith) (subst (λ (y : ℕ). IsSetOf (y + 1) bound k set) same later)))
      | inr other ↦ or_right (list_any (bytes_eq (x ∷ set)) ones) (list_any (bytes_eq (x ∷ set)) others) (subsets_of-all (first + 1) count (suc k) bound (x ∷ set) (omega arith)
          (from_later (x ∷ set) is.long (longer x bound k set parts.1 later) (omega (arith, parts.0))))
    ]
  where
    with_first : (set : List ℕ) (sets : List (List ℕ)) → x ≡ first → list_any (bytes_eq set) sets ≡ true → list_any (bytes_eq (x ∷ set)) (map (λ rest. first ∷ rest) sets) ≡ true
    with_first set [] same found = cc
    with_first set (other ∷ sets) same found = elim (or_cases _ _ found) [
      | inl here ↦ or_left _ _ (and_from _ _ (eq-eqb x first same) here)
      | inr later ↦ or_right _ _ (with_first set sets same later)
    ]

    from_later : (set : List ℕ) → length set ≡ suc k → IsSetOf x bound (suc k) set → first + 1 ≤ x → IsSetOf (first + 1) bound (suc k) set
    from_later set long is from = record {
      long = long;
      rising = is.rising;
      within = list_all-implied (λ y. nat_le x y && nat_lt y bound) (λ y. nat_le (first + 1) y && nat_lt y bound) set
          (λ y test. let parts = range_of x bound y test in in_range (first + 1) bound y (omega (arith, parts.0, from)) parts.1) is.within;
    }

-- ---- rows of Pascal's triangle

-- no number of the first rows is great
pub binomial-few : (n k : ℕ) → n ≤ 64 → binomial n k ≤ 2 ^ 64
binomial-few n k few =
    let all : 2 ^ n ≤ 2 ^ 64 = pow-le-pow_right (omega arith) few in
    omega (arith, all, binomial-le n k)

-- a row whose numbers from a place on are those of the next row: one place on
pub row-old : (row : List ℕ) (n k v : ℕ) → ((j : ℕ) → j < k → j < length row → get_or row j 0 ≡ binomial n j) → (j : ℕ) → j < k - 1 → j < length (set row (k - 1) v) → get_or (set row (k - 1) v) j 0 ≡ binomial n j
row-old row n k v old j below within =
    let other : j ≢ k - 1 = omega arith in
    get_or-set_other row (k - 1) j v 0 other ∙ old j (omega arith) (omega (arith, length-set row (k - 1) v))

pub row-new : (row : List ℕ) (n k v : ℕ) → 1 < k → k ≤ length row → v ≡ get_or row (k - 1) 0 + get_or row (k - 1 - 1) 0
    → ((j : ℕ) → j < k → j < length row → get_or row j 0 ≡ binomial n j)
    → ((j : ℕ) → k ≤ j → j < length row → get_or row j 0 ≡ binomial (n + 1) j)
    → (j : ℕ) → k - 1 ≤ j → j < length (set row (k - 1) v) → get_or (set row (k - 1) v) j 0 ≡ binomial (n + 1) j
row-new row n k v some within sum old new j from below =
    elim (cases_eq j (k - 1)) [
      | inl here ↦
          let place : k - 1 - 1 + 1 ≡ k - 1 = omega arith in
          let one = old (k - 1) (omega arith) (omega arith) in
          let before = old (k - 1 - 1) (omega arith) (omega arith) in
          let step : binomial (n + 1) (k - 1) ≡ binomial n (k - 1 - 1) + binomial n (k - 1) = rw place at (binomial-step n (k - 1 - 1)) in
          ap (λ (i : ℕ). get_or (set row (k - 1) v) i 0) here ∙ get_or-set_same row (k - 1) v 0 (omega arith) ∙ omega (arith, sum, one, before, step) ∙ ap (binomial (n + 1)) (sym here)
      | inr other ↦ get_or-set_other row (k - 1) j v 0 other ∙ new j (omega arith) (omega (arith, length-set row (k - 1) v))
    ]

pub row-done : (row : List ℕ) (n k : ℕ) → k ≤ 1
    → ((j : ℕ) → j < k → j < length row → get_or row j 0 ≡ binomial n j)
    → ((j : ℕ) → k ≤ j → j < length row → get_or row j 0 ≡ binomial (n + 1) j)
    → (j : ℕ) → j < length row → get_or row j 0 ≡ binomial (n + 1) j
row-done row n k end old new j within =
    elim (cases_lt j k) [
      | inl below ↦
          let first : j ≡ 0 = omega arith in
          old j below within ∙ ap (binomial n) first ∙ binomial-zero n ∙ sym (binomial-zero (n + 1)) ∙ ap (binomial (n + 1)) (sym first)
      | inr from ↦ new j from within
    ]

-- the first row
abbrev zeros : ℕ → List ℕ
zeros n = replicate n 0

zero_at : (n j : ℕ) → get_or (zeros n) j 0 ≡ 0
zero_at zero j = refl
zero_at (suc n) zero = refl
zero_at (suc n) (suc j) = zero_at n j

pub row-first : (n j : ℕ) → get_or (1 ∷ zeros n) j 0 ≡ binomial 0 j
row-first n zero = sym (binomial-zero 0)
row-first n (suc j) = zero_at n j ∙ sym (rw add-one at (binomial-none j))

-- ---- ranges

-- one number more
pub range-more : (first count : ℕ) → range_with_len first (count + 1) ≡ range_with_len first count ++ (first + count) ∷ []
range-more first count =
    sym (map-id (range_with_len first (count + 1))) ∙ map-range_with_len_more (λ (x : ℕ). x) first count (first + count) refl
    ∙ ap (λ (l : List ℕ). l ++ (first + count) ∷ []) (map-id (range_with_len first count))

-- the first numbers have room
pub HasRoom-first : (most count : ℕ) → count ≤ most → HasRoom most (range_with_len 1 count)
HasRoom-first most count among = record {
  each = λ i within.
      let size = length-range_with_len 1 count in
      let inside : i < count = omega (arith, size) in
      omega (arith, size, get_or-range_with_len 1 count i 0 inside);
}

-- the list behind an item
pub drop-next : {X : Type 0} (xs : List X) (i : ℕ) (y : X) (ys : List X) → drop i xs ≡ y ∷ ys → drop (i + 1) xs ≡ ys
drop-next {X = X} xs i y ys there = sym (drop-drop 1 i xs) ∙ ap (λ (l : List X). drop 1 l) there

-- a list that is one of two and isn't empty
pub chosen : {X : Type 0} (choice : Bool) (xs : List X) → 0 < length (cond choice xs []) → xs ≡ cond choice xs []
chosen true xs some = refl
chosen false xs some = absurd (omega arith)

-- from one item of a list to the next, if there is one
pub step : {X : Type 0} (xs rest more : List X) (x : X) (goes : Bool) (i : ℕ) → rest ≡ drop i xs → rest ≡ x ∷ cond goes more []
    → (drop (i + 1) xs ≡ cond goes more []) × (i + 1 < length xs → more ≡ drop (i + 1) xs)
step {X = X} xs rest more x goes i there here =
    let next : drop (i + 1) xs ≡ cond goes more [] = drop-next xs i x (cond goes more []) (sym there ∙ here) in
    (next, λ within. chosen goes more (omega (arith, length-drop (i + 1) xs, ap length next)) ∙ sym next)
