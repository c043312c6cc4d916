-- Paths of outputs that are distinct, so that one is shared where an input has it, and how the first that is shared is found.
use Rattle.std.proofs.Common.{◌≡◌, ◌≢◌, ◌<◌, ◌≤◌, ◌+◌, ◌||◌, ◌∷◌, [], ℕ, suc, Bool, true, false, List, None, Some, Contains, count_by, find, map, length, get_or, take, drop, cond, refl, sym, ap, subst, drop-cons, ◌∙◌, arith, inl, inr}
use Rattle.std.specs.List.{AllPairs, list_any}
use Rattle.std.specs.Option.{option_or}
use Rattle.std.specs.Str.{bytes_eq}
use Rattle.std.proofs.Math.Bool.{or-false}
use Rattle.std.proofs.lemmas.Bool.{cases_Bool, cases_order, false_from_ne_true, le-ltb}
use Rattle.std.proofs.lemmas.List.{get_or-map, length-map, take_more, take-append-drop}
use Rattle.std.proofs.lemmas.List.Folds.{find-append}
use Rattle.std.proofs.lemmas.Map.Made.{find_same}
use Rattle.std.proofs.lemmas.Slice.Eq.{bytes_eq-Decides}
use Rattle.lif_outside.specs.Files.{AreDistinct}
use Rattle.top_base.proofs.PathLaws.{count_more}
use Rattle.top_base.specs.Paths.{is_shared, shared_path}

-- paths of which no two are equal
pub distinct_in_pairs : (paths : List (List ℕ)) → AllPairs (λ a b. a ≢ b) paths → AreDistinct paths
distinct_in_pairs [] apart = tt
distinct_in_pairs (path ∷ paths) apart = (
  λ there. apart 0 (suc there.0) path (omega arith) (omega arith) (sym there.2),
  distinct_in_pairs paths (λ i j d before within. apart (suc i) (suc j) d (omega arith) (omega arith)),
)

-- an item of a list in which no two are equal stands at one place
pub one_place : {X : Type 0} (xs : List X) (i j : ℕ) (d : X) → AllPairs (λ a b. a ≢ b) xs → i < length xs → j < length xs → get_or xs i d ≡ get_or xs j d → i ≡ j
one_place xs i j d apart first second same =
    elim (cases_order i j) [ inl is ↦ is | inr (inl before) ↦ absurd (apart i j d before second same) | inr (inr after) ↦ absurd (apart j i d after first (sym same)) ]

-- one path more
counted_more : (path other : List ℕ) (paths : List (List ℕ)) (is : Bool) → bytes_eq path other ≡ is → count_by (bytes_eq path) (other ∷ paths) ≡ cond is 1 0 + count_by (bytes_eq path) paths
counted_more path other paths is same = count_more path other paths ∙ ap (λ test. cond test 1 0 + count_by (bytes_eq path) paths) same

-- a path that isn't there
none_counted : (path : List ℕ) (paths : List (List ℕ)) → ¬ Contains paths path → count_by (bytes_eq path) paths ≡ 0
none_counted path [] absent = refl
none_counted path (other ∷ paths) absent =
    let apart : bytes_eq path other ≡ false = false_from_ne_true _ (λ is. absent (0, omega arith, sym ((bytes_eq-Decides path other).0 is))) in
    omega (arith, counted_more path other paths false apart, none_counted path paths (λ there. absent (suc there.0, omega arith, there.2)))

-- a path stands at most once among distinct ones
counted_once : (path : List ℕ) (paths : List (List ℕ)) → AreDistinct paths → count_by (bytes_eq path) paths ≤ 1
counted_once path [] distinct = omega arith
counted_once path (other ∷ paths) distinct = elim (cases_Bool (bytes_eq path other)) [
  | inl is ↦
      let absent : ¬ Contains paths path = subst (λ one. ¬ Contains paths one) (sym ((bytes_eq-Decides path other).0 is)) distinct.0 in
      omega (arith, counted_more path other paths true is, none_counted path paths absent)
  | inr not ↦ omega (arith, counted_more path other paths false not, counted_once path paths distinct.1)
]

-- a test that answers alike finds alike
find_alike : {X : Type 0} (test other : X → Bool) (xs : List X) → ((x : X) → test x ≡ other x) → find test xs ≡ find other xs
find_alike test other [] alike = refl
find_alike test other (x ∷ xs) alike = rw (alike x, find_alike test other xs alike) refl

-- the first of distinct outputs that is an input
pub shared_of_distinct : (inputs outputs : List (List ℕ)) → AreDistinct outputs → shared_path inputs outputs ≡ find (λ path. list_any (bytes_eq path) inputs) outputs
shared_of_distinct inputs outputs distinct =
    find_alike (is_shared inputs outputs) (λ path. list_any (bytes_eq path) inputs) outputs (λ path.
    ap (λ twice. list_any (bytes_eq path) inputs || twice) (le-ltb 1 (count_by (bytes_eq path) outputs) (counted_once path outputs distinct)) ∙ or-false _)

-- what is found of the inputs by a path is that path, where an input has it
found_input : (path : List ℕ) (inputs : List (List ℕ)) (is : Bool) → list_any (bytes_eq path) inputs ≡ is → find (bytes_eq path) inputs ≡ cond is (Some path) None
found_input path inputs is has = find_same bytes_eq-Decides path inputs ∙ ap (λ b. cond b (Some path) None) has

pub input_is : (path : List ℕ) (inputs : List (List ℕ)) (input : List ℕ) → find (bytes_eq path) inputs ≡ Some input → (list_any (bytes_eq path) inputs ≡ true) × (path ≡ input)
input_is path inputs input found = elim (cases_Bool (list_any (bytes_eq path) inputs)) [
  | inl has ↦ let same : Some path ≡ Some input = sym (found_input path inputs true has) ∙ found in (has, cc)
  | inr not ↦ let none : None ≡ Some input = sym (found_input path inputs false not) ∙ found in absurd (cc)
]

pub no_input : (path : List ℕ) (inputs : List (List ℕ)) → find (bytes_eq path) inputs ≡ None → list_any (bytes_eq path) inputs ≡ false
no_input path inputs none = elim (cases_Bool (list_any (bytes_eq path) inputs)) [
  | inl has ↦ let same : Some path ≡ None = sym (found_input path inputs true has) ∙ none in absurd (cc)
  | inr not ↦ not
]

-- where no item so far passes, the next one is found if it passes
pub find_here : {X Y : Type 0} (view : X → Y) (test : Y → Bool) (xs : List X) (i : ℕ) (x : X) → i < length xs → find test (take i (map view xs)) ≡ None → x ≡ get_or xs i x → test (view x) ≡ true → find test (map view xs) ≡ Some (view x)
find_here view test xs i x within none here passes =
    let ys = map view xs in
    let long : i < length ys = omega (arith, length-map xs view) in
    let there : get_or ys i (view x) ≡ view x = get_or-map view xs i x (view x) within ∙ ap view (sym here) in
    let rest : drop i ys ≡ view x ∷ drop (suc i) ys = drop-cons ys i (view x) long ∙ ap (λ y. y ∷ drop (suc i) ys) there in
    ap (find test) (sym (take-append-drop i ys)) ∙ find-append test (take i ys) (drop i ys)
    ∙ ap (λ found. option_or found (find test (drop i ys))) none ∙ ap (find test) rest ∙ ap (λ is. cond is (Some (view x)) (find test (drop (suc i) ys))) passes

-- and else no item passes yet
pub find_later : {X Y : Type 0} (view : X → Y) (test : Y → Bool) (xs : List X) (i : ℕ) (x : X) → i < length xs → find test (take i (map view xs)) ≡ None → x ≡ get_or xs i x → test (view x) ≡ false → find test (take (i + 1) (map view xs)) ≡ None
find_later view test xs i x within none here fails =
    let ys = map view xs in
    let long : i < length ys = omega (arith, length-map xs view) in
    let there : get_or ys i (view x) ≡ view x = get_or-map view xs i x (view x) within ∙ ap view (sym here) in
    ap (find test) (take_more ys i (view x) long) ∙ find-append test (take i ys) (get_or ys i (view x) ∷ [])
    ∙ ap (λ found. option_or found (find test (get_or ys i (view x) ∷ []))) none ∙ ap (λ y. find test (y ∷ [])) there ∙ ap (λ is. cond is (Some (view x)) None) fails
