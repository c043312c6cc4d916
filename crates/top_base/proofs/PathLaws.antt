-- Where no output's path is shared, each is apart from the inputs, and none stands twice.
use Rattle.std.specs.Prelude.{◌≡◌, ◌≤◌, ◌+◌, nat_lt, ℕ, Bool, true, false, List, [], ◌∷◌, Some, None, Contains, cond, find, count_by}
use Rattle.std.specs.List.{list_any}
use Rattle.std.specs.Str.{bytes_eq}
use Rattle.std.proofs.Common.{refl, sym, ap, subst, ◌∙◌, ⊎_elim, arith, get_or}
use Rattle.std.proofs.lemmas.Bool.{false≢true, or_parts, ltb-false}
use Rattle.std.proofs.lemmas.List.Elements.{Contains-append_left, Contains-append_right, Contains-append_cases}
use Rattle.std.proofs.lemmas.List.Sums.{sum_by-cons, get_or-le-sum_by}
use Rattle.std.proofs.lemmas.Slice.Eq.{bytes_eq-Decides}
use Rattle.lif_outside.specs.AccountLaws.{contains_none, contains_one}
use Rattle.lif_outside.specs.Files.{AreDistinct}
use Rattle.top_base.specs.Paths.{is_shared, shared_path}

-- what isn't found doesn't stand there
none_found : {X : Type 0} (test : X → Bool) (xs : List X) (x : X) → find test xs ≡ None → Contains xs x → test x ≡ false
none_found test [] x none there = absurd (contains_none x there)
none_found test (y ∷ ys) x none there = by_test (test y) refl none (λ rest. none_found test ys x rest)
  where
    by_test : (b : Bool) → test y ≡ b → cond b (Some y) (find test ys) ≡ None → (find test ys ≡ None → Contains ys x → test x ≡ false) → test x ≡ false
    by_test true is none behind = absurd (cc)
    by_test false is none behind = ⊎_elim (λ here. ap test (sym (contains_one y x here)) ∙ is) (behind none) (Contains-append_cases (y ∷ []) ys x there)

-- a path that stands there is counted
counted : (paths : List (List ℕ)) (path : List ℕ) → Contains paths path → 1 ≤ count_by (bytes_eq path) paths
counted paths path there =
    let one = get_or-le-sum_by (λ other. cond (bytes_eq path other) 1 0) paths there.0 path there.1 in
    let same : bytes_eq path (get_or paths there.0 path) ≡ true = (bytes_eq-Decides path _).1 (sym there.2) in
    subst (λ b. cond b 1 0 ≤ count_by (bytes_eq path) paths) same one

-- one path more
pub count_more : (path first : List ℕ) (paths : List (List ℕ)) → count_by (bytes_eq path) (first ∷ paths) ≡ cond (bytes_eq path first) 1 0 + count_by (bytes_eq path) paths
count_more path first paths = sum_by-cons (λ other. cond (bytes_eq path other) 1 0) first paths

-- paths of which each is counted once are distinct
counted_distinct : (paths : List (List ℕ)) → ((path : List ℕ) → Contains paths path → count_by (bytes_eq path) paths ≤ 1) → AreDistinct paths
counted_distinct [] once = tt
counted_distinct (first ∷ paths) once = (
  λ again.
      let all : count_by (bytes_eq first) (first ∷ paths) ≤ 1 = once first (Contains-append_left (first ∷ []) paths first (0, omega arith, refl)) in
      let here : count_by (bytes_eq first) (first ∷ paths) ≡ 1 + count_by (bytes_eq first) paths =
      count_more first first paths ∙ ap (λ b. cond b 1 0 + count_by (bytes_eq first) paths) ((bytes_eq-Decides first first).1 refl) in
      let more : 1 ≤ count_by (bytes_eq first) paths = counted paths first again in
      absurd (omega arith),
  counted_distinct paths (λ path there.
      let all : count_by (bytes_eq path) (first ∷ paths) ≤ 1 = once path (Contains-append_right (first ∷ []) paths path there) in
      let parts = count_more path first paths in
      omega arith),
)

module _ (inputs outputs : List (List ℕ)) (clear : shared_path inputs outputs ≡ None) where
  -- an output's path is none of an input, and of no other output
  unshared : (path : List ℕ) → Contains outputs path → (list_any (bytes_eq path) inputs ≡ false) × (nat_lt 1 (count_by (bytes_eq path) outputs) ≡ false)
  unshared path there = or_parts _ _ (none_found (is_shared inputs outputs) outputs path clear there)

  pub clear_distinct : AreDistinct outputs
  clear_distinct = counted_distinct outputs (λ path there. ltb-false 1 (count_by (bytes_eq path) outputs) (unshared path there).1)

  pub clear_apart : (path : List ℕ) → list_any (bytes_eq path) inputs ≡ true → ¬ Contains outputs path
  clear_apart path is there = false≢true (sym (unshared path there).0 ∙ is)
