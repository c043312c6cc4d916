-- Names among names: their numbers, and names each where it stands first.
use Rattle.std.specs.Prelude.{◌≡◌, ℕ, ◌+◌, ◌<◌, ◌||◌, Bool, true, false, not, nat_eq, List, [], ◌∷◌, ◌++◌, length, map, Some, None, cond, unwrap_or, if◌then◌else◌}
use Rattle.std.specs.List.{list_all, list_any, position_or_len}
use Rattle.std.specs.Str.{bytes_eq}
use Rattle.std.proofs.Common.{refl, sym, ap, ◌∙◌, get_or}
use Rattle.std.proofs.lemmas.Bool.{false≢true, and_parts, and_from, or_parts, or_from, or_left, or_right, not-true, not_from_false, false_from_ne_true, eqb-true, lt-ltb}
use Rattle.std.proofs.lemmas.List.Folds.{list_any-append, list_all-append}
use Rattle.std.proofs.lemmas.List.Sums.{passes_at_first}
use Rattle.std.proofs.lemmas.Slice.Eq.{bytes_eq-Decides}
use Rattle.net_model.specs.Lists.{are_distinct}
use Rattle.std.proofs.lemmas.Cmp.{nat_list_eq_equiv}
use Rattle.item_list.proofs.Tests.{position_or_len-within}
use Rattle.net_model.specs.Name.{is_name}
use Rattle.net_model.specs.Network.{are_names, is_sink_among}
use Rattle.name_index.specs.Seen.{has, distinct_from}
use Rattle.net_reader.specs.Text.{number_in}

-- a name is itself
bytes_eq-self : (name : List ℕ) → bytes_eq name name ≡ true
bytes_eq-self name = (bytes_eq-Decides name name).1 refl

-- ---- names with one more

-- names with one more that is none of them are distinct
pub are_distinct-more : (names : List (List ℕ)) (name : List ℕ) → are_distinct bytes_eq names ≡ true → has names name ≡ false → are_distinct bytes_eq (names ++ name ∷ []) ≡ true
are_distinct-more [] name distinct is_new = refl
are_distinct-more (first ∷ names) name distinct is_new =
    let parts = and_parts _ _ distinct in
    let apart = or_parts (bytes_eq name first) (has names name) is_new in
    and_from _ _
    (not_from_false _ (list_any-append (bytes_eq first) names (name ∷ []) ∙ or_from _ _ (not-true _ parts.0) (or_from _ _ (nat_list_eq_equiv.symm first name ∙ apart.0) refl)))
    (are_distinct-more names name parts.1 apart.1)

-- so they are names, where it's a name
pub are_names-more : (names : List (List ℕ)) (name : List ℕ) → are_names names ≡ true → is_name name ≡ true → has names name ≡ false → are_names (names ++ name ∷ []) ≡ true
are_names-more names name are is is_new =
    let parts = and_parts (list_all is_name names) (are_distinct bytes_eq names) are in
    and_from _ _ (list_all-append is_name names (name ∷ []) ∙ and_from _ _ parts.0 (and_from _ _ is refl)) (are_distinct-more names name parts.1 is_new)

-- what stands among names stands among more
pub has-more : (names more : List (List ℕ)) (name : List ℕ) → has names name ≡ true → has (names ++ more) name ≡ true
has-more names more name here = list_any-append (bytes_eq name) names more ∙ or_left _ _ here

-- ---- names each where it stands first

-- what holds of names and stays with each new one
module _ (P : List (List ℕ) → Type 0) (test : List ℕ → Bool) (more : (seen : List (List ℕ)) (name : List ℕ) → test name ≡ true → has seen name ≡ false → P seen → P (seen ++ name ∷ [])) where
  -- with one that may be new
  keeps_one : (seen : List (List ℕ)) (name : List ℕ) → test name ≡ true → P seen → P (if has seen name then seen else seen ++ name ∷ [])
  keeps_one seen name passes holds = either (has seen name) refl
    where
      either : (b : Bool) → has seen name ≡ b → P (if b then seen else seen ++ name ∷ [])
      either true is = holds
      either false is = more seen name passes is holds

  -- with several
  distinct_from-keeps : (seen names : List (List ℕ)) → list_all test names ≡ true → P seen → P (distinct_from seen names)
  distinct_from-keeps seen [] all holds = holds
  distinct_from-keeps seen (name ∷ names) all holds =
      let parts = and_parts _ _ all in
      distinct_from-keeps (if has seen name then seen else seen ++ name ∷ []) names parts.1 (keeps_one seen name parts.0 holds)

-- they are names
pub distinct_from-are_names : (names : List (List ℕ)) → list_all is_name names ≡ true → are_names (distinct_from [] names) ≡ true
distinct_from-are_names names all =
    distinct_from-keeps (λ seen. are_names seen ≡ true) is_name (λ seen name is is_new are. are_names-more seen name are is is_new) [] names all refl

-- a test that every name passes
all_pass : (names : List (List ℕ)) → list_all (λ name. true) names ≡ true
all_pass [] = refl
all_pass (name ∷ names) = all_pass names

-- a name that is seen stays
distinct_from-seen : (seen names : List (List ℕ)) (name : List ℕ) → has seen name ≡ true → has (distinct_from seen names) name ≡ true
distinct_from-seen seen names name here =
    distinct_from-keeps (λ seen. has seen name ≡ true) (λ name. true) (λ seen other passes is_new is. has-more seen (other ∷ []) name is) seen names (all_pass names) here

-- each of the names stands among them
pub distinct_from-has : (seen names : List (List ℕ)) → list_all (has (distinct_from seen names)) names ≡ true
distinct_from-has seen [] = refl
distinct_from-has seen (name ∷ names) =
    let next = if has seen name then seen else seen ++ name ∷ [] in
    and_from _ _ (distinct_from-seen next names name (either (has seen name) refl)) (distinct_from-has next names)
  where
    either : (b : Bool) → has seen name ≡ b → has (if b then seen else seen ++ name ∷ []) name ≡ true
    either true is = is
    either false is = list_any-append (bytes_eq name) seen (name ∷ []) ∙ or_right _ _ (or_left _ _ (bytes_eq-self name))

-- ---- numbers of names

module _ (names : List (List ℕ)) where
  -- the number of a name is its place
  number_is : (name : List ℕ) → has names name ≡ true → number_in names name ≡ position_or_len (bytes_eq name) names
  number_is name here =
      let place = position_or_len (bytes_eq name) names in
      ap (λ (b : Bool). unwrap_or (cond b (Some place) None) 0) (lt-ltb place (length names) (position_or_len-within (bytes_eq name) names here))

  -- the number of one of the names is below their count
  pub number_below : (name : List ℕ) → has names name ≡ true → number_in names name < length names
  number_below name here = rw (number_is name here) (position_or_len-within (bytes_eq name) names here)

  -- there stands the name
  pub name_at : (name : List ℕ) → has names name ≡ true → name ≡ get_or names (number_in names name) []
  name_at name here =
      let place = position_or_len (bytes_eq name) names in
      (bytes_eq-Decides name (get_or names place [])).0 (passes_at_first (bytes_eq name) names [] (position_or_len-within (bytes_eq name) names here))
      ∙ ap (λ (n : ℕ). get_or names n []) (sym (number_is name here))

  -- two names have two numbers
  pub numbers_apart : (a b : List ℕ) → has names a ≡ true → has names b ≡ true → bytes_eq a b ≡ false → nat_eq (number_in names a) (number_in names b) ≡ false
  numbers_apart a b has_a has_b apart =
      false_from_ne_true _ (λ same.
      let one : a ≡ b = name_at a has_a ∙ ap (λ (n : ℕ). get_or names n []) (eqb-true _ _ same) ∙ sym (name_at b has_b) in
      false≢true (sym apart ∙ (bytes_eq-Decides a b).1 one))

  -- the numbers of sinks are nodes, and none is the source
  pub sinks_among : (source : List ℕ) (sinks : List (List ℕ)) → has names source ≡ true → list_all (has names) sinks ≡ true → has sinks source ≡ false
      → list_all (is_sink_among (length names) (number_in names source)) (map (number_in names) sinks) ≡ true
  sinks_among source [] has_source all apart = refl
  sinks_among source (sink ∷ sinks) has_source all apart =
      let parts = and_parts _ _ all in
      let others = or_parts (bytes_eq source sink) (has sinks source) apart in
      and_from _ _
      (and_from _ _ (lt-ltb _ _ (number_below sink parts.0)) (not_from_false _ (numbers_apart sink source parts.0 has_source (nat_list_eq_equiv.symm sink source ∙ others.0))))
      (sinks_among source sinks has_source parts.1 others.1)

  -- a number is none of those of other names
  number_new : (name : List ℕ) (others : List (List ℕ)) → has names name ≡ true → list_all (has names) others ≡ true → has others name ≡ false → list_any (nat_eq (number_in names name)) (map (number_in names) others) ≡ false
  number_new name [] here all is_new = refl
  number_new name (other ∷ others) here all is_new =
      let parts = and_parts _ _ all in
      let apart = or_parts (bytes_eq name other) (has others name) is_new in
      or_from _ _ (numbers_apart name other here parts.0 apart.0) (number_new name others here parts.1 apart.1)

  -- distinct names have distinct numbers
  pub distinct_numbers : (among : List (List ℕ)) → list_all (has names) among ≡ true → are_distinct bytes_eq among ≡ true → are_distinct nat_eq (map (number_in names) among) ≡ true
  distinct_numbers [] all distinct = refl
  distinct_numbers (name ∷ among) all distinct =
      let parts = and_parts _ _ all in
      let apart = and_parts _ _ distinct in
      and_from _ _ (not_from_false _ (number_new name among parts.0 parts.1 (not-true _ apart.0))) (distinct_numbers among parts.1 apart.1)

-- the first place at which an item passes is the same with more items
first-more : {X : Type 0} (test : X → Bool) (xs more : List X) → list_any test xs ≡ true → position_or_len test (xs ++ more) ≡ position_or_len test xs
first-more test [] more some = absurd (false≢true some)
first-more test (x ∷ xs) more some = either (test x) some (first-more test xs more)
  where
    either : (b : Bool) → (b || list_any test xs) ≡ true → (list_any test xs ≡ true → position_or_len test (xs ++ more) ≡ position_or_len test xs)
        → cond (not b) (1 + position_or_len test (xs ++ more)) 0 ≡ cond (not b) (1 + position_or_len test xs) 0
    either true some rest = refl
    either false some rest = ap (λ (n : ℕ). 1 + n) (rest some)

-- the number of a name is the same with more names
pub number_in-more : (names more : List (List ℕ)) (name : List ℕ) → has names name ≡ true → number_in (names ++ more) name ≡ number_in names name
number_in-more names more name here =
    number_is (names ++ more) name (has-more names more name here) ∙ first-more (bytes_eq name) names more here ∙ sym (number_is names name here)
