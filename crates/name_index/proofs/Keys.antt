-- What is asked of keys, asked of the names that they are.
use Rattle.std.proofs.Common.{◌≡◌, ℕ, Bool, true, false, not, List, [], ◌∷◌, ◌++◌, map, cond, ◌+◌, if◌then◌else◌, refl, ap, sym, ◌∙◌}
use Rattle.std.specs.List.{list_any, prefix_len, position, IsDistinct, AllByRecursion}
use Rattle.std.specs.Str.{bytes_eq}
use Rattle.std.proofs.lemmas.List.{map_push, length-map}
use Rattle.item_list.proofs.Tests.{list_any-map}
use Rattle.name_index.specs.Seen.{distinct_from}

module _ {X : Type 0} (f : X → List ℕ) (keys : List X) (x : X) where
  added_by : (b : Bool) → map f (if b then keys else keys ++ x ∷ []) ≡ if b then map f keys else map f keys ++ f x ∷ []
  added_by true = refl
  added_by false = map_push f keys x

  -- a key more, by what it names
  pub added_to : map f (if list_any (λ key. bytes_eq (f x) (f key)) keys then keys else keys ++ x ∷ []) ≡ distinct_from (map f keys) (f x ∷ [])
  added_to = added_by (list_any (λ key. bytes_eq (f x) (f key)) keys) ∙ ap (λ b. if b then map f keys else map f keys ++ f x ∷ []) (sym (list_any-map f (bytes_eq (f x)) keys))

prefix_len_map : {X Y : Type 0} (p : Y → Bool) (f : X → Y) (xs : List X) → prefix_len (λ x. p (f x)) xs ≡ prefix_len p (map f xs)
prefix_len_map p f [] = refl
prefix_len_map p f (x ∷ xs) = ap (λ n. cond (p (f x)) (1 + n) 0) (prefix_len_map p f xs)

-- the first that passes
pub position_map : {X Y : Type 0} (p : Y → Bool) (f : X → Y) (xs : List X) → position (λ x. p (f x)) xs ≡ position p (map f xs)
position_map p f xs = rw (prefix_len_map (λ y. not (p y)) f xs, length-map xs f) refl

all_map : {X : Type 0} (f : X → List ℕ) (x : X) (keys : List X) → AllByRecursion (λ y. bytes_eq (f x) (f y) ≡ false) keys → AllByRecursion (λ y. bytes_eq (f x) y ≡ false) (map f keys)
all_map f x [] all = all
all_map f x (y ∷ keys) all = (all.0, all_map f x keys all.1)

-- no key stands twice
pub distinct_map : {X : Type 0} (f : X → List ℕ) (keys : List X) → IsDistinct (λ x y. bytes_eq (f x) (f y)) keys → IsDistinct bytes_eq (map f keys)
unfolding IsDistinct
distinct_map f [] all = all
distinct_map f (x ∷ keys) all = (all_map f x keys all.0, distinct_map f keys all.1)
