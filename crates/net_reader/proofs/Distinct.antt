-- Names that are new to others, and distinct.
use Rattle.std.proofs.Common.{◌≡◌, ℕ, Bool, true, false, not, ◌||◌, ◌&&◌, List, [], ◌∷◌, ◌++◌, refl, ap, sym, ◌∙◌}
use Rattle.std.specs.List.{list_all, list_any}
use Rattle.std.specs.Str.{bytes_eq}
use Rattle.std.proofs.lemmas.Bool.{and_parts, not-true}
use Rattle.std.proofs.lemmas.List.{append-nil, append_assoc}
use Rattle.std.proofs.lemmas.List.Folds.{list_any-append}
use Rattle.net_model.specs.Lists.{are_distinct}
use Rattle.net_model.specs.Name.{is_name}
use Rattle.net_model.specs.Network.{are_names}
use Rattle.std.proofs.lemmas.Cmp.{nat_list_eq_equiv}
use Rattle.name_index.specs.Seen.{has}
use Rattle.net_reader.specs.Fresh.{are_new, are_fresh}
use Rattle.net_reader.proofs.NameLaws.{are_names-more}

four : (h q a n : Bool) → (not (h || (q || false)) && (a && not n)) ≡ ((not h && a) && not (q || n))
four true q a n = refl
four false true true n = refl
four false true false n = refl
four false false a n = refl

-- names are new to others and one more, where they are new to those and the one is none of them
new_more : (seen : List (List ℕ)) (x : List ℕ) (rest : List (List ℕ)) → are_new (seen ++ x ∷ []) rest ≡ (are_new seen rest && not (list_any (bytes_eq x) rest))
new_more seen x [] = refl
new_more seen x (y ∷ rest) =
    (λ i. not (list_any-append (bytes_eq y) seen (x ∷ []) i) && new_more seen x rest i)
    ∙ (λ i. not (has seen y || (nat_list_eq_equiv.symm y x i || false)) && (are_new seen rest && not (list_any (bytes_eq x) rest)))
    ∙ four (has seen y) (bytes_eq x y) (are_new seen rest) (list_any (bytes_eq x) rest)

three : (a n d : Bool) → (a && (n && d)) ≡ ((a && n) && d)
three true n d = refl
three false n d = refl

-- after a name that is new, the rest is new and distinct to the names with it
pub left_more : (seen : List (List ℕ)) (x : List ℕ) (rest : List (List ℕ)) → has seen x ≡ false → are_fresh seen (x ∷ rest) ≡ are_fresh (seen ++ x ∷ []) rest
left_more seen x rest fresh =
    (λ i. (not (fresh i) && are_new seen rest) && (not (list_any (bytes_eq x) rest) && are_distinct bytes_eq rest))
    ∙ three (are_new seen rest) (not (list_any (bytes_eq x) rest)) (are_distinct bytes_eq rest)
    ∙ ap (λ b. b && are_distinct bytes_eq rest) (sym (new_more seen x rest))

-- names, and others that are new, are names
pub names_added : (names more : List (List ℕ)) → are_names names ≡ true → list_all is_name more ≡ true → are_fresh names more ≡ true → are_names (names ++ more) ≡ true
names_added names [] are all fresh = rw (append-nil names) are
names_added names (name ∷ more) are all fresh =
    let parts = and_parts (is_name name) (list_all is_name more) all in
    let first : has names name ≡ false = not-true _ (and_parts _ _ (and_parts _ _ fresh).0).0 in
    ap are_names (sym (append_assoc names (name ∷ []) more))
    ∙ names_added (names ++ name ∷ []) more (are_names-more names name are parts.0 first) parts.1 (sym (left_more names name more first) ∙ fresh)
