-- What statements give with a statement more.
use Rattle.std.specs.Prelude.{◌≡◌, ℕ, ◌||◌, Bool, true, false, List, [], ◌∷◌, ◌++◌, map, if◌then◌else◌}
use Rattle.std.specs.List.{flat_map, list_all, list_any}
use Rattle.std.proofs.Common.{refl, ap, sym, ◌∙◌}
use Rattle.std.proofs.Math.Bool.{or-false}
use Rattle.std.proofs.lemmas.Bool.{and_parts}
use Rattle.std.proofs.lemmas.List.{append-nil, append_assoc}
use Rattle.std.proofs.lemmas.List.Folds.{list_all-append, list_any-append}
use Rattle.std.proofs.lemmas.Grind.{flat_map-append}
use Rattle.net_model.specs.declared.Link.{Link}
use Rattle.name_index.specs.Seen.{has, distinct_from}
use Rattle.net_reader.specs.Statements.{Statement, field_is, rate_is, source_is, sink_is, link_is, pattern_is, fail_each_is, each_after, nodes_in, nodes_of, links_named}
use Rattle.net_reader.specs.Text.{links_of, links_with}
use Rattle.net_reader.proofs.NameLaws.{distinct_from-has, number_in-more}

-- what each statement gives by itself
pub flat_map-push : {X A : Type 0} (gives : X → List A) (statements : List X) (more : X) → flat_map gives (statements ++ more ∷ []) ≡ flat_map gives statements ++ gives more
flat_map-push gives statements more = flat_map-append gives statements (more ∷ []) ∙ ap (λ l. flat_map gives statements ++ l) (append-nil (gives more))

-- what each gives in view of those before it
pub each_after-push : {X : Type 0} (gives : List Statement → Statement → List X) (earlier statements : List Statement) (more : Statement)
    → each_after gives earlier (statements ++ more ∷ []) ≡ each_after gives earlier statements ++ gives (earlier ++ statements) more
each_after-push gives earlier [] more =
    append-nil (gives earlier more) ∙ ap (λ (before : List Statement). gives before more) (sym (append-nil earlier))
each_after-push gives earlier (statement ∷ statements) more =
    let next = earlier ++ statement ∷ [] in
    ap (λ l. gives earlier statement ++ l) (each_after-push gives next statements more)
    ∙ ap (λ (before : List Statement). gives earlier statement ++ (each_after gives next statements ++ gives before more)) (append_assoc earlier (statement ∷ []) statements)
    ∙ sym (append_assoc (gives earlier statement) (each_after gives next statements) (gives (earlier ++ statement ∷ statements) more))

-- whether one passes a test
pub list_any-push : {X : Type 0} (test : X → Bool) (xs : List X) (more : X) → list_any test (xs ++ more ∷ []) ≡ (list_any test xs || test more)
list_any-push test xs more = list_any-append test xs (more ∷ []) ∙ ap (λ b. list_any test xs || b) (or-false (test more))

-- ---- nodes

distinct_from-append : (seen xs ys : List (List ℕ)) → distinct_from seen (xs ++ ys) ≡ distinct_from (distinct_from seen xs) ys
distinct_from-append seen [] ys = refl
distinct_from-append seen (x ∷ xs) ys = distinct_from-append (if has seen x then seen else seen ++ x ∷ []) xs ys

-- the nodes with those of a statement more
pub nodes_of-push : (statements : List Statement) (more : Statement) → nodes_of (statements ++ more ∷ []) ≡ distinct_from (nodes_of statements) (nodes_in more)
nodes_of-push statements more = ap (distinct_from []) (flat_map-push nodes_in statements more) ∙ distinct_from-append [] (flat_map nodes_in statements) (nodes_in more)

-- names that are seen stay, and others come after them
distinct_from-grows : (seen names : List (List ℕ)) → (others : List (List ℕ)) × (distinct_from seen names ≡ seen ++ others)
distinct_from-grows seen [] = ([], sym (append-nil seen))
distinct_from-grows seen (name ∷ names) = either (has seen name) (distinct_from-grows seen names) (distinct_from-grows (seen ++ name ∷ []) names)
  where
    Grows : List (List ℕ) → List (List ℕ) → Type 0
    Grows seen all = (others : List (List ℕ)) × (all ≡ seen ++ others)

    either : (b : Bool) → Grows seen (distinct_from seen names) → Grows (seen ++ name ∷ []) (distinct_from (seen ++ name ∷ []) names) → Grows seen (distinct_from (if b then seen else seen ++ name ∷ []) names)
    either true old new = old
    either false old new = (name ∷ new.0, new.1 ∙ append_assoc seen (name ∷ []) new.0)

-- ---- links

-- the links of a statement among whose nodes are all that it names are the same with more nodes
links_with-more : (nodes others : List (List ℕ)) (statement : Statement) → list_all (has nodes) (nodes_in statement) ≡ true → links_with (nodes ++ others) statement ≡ links_with nodes statement
links_with-more nodes others (link_is name tail head bundle) all =
    let tail_first = and_parts (has nodes tail) (list_all (has nodes) (head ∷ [])) all in
    let head_first = and_parts (has nodes head) true tail_first.1 in
    λ i. map (λ name. record { name = name; tail = number_in-more nodes others tail tail_first.0 i; head = number_in-more nodes others head head_first.0 i }) (links_named name bundle)
links_with-more nodes others (field_is bits) all = refl
links_with-more nodes others (rate_is rate) all = refl
links_with-more nodes others (source_is node) all = refl
links_with-more nodes others (sink_is node) all = refl
links_with-more nodes others (pattern_is name links) all = refl
links_with-more nodes others fail_each_is all = refl

-- so are those of statements
links_of-more : (nodes others : List (List ℕ)) (statements : List Statement) → list_all (has nodes) (flat_map nodes_in statements) ≡ true → links_of (nodes ++ others) statements ≡ links_of nodes statements
links_of-more nodes others [] all = refl
links_of-more nodes others (statement ∷ statements) all =
    let parts = and_parts _ _ (sym (list_all-append (has nodes) (nodes_in statement) (flat_map nodes_in statements)) ∙ all) in
    λ i. links_with-more nodes others statement parts.0 i ++ links_of-more nodes others statements parts.1 i

-- the links with those of a statement more
pub links_of-push : (statements : List Statement) (more : Statement)
    → links_of (nodes_of (statements ++ more ∷ [])) (statements ++ more ∷ []) ≡ links_of (nodes_of statements) statements ++ links_with (nodes_of (statements ++ more ∷ [])) more
links_of-push statements more =
    let nodes = nodes_of (statements ++ more ∷ []) in
    let grown = distinct_from-grows (nodes_of statements) (nodes_in more) in
    flat_map-push (links_with nodes) statements more
    ∙ ap (λ (links : List Link). links ++ links_with nodes more)
    (ap (λ (names : List (List ℕ)). links_of names statements) (nodes_of-push statements more ∙ grown.1)
    ∙ links_of-more (nodes_of statements) grown.0 statements (distinct_from-has [] (flat_map nodes_in statements)))
