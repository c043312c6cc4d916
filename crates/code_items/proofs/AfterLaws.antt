-- Lists whose items each fit in view of the earlier ones, in the words of networks and codes.
use Rattle.std.specs.Prelude.{◌≡◌, ℕ, ◌<◌, Bool, true, false, ◌||◌, ◌==◌, nat_lt, List, [], ◌∷◌, ◌++◌, map}
use Rattle.std.specs.List.{list_all, list_any, AllByRecursion}
use Rattle.std.specs.Str.{bytes_eq}
use Rattle.std.proofs.Common.{refl, sym, subst, ap, ◌∙◌, arith}
use Rattle.std.proofs.lemmas.Bool.{and_parts, and_from, or_parts, or_from, not-true, not_from_false, ltb-true, lt-ltb}
use Rattle.std.proofs.lemmas.List.{map-append}
use Rattle.std.proofs.lemmas.List.Folds.{list_any-append}
use Rattle.net_model.specs.Lists.{are_distinct, is_rising, is_among}
use Rattle.std.proofs.lemmas.Cmp.{nat_eq_equiv, nat_list_eq_equiv}
use Rattle.net_model.specs.Name.{is_name}
use Rattle.net_model.specs.Network.{are_names}
use Rattle.net_model.specs.declared.Link.{Link}
use Rattle.node_program.specs.Code.{are_in_order}
use Rattle.code_items.specs.Reading.{is_above_last}
use Rattle.code_items.proofs.Readers.{AllAfter}
use Rattle.code_items.proofs.FrontReaders.{NameAfter}

-- what follows from a fact in view of the earlier ones
pub AllAfter-weaker : {X : Type 0} (P Q : List X → X → Type 0) (earlier xs : List X) → ((before : List X) (x : X) → P before x → Q before x) → AllAfter P earlier xs → AllAfter Q earlier xs
AllAfter-weaker P Q earlier [] implies all = tt
AllAfter-weaker P Q earlier (x ∷ xs) implies all = (implies earlier x all.0, AllAfter-weaker P Q (earlier ++ x ∷ []) xs implies all.1)

-- two facts in view of the earlier ones
pub AllAfter-both : {X : Type 0} (P Q : List X → X → Type 0) (earlier xs : List X) → AllAfter P earlier xs → AllAfter Q earlier xs → AllAfter (λ before x. P before x × Q before x) earlier xs
AllAfter-both P Q earlier [] p q = tt
AllAfter-both P Q earlier (x ∷ xs) p q = ((p.0, q.0), AllAfter-both P Q (earlier ++ x ∷ []) xs p.1 q.1)

-- what is the same in view of any earlier items
pub list_all-from_AllAfter : {X : Type 0} (test : X → Bool) (earlier xs : List X) → AllAfter (λ before x. test x ≡ true) earlier xs → list_all test xs ≡ true
list_all-from_AllAfter test earlier [] all = refl
list_all-from_AllAfter test earlier (x ∷ xs) all = and_from _ _ all.0 (list_all-from_AllAfter test (earlier ++ x ∷ []) xs all.1)

-- and the other way round
pub AllAfter-from_list_all : {X : Type 0} (test : X → Bool) (earlier xs : List X) → list_all test xs ≡ true → AllAfter (λ before x. test x ≡ true) earlier xs
AllAfter-from_list_all test earlier [] all = tt
AllAfter-from_list_all test earlier (x ∷ xs) all =
    let parts = and_parts _ _ all in
    (parts.0, AllAfter-from_list_all test (earlier ++ x ∷ []) xs parts.1)

-- what is of a part of each item
module _ {X Y : Type 0} (part : X → Y) (P : List Y → Y → Type 0) where
  -- what is of a part of each item is of the parts
  pub AllAfter-map : (earlier xs : List X) → AllAfter (λ before x. P (map part before) (part x)) earlier xs → AllAfter P (map part earlier) (map part xs)
  AllAfter-map earlier [] all = tt
  AllAfter-map earlier (x ∷ xs) all =
      (all.0, subst (λ (before : List Y). AllAfter P before (map part xs)) (map-append part earlier (x ∷ [])) (AllAfter-map (earlier ++ x ∷ []) xs all.1))

  -- and the other way round
  pub AllAfter-from_map : (earlier xs : List X) → AllAfter P (map part earlier) (map part xs) → AllAfter (λ before x. P (map part before) (part x)) earlier xs
  AllAfter-from_map earlier [] all = tt
  AllAfter-from_map earlier (x ∷ xs) all =
      (all.0, AllAfter-from_map (earlier ++ x ∷ []) xs (subst (λ (before : List Y). AllAfter P before (map part xs)) (sym (map-append part earlier (x ∷ []))) all.1))

-- ---- distinct items

module _ {X : Type 0} (same : X → X → Bool) (swap : (a b : X) → same a b ≡ same b a) where
  -- no item is the same as an earlier one
  apart_more : (earlier xs : List X) (x : X) → AllByRecursion (λ y. list_any (same y) (earlier ++ x ∷ []) ≡ false) xs
      → AllByRecursion (λ y. list_any (same y) earlier ≡ false) xs × (list_any (same x) xs ≡ false)
  apart_more earlier [] x apart = (tt, refl)
  apart_more earlier (y ∷ ys) x apart =
      let split = or_parts (list_any (same y) earlier) (same y x || false) (sym (list_any-append (same y) earlier (x ∷ [])) ∙ apart.0) in
      let here = or_parts (same y x) false split.1 in
      let rest = apart_more earlier ys x apart.1 in
      ((split.0, rest.0), or_from _ _ (swap x y ∙ here.0) rest.1)

  -- and the other way round
  apart_from : (earlier xs : List X) (x : X) → AllByRecursion (λ y. list_any (same y) earlier ≡ false) xs → list_any (same x) xs ≡ false
      → AllByRecursion (λ y. list_any (same y) (earlier ++ x ∷ []) ≡ false) xs
  apart_from earlier [] x apart none = tt
  apart_from earlier (y ∷ ys) x apart none =
      let split = or_parts (same x y) (list_any (same x) ys) none in
      (list_any-append (same y) earlier (x ∷ []) ∙ or_from _ _ apart.0 (or_from _ _ (swap y x ∙ split.0) refl), apart_from earlier ys x apart.1 split.1)

  -- items none of which is the same as an earlier one are distinct
  distinct_and_apart : (earlier xs : List X) → AllAfter (λ before x. list_any (same x) before ≡ false) earlier xs
      → (are_distinct same xs ≡ true) × AllByRecursion (λ y. list_any (same y) earlier ≡ false) xs
  distinct_and_apart earlier [] all = (refl, tt)
  distinct_and_apart earlier (x ∷ xs) all =
      let rest = distinct_and_apart (earlier ++ x ∷ []) xs all.1 in
      let more = apart_more earlier xs x rest.1 in
      (and_from _ _ (not_from_false _ more.1) rest.0, (all.0, more.0))

  -- and the other way round
  all_apart : (earlier xs : List X) → are_distinct same xs ≡ true → AllByRecursion (λ y. list_any (same y) earlier ≡ false) xs
      → AllAfter (λ before x. list_any (same x) before ≡ false) earlier xs
  all_apart earlier [] distinct apart = tt
  all_apart earlier (x ∷ xs) distinct apart =
      let parts = and_parts _ _ distinct in
      (apart.0, all_apart (earlier ++ x ∷ []) xs parts.1 (apart_from earlier xs x apart.1 (not-true _ parts.0)))

  -- before the first there is none
  none_before : (xs : List X) → AllByRecursion (λ y. list_any (same y) [] ≡ false) xs
  none_before [] = tt
  none_before (x ∷ xs) = (refl, none_before xs)

  -- items are distinct where none is the same as an earlier one
  pub are_distinct-from_AllAfter : (xs : List X) → AllAfter (λ before x. list_any (same x) before ≡ false) [] xs → are_distinct same xs ≡ true
  are_distinct-from_AllAfter xs all = (distinct_and_apart [] xs all).0

  -- and the other way round
  pub AllAfter-from_are_distinct : (xs : List X) → are_distinct same xs ≡ true → AllAfter (λ before x. list_any (same x) before ≡ false) [] xs
  AllAfter-from_are_distinct xs distinct = all_apart [] xs distinct (none_before xs)

-- ---- names

-- names are those of a kind where none is an earlier one
pub are_names-from_AllAfter : (names : List (List ℕ)) → AllAfter NameAfter [] names → are_names names ≡ true
are_names-from_AllAfter names all =
    and_from _ _ (list_all-from_AllAfter is_name [] names (AllAfter-weaker NameAfter (λ before name. is_name name ≡ true) [] names (λ before name is. is.0) all))
    (are_distinct-from_AllAfter bytes_eq nat_list_eq_equiv.symm names (AllAfter-weaker NameAfter (λ before name. list_any (bytes_eq name) before ≡ false) [] names (λ before name is. is.1) all))

-- and the other way round
pub AllAfter-from_are_names : (names : List (List ℕ)) → are_names names ≡ true → AllAfter NameAfter [] names
AllAfter-from_are_names names are =
    let parts = and_parts _ _ are in
    AllAfter-both (λ before name. is_name name ≡ true) (λ before name. list_any (bytes_eq name) before ≡ false) [] names
    (AllAfter-from_list_all is_name [] names parts.0) (AllAfter-from_are_distinct bytes_eq nat_list_eq_equiv.symm names parts.1)

-- ---- rising numbers

-- the number is above the one before
abbrev pub Rises : List ℕ → ℕ → Type 0
Rises earlier number = is_above_last earlier number ≡ true

-- the last of a list with one more is that one
is_above_last-append : (earlier : List ℕ) (x y : ℕ) → is_above_last (earlier ++ x ∷ []) y ≡ nat_lt x y
is_above_last-append [] x y = refl
is_above_last-append (a ∷ []) x y = refl
is_above_last-append (a ∷ b ∷ earlier) x y = is_above_last-append (b ∷ earlier) x y

-- what is above a number is above a lower one
all_above : (x y : ℕ) (ys : List ℕ) → x < y → list_all (nat_lt y) ys ≡ true → list_all (nat_lt x) ys ≡ true
all_above x y [] below all = refl
all_above x y (z ∷ zs) below all =
    let parts = and_parts _ _ all in
    let above = ltb-true y z parts.0 in
    and_from _ _ (lt-ltb x z (omega arith)) (all_above x y zs below parts.1)

-- numbers behind one rise where each is above the one before
rising_behind : (earlier : List ℕ) (x : ℕ) (xs : List ℕ) → AllAfter Rises (earlier ++ x ∷ []) xs → is_rising (x ∷ xs) ≡ true
rising_behind earlier x [] all = refl
rising_behind earlier x (y ∷ ys) all =
    let above : nat_lt x y ≡ true = sym (is_above_last-append earlier x y) ∙ all.0 in
    let rest = rising_behind (earlier ++ x ∷ []) y ys all.1 in
    and_from _ _ (and_from _ _ above (all_above x y ys (ltb-true x y above) (and_parts _ _ rest).0)) rest

-- and the other way round
rises_behind : (earlier : List ℕ) (x : ℕ) (xs : List ℕ) → is_rising (x ∷ xs) ≡ true → AllAfter Rises (earlier ++ x ∷ []) xs
rises_behind earlier x [] rising = tt
rises_behind earlier x (y ∷ ys) rising =
    let parts = and_parts _ _ rising in
    (is_above_last-append earlier x y ∙ (and_parts _ _ parts.0).0, rises_behind (earlier ++ x ∷ []) y ys parts.1)

-- numbers rise where each is above the one before
pub is_rising-from_AllAfter : (xs : List ℕ) → AllAfter Rises [] xs → is_rising xs ≡ true
is_rising-from_AllAfter [] all = refl
is_rising-from_AllAfter (x ∷ xs) all = rising_behind [] x xs all.1

-- and the other way round
pub AllAfter-from_is_rising : (xs : List ℕ) → is_rising xs ≡ true → AllAfter Rises [] xs
AllAfter-from_is_rising [] rising = tt
AllAfter-from_is_rising (x ∷ xs) rising = (refl, rises_behind [] x xs rising)

-- ---- the order of links

-- the head of the link is neither its tail nor that of an earlier one
abbrev pub LeadsOn : List Link → Link → Type 0
LeadsOn earlier link = ((link.head == link.tail) || is_among (map (λ one. one.tail) earlier) link.head) ≡ false

-- one more tail, before or behind the others
more_tails : (earlier : List Link) (tails : List ℕ) (link : Link) → ((n : ℕ) → is_among tails n ≡ is_among (map (λ one. one.tail) earlier) n)
    → (n : ℕ) → is_among (link.tail ∷ tails) n ≡ is_among (map (λ one. one.tail) (earlier ++ link ∷ [])) n
more_tails earlier tails link same n =
    ap (λ (b : Bool). (link.tail == n) || b) (same n)
    ∙ or_last (link.tail == n) (is_among (map (λ one. one.tail) earlier) n)
    ∙ sym (list_any-append (λ one. one == n) (map (λ one. one.tail) earlier) (link.tail ∷ []))
    ∙ sym (ap (λ (tails : List ℕ). is_among tails n) (map-append (λ (one : Link). one.tail) earlier (link ∷ [])))
  where
    or_last : (a b : Bool) → (a || b) ≡ (b || (a || false))
    or_last true true = refl
    or_last true false = refl
    or_last false true = refl
    or_last false false = refl

-- links are in order where each leads on
order_behind : (earlier : List Link) (tails : List ℕ) (links : List Link) → ((n : ℕ) → is_among tails n ≡ is_among (map (λ one. one.tail) earlier) n)
    → AllAfter LeadsOn earlier links → are_in_order tails links ≡ true
order_behind earlier tails [] same all = refl
order_behind earlier tails (link ∷ links) same all =
    let parts = or_parts (link.head == link.tail) (is_among (map (λ one. one.tail) earlier) link.head) all.0 in
    and_from _ _ (not_from_false _ (or_from _ _ (nat_eq_equiv.symm link.tail link.head ∙ parts.0) (same link.head ∙ parts.1)))
    (order_behind (earlier ++ link ∷ []) (link.tail ∷ tails) links (more_tails earlier tails link same) all.1)

-- and the other way round
leads_on_behind : (earlier : List Link) (tails : List ℕ) (links : List Link) → ((n : ℕ) → is_among tails n ≡ is_among (map (λ one. one.tail) earlier) n)
    → are_in_order tails links ≡ true → AllAfter LeadsOn earlier links
leads_on_behind earlier tails [] same order = tt
leads_on_behind earlier tails (link ∷ links) same order =
    let parts = and_parts _ _ order in
    let apart = or_parts (link.tail == link.head) (is_among tails link.head) (not-true _ parts.0) in (
      or_from _ _ (nat_eq_equiv.symm link.head link.tail ∙ apart.0) (sym (same link.head) ∙ apart.1),
      leads_on_behind (earlier ++ link ∷ []) (link.tail ∷ tails) links (more_tails earlier tails link same) parts.1,
    )

-- links are in order where each leads on from those before
pub are_in_order-from_AllAfter : (links : List Link) → AllAfter LeadsOn [] links → are_in_order [] links ≡ true
are_in_order-from_AllAfter links all = order_behind [] [] links (λ n. refl) all

-- and the other way round
pub AllAfter-from_are_in_order : (links : List Link) → are_in_order [] links ≡ true → AllAfter LeadsOn [] links
AllAfter-from_are_in_order links order = leads_on_behind [] [] links (λ n. refl) order
