-- Where two sources are joined, no name was taken before, and there was room.
use Rattle.std.specs.Prelude.{◌≡◌, ◌+◌, ℕ, Bool, true, false, ◌||◌, nat_le, nat_lt, IsFalse, List, [], ◌∷◌, ◌++◌, length, map}
use Rattle.std.specs.List.{list_any}
use Rattle.std.specs.Str.{bytes_eq}
use Rattle.std.proofs.Common.{refl, sym, ap, subst, ◌∙◌, arith, length-append}
use Rattle.std.proofs.Math.Bool.{or-false}
use Rattle.std.proofs.lemmas.Bool.{and_parts, le-ltb, lt-leb, not-true, or_from, or_parts}
use Rattle.std.proofs.lemmas.Cmp.{nat_list_eq_equiv}
use Rattle.std.proofs.lemmas.List.Folds.{list_any-append}
use Rattle.item_list.proofs.Tests.{list_any-map}
use Rattle.net_model.specs.Limits.{most_links, most_nodes}
use Rattle.net_model.specs.Lists.{are_distinct}
use Rattle.net_model.specs.declared.Link.{Link}
use Rattle.net_model.specs.declared.net.Net.{Net}
use Rattle.two_sources.proofs.NetworkLaws.{length-joined_links, name-joined_links}
use Rattle.two_sources.specs.Joined.{IsJoined, is_taken, super_links, super_name}

-- what passes one of two tests passes the first or the second
list_any-or : {X : Type 0} (p q : X → Bool) (xs : List X) → list_any (λ x. p x || q x) xs ≡ (list_any p xs || list_any q xs)
list_any-or p q [] = refl
list_any-or p q (x ∷ xs) = ap (λ b. (p x || q x) || b) (list_any-or p q xs) ∙ four (p x) (q x) (list_any p xs) (list_any q xs)
  where
    four : (a b c d : Bool) → ((a || b) || (c || d)) ≡ ((a || c) || (b || d))
    four true b c d = refl
    four false true true d = refl
    four false true false d = refl
    four false false c d = refl

-- where none of the first passes with any of the second, none of the second does with any of the first
none_swapped : {X Y : Type 0} (test : X → Y → Bool) (xs : List X) (ys : List Y) → list_any (λ x. list_any (test x) ys) xs ≡ false
    → list_any (λ y. list_any (λ x. test x y) xs) ys ≡ false
none_swapped test xs [] none = refl
none_swapped test xs (y ∷ ys) none =
    let parts = or_parts _ _ (sym (list_any-or (λ x. test x y) (λ x. list_any (test x) ys) xs) ∙ none) in
    or_from _ _ parts.0 (none_swapped test xs ys parts.1)

-- where both together are distinct, none of the first stands in the second
none_in_second : {X : Type 0} (same : X → X → Bool) (xs ys : List X) → are_distinct same (xs ++ ys) ≡ true
    → list_any (λ x. list_any (same x) ys) xs ≡ false
none_in_second same [] ys distinct = refl
none_in_second same (x ∷ xs) ys distinct =
    let parts = and_parts _ _ distinct in
    let both = or_parts _ _ (sym (list_any-append (same x) xs ys) ∙ not-true _ parts.0) in
    or_from _ _ both.1 (none_in_second same xs ys parts.1)

module _ (second r1 r2 : ℕ) (net joined : Net) (is : IsJoined second r1 r2 net joined) where
  free_nodes : list_any (λ node. bytes_eq node super_name) net.nodes ≡ false
  free_nodes =
      let distinct : are_distinct bytes_eq (net.nodes ++ super_name ∷ []) ≡ true =
      subst (λ (nodes : List (List ℕ)). are_distinct bytes_eq nodes ≡ true) is.nodes (and_parts _ _ joined.network.node_names).1 in
      ap (λ (test : List ℕ → Bool). list_any test net.nodes) (λ i node. sym (or-false (bytes_eq node super_name)) i)
      ∙ none_in_second bytes_eq net.nodes (super_name ∷ []) distinct

  free_links : list_any (λ link. list_any (bytes_eq link.name) (super_links r1 r2)) net.links ≡ false
  free_links =
      let name = λ (link : Link). link.name in
      let names = map name net.links in
      let same : map name joined.links ≡ super_links r1 r2 ++ names = ap (map name) is.links ∙ name-joined_links net second r1 r2 in
      let distinct : are_distinct bytes_eq (super_links r1 r2 ++ names) ≡ true =
      subst (λ (all : List (List ℕ)). are_distinct bytes_eq all ≡ true) same (and_parts _ _ joined.network.link_names).1 in
      sym (list_any-map name (λ text. list_any (bytes_eq text) (super_links r1 r2)) net.links)
      ∙ (λ i. list_any (λ text. list_any (λ made. nat_list_eq_equiv.symm text made i) (super_links r1 r2)) names)
      ∙ none_swapped bytes_eq (super_links r1 r2) names (none_in_second bytes_eq (super_links r1 r2) names distinct)

  -- no name of the network is one of those that were made
  pub joined-untaken : IsFalse (is_taken net r1 r2)
  joined-untaken = or_from _ _ free_nodes free_links

  -- and there was room for the node and for the links
  pub joined-room : (nat_le most_nodes (length net.nodes) || nat_lt most_links (length net.links + (r1 + r2))) ≡ false
  joined-room =
      let nodes : length joined.nodes ≡ length net.nodes + 1 = ap length is.nodes ∙ length-append net.nodes (super_name ∷ []) in
      let links : length joined.links ≡ r1 + r2 + length net.links = ap length is.links ∙ length-joined_links net second r1 r2 in
      or_from _ _ (lt-leb most_nodes (length net.nodes) (omega (arith, joined.network.few_nodes, nodes)))
      (le-ltb most_links (length net.links + (r1 + r2)) (omega (arith, joined.network.few_links, links)))
