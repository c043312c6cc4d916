-- Laws of new numbers of links: they lead back, and flows and cuts keep to them.
use Rattle.std.specs.Prelude.{◌≡◌, ◌<◌, ◌≤◌, ◌-◌, ℕ, Bool, true, false, ◌&&◌, nat_eq, nat_lt, List, [], ◌∷◌, ◌++◌, length, map, slice_get, slice_index, All, Option, Some, unwrap_or}
use Rattle.std.specs.List.{list_any, range_with_len, concat, IsDistinct}
use Rattle.std.specs.Option.{option_map, option_map_or}
use Rattle.std.proofs.Common.{refl, sym, ◌∙◌, ap, get_or, arith, inl, inr}
use Rattle.std.proofs.lemmas.Bool.{cases_eq, both_ways, eqb-true, eq-eqb, ne_eqb, ltb-true, or_cases, or_left, or_right, true_from_ne_false}
use Rattle.std.proofs.Math.Bool.{and-true}
use Rattle.std.proofs.Math.Nat.{zero-add}
use Rattle.std.proofs.lemmas.List.{length-map, map-append, get_or-map}
use Rattle.std.proofs.lemmas.List.Elements.{All-nil, All-head, All-tail, All-append, All-map, All-weaker}
use Rattle.std.proofs.lemmas.List.Folds.{list_any_at}
use Rattle.std.proofs.lemmas.List.FromFn.{length-range_with_len, get_or-range_with_len}
use Rattle.std.proofs.lemmas.List.Sums.{AllPass-from_list_all, passes_at_first, position_or_len_is}
use Rattle.std.proofs.lemmas.Map.Keys.{IsDistinct-cons, apart_from_distinct}
use Rattle.std.proofs.lemmas.Map.Steps.{length-le_from_distinct_below}
use Rattle.std.proofs.lemmas.Map.Views.{any-filter_same}
use Rattle.std.proofs.lemmas.Option.{slice_get-map, slice_get-get_or}
use Rattle.item_list.proofs.Tests.{below_bound, none_passes, position_or_len-within}
use Rattle.net_model.specs.Failed.{failed_links}
use Rattle.net_model.specs.Flows.{FlowNetwork, IsCut, IsFlow, IsPath, flow_network}
use Rattle.net_model.proofs.ListLaws.{IsDistinct-from_are_distinct}
use Rattle.net_model.specs.Lists.{are_distinct, is_among}
use Rattle.net_model.specs.Renumbering.{HasEachOnce, new_number, old_number, renumbered_links, renumbered_network, renumbered_pattern, renumbered_set}
use Rattle.net_model.proofs.WalkLaws.{IsWalk-below}
use Rattle.net_model.specs.Walks.{IsWalk, head_of, tail_of}
use Rattle.net_model.specs.declared.Demand.{Demand}
use Rattle.net_model.specs.declared.Link.{Link}
use Rattle.net_model.specs.declared.Pattern.{Pattern}
use Rattle.net_model.specs.declared.net.Net.{Net}

-- the old number of a new link is one
pub old_number-below : {bound : ℕ} {order : List ℕ} → HasEachOnce bound order → (new : ℕ) → new < length order → old_number order new < bound
old_number-below {bound} {order} once new within =
    ltb-true _ _ (AllPass-from_list_all (λ number. nat_lt number bound) order once.below new 0 within)

-- each number below the bound stands in the order
stands : {bound : ℕ} {order : List ℕ} → HasEachOnce bound order → (link : ℕ) → link < bound → list_any (nat_eq link) order ≡ true
stands {bound} {order} once link within =
    true_from_ne_false _ (λ absent.
    let more : IsDistinct nat_eq (link ∷ order) = IsDistinct-cons nat_eq link order (none_passes (nat_eq link) order absent) (IsDistinct-from_are_distinct nat_eq order once.distinct) in
    let few : length (link ∷ order) ≤ bound = length-le_from_distinct_below (link ∷ order) bound more (λ number found. elim (or_cases _ _ found) [
      | inl here ↦ let same : number ≡ link = eqb-true _ _ here in omega arith
      | inr later ↦ below_bound order bound number once.below later
    ]) in
    absurd (omega (arith, few, once.whole)))

-- the new number of a link is one
pub new_number-below : {bound : ℕ} {order : List ℕ} → HasEachOnce bound order → (link : ℕ) → link < bound → new_number order link < length order
new_number-below {bound} {order} once link within = position_or_len-within (nat_eq link) order (stands once link within)

-- the old number of a link's new number is the link
pub old-new : {bound : ℕ} {order : List ℕ} → HasEachOnce bound order → (link : ℕ) → link < bound → old_number order (new_number order link) ≡ link
old-new {bound} {order} once link within = sym (eqb-true _ _ (passes_at_first (nat_eq link) order 0 (new_number-below once link within)))

-- the new number of a new link's old number is the new link
pub new-old : {bound : ℕ} {order : List ℕ} → HasEachOnce bound order → (new : ℕ) → new < length order → new_number order (old_number order new) ≡ new
new-old {bound} {order} once new within =
    position_or_len_is (nat_eq (old_number order new)) order new 0 (omega arith)
    (λ k before. ne_eqb _ _ (λ same.
    both_ways _ (apart_from_distinct nat_eq order k new 0 (IsDistinct-from_are_distinct nat_eq order once.distinct) before within) (eq-eqb _ _ (sym same))))
    (λ inside. eq-eqb (old_number order new) (old_number order new) refl)

-- there are as many new links as old ones
pub length-renumbered_links : (links : List Link) {order : List ℕ} → HasEachOnce (length links) order → length (renumbered_links links order) ≡ length links
length-renumbered_links links {order} once = length-map order _ ∙ once.whole

-- so the numbers of the new links are the places in the order, and they lead back
place_of : (links : List Link) {order : List ℕ} → HasEachOnce (length links) order → (new : ℕ) → new < length (renumbered_links links order) → new < length order
place_of links once new within = omega (arith, length-renumbered_links links once, once.whole)

new-old_link : (links : List Link) {order : List ℕ} → HasEachOnce (length links) order → (new : ℕ) → new < length (renumbered_links links order) → new_number order (old_number order new) ≡ new
new-old_link links once new within = new-old once new (place_of links once new within)

-- the new link at a place is the old one of its old number
slice_get-renumbered_links : (links : List Link) {order : List ℕ} → HasEachOnce (length links) order → (new : ℕ) → new < length order
    → slice_get (renumbered_links links order) new ≡ slice_get links (old_number order new)
slice_get-renumbered_links links {order} once new within =
    let none : Link = record { name = []; tail = 0; head = 0 } in
    let link : ℕ → Link = λ old. unwrap_or (slice_get links old) none in
    let old = old_number order new in
    let there : slice_get links old ≡ Some (get_or links old none) = slice_get-get_or links old none (old_number-below once new within) in
    slice_get-map link order new ∙ ap (option_map link) (slice_get-get_or order new 0 within)
    ∙ ap (λ found. Some (unwrap_or found none)) there ∙ sym there

-- a new link leaves the node that the old one leaves
pub tail_of-renumbered : (links : List Link) {order : List ℕ} → HasEachOnce (length links) order → (new : ℕ) → new < length order → tail_of (renumbered_links links order) new ≡ tail_of links (old_number order new)
tail_of-renumbered links once new within = ap (λ found. option_map_or (λ l. l.tail) found 0) (slice_get-renumbered_links links once new within)

-- and leads into the node that the old one leads into
pub head_of-renumbered : (links : List Link) {order : List ℕ} → HasEachOnce (length links) order → (new : ℕ) → new < length order → head_of (renumbered_links links order) new ≡ head_of links (old_number order new)
head_of-renumbered links once new within = ap (λ found. option_map_or (λ l. l.head) found 0) (slice_get-renumbered_links links once new within)

-- a new link is in the new set exactly where its old number is in the old one
pub is_among-renumbered_set : (order links : List ℕ) (new : ℕ) → new < length order → is_among (renumbered_set order links) new ≡ is_among links (old_number order new)
is_among-renumbered_set order links new within =
    let numbers = range_with_len 0 (length order) in
    let test : ℕ → Bool = λ one. nat_eq one new in
    let kept : ℕ → Bool = λ one. is_among links (old_number order one) in
    let inside : new < length numbers = rw length-range_with_len within in
    let here : test (get_or numbers new 0) ≡ true = eq-eqb (get_or numbers new 0) new (get_or-range_with_len 0 (length order) new 0 within ∙ zero-add new) in
    any-filter_same test kept (kept new) (λ one same. ap kept (eqb-true one new same)) numbers
    ∙ ap (λ found. kept new && found) (list_any_at test numbers new 0 inside here) ∙ and-true (kept new)

-- the links that fail in a pattern with new numbers are the new set of those that fail in the pattern
pub failed_links-renumbered : (order : List ℕ) (patterns : List Pattern) (pattern : ℕ) → pattern < length patterns
    → failed_links (map (renumbered_pattern order) patterns) pattern ≡ renumbered_set order (failed_links patterns pattern)
failed_links-renumbered order patterns pattern within =
    let none : Pattern = record { name = []; links = [] } in
    let here : slice_get patterns pattern ≡ Some (get_or patterns pattern none) = slice_get-get_or patterns pattern none within in
    let links : Option Pattern → List ℕ = λ found. option_map_or (λ p. p.links) found [] in
    ap links (slice_get-map (renumbered_pattern order) patterns pattern ∙ ap (option_map (renumbered_pattern order)) here)
    ∙ ap (renumbered_set order) (sym (ap links here))

-- a demand of a network with new numbers has the flow network of the demand, with new numbers
pub flow_network-renumbered : (net new : Net) (order : List ℕ) (demand : Demand) → new.nodes ≡ net.nodes → new.links ≡ renumbered_links net.links order → new.source ≡ net.source → new.sinks ≡ net.sinks
    → new.patterns ≡ map (renumbered_pattern order) net.patterns → demand.pattern < length net.patterns → flow_network new demand ≡ renumbered_network (flow_network net demand) order
flow_network-renumbered net new order demand nodes links source sinks patterns within =
    let failed = ap (λ all. failed_links all demand.pattern) patterns ∙ failed_links-renumbered order net.patterns demand.pattern within in
    cc

-- a function that leads each link to one with the same ends
record AreCarried (from to : List Link) (there : ℕ → ℕ) : Type 0 where
  within : (link : ℕ) → link < length from → there link < length to
  tail : (link : ℕ) → link < length from → tail_of to (there link) ≡ tail_of from link
  head : (link : ℕ) → link < length from → head_of to (there link) ≡ head_of from link

-- and to one that fails alike, in a network with the same source and sink
record IsCarried (from to : FlowNetwork) (there : ℕ → ℕ) : Type 0 where
  links : AreCarried from.links to.links there
  failed : (link : ℕ) → link < length from.links → is_among to.failed (there link) ≡ is_among from.failed link
  source : to.source ≡ from.source
  sink : to.sink ≡ from.sink

-- each new link has the ends of the old one
AreCarried-old : (links : List Link) {order : List ℕ} → HasEachOnce (length links) order → AreCarried (renumbered_links links order) links (old_number order)
AreCarried-old links once = record {
  within = λ new within. old_number-below once new (place_of links once new within);
  tail = λ new within. sym (tail_of-renumbered links once new (place_of links once new within));
  head = λ new within. sym (head_of-renumbered links once new (place_of links once new within));
}

-- and each old link those of the new one
AreCarried-new : (links : List Link) {order : List ℕ} → HasEachOnce (length links) order → AreCarried links (renumbered_links links order) (new_number order)
AreCarried-new links {order} once = record {
  within = λ link within. omega (arith, new_number-below once link within, length-renumbered_links links once, once.whole);
  tail = λ link within. tail_of-renumbered links once (new_number order link) (new_number-below once link within) ∙ ap (tail_of links) (old-new once link within);
  head = λ link within. head_of-renumbered links once (new_number order link) (new_number-below once link within) ∙ ap (head_of links) (old-new once link within);
}

-- each new link fails where the old one does
IsCarried-old : (network : FlowNetwork) {order : List ℕ} → HasEachOnce (length network.links) order → IsCarried (renumbered_network network order) network (old_number order)
IsCarried-old network {order} once = record {
  links = AreCarried-old network.links once;
  failed = λ new within. sym (is_among-renumbered_set order network.failed new (place_of network.links once new within));
  source = refl;
  sink = refl;
}

-- and each old link where the new one does
IsCarried-new : (network : FlowNetwork) {order : List ℕ} → HasEachOnce (length network.links) order → IsCarried network (renumbered_network network order) (new_number order)
IsCarried-new network {order} once = record {
  links = AreCarried-new network.links once;
  failed = λ link within. is_among-renumbered_set order network.failed (new_number order link) (new_number-below once link within) ∙ ap (is_among network.failed) (old-new once link within);
  source = refl;
  sink = refl;
}

-- a walk is led to a walk
IsWalk-carried : (from to : List Link) (there : ℕ → ℕ) → AreCarried from to there → (walk : List ℕ) → IsWalk from walk → IsWalk to (map there walk)
IsWalk-carried from to there carried [] is = tt
IsWalk-carried from to there carried (one ∷ []) is = carried.within one is
IsWalk-carried from to there carried (one ∷ next ∷ walk) is =
    let below : next < length from = IsWalk-below from (next ∷ walk) is.2 0 0 (omega arith) in
    (carried.within one is.0, carried.tail next below ∙ is.1 ∙ sym (carried.head one is.0), IsWalk-carried from to there carried (next ∷ walk) is.2)

-- and starts and ends where it did
module _ (from to : List Link) (there : ℕ → ℕ) (carried : AreCarried from to there) (walk : List ℕ) (is : IsWalk from walk) (some : 0 < length walk) where
  start-carried : tail_of to (slice_index (map there walk) 0) ≡ tail_of from (slice_index walk 0)
  start-carried = ap (tail_of to) (get_or-map there walk 0 0 0 some) ∙ carried.tail _ (IsWalk-below from walk is 0 0 some)

  end-carried : head_of to (slice_index (map there walk) (length (map there walk) - 1)) ≡ head_of from (slice_index walk (length walk - 1))
  end-carried =
      let last : length walk - 1 < length walk = omega arith in
      ap (λ count. head_of to (slice_index (map there walk) (count - 1))) (length-map walk there)
      ∙ ap (head_of to) (get_or-map there walk (length walk - 1) 0 0 last) ∙ carried.head _ (IsWalk-below from walk is (length walk - 1) 0 last)

-- a path is led to a path
IsPath-carried : (from to : FlowNetwork) (there : ℕ → ℕ) → IsCarried from to there → (path : List ℕ) → IsPath from path → IsPath to (map there path)
IsPath-carried from to there carried path is = record {
  some = omega (arith, length-map path there, is.some);
  walk = IsWalk-carried from.links to.links there carried.links path is.walk;
  start = start-carried from.links to.links there carried.links path is.walk is.some ∙ is.start ∙ sym carried.source;
  end = end-carried from.links to.links there carried.links path is.walk is.some ∙ is.end ∙ sym carried.sink;
  working = All-map (λ link. is_among to.failed link ≡ false) there path (λ k d inside. carried.failed _ (IsWalk-below from.links path is.walk k d inside) ∙ is.working k d inside);
}

-- numbers that are led back are equal, among others and distinct exactly where they were
module _ (there back : ℕ → ℕ) where
  same-carried : (a b : ℕ) → back (there a) ≡ a → back (there b) ≡ b → nat_eq (there a) (there b) ≡ nat_eq a b
  same-carried a b first second = elim (cases_eq a b) [
    | inl same ↦ eq-eqb _ _ (ap there same) ∙ sym (eq-eqb a b same)
    | inr apart ↦ ne_eqb _ _ (λ same. apart (sym first ∙ ap back same ∙ second)) ∙ sym (ne_eqb a b apart)
  ]

  among-carried : (x : ℕ) (xs : List ℕ) → back (there x) ≡ x → All (λ y. back (there y) ≡ y) xs → list_any (nat_eq (there x)) (map there xs) ≡ list_any (nat_eq x) xs
  among-carried x [] first all = refl
  among-carried x (y ∷ xs) first all =
      let here = same-carried x y first (All-head (λ y. back (there y) ≡ y) y xs all) in
      let later = among-carried x xs first (All-tail (λ y. back (there y) ≡ y) y xs all) in
      cc

  are_distinct-carried : (xs : List ℕ) → All (λ y. back (there y) ≡ y) xs → are_distinct nat_eq (map there xs) ≡ are_distinct nat_eq xs
  are_distinct-carried [] all = refl
  are_distinct-carried (x ∷ xs) all =
      let rest = All-tail (λ y. back (there y) ≡ y) x xs all in
      let here = among-carried x xs (All-head (λ y. back (there y) ≡ y) x xs all) rest in
      let later = are_distinct-carried xs rest in
      cc

-- lists of which each item is changed, joined
concat-map-map : (f : ℕ → ℕ) (lists : List (List ℕ)) → concat (map (map f) lists) ≡ map f (concat lists)
concat-map-map f [] = refl
concat-map-map f (list ∷ lists) = ap (λ rest. map f list ++ rest) (concat-map-map f lists) ∙ sym (map-append f list (concat lists))

-- what holds of each item of some lists holds of each of them joined
All-concat : (P : ℕ → Type 0) (lists : List (List ℕ)) → All (All P) lists → All P (concat lists)
All-concat P [] all = All-nil P
All-concat P (list ∷ lists) all = All-append P list (concat lists) (All-head (All P) list lists all) (All-concat P lists (All-tail (All P) list lists all))

-- a flow of links that are led back is led to a flow
IsFlow-carried : (from to : FlowNetwork) (there back : ℕ → ℕ) → IsCarried from to there → ((link : ℕ) → link < length from.links → back (there link) ≡ link)
    → (paths : List (List ℕ)) → IsFlow from paths → IsFlow to (map (map there) paths)
IsFlow-carried from to there back carried leads paths is =
    let Below : ℕ → Type 0 = λ link. link < length from.links in
    let below : All (All Below) paths = All-weaker (IsPath from) (All Below) (λ path through. IsWalk-below from.links path through.walk) paths is.each in
    record {
      each = All-map (IsPath to) (map there) paths (λ k d inside. IsPath-carried from to there carried _ (is.each k d inside));
      disjoint =
          ap (are_distinct nat_eq) (concat-map-map there paths)
          ∙ are_distinct-carried there back (concat paths) (All-weaker Below (λ link. back (there link) ≡ link) leads (concat paths) (All-concat Below paths below))
          ∙ is.disjoint;
    }

-- the new numbers of a flow's links are a flow
pub IsFlow-new : (network : FlowNetwork) {order : List ℕ} → HasEachOnce (length network.links) order → (paths : List (List ℕ)) → IsFlow network paths → IsFlow (renumbered_network network order) (map (map (new_number order)) paths)
IsFlow-new network {order} once paths is =
    IsFlow-carried network (renumbered_network network order) (new_number order) (old_number order) (IsCarried-new network once) (old-new once) paths is

-- the new number of a number in a list is in the list of new numbers
pub is_among-map : (there : ℕ → ℕ) (xs : List ℕ) (x : ℕ) → is_among xs x ≡ true → is_among (map there xs) (there x) ≡ true
is_among-map there [] x found = cc
is_among-map there (one ∷ xs) x found = elim (or_cases _ _ found) [
  | inl here ↦ or_left _ _ (eq-eqb (there one) (there x) (ap there (eqb-true one x here)))
  | inr later ↦ or_right _ _ (is_among-map there xs x later)
]

-- where the links of a network are led into another and back, a cut of that other is led back to a cut
IsCut-carried : (from to : FlowNetwork) (there back : ℕ → ℕ) → IsCarried to from back → ((link : ℕ) → link < length to.links → there (back link) ≡ link)
    → (cut : List ℕ) → IsCut from cut → IsCut to (map there cut)
IsCut-carried from to there back carried leads cut is path through =
    met path (IsWalk-below to.links path through.walk) (is (map back path) (IsPath-carried to from back carried path through))
  where
    met : (path : List ℕ) → All (λ link. link < length to.links) path → list_any (is_among cut) (map back path) ≡ true → list_any (is_among (map there cut)) path ≡ true
    met [] below found = cc
    met (link ∷ path) below found = elim (or_cases _ _ found) [
      | inl here ↦ or_left _ _ (ap (is_among (map there cut)) (sym (leads link (below 0 0 (omega arith)))) ∙ is_among-map there cut (back link) here)
      | inr later ↦ or_right _ _ (met path (All-tail (λ link. link < length to.links) link path below) later)
    ]

-- the new numbers of a cut are a cut
pub IsCut-new : (network : FlowNetwork) {order : List ℕ} → HasEachOnce (length network.links) order → (cut : List ℕ) → IsCut network cut → IsCut (renumbered_network network order) (map (new_number order) cut)
IsCut-new network {order} once cut is =
    IsCut-carried network (renumbered_network network order) (new_number order) (old_number order) (IsCarried-old network once) (new-old_link network.links once) cut is
