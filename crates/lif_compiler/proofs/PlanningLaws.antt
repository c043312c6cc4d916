-- Laws of planning: what is added by and by, and that all of it, by link, are the hops over the links.
use Rattle.std.specs.Prelude.{◌≡◌, ◌<◌, ◌≤◌, ◌+◌, ◌-◌, ◌==◌, ◌&&◌, ℕ, zero, suc, Bool, true, false, nat_eq, nat_lt, ◌⊎◌, IsTrue, List, [], ◌∷◌, ◌++◌, Option, Vec, Some, None, All, cond, filter, if◌then◌else◌, length, map, slice_get, slice_index, slice_set, unwrap_or}
use Rattle.std.specs.Global.{Global}
use Rattle.std.specs.List.{concat, flat_map, list_all, list_any, range_with_len}
use Rattle.std.specs.Option.{option_map, option_map_or}
use Rattle.std.proofs.Common.{refl, sym, ◌∙◌, ap, add-one, add-zero, append_assoc, arith, get_or, inl, inr, subst, zero-add}
use Rattle.std.proofs.lemmas.Bool.{and_from, and_parts, cases_eq, cases_lt, cond_both, eq-eqb, eqb-true, lt-ltb, ne_eqb, not-true, or_cases, or_left, or_parts, or_right}
use Rattle.std.proofs.lemmas.Cmp.{nat_eq_equiv}
use Rattle.std.proofs.lemmas.List.{append-nil, get_or-set_other, get_or-set_same, get_or_default, length-map, length-set, map-append}
use Rattle.std.proofs.lemmas.List.Concat.{concat_is}
use Rattle.std.proofs.lemmas.List.Elements.{All-append, All-cons, All-filter, All-map, All-nil, filter-append, filter_passes}
use Rattle.std.proofs.lemmas.List.Folds.{Any-from_list_any, list_any-append}
use Rattle.std.proofs.lemmas.Option.{get_or_from_slice_get, same_Some, slice_get-get_or, slice_get-map, slice_get_past, slice_get_read, slice_get_within, unwrap_or-slice_get}
use Rattle.net_model.specs.Lists.{are_distinct, is_rising}
use Rattle.lif_compiler.specs.Hops.{AreHops, IsHop, Routes, before_place, route_of}
use Rattle.lif_compiler.specs.Planning.{Gains, hop_of_place, hops_of_demand, hops_of_demands, hops_of_path, hops_over, list_of}
use Rattle.lif_compiler.specs.declared.hops.Hop.{Hop}

-- a range and one number more
flat_map-range_more : {X : Type 0} (f : ℕ → List X) (start count : ℕ) → flat_map f (range_with_len start (suc count)) ≡ flat_map f (range_with_len start count) ++ f (start + count)
flat_map-range_more f start zero = append-nil (f start) ∙ ap f (sym (add-zero start))
flat_map-range_more f start (suc count) =
    let same : start + 1 + count ≡ start + suc count = omega arith in
    ap (λ rest. f start ++ rest) (flat_map-range_more f (start + 1) count) ∙ sym (append_assoc (f start) (flat_map f (range_with_len (start + 1) count)) (f (start + 1 + count)))
    ∙ ap (λ last. (f start ++ flat_map f (range_with_len (start + 1) count)) ++ f last) same

-- the same from 0
flat_map-range_next : {X : Type 0} (f : ℕ → List X) (count : ℕ) → flat_map f (range_with_len 0 (count + 1)) ≡ flat_map f (range_with_len 0 count) ++ f count
flat_map-range_next {X} f count =
    let all : ℕ → List X = λ count. flat_map f (range_with_len 0 count) in
    ap all (add-one count) ∙ flat_map-range_more f 0 count ∙ ap (λ last. all count ++ f last) (omega arith)

-- the hops over a link among some and others
hops_over-append : (link : ℕ) (xs ys : List (ℕ × Hop)) → hops_over link (xs ++ ys) ≡ hops_over link xs ++ hops_over link ys
hops_over-append link xs ys =
    let hop_of : ℕ × Hop → Hop = λ hop. hop.1 in
    let test : ℕ × Hop → Bool = λ hop. hop.0 == link in
    ap (map hop_of) (filter-append test xs ys) ∙ map-append hop_of (filter test xs) (filter test ys)

-- some hops are added, and then others
Gains_more : (xs ys : List (ℕ × Hop)) (old middle new : List (Vec Hop Global)) → Gains xs old middle → Gains ys middle new → Gains (xs ++ ys) old new
Gains_more xs ys old middle new first second = record {
  whole = omega (arith, first.whole, second.whole);
  each = λ link within.
      second.each link (omega (arith, first.whole)) ∙ ap (λ (list : List Hop). list ++ hops_over link ys) (first.each link within)
      ∙ append_assoc (list_of old link) (hops_over link xs) (hops_over link ys) ∙ ap (λ (list : List Hop). list_of old link ++ list) (sym (hops_over-append link xs ys));
}

-- the list of a link within the lists
list_of-within : (lists : List (Vec Hop Global)) (link : ℕ) (none : Vec Hop Global) → link < length lists → list_of lists link ≡ (get_or lists link none).items
list_of-within lists link none within = ap (λ (found : Option (Vec Hop Global)). option_map_or (λ list. list.items) found []) (slice_get-get_or lists link none within)

-- one hop is added
pub Gains_one : (lists : List (Vec Hop Global)) (link : ℕ) (hop : Hop) (none list : Vec Hop Global) → link < length lists → list.items ≡ (get_or lists link none).items ++ hop ∷ [] → Gains ((link, hop) ∷ []) lists (slice_set lists link list)
Gains_one lists link hop none list within more =
    let hop_of : ℕ × Hop → Hop = λ hop. hop.1 in
    let added : Bool → List Hop = λ is. map hop_of (cond is ((link, hop) ∷ []) []) in
    let items_of : Vec Hop Global → List Hop = λ list. list.items in
    let new = slice_set lists link list in
    let whole : length new ≡ length lists = length-set lists link list in
    let there : list_of new link ≡ list_of lists link ++ hops_over link ((link, hop) ∷ []) =
    list_of-within new link none (omega (arith, whole)) ∙ ap items_of (get_or-set_same lists link list none within) ∙ more
    ∙ ap (λ (list : List Hop). list ++ hop ∷ []) (sym (list_of-within lists link none within))
    ∙ ap (λ (list : List Hop). list_of lists link ++ list) (sym (ap added (eq-eqb link link refl))) in
    record {
      whole = whole;
      each = λ other inside. elim (cases_eq link other) [
        | inl same ↦ let At : ℕ → Type 0 = λ one. list_of new one ≡ list_of lists one ++ hops_over one ((link, hop) ∷ []) in subst At same there
        | inr apart ↦
            list_of-within new other none (omega (arith, whole)) ∙ ap items_of (get_or-set_other lists link other list none (λ same. apart (sym same)))
            ∙ sym (list_of-within lists other none inside) ∙ sym (append-nil (list_of lists other))
            ∙ ap (λ (list : List Hop). list_of lists other ++ list) (sym (ap added (ne_eqb link other apart)))
      ];
    }

-- the hops of one more number are added
pub Gains_next : (hops : ℕ → List (ℕ × Hop)) (count : ℕ) (old middle new : List (Vec Hop Global)) → Gains (flat_map hops (range_with_len 0 count)) old middle → Gains (hops count) middle new → Gains (flat_map hops (range_with_len 0 (count + 1))) old new
Gains_next hops count old middle new first second =
    subst (λ all. Gains all old new) (sym (flat_map-range_next hops count)) (Gains_more (flat_map hops (range_with_len 0 count)) (hops count) old middle new first second)

-- what comes before the place after another is the link there
pub before_place-next : (path : ℕ) (links : List ℕ) (place : ℕ) → before_place path links (place + 1) ≡ slice_index links place
before_place-next path links place =
    ap (λ first. if first then path else slice_index links (place + 1 - 1)) (ne_eqb (place + 1) 0 (λ same. absurd (omega arith))) ∙ ap (slice_index links) (omega arith)

-- an item that was read is changed to the one at its number among the changed items
pub mapped_read : {X Y : Type 0} (f : X → Y) (xs : List X) (number : ℕ) (none : Y) (x : X) → number < length xs → x ≡ get_or xs number x → f x ≡ unwrap_or (slice_get (map f xs) number) none
mapped_read {X} {Y} f xs number none x within here =
    let there : slice_get (map f xs) number ≡ Some (f x) = slice_get-map f xs number ∙ ap (option_map f) (slice_get_read xs (length xs) number x refl within here) in
    sym (ap (λ (found : Option Y). unwrap_or found none) there)

-- what holds of each hop that is listed at a number of a range
All-flat_map_range : {X : Type 0} (P : X → Type 0) (f : ℕ → List X) (start count : ℕ) → ((number : ℕ) → start ≤ number → number < start + count → All P (f number)) → All P (flat_map f (range_with_len start count))
All-flat_map_range P f start zero each = All-nil P
All-flat_map_range P f start (suc count) each =
    All-append P (f start) (flat_map f (range_with_len (start + 1) count)) (each start (omega arith) (omega arith))
    (All-flat_map_range P f (start + 1) count (λ number from below. each number (omega arith) (omega arith)))

-- a test that an item passes at a number of a range
list_any-flat_map_range : {X : Type 0} (test : X → Bool) (f : ℕ → List X) (start count number : ℕ) → start ≤ number → number < start + count → list_any test (f number) ≡ true → list_any test (flat_map f (range_with_len start count)) ≡ true
list_any-flat_map_range test f start zero number from below found = absurd (omega arith)
list_any-flat_map_range test f start (suc count) number from below found =
    list_any-append test (f start) (flat_map f (range_with_len (start + 1) count)) ∙ elim (cases_eq start number) [
      | inl same ↦ or_left _ _ (ap (λ number. list_any test (f number)) same ∙ found)
      | inr apart ↦ or_right _ _ (list_any-flat_map_range test f (start + 1) count number (omega arith) (omega arith) found)
    ]

-- what holds of each hop with its link
All-hops_over : (P : ℕ → Hop → Type 0) (link : ℕ) (hops : List (ℕ × Hop)) → All (λ hop. P hop.0 hop.1) hops → All (P link) (hops_over link hops)
All-hops_over P link hops all =
    let test : ℕ × Hop → Bool = λ hop. hop.0 == link in
    All-map (P link) (λ (hop : ℕ × Hop). hop.1) (filter test hops) (λ k none within.
    let hop = get_or (filter test hops) k none in
    subst (λ one. P one hop.1) (eqb-true hop.0 link (filter_passes test hops k none within)) (All-filter test (λ hop. P hop.0 hop.1) hops all k none within))

-- a test that a hop over a link passes
list_any-hops_over : (test : Hop → Bool) (link : ℕ) (hops : List (ℕ × Hop)) → list_any (λ hop. (hop.0 == link) && test hop.1) hops ≡ true → list_any test (hops_over link hops) ≡ true
list_any-hops_over test link [] found = cc
list_any-hops_over test link (hop ∷ hops) found =
    let hop_of : ℕ × Hop → Hop = λ hop. hop.1 in
    let kept : List (ℕ × Hop) = filter (λ hop. hop.0 == link) hops in
    let Found : List (ℕ × Hop) → Type 0 = λ kept. list_any test (map hop_of kept) ≡ true in
    elim (or_cases _ _ found) [
      | inl here ↦ let parts = and_parts (hop.0 == link) (test hop.1) here in ap (λ passes. list_any test (map hop_of (cond passes (hop ∷ kept) kept))) parts.0 ∙ or_left _ _ parts.1
      | inr later ↦ cond_both (hop.0 == link) (hop ∷ kept) kept Found (λ _. or_right _ _ (list_any-hops_over test link hops later)) (λ _. list_any-hops_over test link hops later)
    ]

-- there is such a demand, and it has such a path
record IsRoute (routes : Routes) (demand path : ℕ) : Type 0 where
  demand_within : demand < length routes
  path_within : path < length (unwrap_or (slice_get routes demand) [])

-- where a route has a place, there is such a demand with such a path
IsRoute-from_place : (routes : Routes) (demand path place : ℕ) → place < length (route_of routes demand path) → IsRoute routes demand path
IsRoute-from_place routes demand path place within = elim (cases_lt demand (length routes)) [
  | inl among ↦ elim (cases_lt path (length (unwrap_or (slice_get routes demand) []))) [
    | inl inside ↦ record { demand_within = among; path_within = inside }
    | inr past ↦ absurd (let none : route_of routes demand path ≡ [] = ap (λ (found : Option (List ℕ)). unwrap_or found []) (slice_get_past (unwrap_or (slice_get routes demand) []) path past) in omega (arith, ap length none))
  ]
  | inr past ↦ absurd (let none : route_of routes demand path ≡ [] =
      ap (λ (found : Option (List (List ℕ))). unwrap_or (slice_get (unwrap_or found []) path) []) (slice_get_past routes demand past) in omega (arith, ap length none))
]

-- each hop that is listed at a link is one over it
each_hop : (routes : Routes) → All (λ hop. IsHop routes hop.0 hop.1) (hops_of_demands routes (length routes))
each_hop routes =
    All-flat_map_range (λ hop. IsHop routes hop.0 hop.1) (λ demand. hops_of_demand demand (unwrap_or (slice_get routes demand) [])) 0 (length routes) (λ demand _ _.
    let paths = unwrap_or (slice_get routes demand) [] in
    All-flat_map_range (λ hop. IsHop routes hop.0 hop.1) (λ path. hops_of_path demand path (unwrap_or (slice_get paths path) [])) 0 (length paths) (λ path _ _.
    let links = route_of routes demand path in
    All-flat_map_range (λ hop. IsHop routes hop.0 hop.1) (λ place. (slice_index links place, hop_of_place demand path links place) ∷ []) 0 (length links) (λ place from below.
    All-cons (λ (hop : ℕ × Hop). IsHop routes hop.0 hop.1) (slice_index links place, hop_of_place demand path links place) [] (record { place = place; within = omega arith; here = refl; before = refl })
    (All-nil (λ (hop : ℕ × Hop). IsHop routes hop.0 hop.1)))))

-- a link on a route is listed
listed_hop : (routes : Routes) (link demand path place : ℕ) → place < length (route_of routes demand path) → slice_index (route_of routes demand path) place ≡ link
    → list_any (λ hop. (hop.0 == link) && ((hop.1.demand == demand) && (hop.1.path == path))) (hops_of_demands routes (length routes)) ≡ true
listed_hop routes link demand path place within here =
    let test : ℕ × Hop → Bool = λ hop. (hop.0 == link) && ((hop.1.demand == demand) && (hop.1.path == path)) in
    let route = IsRoute-from_place routes demand path place within in
    let paths = unwrap_or (slice_get routes demand) [] in
    let links = route_of routes demand path in
    list_any-flat_map_range test (λ demand. hops_of_demand demand (unwrap_or (slice_get routes demand) [])) 0 (length routes) demand (omega arith) (omega (arith, route.demand_within))
    (list_any-flat_map_range test (λ path. hops_of_path demand path (unwrap_or (slice_get paths path) [])) 0 (length paths) path (omega arith) (omega (arith, route.path_within))
    (list_any-flat_map_range test (λ place. (slice_index links place, hop_of_place demand path links place) ∷ []) 0 (length links) place (omega arith) (omega arith)
    (or_left _ _ (and_from _ _ (eq-eqb _ _ here) (and_from _ _ (eq-eqb demand demand refl) (eq-eqb path path refl))))))

-- the demands of hops over a link among some and others
demands_over : ℕ → List (ℕ × Hop) → List ℕ
demands_over link hops = map (λ hop. hop.demand) (hops_over link hops)

-- those of the hops of each number of a range
demands_over-flat_map : (link : ℕ) (hops : ℕ → List (ℕ × Hop)) (start count : ℕ) → demands_over link (flat_map hops (range_with_len start count)) ≡ flat_map (λ number. demands_over link (hops number)) (range_with_len start count)
unfolding demands_over
demands_over-flat_map link hops start zero = refl
demands_over-flat_map link hops start (suc count) =
    let demand_of : Hop → ℕ = λ hop. hop.demand in
    let rest = flat_map hops (range_with_len (start + 1) count) in
    ap (map demand_of) (hops_over-append link (hops start) rest) ∙ map-append demand_of (hops_over link (hops start)) (hops_over link rest)
    ∙ ap (λ (demands : List ℕ). demands_over link (hops start) ++ demands) (demands_over-flat_map link hops (start + 1) count)

-- numbers, of which each is listed at itself alone and once, rise
is_rising-flat_map_range : (numbers : ℕ → List ℕ) (start count : ℕ) → ((number : ℕ) → start ≤ number → number < start + count → (numbers number ≡ []) ⊎ (numbers number ≡ number ∷ [])) → is_rising (flat_map numbers (range_with_len start count)) ≡ true
is_rising-flat_map_range numbers start count each = (rises start count each).1
  where
    rises : (start count : ℕ) → ((number : ℕ) → start ≤ number → number < start + count → (numbers number ≡ []) ⊎ (numbers number ≡ number ∷ []))
        → ((below : ℕ) → below < start → list_all (nat_lt below) (flat_map numbers (range_with_len start count)) ≡ true) × (is_rising (flat_map numbers (range_with_len start count)) ≡ true)
    rises start zero each = ((λ below under. refl), refl)
    rises start (suc count) each =
        let rest = flat_map numbers (range_with_len (start + 1) count) in
        let later = rises (start + 1) count (λ number from below. each number (omega arith) (omega arith)) in
        let Rises : List ℕ → Type 0 = λ first. ((below : ℕ) → below < start → list_all (nat_lt below) (first ++ rest) ≡ true) × (is_rising (first ++ rest) ≡ true) in
        elim (each start (omega arith) (omega arith)) [
          | inl none ↦ subst Rises (sym none) ((λ below under. later.0 below (omega arith)), later.1)
          | inr one ↦ subst Rises (sym one) ((λ below under. and_from _ _ (lt-ltb below start under) (later.0 below (omega arith))), and_from _ _ (later.0 start (omega arith)) later.1)
        ]

-- lists by the places of a list are those of its items
flat_map-places : {X Y : Type 0} (none : X) (by_place : ℕ → List Y) (of : X → List Y) (xs : List X) (start : ℕ) → ((place : ℕ) → place < length xs → by_place (start + place) ≡ of (get_or xs place none))
    → flat_map by_place (range_with_len start (length xs)) ≡ flat_map of xs
flat_map-places none by_place of [] start each = refl
flat_map-places none by_place of (x ∷ xs) start each =
    let first : by_place start ≡ of x = ap by_place (sym (add-zero start)) ∙ each 0 (omega arith) in
    let rest = flat_map-places none by_place of xs (start + 1) (λ place within. ap by_place (omega arith) ∙ each (suc place) (omega arith)) in
    cc

-- lists of which each item is changed
map-flat_map : {X Y Z : Type 0} (f : Y → Z) (lists : X → List Y) (xs : List X) → map f (flat_map lists xs) ≡ flat_map (λ x. map f (lists x)) xs
map-flat_map f lists [] = refl
map-flat_map f lists (x ∷ xs) = map-append f (lists x) (flat_map lists xs) ∙ ap (λ rest. map f (lists x) ++ rest) (map-flat_map f lists xs)

-- each item as a list of its own
flat_map-single : (xs : List ℕ) → flat_map (λ x. x ∷ []) xs ≡ xs
flat_map-single [] = refl
flat_map-single (x ∷ xs) = ap (λ rest. x ∷ rest) (flat_map-single xs)

-- the links of the hops of a path are those of the path
links_of_path : (demand path : ℕ) (links : List ℕ) → map (λ hop. hop.0) (hops_of_path demand path links) ≡ links
links_of_path demand path links =
    map-flat_map (λ (hop : ℕ × Hop). hop.0) (λ place. (slice_index links place, hop_of_place demand path links place) ∷ []) (range_with_len 0 (length links))
    ∙ flat_map-places 0 (λ place. slice_index links place ∷ []) (λ link. link ∷ []) links 0 (λ place within. ap (λ place. slice_index links place ∷ []) (zero-add place)) ∙ flat_map-single links

-- the links of the hops of a demand are those of its paths
links_of_demand : (demand : ℕ) (paths : List (List ℕ)) → map (λ hop. hop.0) (hops_of_demand demand paths) ≡ concat paths
links_of_demand demand paths =
    map-flat_map (λ (hop : ℕ × Hop). hop.0) (λ path. hops_of_path demand path (unwrap_or (slice_get paths path) [])) (range_with_len 0 (length paths))
    ∙ flat_map-places [] (λ path. map (λ hop. hop.0) (hops_of_path demand path (unwrap_or (slice_get paths path) []))) (λ links. links) paths 0 (λ path within.
    links_of_path demand (0 + path) (unwrap_or (slice_get paths (0 + path)) []) ∙ unwrap_or-slice_get paths (0 + path) [] ∙ ap (λ path. get_or paths path []) (zero-add path))
    ∙ sym (concat_is paths)

-- no hop is over a link that is not among the links
hops_over-none : (link : ℕ) (hops : List (ℕ × Hop)) → list_any (nat_eq link) (map (λ hop. hop.0) hops) ≡ false → hops_over link hops ≡ []
hops_over-none link [] none = refl
hops_over-none link (hop ∷ hops) none =
    let hop_of : ℕ × Hop → Hop = λ hop. hop.1 in
    let kept : List (ℕ × Hop) = filter (λ hop. hop.0 == link) hops in
    let parts = or_parts _ _ none in
    let fails : (hop.0 == link) ≡ false = nat_eq_equiv.symm hop.0 link ∙ parts.0 in
    ap (λ passes. map hop_of (cond passes (hop ∷ kept) kept)) fails ∙ hops_over-none link hops parts.1

-- at most one hop is over each of distinct links
hops_over-few : (link : ℕ) (hops : List (ℕ × Hop)) → are_distinct nat_eq (map (λ hop. hop.0) hops) ≡ true → length (hops_over link hops) ≤ 1
hops_over-few link [] distinct = omega arith
hops_over-few link (hop ∷ hops) distinct =
    let hop_of : ℕ × Hop → Hop = λ hop. hop.1 in
    let kept : List (ℕ × Hop) = filter (λ hop. hop.0 == link) hops in
    let parts = and_parts _ _ distinct in
    cond_both (hop.0 == link) (hop ∷ kept) kept (λ kept. length (map hop_of kept) ≤ 1)
    (λ passes.
    let Others : ℕ → Type 0 = λ one. list_any (nat_eq one) (map (λ hop. hop.0) hops) ≡ false in
    let none = hops_over-none link hops (subst Others (eqb-true hop.0 link passes) (not-true _ parts.0)) in
    omega (arith, ap length none))
    (λ fails. hops_over-few link hops parts.1)

-- at most one item, and each is this one
one_or_none : (number : ℕ) (xs : List ℕ) → length xs ≤ 1 → All (λ x. x ≡ number) xs → (xs ≡ []) ⊎ (xs ≡ number ∷ [])
one_or_none number [] few all = inl refl
one_or_none number (x ∷ []) few all = inr (ap (λ x. x ∷ []) (all 0 number (omega arith)))
one_or_none number (x ∷ y ∷ xs) few all = absurd (omega arith)

-- a demand has a link once at most
demand_once : (link demand : ℕ) (paths : List (List ℕ)) → IsTrue (are_distinct nat_eq (concat paths)) → (demands_over link (hops_of_demand demand paths) ≡ []) ⊎ (demands_over link (hops_of_demand demand paths) ≡ demand ∷ [])
unfolding demands_over
demand_once link demand paths distinct =
    let hops = hops_of_demand demand paths in
    let few = hops_over-few link hops (ap (are_distinct nat_eq) (links_of_demand demand paths) ∙ distinct) in
    let same : All (λ hop. hop.1.demand ≡ demand) hops =
    All-flat_map_range (λ (hop : ℕ × Hop). hop.1.demand ≡ demand) (λ path. hops_of_path demand path (unwrap_or (slice_get paths path) [])) 0 (length paths) (λ path _ _.
    let links = unwrap_or (slice_get paths path) [] in
    All-flat_map_range (λ (hop : ℕ × Hop). hop.1.demand ≡ demand) (λ place. (slice_index links place, hop_of_place demand path links place) ∷ []) 0 (length links) (λ place _ _.
    All-cons (λ (hop : ℕ × Hop). hop.1.demand ≡ demand) (slice_index links place, hop_of_place demand path links place) [] refl (All-nil (λ (hop : ℕ × Hop). hop.1.demand ≡ demand)))) in
    one_or_none demand (map (λ hop. hop.demand) (hops_over link hops)) (omega (arith, few, length-map (hops_over link hops) (λ hop. hop.demand)))
    (All-map (λ one. one ≡ demand) (λ (hop : Hop). hop.demand) (hops_over link hops) (All-hops_over (λ _ hop. hop.demand ≡ demand) link hops same))

-- what is listed at a link, of all demands, are the hops over it
AreHops-hops_over : (routes : Routes) (link : ℕ) → All (λ paths. IsTrue (are_distinct nat_eq (concat paths))) routes → AreHops routes link (hops_over link (hops_of_demands routes (length routes)))
unfolding demands_over
AreHops-hops_over routes link distinct =
    let hops = hops_of_demands routes (length routes) in
    let over = hops_over link hops in
    let good : All (IsHop routes link) over = All-hops_over (IsHop routes) link hops (each_hop routes) in
    record {
      each = λ k hop there. subst (IsHop routes link) (get_or_from_slice_get over k hop hop there) (good k hop (slice_get_within over k hop there));
      all = λ demand path among.
          let links = route_of routes demand path in
          let at = Any-from_list_any (λ one. one == link) links among in
          let here : slice_index links at.0 ≡ link = get_or_default links at.0 0 at.1 at.2 ∙ at.3 ∙ eqb-true at.1 link at.4 in
          let test : Hop → Bool = λ hop. (hop.demand == demand) && (hop.path == path) in
          let found = Any-from_list_any test over (list_any-hops_over test link hops (listed_hop routes link demand path at.0 at.2 here)) in
          let same = and_parts _ _ found.4 in (
            found.0,
            found.1,
            slice_get-get_or over found.0 found.1 found.2 ∙ ap Some found.3,
            eqb-true found.1.demand demand same.0,
            eqb-true found.1.path path same.1,
          );
      rising =
          ap is_rising (demands_over-flat_map link (λ demand. hops_of_demand demand (unwrap_or (slice_get routes demand) [])) 0 (length routes))
          ∙ is_rising-flat_map_range (λ demand. demands_over link (hops_of_demand demand (unwrap_or (slice_get routes demand) []))) 0 (length routes) (λ demand from below.
          demand_once link demand (unwrap_or (slice_get routes demand) [])
          (subst (λ paths. IsTrue (are_distinct nat_eq (concat paths))) (sym (unwrap_or-slice_get routes demand [])) (distinct demand [] (omega arith))));
    }

-- a list among the lists of hops is that of its link
list_of-listed : (lists : List (Vec Hop Global)) (link : ℕ) (at : List Hop) → slice_get (map (λ list. list.items) lists) link ≡ Some at → list_of lists link ≡ at
list_of-listed lists link at there = of_option (slice_get lists link) (sym (slice_get-map (λ (list : Vec Hop Global). list.items) lists link) ∙ there)
  where
    of_option : (list : Option (Vec Hop Global)) → option_map (λ list. list.items) list ≡ Some at → option_map_or (λ list. list.items) list [] ≡ at
    of_option None same = cc
    of_option (Some list) same = same_Some list.items at same

-- where the hops of all demands were added to empty lists, each list is that of the hops over its link
pub AreHops-added : (routes : Routes) (old new : List (Vec Hop Global)) → All (λ paths. IsTrue (are_distinct nat_eq (concat paths))) routes → ((link : ℕ) → list_of old link ≡ []) → Gains (hops_of_demands routes (length routes)) old new
    → (link : ℕ) (at : List Hop) → slice_get (map (λ list. list.items) new) link ≡ Some at → AreHops routes link at
AreHops-added routes old new distinct empty added link at there =
    let all = hops_of_demands routes (length routes) in
    let within : link < length old = omega (arith, slice_get_within (map (λ list. list.items) new) link at there, length-map new (λ list. list.items), added.whole) in
    let same : hops_over link all ≡ at =
    sym (added.each link within ∙ ap (λ (list : List Hop). list ++ hops_over link all) (empty link)) ∙ list_of-listed new link at there in
    subst (AreHops routes link) same (AreHops-hops_over routes link distinct)
