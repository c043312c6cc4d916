-- Laws of groups of sums: how they are made, and the group of a sum.
use Rattle.std.specs.Prelude.{◌≡◌, ◌≢◌, ◌<◌, ◌≤◌, ◌+◌, ◌-◌, ◌*◌, ℕ, zero, suc, All, IsTrue, List, [], ◌∷◌, ◌++◌, length, slice_index, slice_index_or}
use Rattle.std.proofs.Common.{refl, sym, ap, ◌∙◌, arith, inl, inr, subst}
use Rattle.std.proofs.lemmas.Bool.{cases_eq, cases_lt}
use Rattle.std.proofs.lemmas.List.{get_or_append_left, get_or_past, get_or_push, length_push}
use Rattle.std.proofs.lemmas.List.Elements.{All-from_get_or}
use Rattle.net_model.specs.Limits.{most_links}
use Rattle.generation_frame.specs.Blocks.{most_blocks, pieces}
use Rattle.least_set.specs.Members.{Members, bound}
use Rattle.net_model.specs.Lists.{is_rising}
use Rattle.due_sums.specs.Groups.{AreFirstGroups, AreGroups, HasSums}
use Rattle.due_sums.specs.Waiting.{AreSums}

-- the group of a sum
pub record HasGroup (starts : List ℕ) (count sum : ℕ) : Type 0 where
  pub group : ℕ
  pub inside : group < count
  pub from : slice_index starts group ≤ sum
  pub to : sum < slice_index starts (group + 1)

group_below : (starts : List ℕ) (count sum : ℕ) → slice_index starts 0 ≤ sum → sum < slice_index starts count → HasGroup starts count sum
group_below starts zero sum from to = absurd (omega (arith, from, to))
group_below starts (suc count) sum from to = elim (cases_lt sum (slice_index starts count)) [
  | inl below ↦
      let has = group_below starts count sum from below in
      record { group = has.group; inside = omega (arith, has.inside); from = has.from; to = has.to }
  | inr above ↦
      let next : suc count ≡ count + 1 = omega arith in
      record { group = count; inside = omega arith; from = above; to = subst (λ n. sum < slice_index starts n) next to }
]

module _ (sums groups : List (List ℕ)) (starts : List ℕ) (are : AreGroups sums groups starts) where
  pub group_of : (sum : ℕ) → sum < length sums → HasGroup starts (length groups) sum
  group_of sum within = group_below starts (length groups) sum (omega (arith, are.from)) (omega (arith, are.to, within))

  -- a group that reaches over a sum is there, and has the sum's inputs
  pub group_over : (group sum : ℕ) → slice_index starts group ≤ sum → sum < slice_index starts (group + 1)
      → (group < length groups) × (sum < length sums) × (slice_index_or sums sum [] ≡ slice_index_or groups group [])
  group_over group sum from to =
      let inside = inside_by group sum to in
      (inside, omega (arith, to, are.within (group + 1)), are.same group sum inside from to)
    where
      inside_by : (group sum : ℕ) → sum < slice_index starts (group + 1) → group < length groups
      inside_by group sum to = elim (cases_lt (group + 1) (length starts)) [
        | inl below ↦ omega (arith, below, are.count)
        | inr past ↦ absurd (omega (arith, to, get_or_past starts (group + 1) 0 past))
      ]

  -- the inputs of a group are those of its first sum
  first_inputs : (group : ℕ) → group < length groups → (slice_index starts group < length sums) × (slice_index_or sums (slice_index starts group) [] ≡ slice_index_or groups group [])
  first_inputs group inside =
      let rising = are.rising group inside in
      (omega (arith, rising, are.within (group + 1)), are.same group (slice_index starts group) inside (omega arith) rising)

  -- what is so of all sums is so of all groups
  all_groups : (P : List ℕ → Type 0) → All P sums → All P groups
  all_groups P all = All-from_get_or P groups [] (λ group inside.
      let first = first_inputs group inside in
      subst P first.1 (all (slice_index starts group) [] first.0))

  pub groups_sum : (inputs : ℕ) → AreSums inputs sums → AreSums inputs groups
  groups_sum inputs work = record {
    few_sums = omega (arith, are.few_groups, work.few_sums);
    some_inputs = all_groups (λ sum. 0 < length sum) work.some_inputs;
    rising = all_groups (λ sum. IsTrue (is_rising sum)) work.rising;
    below = all_groups (All (λ input. input < inputs)) work.below;
  }

  -- there is room for the numbers of a group's sums
  pub groups_fit : (counts : List ℕ) (base : ℕ) (due : Members) (piece : ℕ) → length counts ≡ length groups * pieces
      → base + length sums ≤ most_blocks * most_links → (base + length sums) * pieces ≤ bound due
      → (group : ℕ) → group * pieces + piece < length counts → HasSums base starts group due
  groups_fit counts base due piece whole few room group inside =
      let below : group < length groups = omega (arith, inside, whole) in
      record {
        stands = omega (arith, are.count, below);
        some_sums = are.rising group below;
        few_places = omega (arith, few, are.within (group + 1));
        room = omega (arith, room, are.within (group + 1));
      }

-- another sum begins a group
module _ (first : ℕ) (sums groups : List (List ℕ)) (starts : List ℕ) (are : AreFirstGroups first sums groups starts) where
  abbrev more : List ℕ
  more = starts ++ (first + 1) ∷ []

  kept : (group : ℕ) → group < length starts → slice_index more group ≡ slice_index starts group
  kept group inside = get_or_append_left starts ((first + 1) ∷ []) 0 group inside

  last : slice_index more (length starts) ≡ first + 1
  last = get_or_push starts (first + 1) 0 (length starts) refl

  pub groups-begun : AreFirstGroups (first + 1) sums (groups ++ slice_index_or sums first [] ∷ []) (starts ++ (first + 1) ∷ [])
  groups-begun = record {
    count = length_push starts (first + 1) ∙ ap (λ n. n + 1) (are.count ∙ sym long);
    few_groups = omega (arith, long, are.few_groups);
    from = kept 0 (omega (arith, are.count)) ∙ are.from;
    to = ap (slice_index more) (long ∙ sym are.count) ∙ last;
    within = λ group. elim (cases_lt group (length starts)) [
      | inl inside ↦ omega (arith, kept group inside, are.within group)
      | inr past ↦ elim (cases_eq group (length starts)) [
        | inl same ↦ omega (arith, ap (slice_index more) same, last)
        | inr apart ↦ omega (arith, get_or_past more group 0 (omega (arith, past, apart, length_push starts (first + 1))))
      ]
    ];
    rising = λ group inside. elim (cases_lt group (length groups)) [
      | inl before ↦ omega (arith, kept group (omega (arith, before, are.count)), kept (group + 1) (omega (arith, before, are.count)), are.rising group before)
      | inr behind ↦
          let here : group ≡ length groups = omega (arith, inside, behind, long) in
          omega (arith, kept group (omega (arith, here, are.count)), ap (slice_index starts) here, are.to, ap (slice_index more) (next group here), last)
    ];
    same = λ group sum inside from to. elim (cases_lt group (length groups)) [
      | inl before ↦
          are.same group sum before (omega (arith, from, kept group (omega (arith, before, are.count)))) (omega (arith, to, kept (group + 1) (omega (arith, before, are.count))))
          ∙ sym (get_or_append_left groups (slice_index_or sums first [] ∷ []) [] group before)
      | inr behind ↦
          let here : group ≡ length groups = omega (arith, inside, behind, long) in
          let is : sum ≡ first = omega (arith, from, to, kept group (omega (arith, here, are.count)), ap (slice_index starts) here, are.to, ap (slice_index more) (next group here), last) in
          ap (λ s. slice_index_or sums s []) is ∙ sym (get_or_push groups (slice_index_or sums first []) [] group (sym here))
    ];
  }
    where
      long : length (groups ++ slice_index_or sums first [] ∷ []) ≡ length groups + 1
      long = length_push groups (slice_index_or sums first [])

      next : (group : ℕ) → group ≡ length groups → group + 1 ≡ length starts
      next group here = omega (arith, here, are.count)

-- another sum has the inputs of the one before it
module _ (first : ℕ) (sums groups : List (List ℕ)) (starts : List ℕ) (are : AreFirstGroups first sums groups (starts ++ first ∷ [])) (some : first ≢ 0)
    (alike : slice_index_or sums first [] ≡ slice_index_or sums (first - 1) []) where
  abbrev old : List ℕ
  old = starts ++ first ∷ []

  abbrev new : List ℕ
  new = starts ++ (first + 1) ∷ []

  whole : length starts ≡ length groups
  whole = omega (arith, are.count, length_push starts first)

  stays : (group : ℕ) → group < length starts → slice_index new group ≡ slice_index old group
  stays group inside = get_or_append_left starts ((first + 1) ∷ []) 0 group inside ∙ sym (get_or_append_left starts (first ∷ []) 0 group inside)

  old_last : slice_index old (length starts) ≡ first
  old_last = get_or_push starts first 0 (length starts) refl

  new_last : slice_index new (length starts) ≡ first + 1
  new_last = get_or_push starts (first + 1) 0 (length starts) refl

  any_group : 0 < length starts
  any_group = elim (cases_lt 0 (length starts)) [
    | inl is ↦ is
    | inr none ↦ let empty : 0 ≡ length starts = omega (arith, none) in absurd (some (sym old_last ∙ ap (slice_index old) (sym empty) ∙ are.from))
  ]

  pub groups-grown : AreFirstGroups (first + 1) sums groups (starts ++ (first + 1) ∷ [])
  groups-grown = record {
    count = length_push starts (first + 1) ∙ ap (λ n. n + 1) whole;
    few_groups = omega (arith, are.few_groups);
    from = stays 0 any_group ∙ are.from;
    to = ap (slice_index new) (sym whole) ∙ new_last;
    within = λ group. elim (cases_lt group (length starts)) [
      | inl inside ↦ omega (arith, stays group inside, are.within group)
      | inr past ↦ elim (cases_eq group (length starts)) [
        | inl same ↦ omega (arith, ap (slice_index new) same, new_last)
        | inr apart ↦ omega (arith, get_or_past new group 0 (omega (arith, past, apart, length_push starts (first + 1))))
      ]
    ];
    rising = λ group inside. elim (cases_lt (group + 1) (length starts)) [
      | inl before ↦ omega (arith, stays group (omega (arith, before)), stays (group + 1) before, are.rising group inside)
      | inr behind ↦ omega (arith, stays group (omega (arith, inside, whole)), are.rising group inside, last_of group inside behind)
    ];
    same = λ group sum inside from to. elim (cases_lt sum first) [
      | inl earlier ↦ are.same group sum inside (from_old group sum inside from) (to_old group sum inside earlier to)
      | inr later ↦ elim (cases_lt (group + 1) (length starts)) [
        | inl before ↦ absurd (omega (arith, later, to, stays (group + 1) before, are.within (group + 1)))
        | inr behind ↦
            let ends = last_of group inside behind in
            let is : sum ≡ first = omega (arith, later, to, ends) in
            ap (λ s. slice_index_or sums s []) is ∙ alike
            ∙ are.same group (first - 1) inside (omega (arith, are.rising group inside, ends, some)) (omega (arith, ends, some))
      ]
    ];
  }
    where
      -- the last group
      last_of : (group : ℕ) → group < length groups → length starts ≤ group + 1 → (slice_index new (group + 1) ≡ first + 1) × (slice_index old (group + 1) ≡ first)
      last_of group inside behind =
          let is : group + 1 ≡ length starts = omega (arith, inside, behind, whole) in
          (ap (slice_index new) is ∙ new_last, ap (slice_index old) is ∙ old_last)

      from_old : (group sum : ℕ) → group < length groups → slice_index new group ≤ sum → slice_index old group ≤ sum
      from_old group sum inside from = omega (arith, from, stays group (omega (arith, inside, whole)))

      to_old : (group sum : ℕ) → group < length groups → sum < first → sum < slice_index new (group + 1) → sum < slice_index old (group + 1)
      to_old group sum inside earlier to = elim (cases_lt (group + 1) (length starts)) [
        | inl before ↦ omega (arith, to, stays (group + 1) before)
        | inr behind ↦ omega (arith, earlier, last_of group inside behind)
      ]
