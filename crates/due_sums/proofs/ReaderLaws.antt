-- Laws of the groups that read each input.
use Rattle.std.specs.Prelude.{◌≡◌, ◌≢◌, ◌<◌, ◌≤◌, ◌+◌, ◌==◌, ℕ, Bool, cond, List, [], ◌∷◌, ◌++◌, Vec, length, take, slice_index_or, slice_set}
use Rattle.std.specs.Global.{Global}
use Rattle.std.proofs.Common.{add-zero, refl, sym, ap, ◌∙◌, arith, get_or, inl, inr, subst}
use Rattle.std.proofs.lemmas.Bool.{cases_eq, cases_lt, eq-eqb, ne_eqb}
use Rattle.std.proofs.lemmas.List.{get_or-map, get_or-set_other, get_or-set_same, get_or-take, get_or_past, length-map, length-set, length-take, map-set}
use Rattle.std.proofs.lemmas.List.Sums.{count_by_more_no, count_by_more_yes, sum_by_push}
use Rattle.due_sums.specs.Counts.{AreReaders, GainReader, count_of, lists_of}

-- one number more in a list
count_of-own : (number : ℕ) (numbers : List ℕ) → count_of number (numbers ++ number ∷ []) ≡ count_of number numbers + 1
count_of-own number numbers =
    sum_by_push (λ one. cond (one == number) 1 0) numbers number ∙ ap (λ b. count_of number numbers + cond b 1 0) (eq-eqb number number refl)

count_of-other : (number other : ℕ) (numbers : List ℕ) → number ≢ other → count_of other (numbers ++ number ∷ []) ≡ count_of other numbers
count_of-other number other numbers apart =
    sum_by_push (λ one. cond (one == other) 1 0) numbers number ∙ ap (λ (b : Bool). count_of other numbers + cond b 1 0) (ne_eqb number other apart)
    ∙ add-zero (count_of other numbers)

-- a group is added to the readers of one input more
module _ (group i : ℕ) (inputs : List ℕ) (old now : List (List ℕ)) (within : i < length inputs) (there : get_or inputs i 0 < length now)
    (so_far : GainReader group (take i inputs) old now) where
  abbrev input : ℕ
  input = get_or inputs i 0

  abbrev new : List (List ℕ)
  new = slice_set now input (slice_index_or now input [] ++ group ∷ [])

  at_input : slice_index_or new input [] ≡ slice_index_or now input [] ++ group ∷ []
  at_input = get_or-set_same now input (slice_index_or now input [] ++ group ∷ []) [] there

  elsewhere : (other : ℕ) → other ≢ input → slice_index_or new other [] ≡ slice_index_or now other []
  elsewhere other apart = get_or-set_other now input other (slice_index_or now input [] ++ group ∷ []) [] apart

  pub GainReader-more : GainReader group (take (i + 1) inputs) old (slice_set now (get_or inputs i 0) (slice_index_or now (get_or inputs i 0) [] ++ group ∷ []))
  GainReader-more = record {
    count = length-set now input (slice_index_or now input [] ++ group ∷ []) ∙ so_far.count;
    own = λ one inside. elim (cases_eq one input) [
      | inl same ↦
          let Own : ℕ → Type 0 = λ one. count_of group (slice_index_or new one []) ≡ count_of group (slice_index_or old one []) + count_of one (take (i + 1) inputs) in
          subst Own (sym same) (own_here (subst (λ one. one < length old) same inside))
      | inr apart ↦
          let same = ap (count_of group) (elsewhere one apart) in
          let counted = count_by_more_no (λ x. x == one) inputs i 0 within (ne_eqb input one (λ is. apart (sym is))) in
          omega (arith, same, counted, so_far.own one inside)
    ];
    others = λ one other inside differs. elim (cases_eq one input) [
      | inl same ↦
          let Other : ℕ → Type 0 = λ one. count_of other (slice_index_or new one []) ≡ count_of other (slice_index_or old one []) in
          subst Other (sym same)
          (ap (count_of other) at_input ∙ count_of-other group other (slice_index_or now input []) (λ is. differs (sym is))
          ∙ so_far.others input other (subst (λ one. one < length old) same inside) differs)
      | inr apart ↦ ap (count_of other) (elsewhere one apart) ∙ so_far.others one other inside differs
    ];
  }
    where
      own_here : input < length old → count_of group (slice_index_or new input []) ≡ count_of group (slice_index_or old input []) + count_of input (take (i + 1) inputs)
      own_here inside =
          let more = ap (count_of group) at_input ∙ count_of-own group (slice_index_or now input []) in
          let counted = count_by_more_yes (λ x. x == input) inputs i 0 within (eq-eqb input input refl) in
          omega (arith, more, counted, so_far.own input inside)

-- the same of a vector of vectors
pub GainReader-pushed : (group i : ℕ) (inputs : List ℕ) (old : List (List ℕ)) (now : List (Vec ℕ Global)) (none list : Vec ℕ Global) → i < length inputs
    → get_or inputs i 0 < length now → list.items ≡ (get_or now (get_or inputs i 0) none).items ++ group ∷ []
    → GainReader group (take i inputs) old (lists_of now) → GainReader group (take (i + 1) inputs) old (lists_of (slice_set now (get_or inputs i 0) list))
GainReader-pushed group i inputs old now none list within there pushed so_far =
    let input = get_or inputs i 0 in
    let items_of : Vec ℕ Global → List ℕ = λ list. list.items in
    let read : slice_index_or (lists_of now) input [] ≡ (get_or now input none).items = get_or-map items_of now input none [] there in
    let put : lists_of (slice_set now input list) ≡ slice_set (lists_of now) input (slice_index_or (lists_of now) input [] ++ group ∷ []) =
    map-set items_of now input list ∙ ap (slice_set (lists_of now) input) (pushed ∙ ap (λ numbers. numbers ++ group ∷ []) (sym read)) in
    subst (GainReader group (take (i + 1) inputs) old) (sym put)
    (GainReader-more group i inputs old (lists_of now) within (omega (arith, there, length-map now items_of)) so_far)

-- the first groups, and one more
take_past : (groups : List (List ℕ)) (k group : ℕ) → k ≤ group → slice_index_or (take k groups) group [] ≡ []
take_past groups k group past = get_or_past (take k groups) group [] (omega (arith, past, length-take k groups))

take_more_other : (groups : List (List ℕ)) (k group : ℕ) → group ≢ k → slice_index_or (take (k + 1) groups) group [] ≡ slice_index_or (take k groups) group []
take_more_other groups k group apart = elim (cases_lt group k) [
  | inl below ↦ get_or-take (k + 1) groups group [] (omega arith) ∙ sym (get_or-take k groups group [] below)
  | inr above ↦ take_past groups (k + 1) group (omega (arith, above, apart)) ∙ sym (take_past groups k group above)
]

-- the readers by the first groups, and by one more
pub AreReaders-more : (inputs k : ℕ) (groups now new : List (List ℕ)) → AreReaders inputs (take k groups) now → GainReader k (slice_index_or groups k []) now new
    → AreReaders inputs (take (k + 1) groups) new
AreReaders-more inputs k groups now new so_far gain = record {
  count = gain.count ∙ so_far.count;
  each = λ input group inside. elim (cases_eq group k) [
    | inl same ↦
        let Each : ℕ → Type 0 = λ group. count_of group (slice_index_or new input []) ≡ count_of input (slice_index_or (take (k + 1) groups) group []) in
        subst Each (sym same) (own input inside)
    | inr apart ↦
        gain.others input group (omega (arith, inside, so_far.count)) apart ∙ so_far.each input group inside
        ∙ ap (count_of input) (sym (take_more_other groups k group apart))
  ];
}
  where
    own : (input : ℕ) → input < inputs → count_of k (slice_index_or new input []) ≡ count_of input (slice_index_or (take (k + 1) groups) k [])
    own input inside =
        let none : count_of k (slice_index_or now input []) ≡ 0 = so_far.each input k inside ∙ ap (count_of input) (take_past groups k k (omega arith)) in
        let read = ap (count_of input) (get_or-take (k + 1) groups k [] (omega arith)) in
        omega (arith, none, read, gain.own input (omega (arith, inside, so_far.count)))
