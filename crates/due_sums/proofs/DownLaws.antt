-- Laws of counting down.
use Rattle.std.specs.Prelude.{◌≡◌, ◌≢◌, ◌<◌, ◌≤◌, ◌⊎◌, ◌+◌, ◌-◌, ◌/◌, ◌%◌, ◌==◌, ℕ, cond, ◌*◌, List, length, take, slice_index, slice_set}
use Rattle.std.proofs.Common.{refl, sym, ap, ◌∙◌, arith, get_or, inl, inr, subst}
use Rattle.std.proofs.lemmas.Bool.{cases_eq, cases_lt, eq-eqb, ne_eqb}
use Rattle.std.proofs.lemmas.List.{get_or-set_other, get_or-set_same, get_or_past}
use Rattle.std.proofs.lemmas.List.Sums.{count_by_more_no, count_by_more_yes, sum_by_more_le}
use Rattle.generation_frame.specs.Blocks.{pieces}
use Rattle.least_set.specs.Members.{GainsEighths, IsEighth, Members, bit_of, bound}
use Rattle.least_set.proofs.MaskLaws.{eighths-stay}
use Rattle.due_sums.specs.Counts.{CountsDown, IsDone, reads_of}
use Rattle.due_sums.specs.Groups.{HasSums}
use Rattle.due_sums.specs.Waiting.{due_number}

-- how often the groups up to a place name a number
pub reads_of-here : (readers : List ℕ) (piece i : ℕ) → i < length readers
    → reads_of (take (i + 1) readers) piece (due_number (get_or readers i 0) piece) ≡ reads_of (take i readers) piece (due_number (get_or readers i 0) piece) + 1
reads_of-here readers piece i within =
    count_by_more_yes (λ group. due_number group piece == due_number (get_or readers i 0) piece) readers i 0 within (eq-eqb _ _ refl)

pub reads_of-elsewhere : (readers : List ℕ) (piece i number : ℕ) → i < length readers → number ≢ due_number (get_or readers i 0) piece
    → reads_of (take (i + 1) readers) piece number ≡ reads_of (take i readers) piece number
reads_of-elsewhere readers piece i number within apart =
    count_by_more_no (λ group. due_number group piece == number) readers i 0 within (ne_eqb _ _ (λ is. apart (sym is)))

-- an input of the group at a place is missing, as long as all of them are enough
pub some_missing : (base : ℕ) (readers starts : List ℕ) (piece i : ℕ) (old now : List ℕ) (old_due now_due : Members) → i < length readers
    → ((number : ℕ) → reads_of readers piece number ≤ slice_index old number)
    → CountsDown base (reads_of (take i readers) piece) starts piece old now old_due now_due
    → 0 < slice_index now (due_number (get_or readers i 0) piece)
some_missing base readers starts piece i old now old_due now_due within enough so_far =
    let number = due_number (get_or readers i 0) piece in
    let test : ℕ → ℕ = λ group. cond (due_number group piece == number) 1 0 in
    let most = sum_by_more_le test readers i 0 within in
    let here : test (get_or readers i 0) ≡ 1 = ap (λ b. cond b 1 0) (eq-eqb number number refl) in
    omega (arith, most, here, enough number, so_far.counts number)

-- what has a count is there
pub within_counts : (counts : List ℕ) (number : ℕ) → 0 < slice_index counts number → number < length counts
within_counts counts number some = elim (cases_lt number (length counts)) [
  | inl below ↦ below
  | inr above ↦ absurd (omega (arith, some, get_or_past counts number 0 above))
]

-- the group at a place has sums, and there is room for them
pub has_sums : (base : ℕ) (readers starts : List ℕ) (piece i : ℕ) (old now : List ℕ) (old_due now_due : Members) → i < length readers
    → ((number : ℕ) → reads_of readers piece number ≤ slice_index old number)
    → CountsDown base (reads_of (take i readers) piece) starts piece old now old_due now_due → length now ≡ length old
    → ((group : ℕ) → due_number group piece < length old → HasSums base starts group old_due) → HasSums base starts (get_or readers i 0) now_due
has_sums base readers starts piece i old now old_due now_due within enough so_far long groups =
    let number = due_number (get_or readers i 0) piece in
    let inside = within_counts now number (some_missing base readers starts piece i old now old_due now_due within enough so_far) in
    let has = groups (get_or readers i 0) (omega (arith, inside, long)) in
    record { stands = has.stands; some_sums = has.some_sums; few_places = has.few_places; room = omega (arith, has.room, so_far.room) }

-- the numbers that become due with a group are those of its sums
pub group_numbers : (base : ℕ) (starts : List ℕ) (group piece number : ℕ) → piece < pieces → slice_index starts group < slice_index starts (group + 1)
    → IsEighth (due_number (base + slice_index starts group) piece) (due_number (base + (slice_index starts (group + 1) - 1)) piece) number
    → (sum : ℕ) × (number ≡ due_number (base + sum) piece) × (slice_index starts group ≤ sum) × (sum < slice_index starts (group + 1))
group_numbers base starts group piece number low rising is =
    let step : number % pieces ≡ piece = omega (arith, is.step, low) in
    let sum = number / pieces - base in
    (sum, omega (arith, is.from, step, low), omega (arith, is.from, step, low), omega (arith, is.from, is.to, step, low, rising))

pub group_number : (base : ℕ) (starts : List ℕ) (group piece sum : ℕ) → slice_index starts group ≤ sum → sum < slice_index starts (group + 1)
    → IsEighth (due_number (base + slice_index starts group) piece) (due_number (base + (slice_index starts (group + 1) - 1)) piece) (due_number (base + sum) piece)
group_number base starts group piece sum from to = record { from = omega (arith, from); to = omega (arith, to); step = omega arith }

-- one group more is counted down
module _ (base : ℕ) (reads reads' : ℕ → ℕ) (starts : List ℕ) (piece : ℕ) (low : piece < pieces) (old now new : List ℕ) (old_due now_due new_due : Members) (group : ℕ)
    (rising : slice_index starts group < slice_index starts (group + 1)) (here : reads' (due_number group piece) ≡ reads (due_number group piece) + 1)
    (elsewhere : (other : ℕ) → other ≢ due_number group piece → reads' other ≡ reads other)
    (some : 0 < slice_index now (due_number group piece))
    (count : slice_index new (due_number group piece) + 1 ≡ slice_index now (due_number group piece))
    (counts : (other : ℕ) → other ≢ due_number group piece → slice_index new other ≡ slice_index now other)
    (step : ((slice_index new (due_number group piece) ≡ 0)
    × GainsEighths (due_number (base + slice_index starts group) piece) (due_number (base + (slice_index starts (group + 1) - 1)) piece) now_due new_due)
    ⊎ ((slice_index new (due_number group piece) ≢ 0) × (new_due ≡ now_due)))
    (so_far : CountsDown base reads starts piece old now old_due now_due) where
  abbrev number : ℕ
  number = due_number group piece

  apart_numbers : (other : ℕ) → other ≢ group → due_number other piece ≢ number
  apart_numbers other differs is = differs (omega (arith, is))

  stays : (other : ℕ) → bit_of now_due.words other ≡ 1 → bit_of new_due.words other ≡ 1
  stays other has = elim step [
    | inl made ↦ eighths-stay _ _ now_due.words new_due.words made.1 other has
    | inr same ↦ ap (λ set. bit_of set.words other) same.1 ∙ has
  ]

  made_due : (sum : ℕ) → IsDone reads' starts piece new group sum → bit_of new_due.words (due_number (base + sum) piece) ≡ 1
  made_due sum done = elim step [
    | inl made ↦ made.1.here (due_number (base + sum) piece) (group_number base starts group piece sum done.from done.to)
    | inr same ↦ absurd (same.0 done.none)
  ]

  -- what was done before
  earlier : (other sum : ℕ) → other ≢ group → IsDone reads' starts piece new other sum → IsDone reads starts piece now other sum
  earlier other sum differs done = record {
    from = done.from;
    to = done.to;
    read = omega (arith, done.read, elsewhere (due_number other piece) (apart_numbers other differs));
    none = sym (counts (due_number other piece) (apart_numbers other differs)) ∙ done.none;
  }

  later : (other sum : ℕ) → IsDone reads starts piece now other sum → (other ≢ group) × IsDone reads' starts piece new other sum
  later other sum done =
      let differs : other ≢ group = λ same. absurd (omega (arith, some, ap (λ (g : ℕ). slice_index now (due_number g piece)) same, done.none)) in (
        differs,
        record {
          from = done.from;
          to = done.to;
          read = omega (arith, done.read, elsewhere (due_number other piece) (apart_numbers other differs));
          none = counts (due_number other piece) (apart_numbers other differs) ∙ done.none;
        },
      )

  -- a number that isn't made due
  kept : (other : ℕ) → ((g sum : ℕ) → other ≡ due_number (base + sum) piece → IsDone reads' starts piece new g sum → ⊥) → bit_of new_due.words other ≡ bit_of now_due.words other
  kept other isnt = elim step [
    | inl made ↦ made.1.others other (λ is.
        let of_group = group_numbers base starts group piece other low rising is in
        isnt group of_group.0 of_group.1 (record { from = of_group.2; to = of_group.3; read = omega (arith, here); none = made.0 }))
    | inr same ↦ ap (λ set. bit_of set.words other) same.1
  ]

  pub CountsDown-more : CountsDown base reads' starts piece old new old_due new_due
  CountsDown-more = record {
    counts = λ other. elim (cases_eq other number) [
      | inl same ↦ subst (λ n. slice_index new n + reads' n ≡ slice_index old n) (sym same) (omega (arith, here, count, so_far.counts number))
      | inr apart ↦ omega (arith, elsewhere other apart, counts other apart, so_far.counts other)
    ];
    due = λ other sum done. elim (cases_eq other group) [
      | inl same ↦ made_due sum (subst (λ g. IsDone reads' starts piece new g sum) same done)
      | inr differs ↦ stays (due_number (base + sum) piece) (so_far.due other sum (earlier other sum differs done))
    ];
    others = λ other isnt. kept other isnt ∙ so_far.others other (λ g sum is done. isnt g sum is (later g sum done).1);
    room = room ∙ so_far.room;
  }
    where
      room : bound new_due ≡ bound now_due
      room = elim step [
        | inl made ↦ ap (λ n. 64 * n) made.1.long
        | inr same ↦ ap bound same.1
      ]

-- The group at a place is counted down: the numbers of its sums are due now if no input is missing, and else nothing more is.
pub counted_down : (base : ℕ) (readers starts : List ℕ) (piece i : ℕ) (old now : List ℕ) (old_due now_due new_due : Members) → piece < pieces → i < length readers
    → slice_index starts (get_or readers i 0) < slice_index starts (get_or readers i 0 + 1) → ((number : ℕ) → reads_of readers piece number ≤ slice_index old number)
    → CountsDown base (reads_of (take i readers) piece) starts piece old now old_due now_due
    → let group = get_or readers i 0 in
    let number = due_number group piece in
    let new = slice_set now number (slice_index now number - 1) in
    ((slice_index new number ≡ 0) × GainsEighths (due_number (base + slice_index starts group) piece) (due_number (base + (slice_index starts (group + 1) - 1)) piece) now_due new_due)
    ⊎ ((slice_index new number ≢ 0) × (new_due ≡ now_due))
    → CountsDown base (reads_of (take (i + 1) readers) piece) starts piece old new old_due new_due
counted_down base readers starts piece i old now old_due now_due new_due low within rising enough so_far step =
    CountsDown-more base (reads_of (take i readers) piece) (reads_of (take (i + 1) readers) piece) starts piece low old now new old_due now_due new_due (get_or readers i 0)
    rising (reads_of-here readers piece i within) (λ other apart. reads_of-elsewhere readers piece i other within apart)
    some (omega (arith, some, get_or-set_same now number (slice_index now number - 1) 0 inside))
    (λ other apart. get_or-set_other now number other (slice_index now number - 1) 0 apart) step so_far
  where
    number : ℕ
    number = due_number (get_or readers i 0) piece

    new : List ℕ
    new = slice_set now number (slice_index now number - 1)

    some : 0 < slice_index now number
    some = some_missing base readers starts piece i old now old_due now_due within enough so_far

    inside : number < length now
    inside = within_counts now number some
