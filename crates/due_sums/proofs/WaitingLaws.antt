-- Laws of sums that wait: where nothing has come, where a piece of an input comes, and where a due piece is taken.
use Rattle.std.specs.Prelude.{◌≡◌, ◌≢◌, ◌<◌, ◌≤◌, ◌+◌, ◌-◌, ◌*◌, ◌/◌, ◌%◌, ◌^◌, ◌&&◌, ◌==◌, ◌∷◌, ℕ, Bool, true, false, nat_lt, not, All, List, [], Vec, length, map, slice_index_or, slice_set}
use Rattle.std.specs.Global.{Global}
use Rattle.std.specs.List.{list_all}
use Rattle.std.specs.Vec.{with_items}
use Rattle.std.proofs.Common.{refl, sym, ap, ◌∙◌, arith, get_or, inl, inr, subst}
use Rattle.std.proofs.lemmas.Bool.{and_from, and_left, and_parts, and_right, cases_eq, cases_lt, eq-eqb, eqb-true, le-ltb, lt-ltb, ltb-true, ne_eqb}
use Rattle.std.proofs.lemmas.List.{get_or-map, get_or-set_other, get_or-set_same, get_or_past, length-map, length-set, map-set, with_items_is}
use Rattle.std.proofs.lemmas.List.Elements.{All-get_or, All-map, All-weaker}
use Rattle.std.proofs.lemmas.Nat.{div_below, mod-mul-add, mod_below, mul-le, pow_below, pow_pos, same_from_place, shl_whole, shr_split}
use Rattle.item_list.proofs.Places.{row_end}
use Rattle.net_model.specs.Limits.{most_links}
use Rattle.generation_frame.specs.Blocks.{most_blocks, pieces}
use Rattle.generation_frame.specs.Frames.{accepted}
use Rattle.generation_frame.specs.declared.frame.Accepted.{Accepted}
use Rattle.generation_frame.specs.declared.frame.Accepted.TheVariants.{Known}
use Rattle.held_rows.specs.Held.{Held, Holds, HoldsNone, is_held, payload_of, place, row_count}
use Rattle.least_set.specs.Members.{HasNone, IsLeast, Loses, Members, bit_of, bound}
use Rattle.due_sums.specs.Counts.{AreReaders, CountsDown, IsCounted, IsDone, IsFresh, IsOfSize, IsTable, IsWaiting, held_of, lists_of, missing_of, reads_of}
use Rattle.due_sums.specs.Groups.{AreGroups}
use Rattle.due_sums.specs.Waiting.{AreSums, Gains, HasNothing, IsAtMost, Takes, Waiting, due_number, has_input, input_at, is_complete, is_due, is_given}
use Rattle.due_sums.specs.declared.due_sums.Table.{Table}
use Rattle.due_sums.proofs.GroupLaws.{group_over}
use Rattle.due_sums.proofs.TableLaws.{IsCounted-accept, IsCounted-fewer, IsTable-fresh, complete_is, given_kept}

-- what contracts see of sums that wait
abbrev pub waiting_of : ℕ → List (List ℕ) → List Table → ℕ → Members → Waiting
waiting_of inputs sums tables room due = record { inputs = inputs; sums = sums; held = map held_of tables; room = room; due = due }

-- the generation past the last one
abbrev pub nothing : Held
nothing = record { payloads = []; marks = [] }

-- a room of at most two to the power of thirteen
pub low_shift : (shift : ℕ) → 2 ^ shift ≤ most_links → shift ≤ 13
low_shift shift low = elim (cases_lt 13 shift) [
  | inl above ↦ absurd (omega (arith, low, pow_below 13 shift above))
  | inr below ↦ below
]

-- so many rooms fit
pub rooms : (count room : ℕ) → count ≤ most_blocks → room ≤ most_links → count * room ≤ most_blocks * most_links
rooms count room few low = mul-le count room most_blocks most_links few low

-- and the shift loses nothing
pub shifted : (count shift width : ℕ) → count ≤ most_blocks → shift ≤ 13 → 16 ≤ width → (count * 2 ^ shift) % 2 ^ width ≡ count * 2 ^ shift
shifted count shift width few low wide = shl_whole count 3 shift width (omega (arith, few)) (omega (arith, low, wide))

-- a piece of a sum is due where its bit is set
due_from : (sum count bit : ℕ) → sum < count → bit ≡ 1 → (nat_lt sum count && bit == 1) ≡ true
due_from sum count bit inside is = and_from _ _ (lt-ltb sum count inside) (eq-eqb bit 1 is)

due_parts : (sum count bit : ℕ) → (nat_lt sum count && bit == 1) ≡ true → (sum < count) × (bit ≡ 1)
due_parts sum count bit is =
    let parts = and_parts _ _ is in
    (ltb-true sum count parts.0, eqb-true bit 1 parts.1)

pub not_due : (sum count bit : ℕ) → (sum < count → bit ≡ 0) → (nat_lt sum count && bit == 1) ≡ false
not_due sum count bit none = elim (cases_lt sum count) [
  | inl inside ↦ and_right _ _ (ne_eqb bit 1 (λ is. omega (arith, is, none inside)))
  | inr past ↦ and_left _ _ (le-ltb sum count past)
]

-- the generation and the sum of a number below a limit
pub number_place : (generations shift number : ℕ) → generations ≤ most_blocks → shift ≤ 13 → number < generations * 2 ^ shift * pieces
    → let place = number / pieces in
    let generation = place / 2 ^ shift in
    let sum = place - generation * 2 ^ shift % 2 ^ 32 in
    (generation < generations) × (sum < 2 ^ shift) × (generation * 2 ^ shift + sum ≡ place)
number_place generations shift number few low below =
    let place = number / pieces in
    let generation = place / 2 ^ shift in
    let inside : generation < generations = div_below place (2 ^ shift) generations (pow_pos shift) (omega (arith, below)) in
    let whole = shifted generation shift 32 (omega (arith, inside, few)) low (omega arith) in
    let split = shr_split place shift in
    (inside, omega (arith, whole, split, mod_below place (2 ^ shift) (pow_pos shift)), omega (arith, whole, split))

-- where no number below a limit is in the set, nothing is due
pub none_due : (inputs : ℕ) (sums : List (List ℕ)) (tables : List Table) (room : ℕ) (due : Members) (generations limit : ℕ) → length sums ≤ room → limit ≡ generations * room * pieces
    → ((number : ℕ) → number < limit → bit_of due.words number ≡ 0) → (old : Waiting) → waiting_of inputs sums tables room due ≡ old
    → (g s p : ℕ) → g < generations → p < pieces → is_due old g s p ≡ false
none_due inputs sums tables room due generations limit enough same none old seen_so g s p before low =
    subst (λ (old : Waiting). is_due old g s p ≡ false) seen_so (not_due s (length sums) _ (λ inside.
    none (due_number (g * room + s) p) (omega (arith, row_end g generations room before, inside, enough, low, same))))

-- where nothing has come of any generation, nothing has
pub HasNothing-fresh : (inputs : ℕ) (sums groups : List (List ℕ)) (tables : List Table) (room : ℕ) (due : Members) → All (IsFresh inputs groups) tables → HasNone due
    → HasNothing (waiting_of inputs sums tables room due)
HasNothing-fresh inputs sums groups tables room due fresh none = record {
  inputs = empty;
  due = λ generation sum piece. not_due sum (length sums) _ (λ inside. none (due_number (generation * room + sum) piece));
}
  where
    empty : (generation : ℕ) → HoldsNone (slice_index_or (map held_of tables) generation nothing)
    empty generation = elim (cases_lt generation (length (map held_of tables))) [
      | inl within ↦
          All-get_or HoldsNone (map held_of tables) generation nothing within
          (All-map HoldsNone held_of tables (All-weaker (IsFresh inputs groups) (λ table. HoldsNone (held_of table)) (λ table none. none.held) tables fresh))
      | inr past ↦
          subst HoldsNone (sym (get_or_past (map held_of tables) generation nothing past)) (λ row piece. refl)
    ]

-- and all counts are those of what is missing
pub IsWaiting-fresh : (inputs : ℕ) (sums groups : List (List ℕ)) (starts : List ℕ) (readers : List (List ℕ)) (tables : List Table) (room : ℕ) (due : Members)
    → AreSums inputs sums → inputs < 2 ^ 32 → AreGroups sums groups starts → AreReaders inputs groups readers → length sums ≤ room → room ≤ most_links → length tables ≤ most_blocks
    → length tables * room * pieces ≤ bound due → All (IsFresh inputs groups) tables → HasNone due → IsWaiting inputs sums groups starts readers tables room due
IsWaiting-fresh inputs sums groups starts readers tables room due work few grouped read enough low generations bounded fresh none = record {
  work = work;
  few_inputs = few;
  grouped = grouped;
  read = read;
  enough = enough;
  low_room = low;
  few_generations = generations;
  bounded = bounded;
  counted = λ generation other inside. IsTable-fresh inputs sums groups (slice_index_or tables generation other) (generation * room) due (fresh generation other inside) none;
  of_sums = λ place piece below is. absurd (omega (arith, is, none (due_number place piece)));
}

-- what is seen of a generation that is there
seen_at : (tables : List Table) (generation : ℕ) → generation < length tables
    → (table : Table) × (slice_index_or (map held_of tables) generation nothing ≡ held_of (slice_index_or tables generation table))
seen_at [] generation inside = absurd (omega (arith, inside))
seen_at (table ∷ tables) generation inside = (table, get_or-map held_of (table ∷ tables) generation table nothing inside)

module _ (inputs : ℕ) (sums groups : List (List ℕ)) (starts : List ℕ) (readers : List (List ℕ)) (tables : List Table) (room : ℕ) (due : Members)
    (waiting : IsWaiting inputs sums groups starts readers tables room due) where
  -- each generation is of its size
  pub sizes : All (IsOfSize inputs groups) tables
  sizes generation other inside =
      let counted = waiting.counted generation other inside in
      record { rows = counted.rows; whole = counted.whole }

  -- a number is taken
  pub IsWaiting-lost : (number : ℕ) (due' : Members) → Loses number due due' → IsWaiting inputs sums groups starts readers tables room due'
  IsWaiting-lost number due' lost = record {
    work = waiting.work;
    few_inputs = waiting.few_inputs;
    grouped = waiting.grouped;
    read = waiting.read;
    enough = waiting.enough;
    low_room = waiting.low_room;
    few_generations = waiting.few_generations;
    bounded = omega (arith, waiting.bounded, lost.long);
    counted = λ generation other inside.
        let table = slice_index_or tables generation other in
        IsCounted-fewer inputs sums groups table.held table.missing.items (generation * room) due due' (waiting.counted generation other inside)
        (λ sum piece within low is. was (due_number (generation * room + sum) piece) is);
    of_sums = λ place piece low is. waiting.of_sums place piece low (was (due_number place piece) is);
  }
    where
      was : (other : ℕ) → bit_of due'.words other ≡ 1 → bit_of due.words other ≡ 1
      was other is = elim (cases_eq other number) [
        | inl same ↦ absurd (omega (arith, is, lost.here, ap (bit_of due'.words) same))
        | inr apart ↦ sym (lost.others other apart) ∙ is
      ]

  -- the least due piece is taken
  pub Takes-least : (generations generation sum piece number : ℕ) (due' : Members) → generation < generations → generations ≤ length tables → sum < room → piece < pieces
      → due_number (generation * room + sum) piece ≡ number → IsLeast number due → Loses number due due'
      → Takes generations generation sum piece (waiting_of inputs sums tables room due) (waiting_of inputs sums tables room due')
  Takes-least generations generation sum piece number due' inside within below low is least lost = record {
    in_generations = inside;
    in_sums = in_sums;
    in_pieces = low;
    complete =
        let seen = seen_at tables generation (omega (arith, inside, within)) in
        complete_is (slice_index_or (map held_of tables) generation nothing) (slice_index_or sums sum []) piece
        ∙ eq-eqb _ 0 (ap (λ (held : Held). missing_of held (slice_index_or sums sum []) piece) seen.1
        ∙ (waiting.counted generation seen.0 (omega (arith, inside, within))).complete sum piece in_sums low has);
    due = due_from sum (length sums) _ in_sums has;
    before = λ g s p earlier low'. not_due s (length sums) _ (λ inside'.
        least.least (due_number (g * room + s) p) (omega (arith, is, row_end g generation room earlier, inside', waiting.enough, low')));
    least = λ s p low' due. at_most s p low' (due_parts s (length sums) _ due).1;
    taken = not_due sum (length sums) _ (λ inside'. ap (bit_of due'.words) is ∙ lost.here);
    others = λ g s p low' differs. elim (cases_lt s (length sums)) [
      | inl inside' ↦ ap (λ bit. nat_lt s (length sums) && bit == 1) (lost.others (due_number (g * room + s) p) (λ same.
          let places : g * room + s ≡ generation * room + sum = omega (arith, same, is, low, low') in
          let parts = same_from_place g s generation sum room (omega (arith, inside', waiting.enough)) below places in
          differs (parts.0, parts.1, omega (arith, same, is, low, low'))))
      | inr past ↦ and_left _ _ (le-ltb s (length sums) past) ∙ sym (and_left _ _ (le-ltb s (length sums) past))
    ];
    work = record { inputs = refl; sums = refl; generations = refl };
    inputs = λ g i p. refl;
    bytes = λ g i p. refl;
  }
    where
      has : bit_of due.words (due_number (generation * room + sum) piece) ≡ 1
      has = ap (bit_of due.words) is ∙ least.within

      in_sums : sum < length sums
      in_sums = omega (arith, waiting.of_sums (generation * room + sum) piece low has, mod-mul-add generation room sum below)

      at_most : (s p : ℕ) → p < pieces → bit_of due.words (due_number (generation * room + s) p) ≡ 1 → IsAtMost sum piece s p
      at_most s p low' due = elim (cases_lt (due_number (generation * room + s) p) number) [
        | inl less ↦ absurd (omega (arith, due, least.least (due_number (generation * room + s) p) less))
        | inr more ↦ (elim (cases_lt sum s) [
          | inl before ↦ inl before
          | inr not_before ↦ inr (omega (arith, is, more, not_before, low, low'), omega (arith, is, more, not_before, low, low'))
        ])
      ]

  -- a generation is counted down
  module _ (generation : ℕ) (inside : generation < length tables) (reads : ℕ → ℕ) (piece : ℕ) (low : piece < pieces) (counts counts' : List ℕ) (due' : Members)
      (down : CountsDown (generation * room) reads starts piece counts counts' due due') where
    -- a sum that is done is there
    done_inside : (group sum : ℕ) → IsDone reads starts piece counts' group sum → sum < length sums
    done_inside group sum done = (group_over sums groups starts waiting.grouped group sum done.from done.to).1

    -- the other generations stay
    pub others_stay : (g sum p : ℕ) → g ≢ generation → sum < length sums → p < pieces
        → bit_of due'.words (due_number (g * room + sum) p) ≡ bit_of due.words (due_number (g * room + sum) p)
    others_stay g sum p apart within low' = down.others (due_number (g * room + sum) p) (λ group s is done.
        let places : g * room + sum ≡ generation * room + s = omega (arith, is, low, low') in
        apart (same_from_place g sum generation s room (omega (arith, within, waiting.enough)) (omega (arith, done_inside group s done, waiting.enough)) places).0)

    pub IsWaiting-set : (table : Table) → IsTable inputs sums groups table (generation * room) due' → IsWaiting inputs sums groups starts readers (slice_set tables generation table) room due'
    IsWaiting-set table counted = record {
      work = waiting.work;
      few_inputs = waiting.few_inputs;
      grouped = waiting.grouped;
      read = waiting.read;
      enough = waiting.enough;
      low_room = waiting.low_room;
      few_generations = omega (arith, waiting.few_generations, long);
      bounded = subst (λ count. count * room * pieces ≤ bound due') (sym long) (omega (arith, waiting.bounded, down.room));
      counted = λ g other within. elim (cases_eq g generation) [
        | inl same ↦ subst (Counted other) (sym same) (subst (At generation) (sym (get_or-set_same tables generation table other inside)) counted)
        | inr apart ↦
            let one = slice_index_or tables g other in
            subst (At g) (sym (get_or-set_other tables generation g table other apart))
            (IsCounted-fewer inputs sums groups one.held one.missing.items (g * room) due due' (waiting.counted g other (omega (arith, within, long)))
            (λ sum p within low' is. sym (others_stay g sum p apart within low') ∙ is))
      ];
      of_sums = λ place p low' is. elim (cases_lt (place % room) (length sums)) [
        | inl below ↦ below
        | inr past ↦ waiting.of_sums place p low' (sym (down.others (due_number place p) (λ group s same done.
            let places : place ≡ generation * room + s = omega (arith, same, low, low') in
            let within = done_inside group s done in
            omega (arith, past, within, ap (λ n. n % room) places, mod-mul-add generation room s (omega (arith, within, waiting.enough))))) ∙ is)
      ];
    }
      where
        At : ℕ → Table → Type 0
        At g table = IsTable inputs sums groups table (g * room) due'

        Counted : Table → ℕ → Type 0
        Counted other g = At g (slice_index_or (slice_set tables generation table) g other)

        long : length (slice_set tables generation table) ≡ length tables
        long = length-set tables generation table

-- a piece of an input comes to what is seen of a generation
module _ (inputs : ℕ) (sums : List (List ℕ)) (helds : List Held) (room : ℕ) (due due' : Members) (generation : ℕ) (held' : Held) (inside : generation < length helds) where
  abbrev at : Held
  at = slice_index_or helds generation nothing

  abbrev old : Waiting
  old = record { inputs = inputs; sums = sums; held = helds; room = room; due = due }

  abbrev new : Waiting
  new = record { inputs = inputs; sums = sums; held = slice_set helds generation held'; room = room; due = due' }

  at_new : slice_index_or (slice_set helds generation held') generation nothing ≡ held'
  at_new = get_or-set_same helds generation held' nothing inside

  at_other : (g : ℕ) → g ≢ generation → slice_index_or (slice_set helds generation held') g nothing ≡ slice_index_or helds g nothing
  at_other g apart = get_or-set_other helds generation g held' nothing apart

  pub Gains-accept : (input piece : ℕ) (payload : List ℕ) → piece < pieces → Holds input piece payload at held'
      → ((s p : ℕ) → s < length sums → p < pieces
      → (list_all (λ one. is_held held' one p) (slice_index_or sums s []) && not (bit_of due'.words (due_number (generation * room + s) p) == 1))
      ≡ (list_all (λ one. is_held at one p) (slice_index_or sums s []) && not (bit_of due.words (due_number (generation * room + s) p) == 1)))
      → ((g s p : ℕ) → g ≢ generation → s < length sums → p < pieces → bit_of due'.words (due_number (g * room + s) p) ≡ bit_of due.words (due_number (g * room + s) p))
      → Gains generation input piece payload (record { inputs = inputs; sums = sums; held = helds; room = room; due = due })
      (record { inputs = inputs; sums = sums; held = slice_set helds generation held'; room = room; due = due' })
  Gains-accept input piece payload low came given others = record {
    work = record { inputs = refl; sums = refl; generations = length-set helds generation held' };
    came = ap (λ held. is_held held input piece) at_new ∙ came.held;
    bytes = ap (λ held. payload_of held input piece) at_new ∙ came.bytes;
    other_inputs = λ g i p below low' differs. elim (cases_eq g generation) [
      | inl is ↦
          let Same : ℕ → Type 0 = λ g. (has_input new g i p ≡ has_input old g i p) × (input_at new g i p ≡ input_at old g i p) in
          let apart : place i p ≢ place input piece = λ same. differs (is, omega (arith, same, low, low'), omega (arith, same, low, low')) in
          subst Same (sym is) (
            ap (λ held. is_held held i p) at_new ∙ came.same_marks (place i p) apart,
            ap (λ held. payload_of held i p) at_new ∙ came.same_payloads (place i p) apart,
          )
      | inr apart ↦ (ap (λ held. is_held held i p) (at_other g apart), ap (λ held. payload_of held i p) (at_other g apart))
    ];
    given = λ g s p within low'. elim (cases_eq g generation) [
      | inl is ↦ subst (λ g. is_given new g s p ≡ is_given old g s p) (sym is) (here s p within low')
      | inr apart ↦
          ap (λ held. list_all (λ input. is_held held input p) (slice_index_or sums s []) && not (is_due new g s p)) (at_other g apart)
          ∙ ap (λ bit. is_complete old g s p && not (nat_lt s (length sums) && bit == 1)) (others g s p apart within low')
    ];
  }
    where
      here : (s p : ℕ) → s < length sums → p < pieces → is_given new generation s p ≡ is_given old generation s p
      here s p within low' =
          let inside : nat_lt s (length sums) ≡ true = lt-ltb s (length sums) within in
          let bit = bit_of due.words (due_number (generation * room + s) p) in
          let bit' = bit_of due'.words (due_number (generation * room + s) p) in
          let whole : Held → Bool = λ held. list_all (λ input. is_held held input p) (slice_index_or sums s []) in
          ap (λ held. whole held && not (nat_lt s (length sums) && bit' == 1)) at_new
          ∙ ap (λ below. whole held' && not (below && bit' == 1)) inside
          ∙ given s p within low'
          ∙ ap (λ below. whole at && not (below && bit == 1)) (sym inside)

-- a piece of an input comes to a generation
module _ (inputs : ℕ) (sums groups : List (List ℕ)) (starts : List ℕ) (readers : List (List ℕ)) (tables : List Table) (room : ℕ) (due : Members)
    (waiting : IsWaiting inputs sums groups starts readers tables room due) (generation : ℕ) (inside : generation < length tables) (input piece : ℕ) (payload : List ℕ)
    (table : Table) (held' : Held) (counts' : List ℕ) (due' : Members) (is : table ≡ get_or tables generation table) (within : input < inputs) (low : piece < pieces)
    (none : is_held table.held input piece ≡ false) (came : Holds input piece payload table.held held') (rows : row_count held' ≡ row_count table.held)
    (down : CountsDown (generation * room) (reads_of (slice_index_or readers input []) piece) starts piece table.missing.items counts' due due')
    (whole : length counts' ≡ length table.missing.items) where
  counted : IsTable inputs sums groups table (generation * room) due
  counted = subst (λ (table : Table). IsTable inputs sums groups table (generation * room) due) (sym is) (waiting.counted generation table inside)

  abbrev table' : Table
  table' = record { held = held'; missing = with_items table.missing counts' }

  items : (with_items table.missing counts').items ≡ counts'
  items = with_items_is table.missing counts' (whole ∙ sym table.missing.ok.0)

  pub IsWaiting-accept : IsWaiting inputs sums groups starts readers (slice_set tables generation (record { held = held'; missing = with_items table.missing counts' })) room due'
  IsWaiting-accept =
      IsWaiting-set inputs sums groups starts readers tables room due waiting generation inside (reads_of (slice_index_or readers input []) piece) piece low table.missing.items counts' due' down table'
      (subst (λ counts. IsCounted inputs sums groups held' counts (generation * room) due') (sym items)
      (IsCounted-accept inputs sums groups starts readers table.held table.missing.items (generation * room) due input piece waiting.grouped waiting.read counted within low none held' counts' due'
      payload came rows down whole))

  pub Gains-table : (old : Waiting) → waiting_of inputs sums tables room due ≡ old
      → Gains generation input piece payload old
      (waiting_of inputs sums (slice_set tables generation (record { held = held'; missing = with_items table.missing counts' })) room due')
  Gains-table old seen_so =
      let helds = map held_of tables in
      let back : table.held ≡ slice_index_or helds generation nothing = ap held_of is ∙ sym (get_or-map held_of tables generation table nothing inside) in
      let Before : Waiting → Type 0 = λ old. Gains generation input piece payload old (waiting_of inputs sums (slice_set tables generation table') room due') in
      let After : List Held → Type 0 = λ new. Gains generation input piece payload (waiting_of inputs sums tables room due)
      (record { inputs = inputs; sums = sums; held = new; room = room; due = due' }) in
      subst Before seen_so (subst After (sym (map-set held_of tables generation table'))
      (Gains-accept inputs sums helds room due due' generation held' (omega (arith, inside, length-map tables held_of)) input piece payload low
      (subst (λ held. Holds input piece payload held held') back came)
      (λ s p below low'.
      subst (λ (held : Held). (list_all (λ one. is_held held' one p) (slice_index_or sums s []) && not (bit_of due'.words (due_number (generation * room + s) p) == 1))
      ≡ (list_all (λ one. is_held held one p) (slice_index_or sums s []) && not (bit_of due.words (due_number (generation * room + s) p) == 1))) back
      (given_kept inputs sums groups starts readers table.held table.missing.items (generation * room) due input piece waiting.grouped waiting.read counted within low none held' counts' due'
      payload came rows down whole s p below low'))
      (others_stay inputs sums groups starts readers tables room due waiting generation inside (reads_of (slice_index_or readers input []) piece) piece low table.missing.items counts' due' down)))

-- a piece that hasn't come before
pub not_before : (known : Bool) (answer : Accepted) → answer ≡ accepted known → (answer ≡ Known → ⊥) → known ≡ false
not_before true answer says fresh = absurd (fresh says)
not_before false answer says fresh = refl

-- a generation that is seen is there
pub within_tables : (inputs : ℕ) (sums : List (List ℕ)) (tables : List Table) (room : ℕ) (due : Members) (waiting : Waiting) → waiting_of inputs sums tables room due ≡ waiting
    → length waiting.held ≡ length tables
within_tables inputs sums tables room due waiting seen_so = sym (ap (λ (waiting : Waiting). length waiting.held) seen_so) ∙ length-map tables held_of

-- the list of those that read an input
pub readers_at : (lists : List (Vec ℕ Global)) (input : ℕ) (list : Vec ℕ Global) → input < length lists → list ≡ get_or lists input list
    → list.items ≡ slice_index_or (lists_of lists) input []
readers_at lists input list inside is =
    let items_of : Vec ℕ Global → List ℕ = λ list. list.items in
    ap items_of is ∙ sym (get_or-map items_of lists input list [] inside)
