-- Laws of the counts of a generation: of one that nothing has come of, and of one that a piece of an input comes to.
use Rattle.std.specs.Prelude.{◌≡◌, ◌≢◌, ◌<◌, ◌≤◌, ◌+◌, ◌*◌, ◌/◌, ◌%◌, ◌^◌, ◌&&◌, ◌==◌, ℕ, Bool, true, false, not, All, List, [], Vec, length, nat_lt, slice_index, slice_index_or}
use Rattle.std.specs.Global.{Global}
use Rattle.std.specs.List.{list_all}
use Rattle.std.specs.Vec.{with_items}
use Rattle.std.proofs.Common.{refl, sym, ap, ◌∙◌, arith, inl, inr, subst}
use Rattle.std.proofs.lemmas.Bool.{cases_eq, cases_lt, eq-eqb, eqb-true, lt-ltb, ne_eqb, not_from_false, not_from_true}
use Rattle.std.proofs.lemmas.List.{get_or_past, with_items_is}
use Rattle.std.proofs.lemmas.List.Sums.{list_all-from_AllPass, sum_by-le-sum_by}
use Rattle.generation_frame.specs.Blocks.{pieces}
use Rattle.held_rows.specs.Held.{Held, Holds, HoldsNone, is_held, place, row_count}
use Rattle.net_model.proofs.RisingLaws.{length-is_rising}
use Rattle.least_set.specs.Members.{HasNone, Members, bit_of}
use Rattle.due_sums.specs.Counts.{AreReaders, CountsDown, IsCounted, IsDone, IsFresh, IsTable, count_of, missing_of, reads_of}
use Rattle.due_sums.specs.Groups.{AreGroups}
use Rattle.due_sums.specs.Waiting.{AreSums, due_number}
use Rattle.due_sums.specs.declared.due_sums.Table.{Table}
use Rattle.due_sums.proofs.CountLaws.{one_if, count_by-all, count_by-falls, count_by-same, due_number-of, due_number-sum, list_all-from_count, list_all-from_some, reads_of-other, reads_of-own}
use Rattle.due_sums.proofs.GroupLaws.{HasGroup, group_of, group_over}

-- a sum has at most as many inputs as there are
pub few_inputs : (inputs : ℕ) (sums : List (List ℕ)) → AreSums inputs sums → inputs < 2 ^ 32 → All (λ sum. length sum < 2 ^ 32) sums
few_inputs inputs sums work few k d within =
    let sum = slice_index_or sums k d in
    let below = list_all-from_AllPass (λ input. nat_lt input inputs) sum (λ j e inside. lt-ltb _ _ (work.below k d within j e inside)) in
    omega (arith, few, length-is_rising sum inputs (work.rising k d within) below)

-- where nothing has come, all inputs are missing
missing_of-none : (held : Held) (inputs : List ℕ) (piece : ℕ) → HoldsNone held → missing_of held inputs piece ≡ length inputs
missing_of-none held inputs piece none = count_by-all (λ input. not (is_held held input piece)) inputs (λ input. not_from_false _ (none input piece))

-- a generation with these counts is one that nothing has come of
pub IsFresh-counted : (inputs : ℕ) (groups : List (List ℕ)) (held : Held) (was : Vec ℕ Global) (counts : List ℕ) → row_count held ≡ inputs → HoldsNone held
    → length counts ≡ was.len → was.len ≡ length groups * pieces
    → ((number : ℕ) → number < length counts → slice_index counts number ≡ length (slice_index_or groups (number / pieces) []))
    → IsFresh inputs groups (record { held = held; missing = with_items was counts })
IsFresh-counted inputs groups held was counts rows none same whole all =
    let items : (with_items was counts).items ≡ counts = with_items_is was counts same in
    record {
      size = record { rows = rows; whole = ap length items ∙ same ∙ whole };
      missing = λ group piece within low.
          ap (λ (counts : List ℕ). slice_index counts (due_number group piece)) items
          ∙ all (due_number group piece) (omega (arith, same, whole, within, low))
          ∙ ap (λ group. length (slice_index_or groups group [])) (due_number-sum group piece low)
          ∙ sym (missing_of-none held (slice_index_or groups group []) piece none);
      held = none;
    }

-- its counts are those of what is missing, where nothing is due
pub IsTable-fresh : (inputs : ℕ) (sums groups : List (List ℕ)) (table : Table) (base : ℕ) (due : Members) → IsFresh inputs groups table → HasNone due
    → IsTable inputs sums groups table base due
IsTable-fresh inputs sums groups table base due fresh empty = record {
  rows = fresh.size.rows;
  whole = fresh.size.whole;
  missing = fresh.missing;
  complete = λ sum piece within low is. absurd (omega (arith, is, empty (due_number (base + sum) piece)));
}

-- and stay so where nothing more is due
pub IsCounted-fewer : (inputs : ℕ) (sums groups : List (List ℕ)) (held : Held) (counts : List ℕ) (base : ℕ) (due due' : Members) → IsCounted inputs sums groups held counts base due
    → ((sum piece : ℕ) → sum < length sums → piece < pieces → bit_of due'.words (due_number (base + sum) piece) ≡ 1 → bit_of due.words (due_number (base + sum) piece) ≡ 1)
    → IsCounted inputs sums groups held counts base due'
IsCounted-fewer inputs sums groups held counts base due due' counted fewer = record {
  rows = counted.rows;
  whole = counted.whole;
  missing = counted.missing;
  complete = λ sum piece within low is. counted.complete sum piece within low (fewer sum piece within low is);
}

-- inputs have come for a piece where none is missing
pub complete_is : (held : Held) (numbers : List ℕ) (piece : ℕ)
    → list_all (λ input. is_held held input piece) numbers ≡ (missing_of held numbers piece == 0)
complete_is held numbers piece = elim (cases_eq (missing_of held numbers piece) 0) [
  | inl none ↦ list_all-from_count (λ input. is_held held input piece) numbers none ∙ sym (eq-eqb _ 0 none)
  | inr some ↦ list_all-from_some (λ input. is_held held input piece) numbers (omega (arith, some)) ∙ sym (ne_eqb _ 0 some)
]

-- An input is missing at least as often as a sum names it, as long as that piece of it hasn't come.
missing_of-own : (held : Held) (inputs : List ℕ) (input piece : ℕ) → is_held held input piece ≡ false → count_of input inputs ≤ missing_of held inputs piece
missing_of-own held inputs input piece none =
    sum_by-le-sum_by (λ one. one_if (one == input)) (λ one. one_if (not (is_held held one piece))) inputs here
  where
    counted : (is missing : Bool) → (is ≡ true → missing ≡ true) → one_if is ≤ one_if missing
    counted true true gives = omega arith
    counted true false gives = absurd (cc (gives refl))
    counted false missing gives = omega arith

    here : (one : ℕ) → one_if (one == input) ≤ one_if (not (is_held held one piece))
    here one = counted (one == input) (not (is_held held one piece)) (λ same. ap (λ one. not (is_held held one piece)) (eqb-true one input same) ∙ not_from_false _ none)

-- a piece of an input comes
module _ (inputs : ℕ) (sums groups : List (List ℕ)) (starts : List ℕ) (readers : List (List ℕ)) (held : Held) (counts : List ℕ) (base : ℕ) (due : Members) (input piece : ℕ)
    (grouped : AreGroups sums groups starts) (read : AreReaders inputs groups readers) (counted : IsCounted inputs sums groups held counts base due)
    (within : input < inputs) (low : piece < pieces) (none : is_held held input piece ≡ false) where
  -- how often it is counted down
  abbrev reads : ℕ → ℕ
  reads = reads_of (slice_index_or readers input []) piece

  own : (group : ℕ) → reads (due_number group piece) ≡ count_of input (slice_index_or groups group [])
  own group = reads_of-own (slice_index_or readers input []) group piece ∙ read.each input group within

  other : (group p : ℕ) → p < pieces → p ≢ piece → reads (due_number group p) ≡ 0
  other group p low' apart = reads_of-other (slice_index_or readers input []) group piece p low low' apart

  enough_at : (group p : ℕ) → p < pieces → reads (due_number group p) ≤ slice_index counts (due_number group p)
  enough_at group p low' = elim (cases_eq p piece) [
    | inr apart ↦ omega (arith, other group p low' apart)
    | inl same ↦ subst (λ p. reads (due_number group p) ≤ slice_index counts (due_number group p)) (sym same) (elim (cases_lt group (length groups)) [
      | inl inside ↦ omega (arith, own group, counted.missing group piece inside low, missing_of-own held (slice_index_or groups group []) input piece none)
      | inr past ↦ omega (arith, own group, ap (count_of input) (get_or_past groups group [] past))
    ])
  ]

  pub enough : (number : ℕ) → reads_of (slice_index_or readers input []) piece number ≤ slice_index counts number
  enough number = subst (λ n. reads n ≤ slice_index counts n) (due_number-of number) (enough_at (number / pieces) (number % pieces) (omega arith))

  module _ (held' : Held) (counts' : List ℕ) (due' : Members) (payload : List ℕ) (came : Holds input piece payload held held')
      (rows : row_count held' ≡ row_count held) (down : CountsDown base (reads_of (slice_index_or readers input []) piece) starts piece counts counts' due due')
      (whole : length counts' ≡ length counts) where
    stays : (one p : ℕ) → p < pieces → ((one ≡ input) × (p ≡ piece) → ⊥) → is_held held' one p ≡ is_held held one p
    stays one p low' apart = came.same_marks (place one p) (λ same. apart (omega (arith, same, low, low'), omega (arith, same, low, low')))

    -- how many are missing: of another piece as many, and of this one fewer by as often as the input is named
    as_many : (numbers : List ℕ) (p : ℕ) → p < pieces → p ≢ piece → missing_of held' numbers p ≡ missing_of held numbers p
    as_many numbers p low' apart =
        sym (count_by-same (λ one. not (is_held held one p)) (λ one. not (is_held held' one p)) numbers (λ one. ap not (sym (stays one p low' (λ same. apart same.1)))))

    falls : (numbers : List ℕ) → missing_of held' numbers piece + count_of input numbers ≡ missing_of held numbers piece
    falls numbers =
        count_by-falls (λ one. not (is_held held one piece)) (λ one. not (is_held held' one piece)) input numbers (not_from_false _ none) (not_from_true _ came.held)
        (λ one apart. ap not (stays one piece low (λ same. apart same.0)))

    no_more : (numbers : List ℕ) (p : ℕ) → p < pieces → missing_of held' numbers p ≤ missing_of held numbers p
    no_more numbers p low' = elim (cases_eq p piece) [
      | inl same ↦ subst (λ p. missing_of held' numbers p ≤ missing_of held numbers p) (sym same) (omega (arith, falls numbers))
      | inr apart ↦ omega (arith, as_many numbers p low' apart)
    ]

    missing : (group p : ℕ) → group < length groups → p < pieces → slice_index counts' (due_number group p) ≡ missing_of held' (slice_index_or groups group []) p
    missing group p inside low' = elim (cases_eq p piece) [
      | inl same ↦
          let numbers = slice_index_or groups group [] in
          subst (λ p. slice_index counts' (due_number group p) ≡ missing_of held' numbers p) (sym same)
          (omega (arith, own group, counted.missing group piece inside low, falls numbers, down.counts (due_number group piece)))
      | inr apart ↦
          let numbers = slice_index_or groups group [] in
          omega (arith, other group p low' apart, counted.missing group p inside low', as_many numbers p low' apart, down.counts (due_number group p))
    ]

    -- what is done has come
    done_has : (sum p group s : ℕ) → p < pieces → due_number (base + sum) p ≡ due_number (base + s) piece → IsDone reads starts piece counts' group s
        → missing_of held' (slice_index_or sums sum []) p ≡ 0
    done_has sum p group s low' same done =
        let over = group_over sums groups starts grouped group s done.from done.to in
        let sum_is : sum ≡ s = omega (arith, same, low, low') in
        let piece_is : p ≡ piece = omega (arith, same, low, low') in
        ap (λ (s : ℕ). missing_of held' (slice_index_or sums s []) p) sum_is ∙ ap (missing_of held' (slice_index_or sums s [])) piece_is
        ∙ ap (λ (numbers : List ℕ). missing_of held' numbers piece) over.2 ∙ sym (missing group piece over.0 low) ∙ done.none

    complete : (sum p : ℕ) → sum < length sums → p < pieces → bit_of due'.words (due_number (base + sum) p) ≡ 1 → missing_of held' (slice_index_or sums sum []) p ≡ 0
    complete sum p inside low' is = elim (cases_eq (missing_of held' (slice_index_or sums sum []) p) 0) [
      | inl zero ↦ zero
      | inr some ↦
          let stays = down.others (due_number (base + sum) p) (λ group s same done. some (done_has sum p group s low' same done)) in
          omega (arith, counted.complete sum p inside low' (sym stays ∙ is), no_more (slice_index_or sums sum []) p low')
    ]

    pub IsCounted-accept : IsCounted inputs sums groups held' counts' base due'
    IsCounted-accept = record {
      rows = rows ∙ counted.rows;
      whole = whole ∙ counted.whole;
      missing = missing;
      complete = complete;
    }

    -- a piece of a sum
    module _ (sum p : ℕ) (inside : sum < length sums) (low' : p < pieces) where
      abbrev number : ℕ
      number = due_number (base + sum) p

      abbrev numbers : List ℕ
      numbers = slice_index_or sums sum []

      abbrev given : Held → Members → Bool
      given held due = (missing_of held numbers p == 0) && not (bit_of due.words number == 1)

      -- where as many are missing and nothing is made due
      same_given : missing_of held' numbers p ≡ missing_of held numbers p
          → ((group s : ℕ) → number ≡ due_number (base + s) piece → IsDone reads starts piece counts' group s → ⊥) → given held' due' ≡ given held due
      same_given many isnt =
          ap (λ n. (n == 0) && not (bit_of due'.words number == 1)) many ∙ ap (λ n. (missing_of held numbers p == 0) && not (n == 1)) (down.others number isnt)

      module _ (same : p ≡ piece) where
        has : HasGroup starts (length groups) sum
        has = group_of sums groups starts grouped sum inside

        in_group : numbers ≡ slice_index_or groups has.group []
        in_group = grouped.same has.group sum has.inside has.from has.to

        read_so : reads (due_number has.group piece) ≡ count_of input numbers
        read_so = own has.group ∙ ap (count_of input) (sym in_group)

        fewer : missing_of held' numbers p + reads (due_number has.group piece) ≡ missing_of held numbers p
        fewer = subst (λ p. missing_of held' numbers p + reads (due_number has.group piece) ≡ missing_of held numbers p) (sym same) (omega (arith, falls numbers, read_so))

        count_is : slice_index counts' (due_number has.group piece) ≡ missing_of held' numbers p
        count_is = missing has.group piece has.inside low ∙ ap (λ (ns : List ℕ). missing_of held' ns piece) (sym in_group) ∙ ap (missing_of held' numbers) (sym same)

        was_missing : 0 < reads (due_number has.group piece) → given held due ≡ false
        was_missing some = ap (λ (zero : Bool). zero && not (bit_of due.words number == 1)) (ne_eqb (missing_of held numbers p) 0 (λ zero. absurd (omega (arith, some, zero, fewer))))

        made_due : 0 < reads (due_number has.group piece) → missing_of held' numbers p ≡ 0 → bit_of due'.words number ≡ 1
        made_due some zero =
            ap (λ p. bit_of due'.words (due_number (base + sum) p)) same
            ∙ down.due has.group sum (record { from = has.from; to = has.to; read = some; none = count_is ∙ zero })

        is_missing : 0 < reads (due_number has.group piece) → given held' due' ≡ false
        is_missing some = elim (cases_eq (missing_of held' numbers p) 0) [
          | inl zero ↦ ap (λ (zero : Bool). zero && not (bit_of due'.words number == 1)) (eq-eqb (missing_of held' numbers p) 0 zero)
              ∙ ap not (eq-eqb (bit_of due'.words number) 1 (made_due some zero))
          | inr left ↦ ap (λ (zero : Bool). zero && not (bit_of due'.words number == 1)) (ne_eqb (missing_of held' numbers p) 0 left)
        ]

        -- a group that reaches over the sum and was counted down is read by the sum's own
        isnt_done : reads (due_number has.group piece) ≡ 0 → (group s : ℕ) → number ≡ due_number (base + s) piece → IsDone reads starts piece counts' group s → ⊥
        isnt_done unread group s is done =
            let over = group_over sums groups starts grouped group s done.from done.to in
            let sum_is : sum ≡ s = omega (arith, is, low, low') in
            let named : count_of input numbers ≡ count_of input (slice_index_or groups group []) = ap (λ (s : ℕ). count_of input (slice_index_or sums s [])) sum_is ∙ ap (count_of input) over.2 in
            omega (arith, unread, read_so, named, own group, done.read)

        by_piece : given held' due' ≡ given held due
        by_piece = elim (cases_lt 0 (reads (due_number has.group piece))) [
          | inl some ↦ is_missing some ∙ sym (was_missing some)
          | inr unread ↦ same_given (omega (arith, fewer, unread)) (isnt_done (omega (arith, unread)))
        ]

      by_count : given held' due' ≡ given held due
      by_count = elim (cases_eq p piece) [
        | inl same ↦ by_piece same
        | inr apart ↦ same_given (as_many numbers p low' apart) (λ group s is done. apart (omega (arith, is, low, low')))
      ]

      -- what was given stays so, and what is complete now is due
      pub given_kept : (list_all (λ one. is_held held' one p) (slice_index_or sums sum []) && not (bit_of due'.words (due_number (base + sum) p) == 1))
          ≡ (list_all (λ one. is_held held one p) (slice_index_or sums sum []) && not (bit_of due.words (due_number (base + sum) p) == 1))
      given_kept =
          ap (λ (whole : Bool). whole && not (bit_of due'.words number == 1)) (complete_is held' numbers p)
          ∙ by_count
          ∙ ap (λ (whole : Bool). whole && not (bit_of due.words number == 1)) (sym (complete_is held numbers p))
