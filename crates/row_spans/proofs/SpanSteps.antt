-- What a span holds after each call, and what it says of the rows.
use Rattle.std.specs.Prelude.{◌≡◌, ◌<◌, ◌≤◌, ◌+◌, ◌%◌, ℕ, suc, Bool, true, false, List, ◌∷◌, length, replicate, set}
use Rattle.std.proofs.Common.{arith, sym, ap, ◌∙◌, get_or, subst}
use Rattle.gf_tables.specs.declared.kind.FieldKind.{FieldKind}
use Rattle.linear_algebra.specs.Rows.{zero_row, AreRows, IsRow}
use Rattle.row_spans.proofs.HiddenLaws.{AreReduced-none}
use Rattle.row_spans.proofs.KeptLaws.{AreRows-kept, HaveSameSums-kept, all_from_marked, kept-none, length-kept_more, length-kept_most, marked_from_all}
use Rattle.row_spans.proofs.LeadLaws.{AreReduced-with_lead, HaveSameSums-with_lead}
use Rattle.row_spans.proofs.SumLaws.{HaveSameSums-back, HaveSameSums-cons, HaveSameSums-then, HaveSameSums-vectors}
use Rattle.row_spans.specs.Reduced.{kept, with_lead, AreReduced, IsHeld, IsNewLead}
use Rattle.row_spans.specs.Spans.{HaveSameSums, vectors}
use Rattle.field_rows.specs.Widths.{rows_in, width_in}

-- no rows
pub IsHeld-none : (field : FieldKind) (bytes rate : ℕ) → rate ≤ 32 → 64 ≤ bytes → bytes ≤ 4096 → bytes % 2 ≡ 0 → rate ≤ width_in field bytes
    → IsHeld field bytes rate 0 (replicate rate false) (replicate rate (zero_row (width_in field bytes)))
IsHeld-none field bytes rate low long short even narrow = record {
  low_rate = low;
  long = long;
  short = short;
  even = even;
  reduced = AreReduced-none field (width_in field bytes) rate narrow;
  rank_is = sym (ap (length {A = List ℕ}) (kept-none rate (replicate rate (zero_row (width_in field bytes)))));
}

-- what is said of a row that leads beside slices, said beside what they are
pub IsNewLead-same : (field : FieldKind) (width rate : ℕ) (marks others : List Bool) (items rows : List (List ℕ)) (row : List ℕ) (column : ℕ) (lead : List ℕ)
    → others ≡ marks → rows ≡ items → length marks ≡ rate → IsNewLead field width (length others) others (rows_in field rows) row column lead
    → IsNewLead field width rate marks (rows_in field items) row column lead
IsNewLead-same field width rate marks others items rows row column lead same_marks same_rows count new =
    let Marks : List Bool → Type 0 = λ xs. IsNewLead field width (length xs) xs (rows_in field rows) row column lead in
    let Rows : List (List ℕ) → Type 0 = λ xs. IsNewLead field width (length marks) marks (rows_in field xs) row column lead in
    let Rate : ℕ → Type 0 = λ n. IsNewLead field width n marks (rows_in field items) row column lead in
    subst Rate count (subst Rows same_rows (subst Marks same_marks new))

module _ (field : FieldKind) (bytes rate rank : ℕ) (marks : List Bool) (rows : List (List ℕ)) (h : IsHeld field bytes rate rank marks rows) where
  abbrev width : ℕ
  width = width_in field bytes

  -- as many rows are kept as the rank says, at most as many as the rate
  pub rank_most : rank ≤ rate
  rank_most = omega (arith, h.rank_is, length-kept_most marks rows, h.reduced.count)

  -- the rows that are kept have the vectors' sums of all
  pub vectors_kept : HaveSameSums field rate (vectors rate (kept marks rows)) (vectors rate rows)
  vectors_kept =
      HaveSameSums-vectors field width rate (kept marks rows) rows h.reduced.narrow (AreRows-kept field width rate marks rows h.reduced) h.reduced.are
      (HaveSameSums-kept field width rate marks rows h.reduced)

  -- where as many rows are kept as the rate all columns are marked
  pub all_marked : length (kept marks rows) ≡ rate → (p : ℕ) → p < rate → get_or marks p false ≡ true
  all_marked whole p below =
      marked_from_all marks rows p (h.reduced.count ∙ sym h.reduced.columns) (whole ∙ sym h.reduced.count) (omega (arith, h.reduced.columns))

  -- where fewer are kept some column isn't
  pub some_unmarked : length (kept marks rows) < rate → ((p : ℕ) → p < length marks → get_or marks p false ≡ true) → ⊥
  some_unmarked few all =
      let whole = all_from_marked marks rows (h.reduced.count ∙ sym h.reduced.columns) all in
      omega (arith, few, whole, h.reduced.count)

  module _ (row : List ℕ) (is : IsRow field width row) (column : ℕ) (lead : List ℕ) (new : IsNewLead field width rate marks rows row column lead) where
    abbrev new_marks : List Bool
    new_marks = set marks column true

    abbrev new_rows : List (List ℕ)
    new_rows = with_lead field column lead rows

    reduced_new : AreReduced field width rate new_marks new_rows
    reduced_new = AreReduced-with_lead field width rate marks rows h.reduced column lead new.leads

    -- one more row is kept
    pub length-kept_new : length (kept (set marks column true) (with_lead field column lead rows)) ≡ suc (length (kept marks rows))
    length-kept_new =
        length-kept_more marks rows new_rows column (h.reduced.count ∙ sym h.reduced.columns) (reduced_new.count ∙ sym h.reduced.columns)
        (omega (arith, h.reduced.columns, new.leads.within)) new.leads.unmarked

    pub IsHeld-new : IsHeld field bytes rate (rank + 1) (set marks column true) (with_lead field column lead rows)
    IsHeld-new = record {
      low_rate = h.low_rate;
      long = h.long;
      short = h.short;
      even = h.even;
      reduced = reduced_new;
      rank_is = omega (arith, h.rank_is, length-kept_new);
    }

    -- so there was room for it
    pub rank_less : rank < rate
    rank_less = omega (arith, h.rank_is, length-kept_new, length-kept_most new_marks new_rows, reduced_new.count)

    pub AreRows-kept_new : AreRows field width (kept (set marks column true) (with_lead field column lead rows))
    AreRows-kept_new = AreRows-kept field width rate new_marks new_rows reduced_new

    -- the kept rows have the same sums as those before and the row that came
    pub HaveSameSums-new : HaveSameSums field width (kept (set marks column true) (with_lead field column lead rows)) (row ∷ kept marks rows)
    HaveSameSums-new =
        let before = HaveSameSums-kept field width rate marks rows h.reduced in
        let of_before = HaveSameSums-cons field width row rows (kept marks rows) is h.reduced.are (AreRows-kept field width rate marks rows h.reduced)
        (HaveSameSums-back field width (kept marks rows) rows before) in
        let of_lead = HaveSameSums-then field width (lead ∷ rows) (row ∷ rows) (row ∷ kept marks rows) new.sums of_before in
        let of_new = HaveSameSums-then field width new_rows (lead ∷ rows) (row ∷ kept marks rows)
        (HaveSameSums-with_lead field width rate marks rows h.reduced column lead new.leads) of_lead in
        HaveSameSums-then field width (kept new_marks new_rows) new_rows (row ∷ kept marks rows) (HaveSameSums-kept field width rate new_marks new_rows reduced_new) of_new
