-- What is left of a row that comes, as the one that leads.
use Rattle.std.specs.Prelude.{◌≡◌, ◌≢◌, ℕ, ◌<◌, Bool, List, slice_index}
use Rattle.std.proofs.Common.{ap, sym, ◌∙◌}
use Rattle.std.proofs.lemmas.List.{get_or-take}
use Rattle.gf_tables.specs.Product.{product, size_of}
use Rattle.gf_tables.specs.declared.kind.FieldKind.{FieldKind}
use Rattle.linear_algebra.proofs.RowLaws.{slice_index-zero_row}
use Rattle.linear_algebra.specs.Rows.{scale_row, IsRow}
use Rattle.row_spans.proofs.LeadLaws.{HaveSameSums-divided, IsLead-divided}
use Rattle.row_spans.proofs.ReducedLaws.{nothing_from_sum}
use Rattle.row_spans.specs.Reduced.{cleared, AreReduced, IsNewLead}

-- what is left of a row, divided by its entry at a column where that isn't zero, leads there
pub IsNewLead-divided : (field : FieldKind) (width rate : ℕ) (marks : List Bool) (rows : List (List ℕ)) → AreReduced field width rate marks rows
    → (row : List ℕ) → IsRow field width row → (column by : ℕ) → column < rate → by < size_of field
    → slice_index (cleared field width rate rows row) column ≢ 0 → product field (slice_index (cleared field width rate rows row) column) by ≡ 1
    → IsNewLead field width rate marks rows row column (scale_row field by (cleared field width rate rows row))
IsNewLead-divided field width rate marks rows h row is column by within below nonzero divides = record {
  leads = IsLead-divided field width rate marks rows h row is column by within below divides;
  raises = λ sum.
      nonzero (sym (get_or-take rate (cleared field width rate rows row) column 0 within)
      ∙ ap (λ xs. slice_index xs column) (nothing_from_sum field width rate marks rows h row is sum) ∙ slice_index-zero_row rate column);
  sums = HaveSameSums-divided field width rate marks rows h row is column by within below divides;
}
