-- How many of some vectors aren't sums of multiples of those before them.
use Rattle.std.specs.Prelude.{◌≡◌, ◌↔◌, ◌+◌, ℕ, suc, List, [], ◌∷◌, length, if◌then◌else◌}
use Rattle.gf_tables.specs.declared.kind.FieldKind.{FieldKind}
use Rattle.row_spans.specs.Decided.{is_sum}
use Rattle.row_spans.specs.Spans.{HaveSameSums, IsSum}
use Rattle.vector_headers.specs.Rows.{CodedRow, vectors_of}
use Rattle.vector_headers.specs.declared.blind.Gain.{Gain}
use Rattle.vector_headers.specs.declared.blind.Gain.TheVariants.{Raised, Same}

-- of vectors, the last one first, how many aren't sums of multiples of those before them
abbrev pub rank_of : FieldKind → ℕ → List (List ℕ) → ℕ
rank_of field rate [] = 0
rank_of field rate (vector ∷ earlier) = (if is_sum field rate earlier vector then 0 else 1) + rank_of field rate earlier

-- a vector came to kept rows, as it is accepted
pub record IsAccepted (field : FieldKind) (rate : ℕ) (old new : List CodedRow) (vector : List ℕ) (gain : Gain) : Type 0 where
  pub raised : gain ≡ Raised ↔ ¬ IsSum field rate (vectors_of old) vector
  pub spans : HaveSameSums field rate (vectors_of new) (vector ∷ vectors_of old)
  pub same : gain ≡ Same → new ≡ old
  pub count : gain ≡ Raised → length new ≡ suc (length old)

-- of vectors, the last one first, each was accepted in turn, from no rows on
abbrev pub AreAccepted : FieldKind → ℕ → List (List ℕ) → List CodedRow → Type 0
AreAccepted field rate [] rows = rows ≡ []
AreAccepted field rate (vector ∷ earlier) rows =
    (old : List CodedRow) × (gain : Gain) × AreAccepted field rate earlier old × IsAccepted field rate old rows vector gain
