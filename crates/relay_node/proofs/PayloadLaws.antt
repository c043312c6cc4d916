-- A payload that is added up, summand by summand.
use Rattle.std.specs.Prelude.{◌≡◌, ◌<◌, ◌%◌, ◌*◌, ◌+◌, ℕ, List, [], length, replicate, take}
use Rattle.std.proofs.Common.{refl, sym, ap, ◌∙◌, add-one, arith, get_or}
use Rattle.std.proofs.lemmas.List.{get_or-map, length-map, take_all}
use Rattle.field_rows.proofs.BytesLaws.{bytes_of_elements-elements_of}
use Rattle.gf_tables.specs.Product.{bytes_of_element, bytes_of_width, width_of}
use Rattle.gf_tables.specs.declared.kind.FieldKind.{FieldKind}
use Rattle.gf_tables.specs.declared.kind.Width.TheVariants.{One, Two}
use Rattle.generation_frame.specs.Blocks.{piece_bytes}
use Rattle.linear_algebra.proofs.CombinationLaws.{combination-take_more}
use Rattle.linear_algebra.proofs.ElementsLaws.{elements_of-zero_row, length-elements_of}
use Rattle.linear_algebra.specs.Elements.{AreBytes, bytes_of_row, elements_of}
use Rattle.linear_algebra.specs.Rows.{add_rows, combination, scale_row, zero_row}
use Rattle.coded_traffic.proofs.PieceLaws.{piece_bytes-piece_width}
use Rattle.coded_traffic.specs.Traffic.{piece_width}
use Rattle.relay_node.specs.Summed.{IsSummed, coefficients_of, rows_of, total_of}
use Rattle.relay_node.specs.declared.summands.Summand.{Summand}

-- the bytes of a piece are whole elements
piece-width : (field : FieldKind) → piece_bytes ≡ bytes_of_element field * piece_width field
piece-width field = sym (piece_bytes-piece_width field)

pub whole_piece : (field : FieldKind) → piece_bytes % bytes_of_element field ≡ 0
whole_piece field = elim (width_of field) as (λ width. piece_bytes % bytes_of_width width ≡ 0) [ One ↦ refl | Two ↦ refl ]

-- nothing is added up yet
pub summed-none : (field : FieldKind) (summands : List Summand) (came : Summand → List ℕ) → IsSummed field summands came 0 (replicate piece_bytes 0)
summed-none field summands came =
    record {
      width = refl;
      sum = ap (λ (n : ℕ). elements_of field (zero_row n)) (piece-width field) ∙ elements_of-zero_row field (piece_width field);
    }

-- one more summand
pub summed-next : (field : FieldKind) (summands : List Summand) (came : Summand → List ℕ) (k : ℕ) (summand : Summand) (payload now : List ℕ)
    → k < length summands → get_or summands k summand ≡ summand → length (came summand) ≡ piece_bytes → length now ≡ length payload
    → elements_of field now ≡ add_rows (elements_of field payload) (scale_row field summand.times (elements_of field (came summand)))
    → IsSummed field summands came k payload → IsSummed field summands came (k + 1) now
summed-next field summands came k summand payload now below here long same made so_far =
    record {
      width = same ∙ so_far.width;
      sum = made ∙ ap (λ (sum : List ℕ). add_rows sum (scale_row field summand.times (elements_of field (came summand)))) so_far.sum
          ∙ ap (λ (added : List ℕ). add_rows (combination field width (take k times) (take k rows)) added) added
          ∙ sym (ap (λ (n : ℕ). combination field width (take n times) (take n rows)) (add-one k)
          ∙ combination-take_more field width k times rows (omega (arith, below, length-map summands (λ (s : Summand). s.times)))
          (omega (arith, below, length-map summands (λ (s : Summand). elements_of field (came s)))) wide);
    }
  where
    width : ℕ
    width = piece_width field

    times : List ℕ
    times = coefficients_of summands

    rows : List (List ℕ)
    rows = rows_of field summands came

    row : get_or rows k [] ≡ elements_of field (came summand)
    row = get_or-map (λ (s : Summand). elements_of field (came s)) summands k summand [] below ∙ ap (λ (s : Summand). elements_of field (came s)) here

    wide : length (get_or rows k []) ≡ width
    wide = ap length row ∙ length-elements_of field width (came summand) (long ∙ piece-width field)

    added : scale_row field summand.times (elements_of field (came summand)) ≡ scale_row field (get_or times k 0) (get_or rows k [])
    added =
        sym (ap (λ (t : ℕ). scale_row field t (get_or rows k [])) (get_or-map (λ (s : Summand). s.times) summands k summand 0 below ∙ ap (λ (s : Summand). s.times) here)
        ∙ ap (scale_row field summand.times) row)

-- all summands
pub summed-all : (field : FieldKind) (summands : List Summand) (came : Summand → List ℕ) (payload : List ℕ) → AreBytes payload
    → IsSummed field summands came (length summands) payload → payload ≡ total_of field summands came
summed-all field summands came payload bytes summed =
    sym (bytes_of_elements-elements_of field payload bytes (ap (λ (n : ℕ). n % bytes_of_element field) summed.width ∙ whole_piece field))
    ∙ ap (bytes_of_row field) (summed.sum ∙ ap (λ (ts : List ℕ). combination field (piece_width field) ts (take (length summands) (rows_of field summands came))) times ∙ ap (combination field (piece_width field) (coefficients_of summands)) rows)
  where
    times : take (length summands) (coefficients_of summands) ≡ coefficients_of summands
    times = take_all (length summands) (coefficients_of summands) (omega (arith, length-map summands (λ (s : Summand). s.times)))

    rows : take (length summands) (rows_of field summands came) ≡ rows_of field summands came
    rows = take_all (length summands) (rows_of field summands came) (omega (arith, length-map summands (λ (s : Summand). elements_of field (came s))))
