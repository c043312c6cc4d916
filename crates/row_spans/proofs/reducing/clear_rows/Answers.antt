use Rattle.std.proofs.Common.{map, ◌≡◌, ◌<◌, ◌≤◌, ◌++◌, List, ℕ, [], ap, arith, append-nil, drop, get_or, length, set, slice_index, sym, take, ◌∙◌}
use Rattle.std.proofs.lemmas.List.{drop_all, get_or-map, length-map, map-set, take_all}
use Rattle.std.proofs.lemmas.List.Edits.{map_over_more}
use Rattle.linear_algebra.specs.Elements.{elements_of}
use Rattle.linear_algebra.specs.Rows.{add_rows, scale_row}
use Rattle.field_rows.proofs.ElementLaws.{even_whole}
use Rattle.field_rows.proofs.PlainSums.{row_kept}
use Rattle.field_rows.specs.Widths.{rows_in}
use Rattle.row_spans.proofs.reducing.clear_rows.Goals as goal
use Rattle.row_spans.proofs.reducing.clear_rows.Goals.{then-by-ne0, else-by-ne0}

pub loop-row-preserved : goal.loop-row-preserved
loop-row-preserved g c =
    let field = c.args.field in
    let column = c.args.column in
    let lead = elements_of field c.args.lead.now in
    let clear : List ℕ → List ℕ = λ row. add_rows row (scale_row field (slice_index row column) lead) in
    let rows = c.loop-row.rows in
    let k = c.loop-row.row-index in
    let row = get_or rows k [] in
    let old = rows_in field c.args.rows.now in
    let inside : k < length rows = omega (arith, c.loop-row.auto.rows, c.loop-row-test.true) in
    let more = map_over_more clear old (rows_in field rows) k (elements_of field row) (omega (arith, length-map c.args.rows.now (elements_of field), c.loop-row-test.true)) c.loop-row.invariant
    (sym (get_or-map (elements_of field) rows k [] (elements_of field row) inside)) in
    elim c.if-by-ne0.branch [
      | then-by-ne0 w ↦
          let made : elements_of field w.add_scaled.new.into ≡ clear (elements_of field row) =
          w.add_scaled.ensures.sum ∙ ap (λ by. add_rows (elements_of field row) (scale_row field by lead)) c.element_at-by.ensures.value in
          ap (rows_in field) w.rows-is
          ∙ map-set (elements_of field) rows k w.add_scaled.new.into
          ∙ ap (set (rows_in field rows) k) made
          ∙ more
      | else-by-ne0 w ↦
          let same : elements_of field row ≡ clear (elements_of field row) =
          row_kept field row c.args.lead.now (omega arith) (even_whole field (length c.args.lead.now) (omega (arith, c.requires.even)))
          ∙ ap (λ by. add_rows (elements_of field row) (scale_row field by lead)) (sym w.if-by-ne0.false ∙ c.element_at-by.ensures.value) in
          ap (rows_in field) w.rows-is
          ∙ map-set (elements_of field) rows k row
          ∙ ap (set (rows_in field rows) k) same
          ∙ more
    ]

-- a function of all rows, where none are left
all_done : (f : List ℕ → List ℕ) (old now : List (List ℕ)) (k : ℕ) → length old ≤ k → now ≡ map f (take k old) ++ drop k old → now ≡ map f old
all_done f old now k all is = is ∙ ap (λ rest. map f (take k old) ++ rest) (drop_all k old all) ∙ append-nil (map f (take k old)) ∙ ap (map f) (take_all k old all)

pub returns : goal.returns
returns g c =
    let field = c.args.field in
    let lead = elements_of field c.args.lead.now in
    all_done (λ row. add_rows row (scale_row field (slice_index row c.args.column) lead)) (rows_in field c.args.rows.now) (rows_in field c.loop-row.rows) c.loop-row.row-index
    (omega (arith, length-map c.args.rows.now (elements_of field), c.loop-row-test.false)) c.loop-row.invariant
