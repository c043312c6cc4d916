use Rattle.std.proofs.Common.{◌≡◌, ℕ, [], ◌∷◌, ◌++◌, length, arith, ap, ◌∙◌, sym, map}
use Rattle.std.proofs.lemmas.List.FromFn.{fill_by_all, map-range_with_len_more}
use Rattle.std.proofs.lemmas.Slice.{pushed}
use Rattle.std.specs.List.{range_with_len}
use Rattle.field_vectors.proofs.DifferenceLaws.{get_or-column_of, length-column_of}
use Rattle.field_vectors.specs.Elements.{column_of}
use Rattle.field_vectors.specs.Grid.{entry_of}
use Rattle.sink_basis.proofs.inverting.column.Goals as goal

pub loop-i-preserved : goal.loop-i-preserved
loop-i-preserved g c =
    let i = c.loop-i.i in
    let f = λ (i : ℕ). entry_of g.F.Field.zero c.args.matrix.now i c.args.k in
    pushed (c.at.result ∷ []) c.loop-i.invariant c.in_ok-push.was c.push.ensures.items
    ∙ ap (λ x. map f (range_with_len 0 i) ++ x ∷ []) c.at.ensures.value ∙ sym (map-range_with_len_more f 0 i i (omega arith))

pub returns : goal.returns
returns g c =
    let zero = g.F.Field.zero in
    let rows = c.args.matrix.now.rows in
    let k = c.args.k in
    let f = λ (i : ℕ). entry_of zero c.args.matrix.now i k in
    let all : c.loop-i.i ≡ length rows = omega arith in
    c.loop-i.invariant ∙ ap (λ n. map f (range_with_len 0 n)) all
    ∙ sym (fill_by_all f (column_of zero k rows) (length rows) zero (length-column_of zero rows k) (λ i below. get_or-column_of zero rows i k below))
