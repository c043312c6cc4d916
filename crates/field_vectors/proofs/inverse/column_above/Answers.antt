use Rattle.std.proofs.Common.{ℕ, [], ◌∷◌, ◌++◌, arith, ap, ◌∙◌, sym, map}
use Rattle.std.proofs.lemmas.List.FromFn.{map-range_with_len_more}
use Rattle.std.proofs.lemmas.Slice.{pushed}
use Rattle.std.specs.List.{range_with_len}
use Rattle.field_vectors.specs.Grid.{entry_of}
use Rattle.field_vectors.proofs.inverse.column_above.Goals as goal

pub loop-i-preserved : goal.loop-i-preserved
loop-i-preserved g c =
    let i = c.loop-i.i in
    let f = λ (i : ℕ). entry_of g.F.Field.zero c.args.work.now i c.args.k in
    pushed (c.at.result ∷ []) c.loop-i.invariant c.in_ok-push.was c.push.ensures.items
    ∙ ap (λ x. map f (range_with_len 0 i) ++ x ∷ []) c.at.ensures.value ∙ sym (map-range_with_len_more f 0 i i (omega arith))
