-- A vector that is the path's already changes no matrix.
use Rattle.std.proofs.Common.{◌≡◌, ◌<◌, List, [], false, length, not, slice_set, true, arith, ap, refl, sym, ◌∙◌}
use Rattle.std.proofs.lemmas.Bool.{not-false}
use Rattle.std.proofs.lemmas.List.{length-set, set-get_or}
use Rattle.std.proofs.lemmas.Slice.Eq.{slice_eq-Decides}
use Rattle.field_vectors.specs.Grid.{Grid, row_of}
use Rattle.sink_basis.proofs.BasisLaws.{AreMatrices-numbered, numbered-AreMatrices, put-elements, renewed-IsBasis}
use Rattle.sink_basis.proofs.basis.Basis.advance.Goals.{else-ne, then-ne}
use Rattle.sink_basis.proofs.basis.Basis.advance.Goals as goal

pub invariant_of-self : goal.invariant_of-self
invariant_of-self g c =
    let F = g.F.Field in
    let N = g.met.F.Field.numbering in
    let old = c.args.self.now in
    let path = c.args.path in
    let v = c.args.vector.now in
    let size : length c.set.new.self ≡ length old.frontier = ap length c.set.ensures ∙ length-set old.frontier path _ in
    elim c.if-ne.branch [
      | then-ne w ↦
          (let matrices = numbered-AreMatrices N old.vectors old.inverses old.matrices in
          let high : path < length old.vectors.rows = omega (arith, old.basis.vectors_high, c.requires.path) in
          let put = w.put_row.ensures.value in
          let elements = put-elements F.is_element old.vectors w.put_row.new.self path v put w.put_row.ensures.kept.1 high in
          let made =
          renewed-IsBasis g.met.F.Field.field (length old.frontier) path v old.vectors old.inverses w.renew_inverses.new.inverses old.basis matrices.0 matrices.1
          elements c.requires.path c.requires.width c.requires.nonzero w.renew_inverses.ensures.renewed
          in
          let vectors = ap (λ it. it.1.1.0) w.self-is in
          let inverses = ap (λ it. it.1.1.1.0) w.self-is in
          record {
            basis = rw (vectors, inverses, put, size) made;
            matrices = rw (vectors, inverses) (AreMatrices-numbered N _ _ (w.put_row.ensures.kept.1, w.renew_inverses.ensures.renewed.kept));
            few_paths = rw size old.few_paths;
          })
      | else-ne w ↦
          (let vectors = ap (λ it. it.1.1.0) w.self-is in
          let inverses = ap (λ it. it.1.1.1.0) w.self-is in
          record { basis = rw (vectors, inverses, size) old.basis; matrices = rw (vectors, inverses) old.matrices; few_paths = rw size old.few_paths })
    ]

pub returns-clause-vectors : goal.returns-clause-vectors
returns-clause-vectors g c =
    let old = c.args.self.now.vectors in
    let path = c.args.path in
    let v = c.args.vector.now in
    elim c.if-ne.branch [
      | then-ne w ↦ ap (λ it. it.1.1.0) w.self-is ∙ w.put_row.ensures.value
      | else-ne w ↦
          (let same : row_of old path ≡ v = sym c.row.ensures.value ∙ (slice_eq-Decides g.met.F.Field.equal c.row.result.now v _ refl).0 (not-false _ (sym c.ne.ensures ∙ w.if-ne.false)) in
          let grid = λ (rows : List (List g.row.F.Denot)). let m : Grid g.row.F.Denot = record { columns = old.columns; rows = rows } in m in
          ap (λ it. it.1.1.0) w.self-is ∙ ap grid (sym (set-get_or old.rows path []) ∙ ap (slice_set old.rows path) same))
    ]

pub returns-clause-same_vector : goal.returns-clause-same_vector
returns-clause-same_vector g c = λ same.
    elim c.if-ne.branch [
      | then-ne w ↦
          (let equal = (slice_eq-Decides g.met.F.Field.equal c.row.result.now c.args.vector.now _ refl).1 (c.row.ensures.value ∙ same) in
          let both : true ≡ false = sym w.if-ne.true ∙ c.ne.ensures ∙ ap not equal in
          cc)
      | else-ne w ↦ omega (arith, w.steps-is)
    ]

pub returns-clause-new_vector : goal.returns-clause-new_vector
returns-clause-new_vector g c = λ other.
    elim c.if-ne.branch [
      | then-ne w ↦ w.steps-is ∙ w.renew_inverses.ensures.ticks
      | else-ne w ↦
          (let same = sym c.row.ensures.value ∙ (slice_eq-Decides g.met.F.Field.equal c.row.result.now c.args.vector.now _ refl).0 (not-false _ (sym c.ne.ensures ∙ w.if-ne.false)) in
          absurd (other same))
    ]
