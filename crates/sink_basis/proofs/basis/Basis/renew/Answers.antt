use Rattle.std.proofs.Common.{◌≡◌, ◌<◌, length, arith, ap, ◌∙◌, subst, sym}
use Rattle.std.proofs.lemmas.List.{length-set}
use Rattle.field_vectors.specs.Inverse.{OnlyZeroToZero}
use Rattle.sink_basis.specs.Basis.{IsBasis}
use Rattle.sink_basis.proofs.BasisLaws.{AreMatrices-numbered, numbered-AreMatrices, put-elements}
use Rattle.sink_basis.proofs.InvertedLaws.{replaced-regular}
use Rattle.sink_basis.proofs.basis.Basis.renew.Goals as goal

pub inverses_of-requires-clause-regular : goal.inverses_of-requires-clause-regular
inverses_of-requires-clause-regular g c =
    let F = g.F.Field in
    let old = c.args.self.now in
    let path = c.args.path in
    let v = c.args.vector.now in
    let put = c.in_ok-vectors.ensures in
    let matrices = numbered-AreMatrices g.met.F.Field.numbering old.vectors old.inverses old.matrices in
    let high : path < length old.vectors.rows = omega (arith, old.basis.vectors_high, c.requires.path) in
    let elements = put-elements F.is_element old.vectors c.in_ok-vectors.vectors path v put.value put.kept high in
    subst (OnlyZeroToZero F.is_element F.zero F.add F.mul) (sym put.value)
    (replaced-regular g.met.F.Field.field (length old.frontier) path v old.vectors old.inverses old.basis matrices.0 matrices.1 elements c.requires.path c.requires.width c.requires.nonzero)

pub invariant_of-self : goal.invariant_of-self
invariant_of-self g c =
    let F = g.F.Field in
    let N = g.met.F.Field.numbering in
    let old = c.args.self.now in
    let path = c.args.path in
    let v = c.args.vector.now in
    let vectors = c.in_ok-vectors.vectors in
    let inverses = c.in_ok-inverses.inverses in
    let size : length c.set.new.self ≡ length old.frontier = ap length c.set.ensures ∙ length-set old.frontier path _ in
    let high : length vectors.rows ≡ length old.frontier = ap (λ m. length m.rows) c.in_ok-vectors.ensures.value ∙ length-set old.vectors.rows path v ∙ old.basis.vectors_high in
    record {
      basis = subst (λ n. IsBasis F.zero F.one F.add F.mul n vectors inverses) (high ∙ sym size) c.in_ok-inverses.ensures.basis;
      matrices = AreMatrices-numbered N vectors inverses (c.in_ok-vectors.ensures.kept, c.in_ok-inverses.ensures.kept);
      few_paths = rw size old.few_paths;
    }
