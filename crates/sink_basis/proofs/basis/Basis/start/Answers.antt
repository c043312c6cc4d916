use Rattle.std.proofs.Common.{◌≡◌, length, None, ap, ◌∙◌, sym, subst}
use Rattle.std.proofs.lemmas.List.{length-replicate}
use Rattle.sink_basis.specs.Basis.{IsBasis}
use Rattle.sink_basis.proofs.BasisLaws.{AreMatrices-numbered, identity-IsBasis}
use Rattle.sink_basis.proofs.basis.Basis.start.Goals as goal

pub invariant_of-result : goal.invariant_of-result
invariant_of-result g c =
    let F = g.F.Field in
    let vectors = c.in_ok-vectors.vectors in
    let inverses = c.in_ok-inverses.inverses in
    let size : length c.in_ok-frontier.frontier ≡ c.args.h = ap length c.in_ok-frontier.ensures ∙ length-replicate c.args.h None in
    record {
      basis = subst (λ n. IsBasis F.zero F.one F.add F.mul n vectors inverses) (sym size)
          (identity-IsBasis g.met.F.Field.field vectors inverses c.args.h c.in_ok-vectors.ensures.columns c.in_ok-inverses.ensures.columns c.in_ok-vectors.ensures.rows c.in_ok-inverses.ensures.rows);
      matrices = AreMatrices-numbered g.met.F.Field.numbering vectors inverses (c.in_ok-vectors.ensures.kept, c.in_ok-inverses.ensures.kept);
      few_paths = rw size c.requires.low_rate;
    }
