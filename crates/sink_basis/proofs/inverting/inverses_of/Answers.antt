use Rattle.std.proofs.Common.{length, subst}
use Rattle.std.proofs.lemmas.Result.{IfOk-weaker}
use Rattle.field_vectors.specs.Inverse.{IsSentToZero}
use Rattle.field_vectors.specs.Refusal.{IsRefusal}
use Rattle.sink_basis.proofs.InvertedLaws.{inverted-IsBasis}
use Rattle.sink_basis.proofs.inverting.inverses_of.Goals as goal
use Rattle.sink_basis.specs.Basis.{IsBasis}
use Rattle.sink_basis.specs.Renewal.{IsTransposed}

pub unreachable-requires : goal.unreachable-requires
unreachable-requires g c =
    let F = g.F.Field in
    let vectors = c.args.vectors.now in
    let block = c.in-Err-Singular.field-0-0 in
    let sent : IsSentToZero F.is_element F.zero F.add F.mul vectors block =
    subst (IsRefusal F.is_element F.zero F.add F.mul vectors) c.in-Err-Singular.field-0-is c.in-Err-Singular.ensures.refused
    in
    sent.nonzero.2 (c.requires.regular block sent.elements sent.size sent.to_zero sent.nonzero.0 F.zero sent.nonzero.1)

pub returns-in-Ok-clause-basis : goal.returns-in-Ok-clause-basis
returns-in-Ok-clause-basis g c =
    let F = g.F.Field in
    let vectors = c.args.vectors.now in
    IfOk-weaker c.transposed.result (IsTransposed F.is_element F.zero c.in-Ok.inverse) (IsBasis F.zero F.one F.add F.mul (length vectors.rows) vectors)
    (λ inverses turned. inverted-IsBasis g.met.F.Field.field vectors c.in-Ok.inverse inverses c.requires.square c.in-Ok.ensures.ok c.transposed.ensures.kept turned) c.transposed.ensures.transposed
