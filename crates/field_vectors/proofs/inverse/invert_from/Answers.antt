use Rattle.field_vectors.proofs.EliminationLaws.{one_not_nought}
use Rattle.field_vectors.proofs.InverseLaws.{half-IsInverse, only_zero, stuck-IsSentToZero}
use Rattle.field_vectors.proofs.inverse.invert_from.Goals as goal

pub returns-in-None-clause-ok : goal.returns-in-None-clause-ok
returns-in-None-clause-ok g c =
    half-IsInverse g.met.F.Field.field c.args.a.now c.in_ok-work.work c.reduce.new.work c.in_ok-half-in-None.half c.beside_identity.ensures.kept c.requires.square c.in_ok-work.ensures.beside c.reduce.ensures.step
    c.in-None.ensures.none c.in_ok-half-in-None.ensures

pub returns-in-None-clause-regular : goal.returns-in-None-clause-regular
returns-in-None-clause-regular g c =
    only_zero g.met.F.Field.field c.args.a.now c.in_ok-work.work c.reduce.new.work c.in_ok-half-in-None.half c.beside_identity.ensures.kept c.requires.square c.in_ok-work.ensures.beside c.reduce.ensures.step
    c.in-None.ensures.none c.in_ok-half-in-None.ensures

pub returns-clause-refused : goal.returns-clause-refused
returns-clause-refused g c =
    let s = c.in-Some.ensures.some in
    rw c.in_ok-block-in-Some.ensures
    (stuck-IsSentToZero g.met.F.Field.field c.args.a.now c.in_ok-work.work c.reduce.new.work c.in-Some.k c.beside_identity.ensures.kept c.requires.square c.in_ok-work.ensures.beside c.reduce.ensures.step
    s.0 s.1 s.2 (one_not_nought g.met.F.Field.numbering))
