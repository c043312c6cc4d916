use Rattle.sink_basis.proofs.BasisLaws.{numbered-AreMatrices}
use Rattle.lif_compiler.proofs.advancing.advance.Goals as goal

pub returns-clause-matrices : goal.returns-clause-matrices
returns-clause-matrices g c =
    let basis = c.advance.new.self in
    numbered-AreMatrices g.met.F.Field.numbering basis.vectors basis.inverses basis.matrices
