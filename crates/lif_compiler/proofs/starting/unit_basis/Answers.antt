use Rattle.sink_basis.proofs.BasisLaws.{numbered-AreMatrices}
use Rattle.lif_compiler.proofs.starting.unit_basis.Goals as goal

pub returns-clause-matrices : goal.returns-clause-matrices
returns-clause-matrices g c =
    let basis = c.in_ok-basis.basis in
    numbered-AreMatrices g.met.F.Field.numbering basis.vectors basis.inverses basis.matrices
