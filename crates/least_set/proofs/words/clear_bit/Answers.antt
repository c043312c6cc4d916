use Rattle.least_set.proofs.WordLaws.{clears_bit}
use Rattle.least_set.proofs.words.clear_bit.Goals as goal

pub returns-clause-bits : goal.returns-clause-bits
returns-clause-bits c = clears_bit c.args.words.now c.args.number c.requires
