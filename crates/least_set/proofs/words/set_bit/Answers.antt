use Rattle.least_set.proofs.WordLaws.{sets_bit}
use Rattle.least_set.proofs.words.set_bit.Goals as goal

pub returns-clause-bits : goal.returns-clause-bits
returns-clause-bits c = sets_bit c.args.words.now c.args.number c.requires
