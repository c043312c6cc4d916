use Rattle.least_set.proofs.WordLaws.{is_first_bit}
use Rattle.least_set.proofs.words.first_bit.Goals as goal

pub returns : goal.returns
returns c = is_first_bit c.args.words.now c.args.word c.first_of.result c.first_of.ensures.within_word c.first_of.ensures.set c.first_of.ensures.before
