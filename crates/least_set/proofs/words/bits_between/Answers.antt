use Rattle.least_set.proofs.MaskLaws.{between_inside, between_is, between_outside}
use Rattle.least_set.proofs.words.bits_between.Goals as goal

pub overflow_sub-result-2 : goal.overflow_sub-result-2
overflow_sub-result-2 c = (between_is c.args.from c.args.to c.requires.order c.requires.within_word).1

pub returns-clause-inside : goal.returns-clause-inside
returns-clause-inside c = λ i above below. between_inside c.args.from c.args.to i c.requires.order c.requires.within_word above below

pub returns-clause-outside : goal.returns-clause-outside
returns-clause-outside c = λ i out. between_outside c.args.from c.args.to i c.requires.order c.requires.within_word out
