use Rattle.std.proofs.Common.{◌%◌, arith, sym}
use Rattle.std.proofs.lemmas.Bool.{eqb-false}
use Rattle.least_set.proofs.OverLaws.{over_more, over_word}
use Rattle.least_set.proofs.WordLaws.{some_from_bit}
use Rattle.least_set.proofs.levels.add.Goals as goal

pub returns-then-set_bit-clause-over : goal.returns-then-set_bit-clause-over
returns-then-set_bit-clause-over c =
    let bits = c.set_bit.ensures.bits in
    over_word c.args.words.now c.set_bit.new.words c.args.over_words.now c.set_bit-then-set_bit.new.words c.args.over_all _ c.requires.over (omega (arith, c.requires.within)) bits.long
    c.set_bit.ensures.elsewhere (some_from_bit _ (c.args.number % 64) bits.here) c.set_bit-then-set_bit.ensures.bits c.set_bit-then-set_bit.ensures.elsewhere

pub returns-else-set_bit-clause-over : goal.returns-else-set_bit-clause-over
returns-else-set_bit-clause-over c =
    let bits = c.set_bit.ensures.bits in
    over_more c.args.words.now c.set_bit.new.words c.args.over_words.now c.args.over_all _ c.requires.over bits.long c.set_bit.ensures.elsewhere
    (eqb-false _ 0 (sym c.if-set_bit.ensures.value)) (some_from_bit _ (c.args.number % 64) bits.here)
