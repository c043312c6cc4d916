use Rattle.std.proofs.Common.{◌≢◌, ◌∙◌, slice_index_or, sym}
use Rattle.std.proofs.lemmas.Bool.{eqb-false}
use Rattle.least_set.proofs.MaskLaws.{some_set}
use Rattle.least_set.proofs.OverLaws.{over_more, over_word}
use Rattle.least_set.proofs.levels.add_bits.Goals as goal
use Rattle.least_set.proofs.levels.add_bits.Goals.{After-set_bits}

-- the word has a bit then
some : (c : After-set_bits) → slice_index_or c.set_bits.new.words c.args.word 0 ≢ 0
some c none = some_set _ c.args.bits c.requires.some_bits (sym c.set_bits.ensures.bits.here ∙ none)

pub returns-then-set_bits-clause-over : goal.returns-then-set_bits-clause-over
returns-then-set_bits-clause-over c =
    let bits = c.set_bits.ensures.bits in
    over_word c.args.words.now c.set_bits.new.words c.args.over_words.now c.set_bit.new.words c.args.over_all c.args.word c.requires.over c.requires.within bits.long bits.elsewhere
    (some (goal.at.returns-then-set_bits-clause-over c).After-set_bits) c.set_bit.ensures.bits c.set_bit.ensures.elsewhere

pub returns-else-set_bits-clause-over : goal.returns-else-set_bits-clause-over
returns-else-set_bits-clause-over c =
    let bits = c.set_bits.ensures.bits in
    over_more c.args.words.now c.set_bits.new.words c.args.over_words.now c.args.over_all c.args.word c.requires.over bits.long bits.elsewhere
    (eqb-false _ 0 (sym c.if-set_bits.ensures.value)) (some (goal.at.returns-else-set_bits-clause-over c).After-set_bits)
