use Rattle.std.proofs.Common.{◌∙◌, arith}
use Rattle.least_set.proofs.MaskLaws.{added-all, added-more, some_eighths}
use Rattle.least_set.proofs.levels.add_eighths.Goals as goal

pub add_bits-over_all-requires-clause-some_bits : goal.add_bits-over_all-requires-clause-some_bits
add_bits-over_all-requires-clause-some_bits c =
    some_eighths c.loop-word.word c.args.first c.args.last c.eighths_of.result (omega arith) (omega arith) c.requires.order c.requires.step c.eighths_of.ensures

pub loop-word-preserved : goal.loop-word-preserved
loop-word-preserved c = record {
  added = added-more c.args.first c.args.last c.loop-word.word c.eighths_of.result c.args.words.now c.loop-word.words c.add_bits-over_all.new.words
      c.loop-word.invariant.added c.add_bits-over_all.ensures.bits c.eighths_of.ensures;
  over = c.add_bits-over_all.ensures.over;
  long = c.add_bits-over_all.ensures.long ∙ c.loop-word.invariant.long;
}

pub returns-clause-bits : goal.returns-clause-bits
returns-clause-bits c =
    let all = added-all c.args.first c.args.last c.loop-word.word c.args.words.now c.loop-word.words (omega arith) c.loop-word.invariant.added in
    record { here = all.0; others = all.1; long = c.loop-word.invariant.added.long }
