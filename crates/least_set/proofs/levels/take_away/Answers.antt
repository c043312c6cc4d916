-- The number's word has another number, and all words before it are as they were: they have none. Where the word has no other,
-- the levels above forget it.
use Rattle.std.proofs.Common.{refl, sym, ◌∙◌, ◌/◌, arith}
use Rattle.std.proofs.lemmas.Bool.{eqb-false, eqb-true}
use Rattle.least_set.specs.Members.{bit_of}
use Rattle.least_set.proofs.OverLaws.{tells_none, tells_some, told, within_words, word_least}
use Rattle.least_set.proofs.levels.take_away.Goals as goal

pub leave_word-requires-clause-set : goal.leave_word-requires-clause-set
leave_word-requires-clause-set c = told c.args.words.now (bit_of c.args.over_words.now) c.args.number c.requires.over.first c.requires.least.within

pub least_of-requires : goal.least_of-requires
least_of-requires c =
    let cleared = c.clear_bit.ensures in
    let left = c.leave_word.ensures in
    let over = c.requires.over in
    record {
      first = tells_none c.args.words.now c.clear_bit.new.words (bit_of c.args.over_words.now) (bit_of c.leave_word.new.over_words) (c.args.number / 64) over.first cleared.elsewhere left.bits.others
          (eqb-true _ 0 (sym cleared.value ∙ c.if-clear_bit.true)) left.bits.here;
      second = left.tells;
      room = omega (arith, over.room, cleared.bits.long, left.bits.long);
      few_words = omega (arith, over.few_words, cleared.bits.long);
      few_over = omega (arith, over.few_over, left.bits.long);
    }

pub returns-else-clear_bit-clause-over : goal.returns-else-clear_bit-clause-over
returns-else-clear_bit-clause-over c =
    let cleared = c.clear_bit.ensures in
    let over = c.requires.over in
    record {
      first = tells_some c.args.words.now c.clear_bit.new.words (bit_of c.args.over_words.now) (bit_of c.args.over_words.now) (c.args.number / 64) over.first cleared.elsewhere (λ other apart. refl)
          (eqb-false _ 0 (sym cleared.value ∙ c.if-clear_bit.false)) (told c.args.words.now (bit_of c.args.over_words.now) c.args.number over.first c.requires.least.within);
      second = over.second;
      room = omega (arith, over.room, cleared.bits.long);
      few_words = omega (arith, over.few_words, cleared.bits.long);
      few_over = over.few_over;
    }

pub returns-else-clear_bit-clause-least : goal.returns-else-clear_bit-clause-least
returns-else-clear_bit-clause-least c =
    let few = c.requires.over.few_words in
    let bits = c.clear_bit.ensures.bits in
    word_least c.clear_bit.new.words (c.args.number / 64) c.first_bit.result (omega (arith, few, bits.long)) (omega (arith, within_words c.args.words.now c.args.number c.requires.least.within, bits.long)) c.first_bit.ensures
    (λ other before. bits.others other (omega (arith, before)) ∙ c.requires.least.least other (omega (arith, before)))
