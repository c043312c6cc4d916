use Rattle.std.specs.Prelude.{slice_index_or}
use Rattle.std.proofs.Common.{refl, sym, ◌∙◌, ◌<◌, ◌/◌, ◌%◌, arith}
use Rattle.std.proofs.lemmas.Bool.{eqb-false, eqb-true}
use Rattle.std.proofs.lemmas.Nat.Bits.{bit_at_clear_same}
use Rattle.std.specs.Int.{bit_at, w64}
use Rattle.least_set.proofs.OverLaws.{min_some, tells_none, tells_some}
use Rattle.least_set.proofs.WordLaws.{clear_other, some_from_bit}
use Rattle.least_set.proofs.words.leave_word.Goals as goal

pub returns-then-clear_bit-clause-tells : goal.returns-then-clear_bit-clause-tells
returns-then-clear_bit-clause-tells c =
    let low : c.args.word / 64 < 64 = omega (arith, c.requires.within, c.requires.few_words) in
    tells_none c.args.over_words.now c.clear_bit.new.words (bit_at c.args.over_all) _ (c.args.word / 64) c.requires.tells c.clear_bit.ensures.elsewhere
    (clear_other c.args.over_all (c.args.word / 64) c.ranges.over_all.fits low) (eqb-true _ 0 (sym c.if-clear_bit.ensures.value)) (bit_at_clear_same w64 c.args.over_all (c.args.word / 64) low)

pub returns-else-clear_bit-clause-tells : goal.returns-else-clear_bit-clause-tells
returns-else-clear_bit-clause-tells c =
    let some = some_from_bit (slice_index_or c.args.over_words.now (c.args.word / 64) 0) (c.args.word % 64) c.requires.set in
    tells_some c.args.over_words.now c.clear_bit.new.words (bit_at c.args.over_all) _ (c.args.word / 64) c.requires.tells c.clear_bit.ensures.elsewhere (λ other apart. refl)
    (eqb-false _ 0 (sym c.if-clear_bit.ensures.value)) (c.requires.tells (c.args.word / 64) ∙ sym (min_some _ some))
