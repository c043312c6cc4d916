use Rattle.std.proofs.Common.{◌≡◌, ◌≢◌, ◌/◌, ◌%◌}
use Rattle.least_set.proofs.MaskLaws.{are_eighths}
use Rattle.least_set.proofs.words.eighths_of.Goals.{else-word-first, else-word-last, then-word-first, then-word-last}
use Rattle.least_set.proofs.words.eighths_of.Goals as goal

pub returns : goal.returns
returns c =
    are_eighths c.args.word c.args.first c.args.last c.if-word-first.from c.if-word-last.to c.bits_between.result c.requires.first c.requires.last c.requires.order c.requires.step
    from_first from_start to_last to_end c.bits_between.ensures.inside c.bits_between.ensures.outside
  where
    from_first : c.args.word ≡ c.args.first / 64 → c.if-word-first.from ≡ c.args.first % 64
    from_first same = elim c.if-word-first.branch [
      | then-word-first w ↦ w.from-is
      | else-word-first w ↦ absurd (w.if-word-first.false same)
    ]

    from_start : c.args.word ≢ c.args.first / 64 → c.if-word-first.from ≡ 0
    from_start differs = elim c.if-word-first.branch [
      | then-word-first w ↦ absurd (differs w.if-word-first.true)
      | else-word-first w ↦ w.from-is
    ]

    to_last : c.args.word ≡ c.args.last / 64 → c.if-word-last.to ≡ c.args.last % 64
    to_last same = elim c.if-word-last.branch [
      | then-word-last w ↦ w.to-is
      | else-word-last w ↦ absurd (w.if-word-last.false same)
    ]

    to_end : c.args.word ≢ c.args.last / 64 → c.if-word-last.to ≡ 63
    to_end differs = elim c.if-word-last.branch [
      | then-word-last w ↦ absurd (differs w.if-word-last.true)
      | else-word-last w ↦ w.to-is
    ]
