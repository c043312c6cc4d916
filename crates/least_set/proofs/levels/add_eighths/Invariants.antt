use Rattle.std.proofs.Common.{◌≡◌, length}
use Rattle.least_set.specs.Members.{IsOver}
use Rattle.least_set.proofs.MaskLaws.{Added}
use Rattle.least_set.proofs.levels.add_eighths.Given as goal

-- the numbers of the words before this one were added
abbrev pub invariant-loop-word : goal.invariant-loop-word
invariant-loop-word l = record {
  added : Added l.first l.last l.word l.initial.words l.words;
  over : IsOver l.words l.over_words l.over_all;
  long : length l.over_words ≡ length l.initial.over_words;
}
