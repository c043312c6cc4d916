use Rattle.std.proofs.lemmas.Iterator.Consumers.{map_from_collect, YieldsList-from_filter}
use Rattle.std.proofs.lemmas.Iterator.Splits.{YieldsList-from_slice_split}
use Rattle.std.specs.List.{slice_split}
use Rattle.std.proofs.Common.{rules, tests, ◌==◌, ◌||◌, not, length}
use Rattle.net_reader.proofs.Texts.{filter_not_empty}
use Rattle.net_reader.proofs.lines.words_of.Goals as goal

pub returns : goal.returns
returns c = rw (← filter_not_empty (slice_split (λ byte. (byte == 32) || (byte == 9)) c.args.content.now)) (map_from_collect _ c.collect.ensures.ran
    (YieldsList-from_filter _ (λ word. not (length word == 0)) (YieldsList-from_slice_split _ (λ byte. (byte == 32) || (byte == 9)) c.args.content.now (cc) (cc) (cc) (λ x r q k. search (rules, tests))) c.filter.ensures.closure (λ x r q k. search (rules, tests))))
