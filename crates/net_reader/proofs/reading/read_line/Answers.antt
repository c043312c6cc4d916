use Rattle.std.proofs.Common.{◌≡◌, true, ap, ◌∙◌, rules, tests}
use Rattle.std.specs.List.{list_all}
use Rattle.net_reader.specs.Lines.{content_of, is_text, words_of}
use Rattle.net_reader.specs.Words.{texts_of}
use Rattle.net_reader.proofs.EachLine.{line_read}
use Rattle.net_reader.proofs.reading.read_line.Goals as goal

pub returns : goal.returns
returns c = λ earlier tables.
    let text : list_all is_text (content_of c.args.bytes.now) ≡ true = search (rules, tests) in
    let words : texts_of c.deref.result.now ≡ words_of (content_of c.args.bytes.now) = ap texts_of c.deref.ensures.value ∙ c.in_ok-words.ensures ∙ ap words_of c.content_of-content.ensures in
    rw (line_read earlier c.args.line c.args.bytes.now _ text words) (c.read_words.ensures earlier tables)
