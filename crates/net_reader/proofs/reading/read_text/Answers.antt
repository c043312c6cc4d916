use Rattle.std.proofs.Common.{◌≡◌, ap, ◌∙◌}
use Rattle.net_reader.specs.Lines.{lines_of}
use Rattle.net_reader.specs.Words.{texts_of}
use Rattle.net_reader.proofs.reading.read_text.Goals as goal

pub returns : goal.returns
returns c = λ earlier tables.
    let lines : texts_of c.deref.result.now ≡ lines_of c.args.text.now = ap texts_of c.deref.ensures.value ∙ c.in_ok-lines.ensures in
    rw (← lines) (c.read_lines.ensures earlier tables)
