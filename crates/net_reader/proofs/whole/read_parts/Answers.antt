use Rattle.std.proofs.Common.{[]}
use Rattle.net_reader.proofs.whole.read_parts.Goals as goal

pub whole_of-requires : goal.whole_of-requires
whole_of-requires c =
    let said = c.in_ok-read_text.ensures [] c.new-state.ensures in
    (said.0, said.2)
