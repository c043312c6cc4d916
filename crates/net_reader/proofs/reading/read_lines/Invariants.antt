use Rattle.std.proofs.Common.{◌≡◌, ◌+◌, List, drop}
use Rattle.net_reader.specs.State.{AreTables, with_lines}
use Rattle.net_reader.specs.Statements.{Statement}
use Rattle.net_reader.specs.Text.{read_lines}
use Rattle.net_reader.specs.Words.{texts_of}
use Rattle.net_reader.proofs.reading.read_lines.Given as goal

-- the state has the tables of what the lines so far said, and what all lines say is what the others say after that
abbrev pub invariant-loop-i : goal.invariant-loop-i
invariant-loop-i l =
    (earlier : List Statement) → AreTables earlier l.initial.state
    → (said : List Statement) × (with_lines (texts_of l.lines) earlier ≡ read_lines said (l.i + 1) (texts_of (drop l.i l.lines))) × AreTables said l.state
