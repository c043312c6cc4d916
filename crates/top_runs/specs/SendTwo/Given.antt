-- What `sendtwo` is given, beside an accepted code: a pattern, the rows of the first of two sources, the sources, and paths to write to.
use Rattle.std.specs.Prelude.{◌≡◌, ◌≤◌, ◌<◌, ◌-◌, ℕ, List, [], ◌∷◌, length, Option, None, IsSome, unwrap_or}
use Rattle.node_program.specs.declared.code.Code.{Code}
use Rattle.source_delivery.specs.Reading.{Source}
use Rattle.source_delivery.specs.Twin.{twin_count}
use Rattle.source_delivery.specs.declared.parts.Parts.TheVariants.{Two}
use Rattle.top_base.specs.Lines.{sent_both_line}
use Rattle.top_base.specs.Named.{pattern_named}
use Rattle.top_base.specs.Paths.{both_paths, shared_path}
use Rattle.top_base.specs.Words.{SendTwo}
use Rattle.top_runs.specs.Sending.{Sending}

-- the number of the pattern that is named
abbrev pub pattern_of : SendTwo → Code → Option ℕ
pattern_of send code = pattern_named code.net send.pattern

-- that number, where the pattern is known
abbrev pub pattern_in : SendTwo → Code → ℕ
pattern_in send code = unwrap_or (pattern_of send code) 0

-- R1 leaves each source some rows of the code's blocks
pub record IsFit (send : SendTwo) (code : Code) : Type 0 where
  pub some : 1 ≤ send.first_rate
  pub less : send.first_rate < code.rate

-- the sources: the first has R1 rows of each block, and the second has the others
abbrev pub first_of : SendTwo → Source
first_of send = record { path = send.first; rate = send.first_rate }

abbrev pub second_of : SendTwo → Code → Source
second_of send code = record { path = send.second; rate = code.rate - send.first_rate }

-- the paths of the sinks' files, in order: two for each sink
abbrev pub outputs_of : SendTwo → Code → List (List ℕ)
outputs_of send code = both_paths send.prefix code.net

-- how they are sent: of each sink's two files one is of the first source
abbrev pub sending_of : SendTwo → Code → Sending
sending_of send code =
    record { pattern = pattern_in send code; seed = send.seed; outputs = record { paths = outputs_of send code; parts = Two send.first_rate } }

-- the first path of an output that is that of an input or of another output
abbrev pub shared_of : SendTwo → Code → Option (List ℕ)
shared_of send code = shared_path (send.code ∷ send.first ∷ send.second ∷ []) (outputs_of send code)

-- the pattern is known, R1 is fit, and no path is shared
pub record IsClear (send : SendTwo) (code : Code) : Type 0 where
  pub known : IsSome (pattern_of send code)
  pub fit : IsFit send code
  pub apart : shared_of send code ≡ None

-- how many blocks two sources have
abbrev pub count_of : SendTwo → Code → List ℕ → List ℕ → ℕ
count_of send code one two = twin_count send.first_rate (code.rate - send.first_rate) one two

-- the line of two sources that were sent
abbrev pub line_of_sent : SendTwo → Code → List ℕ → List ℕ → List ℕ
line_of_sent send code one two = sent_both_line (length one) (length two) (count_of send code one two) (length code.net.sinks)
