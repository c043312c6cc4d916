-- The names of refusals, and their lines.
use Rattle.std.specs.Prelude.{ℕ, List, Option, Some, None, codes}
use Rattle.net_reader.specs.declared.refusal.ReadRefusal.{ReadRefusal}
use Rattle.net_reader.specs.declared.refusal.ReadRefusal.TheVariants.{BadByte, BadLine, BadName, DuplicateLink, DuplicatePattern, DuplicateSink, SecondSource, SelfLoop, UnknownLink, RepeatedLink, SecondField, TooMany, SecondRate, SecondFailEach, NoSource, NoSink, SinkIsSource, PatternNamed, TooManyPatterns, OutOfMemory}
use Rattle.net_reader.specs.declared.refusal.What.{What}
use Rattle.net_reader.specs.declared.refusal.What.TheVariants.{Nodes, Links, Patterns, Members}

abbrev pub refusal_name : ReadRefusal → List ℕ
refusal_name (BadByte line) = codes "BadByte"
refusal_name (BadLine line) = codes "BadLine"
refusal_name (BadName line) = codes "BadName"
refusal_name (DuplicateLink line) = codes "DuplicateLink"
refusal_name (DuplicatePattern line) = codes "DuplicatePattern"
refusal_name (DuplicateSink line) = codes "DuplicateSink"
refusal_name (SecondSource line) = codes "SecondSource"
refusal_name (SelfLoop line) = codes "SelfLoop"
refusal_name (UnknownLink line) = codes "UnknownLink"
refusal_name (RepeatedLink line) = codes "RepeatedLink"
refusal_name (SecondField line) = codes "SecondField"
refusal_name (TooMany line what) = codes "TooMany"
refusal_name (SecondRate line) = codes "SecondRate"
refusal_name (SecondFailEach line) = codes "SecondFailEach"
refusal_name NoSource = codes "NoSource"
refusal_name NoSink = codes "NoSink"
refusal_name (SinkIsSource sink) = codes "SinkIsSource"
refusal_name (PatternNamed link) = codes "PatternNamed"
refusal_name (TooManyPatterns count) = codes "TooManyPatterns"
refusal_name OutOfMemory = codes "OutOfMemory"

-- the line that it is of, if it is of one
abbrev pub refusal_line : ReadRefusal → Option ℕ
refusal_line (BadByte line) = Some line
refusal_line (BadLine line) = Some line
refusal_line (BadName line) = Some line
refusal_line (DuplicateLink line) = Some line
refusal_line (DuplicatePattern line) = Some line
refusal_line (DuplicateSink line) = Some line
refusal_line (SecondSource line) = Some line
refusal_line (SelfLoop line) = Some line
refusal_line (UnknownLink line) = Some line
refusal_line (RepeatedLink line) = Some line
refusal_line (SecondField line) = Some line
refusal_line (TooMany line what) = Some line
refusal_line (SecondRate line) = Some line
refusal_line (SecondFailEach line) = Some line
refusal_line NoSource = None
refusal_line NoSink = None
refusal_line (SinkIsSource sink) = None
refusal_line (PatternNamed link) = None
refusal_line (TooManyPatterns count) = None
refusal_line OutOfMemory = None

-- of what there are too many
abbrev pub what_name : What → List ℕ
what_name Nodes = codes "Nodes"
what_name Links = codes "Links"
what_name Patterns = codes "Patterns"
what_name Members = codes "Members"
