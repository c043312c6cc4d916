-- What `send` is given, beside an accepted code: a pattern, a source, and paths to write to.
use Rattle.std.specs.Prelude.{◌≡◌, ℕ, List, [], ◌∷◌, length, Option, None, IsSome, unwrap_or}
use Rattle.generation_frame.specs.Blocks.{block_count}
use Rattle.node_program.specs.declared.code.Code.{Code}
use Rattle.top_base.specs.Lines.{sent_line}
use Rattle.top_base.specs.Named.{pattern_named}
use Rattle.top_base.specs.Paths.{output_paths, shared_path}
use Rattle.top_base.specs.Words.{Send}
use Rattle.source_delivery.specs.Turns.{one_each}
use Rattle.top_runs.specs.Sending.{Sending}

-- the number of the pattern that is named
abbrev pub pattern_of : Send → Code → Option ℕ
pattern_of send code = pattern_named code.net send.pattern

-- that number, where the pattern is known
abbrev pub pattern_in : Send → Code → ℕ
pattern_in send code = unwrap_or (pattern_of send code) 0

-- the paths of the sinks' files, in order
abbrev pub outputs_of : Send → Code → List (List ℕ)
outputs_of send code = output_paths send.prefix code.net

-- how it is sent: one file for each sink
abbrev pub sending_of : Send → Code → Sending
sending_of send code = record { pattern = pattern_in send code; seed = send.seed; outputs = one_each (outputs_of send code) }

-- the first path of an output that is that of an input or of another output
abbrev pub shared_of : Send → Code → Option (List ℕ)
shared_of send code = shared_path (send.code ∷ send.source ∷ []) (outputs_of send code)

-- the pattern is known, and no path is shared
pub record IsClear (send : Send) (code : Code) : Type 0 where
  pub known : IsSome (pattern_of send code)
  pub apart : shared_of send code ≡ None

-- the line of a source that was sent
abbrev pub line_of_sent : Code → List ℕ → List ℕ
line_of_sent code source = sent_line (length source) (block_count source code.rate) (length code.net.sinks)
