-- The command `blind`: the blocks of a source go as headed frames over the links of a code where some fail, and each sink whose vectors
-- have the rank of the code decodes them, by the vectors alone.
use Rattle.std.specs.Prelude.{◌==◌, ◌++◌, ◌∷◌, ℕ, nat_lt, if◌then◌else◌, List, [], Option, filter, find, flat_map, is_none, length, map}
use Rattle.std.specs.List.{list_any, range_with_len}
use Rattle.std.specs.Option.{option_map, option_or}
use Rattle.std.specs.Str.{bytes_eq}
use Rattle.code_file.specs.Items.{IsFileOf}
use Rattle.code_file.specs.Limits.{code_limit}
use Rattle.command_steps.specs.Feeding.{feeds}
use Rattle.command_steps.specs.Steps.{or_refuses, reads_then}
use Rattle.generation_frame.specs.Blocks.{block_count}
use Rattle.lif_outside.specs.FileCalls.{Written}
use Rattle.name_texts.specs.Names.{link_name, node_name}
use Rattle.net_model.specs.declared.net.Net.{Net}
use Rattle.node_program.specs.declared.code.Code.{Code}
use Rattle.source_turns.specs.Turns.{Job, feed_turns}
use Rattle.top_base.specs.CodeFiles.{RefusesFile}
use Rattle.top_base.specs.Lines.{rank_line, sent_line, unknown_link_line}
use Rattle.top_base.specs.Making.{shares}
use Rattle.top_base.specs.Named.{link_named}
use Rattle.top_base.specs.Paths.{dotted_path, output_paths, shared_path}
use Rattle.top_base.specs.Performs.{Behaviour}
use Rattle.top_base.specs.Words.{Blind, source_limit}
use Rattle.top_base.specs.declared.outcome.Outcome.{Outcome}
use Rattle.top_base.specs.declared.status.Status.TheVariants.{UnknownLink}
use Rattle.vector_headers.specs.Receiving.{rank_into}

-- ---- what fails

-- the links that words name, each once, in order
abbrev pub links_named : Net → List (List ℕ) → List ℕ
links_named net words = filter (λ link. list_any (bytes_eq (link_name net link)) words) (range_with_len 0 (length net.links))

abbrev pub failed_in : Blind → Code → List ℕ
failed_in given code = links_named code.net given.links

-- the first word that is no link's name
abbrev pub unknown_among : Net → List (List ℕ) → Option (List ℕ)
unknown_among net words = find (λ word. is_none (link_named net word)) words

-- ---- what words decline beside a code: such a word, or a path that is shared, over the files of all sinks

abbrev pub unknown_link : List ℕ → Outcome
unknown_link word = record { status = UnknownLink; line = unknown_link_line word }

abbrev pub declined : Blind → Code → Option Outcome
declined given code =
    option_or (option_map unknown_link (unknown_among code.net given.links))
    (option_map shares (shared_path (given.code ∷ given.source ∷ []) (output_paths given.prefix code.net)))

-- ---- the sinks

-- those of some sinks that have the rank of the code where links fail, and the paths of their files
abbrev pub whole_among : Code → List ℕ → List ℕ → List ℕ
whole_among code failed sinks = filter (λ sink. rank_into code failed sink == code.rate) sinks

abbrev pub paths_among : List ℕ → Code → List ℕ → List ℕ → List (List ℕ)
paths_among prefix code failed sinks = map (λ sink. dotted_path prefix (node_name code.net sink)) (whole_among code failed sinks)

abbrev pub outputs_in : Blind → Code → List (List ℕ)
outputs_in given code = paths_among given.prefix code (failed_in given code) code.net.sinks

-- each file gets the piece of a generation, where it has bytes
abbrev pub piece_turn : List (List ℕ) → List ℕ → List Written
piece_turn paths piece = if nat_lt 0 (length piece) then map (λ path. (path, piece)) paths else []

abbrev pub delivery : Code → List (List ℕ) → Job
delivery code paths = record {
  paths = paths;
  rate = code.rate;
  turn = λ generation piece. piece_turn paths piece;
  some_rate = code.code.draft.some_rate;
  low_rate = code.code.draft.low_rate;
}

-- what is said: the rank of each sink, and what was sent
abbrev pub ranks_text : Code → List ℕ → List ℕ → List ℕ
ranks_text code failed sinks = flat_map (λ sink. rank_line code.net code.rate sink (rank_into code failed sink)) sinks

abbrev pub line_in : Blind → Code → List ℕ → List ℕ
line_in given code source =
    ranks_text code (failed_in given code) code.net.sinks ++ sent_line (length source) (block_count source code.rate) (length (outputs_in given code))

-- ---- the command

abbrev pub blind_feeds : Blind → Code → Behaviour
blind_feeds given code =
    feeds given.source source_limit (outputs_in given code) (feed_turns (delivery code (outputs_in given code))) (line_in given code)

abbrev pub blind_through : Blind → Code → Behaviour
blind_through given code = or_refuses (declined given code) (blind_feeds given code)

abbrev pub blind_command : Blind → Behaviour
blind_command given = reads_then code_limit IsFileOf RefusesFile given.code (blind_through given)
