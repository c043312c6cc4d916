-- What has to be known of the command `sink`.
use Rattle.std.specs.Prelude.{◌≢◌, ℕ, Bool, true, false, List, [], ◌∷◌, cond, Option, None, Some}
use Rattle.std.specs.List.{range_with_len}
use Rattle.std.specs.Option.{IfSome, option_map, option_or}
use Rattle.std.proofs.Common.{refl}
use Rattle.code_file.specs.Limits.{code_limit}
use Rattle.command_steps.proofs.FillingLaws.{fills_step}
use Rattle.command_steps.proofs.ListedLaws.{reads_each_step}
use Rattle.command_steps.proofs.StepLaws.{IsStep, reads_then_step, step_known}
use Rattle.command_steps.specs.Filling.{fills, has_bytes}
use Rattle.command_steps.specs.Listed.{reads_each}
use Rattle.command_steps.proofs.RefusalLaws.{IsRefusal, either_refuses, or_refuses_step}
use Rattle.lif_outside.proofs.TurnLaws.{first_there}
use Rattle.lif_outside.specs.Calls.{Calls}
use Rattle.link_streams.specs.Streams.{Stream}
use Rattle.node_program.specs.declared.code.Code.{Code}
use Rattle.top_base.proofs.AcceptingLaws.{code_input}
use Rattle.top_base.proofs.PerformingLaws.{IsKnown}
use Rattle.top_base.specs.Accepting.{IsCodeOf, RefusesCode}
use Rattle.top_base.specs.Lines.{received_line}
use Rattle.top_base.specs.Named.{pattern_named, sink_named}
use Rattle.top_base.specs.Words.{AtNode}
use Rattle.top_base.specs.declared.outcome.Outcome.{Outcome}
use Rattle.top_base.specs.declared.status.Status.TheVariants.{Usage}
use Rattle.source_turns.proofs.AppendLaws.{TurnAppends, turns_append}
use Rattle.top_nodes.proofs.DeclinedLaws.{declined_refuses}
use Rattle.top_nodes.proofs.WantedLaws.{lacking_refuses, streams_refuse}
use Rattle.top_nodes.specs.Declined.{declined}
use Rattle.top_nodes.specs.Files.{first_lacking, generations_of, stream_limit, stream_paths, streams_of, streams_wanted}
use Rattle.top_nodes.specs.Sink.{bad_block, bytes_in, demand_in, first_bad, links_in, received_in, sink_command, sink_gathers, sink_through, sink_turn, sink_turns, sink_writes}

-- a block whose count is wrong is refused
bad_refuses : (count : ℕ → ℕ) (bad : Option ℕ) → IfSome (option_map (bad_block count) bad) IsRefusal
bad_refuses count (Some generation) = record { inputs = refl; used = λ is. cc }
bad_refuses count None = tt

-- a part is appended, or none is
part_appends : (path bytes : List ℕ) (test : Bool) → TurnAppends (path ∷ []) (cond test ((path, bytes) ∷ []) [])
part_appends path bytes true = (first_there path [], tt)
part_appends path bytes false = tt

module _ (given : AtNode) (code : Code) where
  turn_appends : (streams : List Stream) (generation : ℕ) → TurnAppends (given.output ∷ []) (sink_turn given code streams generation)
  turn_appends streams generation =
      let bytes = received_in code (demand_in given code) streams generation in
      part_appends given.output bytes (has_bytes (given.output, bytes))

  writes_step : (streams : List Stream) (generations : ℕ) → IsStep (sink_writes given code streams generations)
  writes_step streams generations =
      let lacking = first_lacking code.net generations streams in
      let bad = first_bad code (demand_in given code) streams generations in
      let outputs = given.output ∷ [] in
      let turns = sink_turns given code streams generations in
      let line = received_line (bytes_in code (demand_in given code) streams generations) generations in
      or_refuses_step (option_or lacking bad) (fills outputs turns line)
      (either_refuses lacking bad (lacking_refuses code.net generations streams) (bad_refuses _ _))
      (λ none. fills_step outputs turns line (turns_append outputs (sink_turn given code streams) (range_with_len 0 generations) (turn_appends streams)))

  through_step : IsStep (sink_through given code)
  through_step =
      let links = links_in given code in
      let inputs = stream_paths given.input code.net links in
      let pattern = pattern_named code.net given.pattern in
      let sink = sink_named code.net given.node in
      let rest = λ (files : List (List ℕ)). sink_gathers given code (streams_of links files) in
      or_refuses_step (declined given pattern sink inputs (given.output ∷ [])) (reads_each stream_limit (streams_wanted given.input code.net links) rest)
      (declined_refuses given pattern sink inputs (given.output ∷ []))
      (λ none. reads_each_step stream_limit (streams_wanted given.input code.net links) rest (streams_refuse given.input code.net links)
      (λ files same. writes_step (streams_of links files) (generations_of (streams_of links files))))

-- the command is a step, so it is known, and its words were a form
pub sink_step : (given : AtNode) → IsStep (sink_command given)
sink_step given = reads_then_step code_limit IsCodeOf RefusesCode given.code (sink_through given) code_input (through_step given)

pub sink_known : (given : AtNode) → IsKnown (sink_command given)
sink_known given = step_known (sink_command given) (sink_step given) tt

pub sink_used : (given : AtNode) (outcome : Outcome) (calls : Calls) → (sink_command given).runs outcome calls → outcome.status ≢ Usage
sink_used given = (sink_step given).used
