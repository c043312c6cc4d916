-- What has to be known of the command `relay`.
use Rattle.std.specs.Prelude.{◌≡◌, ◌≢◌, ℕ, Bool, true, false, List, [], ◌∷◌, if◌then◌else◌, None}
use Rattle.std.specs.List.{list_any, range_with_len}
use Rattle.std.specs.Str.{bytes_eq}
use Rattle.std.proofs.Common.{refl}
use Rattle.std.proofs.lemmas.Bool.{or_left, or_right}
use Rattle.std.proofs.lemmas.Slice.Eq.{bytes_eq-Decides}
use Rattle.code_file.specs.Limits.{code_limit}
use Rattle.command_steps.proofs.FillingLaws.{fills_step}
use Rattle.command_steps.proofs.ListedLaws.{reads_each_step}
use Rattle.command_steps.proofs.StepLaws.{IsStep, reads_then_step, step_known}
use Rattle.command_steps.specs.Filling.{fills}
use Rattle.command_steps.proofs.RefusalLaws.{or_refuses_step}
use Rattle.generation_frame.specs.Blocks.{block_count, block_of}
use Rattle.lif_outside.specs.Calls.{Calls}
use Rattle.lif_outside.specs.FileCalls.{AreAppendsTo, appends_of}
use Rattle.link_streams.specs.Filled.{frames_of}
use Rattle.link_streams.specs.Relaying.{originated}
use Rattle.link_streams.specs.Streams.{Stream}
use Rattle.node_program.specs.declared.code.Code.{Code}
use Rattle.top_base.proofs.AcceptingLaws.{code_input}
use Rattle.top_base.proofs.PathLaws.{clear_apart, clear_distinct}
use Rattle.top_base.proofs.PerformingLaws.{IsKnown}
use Rattle.top_base.specs.Accepting.{IsCodeOf, RefusesCode}
use Rattle.top_base.specs.Named.{node_named, pattern_named}
use Rattle.top_base.specs.Paths.{shared_path}
use Rattle.top_base.specs.Words.{AtNode, demo_limit}
use Rattle.top_base.specs.declared.outcome.Outcome.{Outcome}
use Rattle.top_base.specs.declared.status.Status.TheVariants.{Usage}
use Rattle.source_turns.proofs.AppendLaws.{TurnAppends, parts_append, turns_append}
use Rattle.source_turns.proofs.RunLaws.{feeding_step}
use Rattle.top_nodes.proofs.DeclinedLaws.{declined_clear, declined_refuses}
use Rattle.top_nodes.proofs.SourcingLaws.{job_in, parts_within, turns_in}
use Rattle.top_nodes.proofs.WantedLaws.{lacking_refuses, streams_refuse}
use Rattle.top_nodes.specs.Declined.{declined}
use Rattle.top_nodes.specs.Files.{first_lacking, stream_limit, stream_path, stream_paths, streams_of, streams_wanted}
use Rattle.top_nodes.specs.Relay.{frames_turn, frames_turns, generations_in, inputs_in, ins_in, is_source_in, line_in, node_in, outputs_in, outs_in, relay_at, relay_command, relay_node, relay_passes, relay_source, relay_through, relay_writes, relayed_in, source_turns}
use Rattle.top_nodes.specs.Sink.{pattern_in}

module _ (given : AtNode) (code : Code) where
  -- ---- the frames of a generation

  turn_appends : (payload : ℕ → ℕ → ℕ → List ℕ) (generation : ℕ) → TurnAppends (outputs_in given code) (frames_turn given code payload generation)
  turn_appends payload generation =
      parts_append (outputs_in given code) (stream_path given.output code.net) (λ link. frames_of link generation (payload generation link)) (outs_in given code) (λ place there. there)

  frames_append : (payload : ℕ → ℕ → ℕ → List ℕ) (generations : ℕ) → AreAppendsTo (outputs_in given code) (appends_of (frames_turns given code payload generations))
  frames_append payload generations = turns_append (outputs_in given code) (frames_turn given code payload) (range_with_len 0 generations) (turn_appends payload)

  -- ---- a node that isn't the source

  writes_step : (streams : List Stream) (generations : ℕ) → IsStep (relay_writes given code streams generations)
  writes_step streams generations =
      let outputs = outputs_in given code in
      let turns = frames_turns given code (relayed_in given code streams) generations in
      let line = line_in given code generations in
      or_refuses_step (first_lacking code.net generations streams) (fills outputs turns line) (lacking_refuses code.net generations streams)
      (λ none. fills_step outputs turns line (frames_append (relayed_in given code streams) generations))

  node_step : IsStep (relay_node given code)
  node_step =
      let ins = ins_in given code in
      reads_each_step stream_limit (streams_wanted given.input code.net ins) (λ files. relay_passes given code (streams_of ins files)) (streams_refuse given.input code.net ins)
      (λ files same. writes_step (streams_of ins files) (generations_in (streams_of ins files)))

  -- ---- the source

  source_step : shared_path (given.code ∷ given.input ∷ []) (outputs_in given code) ≡ None → IsStep (relay_source given code)
  source_step clear =
      let inputs = given.code ∷ given.input ∷ [] in
      let outputs = outputs_in given code in
      let same : bytes_eq given.input given.input ≡ true = (bytes_eq-Decides given.input given.input).1 refl in
      let among : list_any (bytes_eq given.input) inputs ≡ true = or_right (bytes_eq given.input given.code) _ (or_left _ false same) in
      let job = job_in given code in
      feeding_step job given.input demo_limit (source_turns given code) (λ source. line_in given code (block_count source code.rate)) (turns_in given code)
      (clear_distinct inputs outputs clear) (clear_apart inputs outputs clear given.input among)
      (λ generation piece. parts_within outputs outputs (originated code (pattern_in given code) (node_in given code) (block_of code.rate piece) generation).bytes (λ place there. there))

  -- ---- either

  -- the paths that are read where the node is the source, and where it isn't
  abbrev inputs_by : Bool → List (List ℕ)
  inputs_by source = if source then given.input ∷ [] else stream_paths given.input code.net (ins_in given code)

  at_step : (source : Bool) → shared_path (given.code ∷ inputs_by source) (outputs_in given code) ≡ None → IsStep (relay_at source given code)
  at_step true clear = source_step clear
  at_step false clear = node_step

  through_step : IsStep (relay_through given code)
  through_step =
      let pattern = pattern_named code.net given.pattern in
      let node = node_named code.net given.node in
      let inputs = inputs_in given code in
      let outputs = outputs_in given code in
      or_refuses_step (declined given pattern node inputs outputs) (relay_at (is_source_in given code) given code) (declined_refuses given pattern node inputs outputs)
      (λ none. at_step (is_source_in given code) (declined_clear given pattern node inputs outputs none))

-- the command is a step, so it is known, and its words were a form
pub relay_step : (given : AtNode) → IsStep (relay_command given)
relay_step given = reads_then_step code_limit IsCodeOf RefusesCode given.code (relay_through given) code_input (through_step given)

pub relay_known : (given : AtNode) → IsKnown (relay_command given)
relay_known given = step_known (relay_command given) (relay_step given) tt

pub relay_used : (given : AtNode) (outcome : Outcome) (calls : Calls) → (relay_command given).runs outcome calls → outcome.status ≢ Usage
relay_used given = (relay_step given).used
