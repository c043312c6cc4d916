-- The calls of a node that relays the streams into it.
use Rattle.std.specs.Prelude.{◌≡◌, ◌⊎◌, ◌≤◌, ◌^◌, ◌++◌, ◌∷◌, [], ℕ, Bool, All, List, None, Option, Some, map}
use Rattle.std.specs.List.{range_with_len}
use Rattle.std.proofs.Common.{refl, sym, ap, subst, ◌∙◌, arith, inl, inr}
use Rattle.command_steps.proofs.ListedLaws.{reads_each_had, reads_each_lost}
use Rattle.command_steps.specs.Filling.{Fills, RunsFilling, StopsFilling, fills}
use Rattle.command_steps.specs.Steps.{RunsOrForgets}
use Rattle.command_steps.proofs.RefusalLaws.{or_refuses_none, or_refuses_some}
use Rattle.item_list.proofs.Maps.{same_made}
use Rattle.lif_outside.specs.Events.{Event}
use Rattle.lif_outside.specs.FileCalls.{StopsWithin, Written, appends_of}
use Rattle.lif_outside.specs.Sequences.{Are}
use Rattle.link_streams.specs.Filled.{frames_of}
use Rattle.link_streams.specs.Relaying.{relayed}
use Rattle.link_streams.specs.Streams.{IsStream, Stream, all_packets}
use Rattle.node_program.specs.declared.code.Code.{Code}
use Rattle.top_base.specs.Inputs.{IsNoMemory}
use Rattle.top_base.specs.Lines.{write_fault_line}
use Rattle.top_base.specs.Named.{node_named, pattern_named}
use Rattle.top_base.specs.Words.{AtNode}
use Rattle.top_base.specs.declared.outcome.Outcome.{Outcome}
use Rattle.top_base.specs.declared.status.Status.TheVariants.{Done, WriteFault}
use Rattle.top_nodes.proofs.ReadingLaws.{HasLost, HasReadAll, few_generations}
use Rattle.top_nodes.proofs.RelayingLaws.{parts_each}
use Rattle.top_nodes.specs.Declined.{declined}
use Rattle.top_nodes.specs.Files.{first_lacking, stream_limit, stream_path, streams_of, streams_wanted}
use Rattle.top_nodes.specs.Relay.{frames_turn, frames_turns, generations_in, inputs_in, ins_in, is_source_in, line_in, node_in, outputs_in, outs_in, relay_at, relay_node, relay_passes, relay_through, relayed_in}
use Rattle.top_nodes.specs.Sink.{pattern_in}
use Rattle.top_nodes.specs.Working.{parts_of}

pub few_relayed : (streams : List Stream) → All IsStream streams → generations_in streams ≤ 2 ^ 32
few_relayed [] are = omega arith
few_relayed (stream ∷ streams) are = few_generations (stream ∷ streams) are

-- what the files at these paths get of so many generations, by what a node of a code passes on
abbrev pub passed_turns : Code → ℕ → ℕ → List (List ℕ) → List Stream → ℕ → List (List Written)
passed_turns code pattern node paths streams generations =
    map (λ generation. parts_of paths (relayed code pattern node (all_packets streams) generation).bytes) (range_with_len 0 generations)

module _ (given : AtNode) (code : Code) where
  abbrev declines : Option Outcome
  declines = declined given (pattern_named code.net given.pattern) (node_named code.net given.node) (inputs_in given code) (outputs_in given code)

  -- words are declined, or there is no memory for them
  pub through_declined : (outcome : Outcome) → IsNoMemory outcome ⊎ (declines ≡ Some outcome) → RunsOrForgets (relay_through given code) outcome []
  through_declined outcome (inl lost) = inr (lost, refl)
  through_declined outcome (inr refused) = or_refuses_some declines (relay_at (is_source_in given code) given code) outcome outcome [] refused (inl refl) refl

  -- they aren't, and this came of the source or of another node
  pub through_clear : (is_source : Bool) → declines ≡ None → is_source_in given code ≡ is_source → (outcome : Outcome) (events : List Event) → RunsOrForgets (relay_at is_source given code) outcome events
      → RunsOrForgets (relay_through given code) outcome events
  through_clear is_source clear is outcome events runs =
      or_refuses_none declines (relay_at (is_source_in given code) given code) outcome events clear
      (subst (λ is_source. RunsOrForgets (relay_at is_source given code) outcome events) (sym is) runs)

  -- a stream couldn't be had
  pub node_lost : (outcome : Outcome) (events : List Event) → HasLost given.input code.net (ins_in given code) outcome events → RunsOrForgets (relay_node given code) outcome events
  node_lost outcome events (inl loses) =
      inl (reads_each_lost stream_limit (streams_wanted given.input code.net (ins_in given code)) (λ files. relay_passes given code (streams_of (ins_in given code) files)) outcome events loses)
  node_lost outcome events (inr forgets) = inr forgets

  -- all were, and this came of them
  pub node_read : (streams : List Stream) (outcome : Outcome) (first later : List Event) → HasReadAll given.input code.net (ins_in given code) streams first
      → RunsOrForgets (relay_passes given code streams) outcome later → RunsOrForgets (relay_node given code) outcome (first ++ later)
  node_read streams outcome first later read runs =
      reads_each_had stream_limit (streams_wanted given.input code.net (ins_in given code)) (λ files. relay_passes given code (streams_of (ins_in given code) files)) read.0 outcome first later read.1
      (subst (λ streams. RunsOrForgets (relay_passes given code streams) outcome later) read.2 runs)

  module _ (streams : List Stream) where
    abbrev count : ℕ
    count = generations_in streams

    abbrev refusal : Option Outcome
    refusal = first_lacking code.net count streams

    abbrev turns : List (List Written)
    turns = frames_turns given code (relayed_in given code streams) count

    -- streams lack a place
    pub passes_refused : (outcome : Outcome) → refusal ≡ Some outcome → RunsOrForgets (relay_passes given code streams) outcome []
    passes_refused outcome lacking = or_refuses_some refusal (fills (outputs_in given code) turns (line_in given code count)) outcome outcome [] lacking (inl refl) refl

    -- the turns are those of the command
    turns_are : passed_turns code (pattern_in given code) (node_in given code) (outputs_in given code) streams count ≡ turns
    turns_are =
        same_made (λ generation. parts_of (outputs_in given code) (relayed code (pattern_in given code) (node_in given code) (all_packets streams) generation).bytes)
        (frames_turn given code (relayed_in given code streams)) count []
        (λ generation below. parts_each (stream_path given.output code.net) (λ link. frames_of link generation (relayed_in given code streams generation link)) (outs_in given code))

    -- they lack none
    module _ (whole : refusal ≡ None) (pattern node : ℕ) (paths : List (List ℕ)) (at : pattern ≡ pattern_in given code) (place : node ≡ node_in given code) (outputs : paths ≡ outputs_in given code) where
      abbrev passed : List (List Written)
      passed = passed_turns code pattern node paths streams count

      turns_all : passed ≡ turns
      turns_all =
          ap (λ pattern. passed_turns code pattern node paths streams count) at ∙ ap (λ node. passed_turns code (pattern_in given code) node paths streams count) place
          ∙ ap (λ paths. passed_turns code (pattern_in given code) (node_in given code) paths streams count) outputs ∙ turns_are

      passes_filled : (outcome : Outcome) (events : List Event) → RunsFilling (outputs_in given code) turns (line_in given code count) outcome.status outcome.line events
          → RunsOrForgets (relay_passes given code streams) outcome events
      passes_filled outcome events runs = or_refuses_none refusal (fills (outputs_in given code) turns (line_in given code count)) outcome events whole (inl (runs, refl))

      -- the files are filled
      pub passes_done : (said : List ℕ) (events : List Event) → said ≡ line_in given code count → Fills paths (Are (appends_of passed)) events
          → RunsOrForgets (relay_passes given code streams) (record { status = Done; line = said }) events
      passes_done said events line filled =
          passes_filled (record { status = Done; line = said }) events
          (line, subst (λ paths. Fills paths (Are (appends_of turns)) events) outputs (subst (λ turns. Fills paths (Are (appends_of turns)) events) turns_all filled))

      -- or a call failed
      pub passes_stopped : (outcome : Outcome) (events : List Event) → outcome.status ≡ WriteFault → outcome.line ≡ write_fault_line → StopsFilling paths (StopsWithin (appends_of passed)) events
          → RunsOrForgets (relay_passes given code streams) outcome events
      passes_stopped outcome events status line stopped =
          passes_filled outcome events
          (subst (λ status. RunsFilling (outputs_in given code) turns (line_in given code count) status outcome.line events) (sym status)
          (line, subst (λ paths. StopsFilling paths (StopsWithin (appends_of turns)) events) outputs (subst (λ turns. StopsFilling paths (StopsWithin (appends_of turns)) events) turns_all stopped)))
