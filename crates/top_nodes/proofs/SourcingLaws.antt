-- What the blocks of a source become: the turns of the command.
use Rattle.std.specs.Prelude.{◌≡◌, ◌+◌, ℕ, Bool, List, [], ◌∷◌, Contains}
use Rattle.std.proofs.Common.{ap, ◌∙◌, arith}
use Rattle.generation_frame.specs.Blocks.{piece_of}
use Rattle.item_list.proofs.Maps.{same_made}
use Rattle.lif_outside.proofs.TurnLaws.{behind_there, first_there}
use Rattle.link_streams.specs.Filled.{frames_of}
use Rattle.node_program.specs.declared.code.Code.{Code}
use Rattle.source_turns.proofs.AppendLaws.{TurnAppends}
use Rattle.source_turns.specs.Turns.{Job, blocks_by, feed_turns}
use Rattle.top_base.specs.Words.{AtNode}
use Rattle.top_nodes.proofs.RelayingLaws.{parts_each}
use Rattle.top_nodes.specs.Files.{stream_path}
use Rattle.top_nodes.specs.Relay.{frames_turn, node_in, originated_in, outputs_in, outs_in, source_turns}
use Rattle.top_nodes.specs.Sink.{pattern_in}
use Rattle.top_nodes.specs.Sourcing.{source_job}
use Rattle.top_nodes.specs.Working.{parts_of}

-- the job of the command at its source
abbrev pub job_in : AtNode → Code → Job
job_in given code = source_job code (pattern_in given code) (node_in given code) (outputs_in given code)

-- its turns are those of the command
pub turns_in : (given : AtNode) (code : Code) (ended : Bool) (bytes : List ℕ) → feed_turns (job_in given code) ended bytes ≡ source_turns given code ended bytes
turns_in given code ended bytes =
    let job = job_in given code in
    same_made (λ place. job.turn (0 + place) (piece_of bytes code.rate place)) (frames_turn given code (originated_in given code bytes)) (blocks_by ended bytes code.rate) []
    (λ place below.
    let start : 0 + place ≡ place = omega arith in
    ap (λ n. job.turn n (piece_of bytes code.rate place)) start
    ∙ parts_each (stream_path given.output code.net) (λ link. frames_of link place (originated_in given code bytes place link)) (outs_in given code))

-- they append to its files
pub parts_within : (paths those frames : List (List ℕ)) → ((place : List ℕ) → Contains those place → Contains paths place) → TurnAppends paths (parts_of those frames)
parts_within paths [] frames within = tt
parts_within paths (path ∷ those) [] within = tt
parts_within paths (path ∷ those) (bytes ∷ frames) within = (
  within path (first_there path those),
  parts_within paths those frames (λ place there. within place (behind_there path those place there)),
)
