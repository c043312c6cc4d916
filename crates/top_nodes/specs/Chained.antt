-- What one call of `relay` or `sink` makes of streams for numbered blocks: the files that a relay writes are such streams again, and that of a
-- sink is the file whose blocks they are.
use Rattle.std.specs.Prelude.{◌≡◌, ◌≤◌, ◌∷◌, ℕ, List, [], Contains, None, Ok, Some, false, length, sum_by, true}
use Rattle.coded_traffic.specs.Traffic.{Window}
use Rattle.command_steps.specs.Steps.{Comes}
use Rattle.generation_frame.specs.Blocks.{blocks_of}
use Rattle.lif_outside.specs.Calls.{Outside}
use Rattle.lif_outside.specs.Files.{Files, Holds}
use Rattle.lif_outside.specs.Told.{Told}
use Rattle.link_streams.specs.Chained.{AreNumbered, IsStreamFor, traffic_file}
use Rattle.node_program.specs.declared.code.Code.{Code}
use Rattle.top_base.specs.Accepting.{HoldsCode}
use Rattle.top_base.specs.Inputs.{HoldsShort}
use Rattle.top_base.specs.Named.{node_named, pattern_named, sink_named}
use Rattle.top_base.specs.Words.{AtNode, demo_limit}
use Rattle.top_base.specs.declared.status.Status.{Status}
use Rattle.top_base.specs.declared.status.Status.TheVariants.{Done}
use Rattle.top_nodes.specs.Declined.{declined}
use Rattle.top_nodes.specs.Files.{stream_limit, stream_path, stream_paths}
use Rattle.top_nodes.specs.Relay.{ins_in, inputs_in, is_source_in, outputs_in, outs_in, relay_command}
use Rattle.top_nodes.specs.Sink.{links_in, pattern_in, sink_command}

-- the files of links are streams for blocks, and together within the limit
pub record AreStreams (given : AtNode) (code : Code) (links : List ℕ) (window : Window) (files : Files) : Type 0 where
  pub bytes : ℕ → List ℕ
  pub held : (link : ℕ) → Contains links link → Holds (bytes link) (files (stream_path given.input code.net link))
  pub streams : (link : ℕ) → Contains links link → IsStreamFor code (pattern_in given code) window link (bytes link)
  pub short : sum_by (λ link. length (bytes link)) links ≤ stream_limit

-- ---- a sink

-- the path of the code holds an accepted code, the pattern and the sink are known, no path is shared, and the files of the links that the
-- sink wants are streams for the blocks of a file
pub record IsSinkGiven (given : AtNode) (code : Code) (file : List ℕ) (files : Files) : Type 0 where
  pub code_held : HoldsCode (files given.code) (Ok code)
  pub clear : declined given (pattern_named code.net given.pattern) (sink_named code.net given.node) (stream_paths given.input code.net (links_in given code))
      (given.output ∷ []) ≡ None
  pub numbered : AreNumbered code (record { first = 0; blocks = blocks_of file code.rate })
  pub streams : AreStreams given code (links_in given code) (record { first = 0; blocks = blocks_of file code.rate }) files

-- then the sink is done, and its file is that file
pub record Receives (given : AtNode) (file : List ℕ) (status : Status) (before after : Outside) : Type 0 where
  pub received : status ≡ Done → Told after.files (λ files. Holds file (files given.output))
  pub comes : Comes (sink_command given) status before after

abbrev pub SinkReceives : AtNode → Status → Outside → Outside → Type 0
SinkReceives given status before after =
    (code : Code) (file : List ℕ) (files : Files) → before.files ≡ Some files → IsSinkGiven given code file files → Receives given file status before after

-- ---- a node

-- the same for a node: its files are streams for blocks, or at the source it is a file with these blocks
pub record IsNodeGiven (given : AtNode) (code : Code) (window : Window) (files : Files) : Type 0 where
  pub code_held : HoldsCode (files given.code) (Ok code)
  pub clear : declined given (pattern_named code.net given.pattern) (node_named code.net given.node) (inputs_in given code) (outputs_in given code) ≡ None
  pub numbered : AreNumbered code window
  pub streams : is_source_in given code ≡ false → AreStreams given code (ins_in given code) window files
  pub source : is_source_in given code ≡ true
      → (file : List ℕ) × HoldsShort demo_limit file (files given.input) × (window.blocks ≡ blocks_of file code.rate)

-- then it is done, and each file that it writes is the frames of its link for these blocks, each once
pub record Relays (given : AtNode) (code : Code) (window : Window) (status : Status) (before after : Outside) : Type 0 where
  pub relayed : status ≡ Done → Told after.files (λ files. (link : ℕ) → Contains (outs_in given code) link
      → Holds (traffic_file code (pattern_in given code) window link) (files (stream_path given.output code.net link)))
  -- each of which is a stream of its link for them
  pub streams : (link : ℕ) → Contains (outs_in given code) link → IsStreamFor code (pattern_in given code) window link (traffic_file code (pattern_in given code) window link)
  pub comes : Comes (relay_command given) status before after

abbrev pub NodeRelays : AtNode → Status → Outside → Outside → Type 0
NodeRelays given status before after =
    (code : Code) (window : Window) (files : Files) → before.files ≡ Some files → IsNodeGiven given code window files → Relays given code window status before after
