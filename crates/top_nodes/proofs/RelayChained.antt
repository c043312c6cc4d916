-- Where a node's files are streams for numbered blocks, or at the source a file with these, its files are the frames of its links.
use Rattle.std.specs.Prelude.{◌≡◌, ◌⊎◌, ◌<◌, ℕ, Bool, false, true, All, Contains, List, [], ◌∷◌, ◌++◌, Option, None, Some, flat_map, length, map}
use Rattle.std.specs.List.{concat, range_with_len}
use Rattle.std.proofs.Common.{refl, sym, ap, subst, ◌∙◌, inl, inr, ⊎_elim, arith}
use Rattle.std.proofs.lemmas.List.Elements.{All-contains}
use Rattle.code_file.specs.Limits.{code_limit}
use Rattle.coded_traffic.specs.Traffic.{Window, block_at, payload_in}
use Rattle.command_steps.proofs.HeldLaws.{AreHeld, each_changes, each_owed, held_changes, held_owed}
use Rattle.command_steps.specs.Feeding.{ChangesFeeding, FeedsFiles}
use Rattle.command_steps.specs.Filling.{ChangesFilling, files_by, fills}
use Rattle.command_steps.specs.Steps.{OwedBy}
use Rattle.command_steps.proofs.RefusalLaws.{or_changes, or_owed}
use Rattle.command_steps.proofs.DoneLaws.{done_outcome, left_told, owed_comes}
use Rattle.generation_frame.specs.Blocks.{block_count, blocks_of, pieces}
use Rattle.generation_frame.specs.Frames.{frame_of}
use Rattle.item_list.proofs.Maps.{same_made}
use Rattle.lif_outside.specs.AccountLaws.{contains_none}
use Rattle.lif_outside.specs.Calls.{Objects, Outside, outside_after, outside_before}
use Rattle.lif_outside.specs.FileCalls.{Written, appends_of, bytes_appended}
use Rattle.lif_outside.specs.Files.{AreDistinct, Files, Holds}
use Rattle.lif_outside.specs.Told.{Becomes, Told}
use Rattle.lif_outside.specs.Writes.{WritesFiles}
use Rattle.lif_outside.specs.declared.links.Links.{Ghosts as LinksGhosts}
use Rattle.lif_outside.specs.declared.sink.Sink.{Ghosts as SinkGhosts}
use Rattle.lif_outside.specs.declared.store.Store.{Ghosts as StoreGhosts}
use Rattle.link_streams.proofs.FileLaws.{traffic-is-stream}
use Rattle.link_streams.proofs.TrafficLaws.{no-ins-no-outs, sums-traffic}
use Rattle.link_streams.specs.Chained.{traffic_file}
use Rattle.link_streams.specs.Filled.{frames_of}
use Rattle.link_streams.specs.Streams.{Stream}
use Rattle.net_model.specs.Walks.{head_of, tail_of}
use Rattle.node_plans.proofs.PlanLaws.{ins-each, outs-each}
use Rattle.node_program.specs.CodeValue.{is_live_in}
use Rattle.node_program.specs.declared.code.Code.{Code}
use Rattle.top_base.proofs.AcceptingLaws.{code_input}
use Rattle.top_base.proofs.InputLaws.{same_held}
use Rattle.top_base.proofs.PathLaws.{clear_distinct}
use Rattle.top_base.specs.Accepting.{IsCodeOf, RefusesCode}
use Rattle.top_base.specs.Inputs.{HoldsShort, is_lost}
use Rattle.top_base.specs.Named.{node_named, pattern_named}
use Rattle.top_base.specs.Performs.{Behaviour, Performs}
use Rattle.top_base.specs.Words.{AtNode, demo_limit}
use Rattle.top_base.specs.declared.outcome.Outcome.{Outcome}
use Rattle.top_base.specs.declared.status.Status.{Status}
use Rattle.top_base.specs.declared.status.Status.TheVariants.{Done}
use Rattle.source_turns.proofs.AppendLaws.{made_there, part-added, turns-add, held_by}
use Rattle.top_nodes.proofs.BlocksLaws.{block_at-file, file_window, length-file_window}
use Rattle.top_nodes.proofs.DeclinedLaws.{declined_clear}
use Rattle.top_nodes.proofs.StreamsLaws.{HasCount, generations-count, none_lacking, streams_bring, streams_count, streams_held, streams_links, streams_read}
use Rattle.top_nodes.specs.Chained.{AreStreams, IsNodeGiven, NodeRelays}
use Rattle.top_nodes.specs.Declined.{declined}
use Rattle.top_nodes.specs.Files.{first_lacking, stream_limit, stream_path, streams_of, streams_wanted}
use Rattle.top_nodes.specs.Relay.{frames_turn, frames_turns, generations_in, inputs_in, ins_in, is_source_in, line_in, node_in, originated_in, outputs_in, outs_in, relay_at, relay_command, relay_node, relay_passes, relay_source, relay_through, relayed_in, source_turns}
use Rattle.top_nodes.specs.Sink.{pattern_in}

-- ---- files that turns fill

-- the lists that are made of numbers, joined
joined : (f : ℕ → List ℕ) (numbers : List ℕ) → flat_map f numbers ≡ concat (map f numbers)
joined f [] = refl
joined f (number ∷ numbers) = ap (λ rest. f number ++ rest) (joined f numbers)

module _ (given : AtNode) (code : Code) (window : Window) (files : Files) (is : IsNodeGiven given code window files) where
  abbrev pattern : ℕ
  pattern = pattern_in given code

  abbrev count : ℕ
  count = length window.blocks

  abbrev outs : List ℕ
  outs = outs_in given code

  abbrev outputs : List (List ℕ)
  outputs = outputs_in given code

  abbrev declines : Option Outcome
  declines = declined given (pattern_named code.net given.pattern) (node_named code.net given.node) (inputs_in given code) outputs

  distinct : AreDistinct outputs
  distinct = clear_distinct (given.code ∷ inputs_in given code) outputs (declined_clear given (pattern_named code.net given.pattern) (node_named code.net given.node) (inputs_in given code) outputs is.clear)

  -- ---- the frames of generations

  abbrev frames_by : (ℕ → ℕ → ℕ → List ℕ) → ℕ → ℕ → List ℕ
  frames_by payload link generation = frames_of link generation (payload generation link)

  -- payloads that are those of the traffic
  abbrev AreTraffic : (ℕ → ℕ → ℕ → List ℕ) → Type 0
  AreTraffic payload = (link generation piece : ℕ) → Contains outs link → generation < count → piece < pieces
      → payload generation link piece ≡ payload_in code pattern (block_at window generation) piece link

  -- so their frames are
  frames-traffic : (payload : ℕ → ℕ → ℕ → List ℕ) → AreTraffic payload → (link : ℕ) → Contains outs link
      → bytes_appended (stream_path given.output code.net link) (appends_of (frames_turns given code payload count)) ≡ traffic_file code pattern window link
  frames-traffic payload same link there =
      let traffic : ℕ → ℕ → ℕ → List ℕ = λ generation link piece. payload_in code pattern (block_at window generation) piece link in
      turns-add (stream_path given.output code.net link) (frames_turn given code payload) (frames_by payload link)
      (λ generation. part-added (stream_path given.output code.net) (λ link. frames_by payload link generation) outs distinct link there) (range_with_len 0 count)
      ∙ ap concat (same_made (frames_by payload link) (frames_by traffic link) count [] (λ generation below.
      ap concat (same_made
      (λ piece. frame_of (record { link = link; generation = generation; piece = piece; payload = payload generation link piece }))
      (λ piece. frame_of (record { link = link; generation = generation; piece = piece; payload = traffic generation link piece })) pieces []
      (λ piece low. ap (λ payload. frame_of (record { link = link; generation = generation; piece = piece; payload = payload })) (same link generation piece there below low)))))
      ∙ sym (joined (frames_by traffic link) (range_with_len 0 count))
      ∙ ap (λ first. flat_map (frames_by traffic link) (range_with_len first count)) (sym is.numbered.from_start)

  -- what is to be left
  abbrev AreLeft : Files → Type 0
  AreLeft files = (link : ℕ) → Contains outs link → Holds (traffic_file code pattern window link) (files (stream_path given.output code.net link))

  written_left : (payload : ℕ → ℕ → ℕ → List ℕ) (generations : ℕ) (old new : Files) → ((link : ℕ) → Contains outs link → generations ≡ count) → AreTraffic payload
      → WritesFiles (files_by outputs (frames_turns given code payload generations)) old new → AreLeft new
  written_left payload generations old new counts same written link there =
      held_by outputs (frames_turns given code payload generations) old new written (stream_path given.output code.net link) (made_there (stream_path given.output code.net) outs link there)
      ∙ ap (λ bytes. Some bytes)
      (ap (λ n. bytes_appended (stream_path given.output code.net link) (appends_of (frames_turns given code payload n))) (counts link there) ∙ frames-traffic payload same link there)

  -- ---- a node that isn't the source

  module _ (inner : is_source_in given code ≡ false) where
    abbrev ins : List ℕ
    ins = ins_in given code

    abbrev node : ℕ
    node = node_in given code

    are : AreStreams given code ins window files
    are = is.streams inner

    abbrev read : List (List ℕ)
    read = map are.bytes ins

    abbrev streams : List Stream
    streams = streams_read given code ins window files is.numbered are

    links : map (λ stream. stream.link) streams ≡ ins
    links = streams_links given code ins window files is.numbered are

    live : (link : ℕ) → Contains ins link → is_live_in code pattern link ≡ true
    live link there = (All-contains (λ link. (is_live_in code pattern link ≡ true) × (head_of code.net.links link ≡ node)) ins link (ins-each code pattern node) there).0

    counts : All (HasCount count) streams
    counts = streams_count given code ins window files is.numbered are live

    -- there is no stream, or they have as many generations as there are blocks
    reach : (streams ≡ []) ⊎ (generations_in streams ≡ count)
    reach = by_streams streams counts
      where
        by_streams : (streams : List Stream) → All (HasCount count) streams → (streams ≡ []) ⊎ (generations_in streams ≡ count)
        by_streams [] each = inl refl
        by_streams (stream ∷ streams) each = inr (generations-count count stream streams is.numbered.some each)

    -- and without a stream none is written
    out_counts : (link : ℕ) → Contains outs link → generations_in streams ≡ count
    out_counts link there = ⊎_elim
        (λ none.
        let none_out : outs ≡ [] = no-ins-no-outs code pattern node inner (sym links ∙ ap (map (λ stream. stream.link)) none) in
        absurd (contains_none link (subst (λ outs. Contains outs link) none_out there)))
        (λ same. same)
        reach

    none_missing : first_lacking code.net (generations_in streams) streams ≡ None
    none_missing = ⊎_elim
        (λ none. subst (λ streams. first_lacking code.net (generations_in streams) streams ≡ None) (sym none) refl)
        (λ same. ap (λ n. first_lacking code.net n streams) same ∙ none_lacking code.net count streams counts)
        reach

    sums : AreTraffic (relayed_in given code streams)
    sums link generation piece there below low =
        sums-traffic code pattern window streams node is.numbered (streams_bring given code ins window files is.numbered are) links inner link generation piece there below low

    abbrev passes : List (List ℕ) → Behaviour
    passes read = relay_passes given code (streams_of ins read)

    abbrev turns : List (List Written)
    turns = frames_turns given code (relayed_in given code streams) (generations_in streams)

    abbrev line : List ℕ
    line = line_in given code (generations_in streams)

    held : AreHeld stream_limit (streams_wanted given.input code.net ins) read files
    held = streams_held given code ins window files is.numbered are

    node_owed : OwedBy (relay_node given code).due files Done
    node_owed =
        each_owed stream_limit (streams_wanted given.input code.net ins) passes read files Done held
        (or_owed (first_lacking code.net (generations_in streams) streams) (fills outputs turns line) files Done none_missing refl)

    node_left : (outcome : Outcome) (before after : Outside) → before.files ≡ Some files → outcome.status ≡ Done → (relay_node given code).changes outcome before after → Told after.files AreLeft
    node_left outcome before after told done changes =
        let filled =
        or_changes (first_lacking code.net (generations_in streams) streams) (fills outputs turns line) outcome before after none_missing
        (each_changes stream_limit (streams_wanted given.input code.net ins) passes read files outcome before after told held (ap is_lost done) changes) in
        let all : Becomes before.files after.files (WritesFiles (files_by outputs turns)) = subst (λ status. ChangesFilling outputs turns line status before after) done filled in
        left_told before.files after.files files (WritesFiles (files_by outputs turns)) AreLeft told all
        (λ new written. written_left (relayed_in given code streams) (generations_in streams) files new out_counts sums written)

  -- ---- the source

  module _ (outer : is_source_in given code ≡ true) where
    abbrev file : List ℕ
    file = (is.source outer).0

    short : HoldsShort demo_limit file (files given.input)
    short = (is.source outer).1

    blocks : window.blocks ≡ blocks_of file code.rate
    blocks = (is.source outer).2

    window_is : window ≡ file_window file code.rate
    window_is =
        let from : ℕ → Window = λ first. record { first = first; blocks = window.blocks } in
        let of : List (List ℕ) → Window = λ blocks. record { first = 0; blocks = blocks } in
        ap from is.numbered.from_start ∙ ap of blocks

    count_is : block_count file code.rate ≡ count
    count_is = sym (length-file_window file code.rate) ∙ ap (λ (window : Window). length window.blocks) (sym window_is)

    originates : AreTraffic (originated_in given code file)
    originates link generation piece there below low =
        ap (λ block. payload_in code pattern block piece link)
        (sym (block_at-file file code.rate generation (omega (arith, below, count_is))) ∙ ap (λ window. block_at window generation) (sym window_is))

    abbrev goes : Bool → List ℕ → List (List Written)
    goes = source_turns given code

    abbrev said : List ℕ → List ℕ
    said source = line_in given code (block_count source code.rate)

    source_owed : OwedBy (relay_source given code).due files Done
    source_owed = (said file, (file, short, refl))

    source_left : (outcome : Outcome) (before after : Outside) → before.files ≡ Some files → outcome.status ≡ Done → (relay_source given code).changes outcome before after → Told after.files AreLeft
    source_left outcome before after told done changes =
        let all : Becomes before.files after.files (FeedsFiles given.input demo_limit outputs goes said) =
        subst (λ status. ChangesFeeding given.input demo_limit outputs goes said status before after) done changes in
        left_told before.files after.files files (FeedsFiles given.input demo_limit outputs goes said) AreLeft told all (λ new fed.
        let same : fed.source ≡ file = same_held (files given.input) fed.source file fed.held.held short.held in
        written_left (originated_in given code file) (block_count file code.rate) files new (λ link there. count_is) originates
        (subst (λ source. WritesFiles (files_by outputs (goes true source)) files new) same fed.left))

  -- ---- either

  owed_at : (source : Bool) → is_source_in given code ≡ source → OwedBy (relay_at source given code).due files Done
  owed_at true outer = source_owed outer
  owed_at false inner = node_owed inner

  left_at : (source : Bool) → is_source_in given code ≡ source → (outcome : Outcome) (before after : Outside) → before.files ≡ Some files → outcome.status ≡ Done
      → (relay_at source given code).changes outcome before after → Told after.files AreLeft
  left_at true outer = source_left outer
  left_at false inner = node_left inner

  owed : OwedBy (relay_command given).due files Done
  owed =
      held_owed code_limit IsCodeOf RefusesCode given.code (relay_through given) files code is.code_held Done
      (or_owed declines (relay_at (is_source_in given code) given code) files Done is.clear (owed_at (is_source_in given code) refl))

  left : (outcome : Outcome) (before after : Outside) → before.files ≡ Some files → outcome.status ≡ Done → (relay_command given).changes outcome before after → Told after.files AreLeft
  left outcome before after told done changes =
      left_at (is_source_in given code) refl outcome before after told done
      (or_changes declines (relay_at (is_source_in given code) given code) outcome before after is.clear
      (held_changes code_limit IsCodeOf RefusesCode given.code (relay_through given) files code is.code_held code_input.same outcome before after told (ap is_lost done) changes))

-- the links out of a node are live
outs_live : (given : AtNode) (code : Code) (link : ℕ) → Contains (outs_in given code) link → is_live_in code (pattern_in given code) link ≡ true
outs_live given code link there =
    let pattern = pattern_in given code in
    let node = node_in given code in
    (All-contains (λ link. (is_live_in code pattern link ≡ true) × (tail_of code.net.links link ≡ node)) (outs_in given code) link (outs-each code pattern node) there).0

-- A node that is given streams for numbered blocks, or a file with these at the source, is done, or there was no memory, and its files
-- are the frames of its links for them.
pub node-relays : {S C L : Type 0} {g : StoreGhosts S} {h : SinkGhosts C} {k : LinksGhosts L} (o : Objects g h k) (given : AtNode) (status : Status) → Performs (relay_command given) o status
    → NodeRelays given status (outside_before o) (outside_after o)
node-relays o given status performs code window files told is =
    let before = outside_before o in
    let after = outside_after o in
    let leaves = performs.of_content in
    record {
      relayed = λ done. left given code window files is leaves.outcome before after told (done_outcome leaves.outcome status before after done leaves.says) leaves.changes;
      streams = λ link there. traffic-is-stream code (pattern_in given code) window link is.numbered (outs_live given code link there);
      comes = owed_comes (relay_command given) status before after files told (owed given code window files is) performs.of_inputs;
    }
