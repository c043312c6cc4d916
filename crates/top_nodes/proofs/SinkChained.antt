-- Where a sink's files are streams for the blocks of a file, its file is that file.
use Rattle.std.specs.Prelude.{◌≡◌, ◌≢◌, ◌<◌, ◌≤◌, ◌*◌, ◌==◌, ℕ, Bool, false, true, All, Contains, if◌then◌else◌, nat_lt, List, [], ◌∷◌, ◌++◌, Option, None, Some, cond, filter, length, map, position, replicate, unwrap_or}
use Rattle.std.specs.List.{concat, range_with_len}
use Rattle.std.specs.Option.{option_and_then, option_map, option_or}
use Rattle.std.specs.Str.{bytes_eq}
use Rattle.std.proofs.Common.{refl, sym, ap, subst, ◌∙◌, arith, get_or}
use Rattle.std.proofs.lemmas.List.{append-nil, get_or-map, get_or-replicate, length-map, length-replicate}
use Rattle.std.proofs.lemmas.List.Elements.{All-cons, All-contains, All-head, All-nil, All-replicate, filter_passes}
use Rattle.std.proofs.lemmas.List.Quantifiers.{position-Some}
use Rattle.std.proofs.lemmas.Slice.Eq.{bytes_eq-Decides}
use Rattle.code_file.specs.Limits.{code_limit}
use Rattle.coded_traffic.specs.CodeBlocks.{IsBlockOf}
use Rattle.coded_traffic.specs.Traffic.{Window}
use Rattle.command_steps.proofs.HeldLaws.{AreHeld, each_changes, each_owed, held_changes, held_owed}
use Rattle.command_steps.specs.Filling.{ChangesFilling, files_by, fills, has_bytes}
use Rattle.command_steps.specs.Listed.{reads_each}
use Rattle.command_steps.specs.Steps.{OwedBy}
use Rattle.command_steps.proofs.RefusalLaws.{or_changes, or_owed}
use Rattle.command_steps.proofs.DoneLaws.{done_outcome, left_told, owed_comes}
use Rattle.failure_patterns.proofs.DemandLaws.{demand_of_number, number_within}
use Rattle.generation_frame.specs.Blocks.{block_count, block_of, capacity, count_of, counted_bytes, piece_of}
use Rattle.item_list.proofs.Maps.{same_made}
use Rattle.item_list.proofs.Ranges.{find_nothing}
use Rattle.lif_outside.specs.Calls.{Objects, Outside, outside_after, outside_before}
use Rattle.lif_outside.specs.FileCalls.{Written, bytes_appended}
use Rattle.lif_outside.specs.Files.{Files, Holds}
use Rattle.lif_outside.specs.Told.{Becomes, Told}
use Rattle.lif_outside.specs.Writes.{WritesFiles}
use Rattle.lif_outside.specs.declared.links.Links.{Ghosts as LinksGhosts}
use Rattle.lif_outside.specs.declared.sink.Sink.{Ghosts as SinkGhosts}
use Rattle.lif_outside.specs.declared.store.Store.{Ghosts as StoreGhosts}
use Rattle.link_streams.proofs.TrafficLaws.{BringsTraffic, decoded-traffic}
use Rattle.link_streams.specs.Chained.{AreNumbered}
use Rattle.link_streams.specs.Gathering.{wanted_links}
use Rattle.link_streams.specs.Streams.{Stream}
use Rattle.net_model.specs.Demands.{demand_count, pattern_of_demand}
use Rattle.net_model.specs.Limits.{highest_rate}
use Rattle.net_model.specs.declared.Demand.{Demand}
use Rattle.net_model.specs.declared.net.Net.{Net}
use Rattle.node_program.specs.CodeValue.{is_live_in}
use Rattle.node_program.specs.Decoding.{IsAccepted}
use Rattle.node_program.specs.declared.code.Code.{Code}
use Rattle.sink_decoder.proofs.PlaceLaws.{at-place_of, wanted-place}
use Rattle.sink_decoder.specs.Receiving.{place_of, sink_plan_of, wants}
use Rattle.top_base.proofs.AcceptingLaws.{code_input}
use Rattle.top_base.specs.Accepting.{IsCodeOf, RefusesCode}
use Rattle.top_base.specs.Inputs.{is_lost}
use Rattle.top_base.specs.Lines.{received_line}
use Rattle.top_base.specs.Named.{node_named, pattern_named, sink_named}
use Rattle.top_base.specs.Performs.{Behaviour, Performs}
use Rattle.top_base.specs.Words.{AtNode}
use Rattle.top_base.specs.declared.outcome.Outcome.{Outcome}
use Rattle.top_base.specs.declared.status.Status.{Status}
use Rattle.top_base.specs.declared.status.Status.TheVariants.{Done}
use Rattle.source_turns.proofs.AppendLaws.{part_call, turns-add}
use Rattle.source_turns.proofs.PieceLaws.{pieces-file}
use Rattle.top_nodes.proofs.BlocksLaws.{block_at-file, count_is-good, count_of-file, counted-file, file_window, length-file_window}
use Rattle.top_nodes.proofs.StreamsLaws.{HasCount, generations-count, none_lacking, streams_bring, streams_count, streams_held, streams_links, streams_read}
use Rattle.top_nodes.specs.Chained.{IsSinkGiven, SinkReceives}
use Rattle.top_nodes.specs.Declined.{declined}
use Rattle.top_nodes.specs.Files.{first_lacking, generations_of, stream_limit, stream_paths, streams_of, streams_wanted}
use Rattle.top_nodes.specs.Sink.{bad_block, block_in, bytes_in, demand_in, first_bad, is_bad, links_in, pattern_in, received_in, sink_command, sink_gathers, sink_in, sink_through, sink_turn, sink_turns, sink_writes}
use Rattle.top_nodes.proofs.DeclinedLaws.{declined_named}

-- ---- names

-- what is named by a place stands there
named_within : {X : Type 0} (test : X → Bool) (xs : List X) (number : ℕ) → position test xs ≡ Some number → number < length xs
named_within test [] number is = cc
named_within test (x ∷ xs) number is = (position-Some test (x ∷ xs) number x is).0

sink_within : (net : Net) (node : Option ℕ) (place : ℕ) → option_and_then (λ node. position (λ sink. sink == node) net.sinks) node ≡ Some place → place < length net.sinks
sink_within net None place is = cc
sink_within net (Some node) place is = named_within (λ sink. sink == node) net.sinks place is

-- ---- what is appended

-- a part adds its bytes, also where it has none
part-adds : (path bytes : List ℕ) → bytes_appended path (map part_call (filter has_bytes ((path, bytes) ∷ []))) ≡ bytes
part-adds path [] = refl
part-adds path (byte ∷ bytes) =
    let some : nat_lt 0 (length (byte ∷ bytes)) ≡ true = grind arith in
    ap (λ test. bytes_appended path (map part_call (cond test ((path, byte ∷ bytes) ∷ []) []))) some
    ∙ ap (λ test. (if test then byte ∷ bytes else []) ++ []) ((bytes_eq-Decides path path).1 refl)
    ∙ append-nil (byte ∷ bytes)

-- ---- what is decoded of no streams

-- Nothing is decoded to two blocks, so a sink wants some link.
module _ (code : Code) where
  -- a block of one byte that is repeated
  abbrev same_bytes : ℕ → List ℕ
  same_bytes byte = replicate (code.rate * 1024) byte

  abbrev window_of : ℕ → Window
  window_of byte = record { first = 0; blocks = same_bytes byte ∷ [] }

  is_block : (byte : ℕ) → byte < 256 → IsBlockOf code (same_bytes byte)
  is_block byte small = record { size = length-replicate (code.rate * 1024) byte; bytes = All-replicate (λ byte. byte < 256) (code.rate * 1024) byte small }

  numbered_of : (byte : ℕ) → byte < 256 → AreNumbered code (window_of byte)
  numbered_of byte small = record {
    from_start = refl;
    some = omega arith;
    few = omega arith;
    blocks = All-cons (IsBlockOf code) (same_bytes byte) [] (is_block byte small) (All-nil (IsBlockOf code));
  }

  some_wanted : (demand : ℕ) → IsAccepted code → demand < demand_count code.net → wanted_links (sink_plan_of code demand) ≢ []
  some_wanted demand accepted within none =
      let rate : 1 ≤ code.rate = code.code.draft.some_rate in
      let size : 0 < code.rate * 1024 = omega arith in
      let of = λ (byte : ℕ) (small : byte < 256). decoded-traffic code demand (window_of byte) [] (numbered_of byte small)
      (All-nil (BringsTraffic code (pattern_of_demand code.net demand) (window_of byte))) (sym none) accepted within 0 (omega arith) in
      let same : same_bytes 0 ≡ same_bytes 1 = sym (of 0 (omega arith)) ∙ of 1 (omega arith) in
      let first : 0 ≡ 1 = sym (get_or-replicate (code.rate * 1024) 0 0 0 size) ∙ ap (λ bytes. get_or bytes 0 0) same ∙ get_or-replicate (code.rate * 1024) 0 1 0 size in
      omega (arith, first)

-- ---- a sink that is given streams for the blocks of a file

module _ (given : AtNode) (code : Code) (file : List ℕ) (files : Files) (is : IsSinkGiven given code file files) where
  abbrev window : Window
  window = file_window file code.rate

  abbrev count : ℕ
  count = block_count file code.rate

  abbrev links : List ℕ
  links = links_in given code

  abbrev read : List (List ℕ)
  read = map is.streams.bytes links

  abbrev streams : List Stream
  streams = streams_read given code links window files is.numbered is.streams

  abbrev demand : ℕ
  demand = demand_in given code

  rate_some : 1 ≤ code.rate
  rate_some = code.code.draft.some_rate

  rate_low : code.rate ≤ highest_rate
  rate_low = code.code.draft.low_rate

  -- ---- the demand

  named : (number node : ℕ) × (pattern_named code.net given.pattern ≡ Some number) × (sink_named code.net given.node ≡ Some node)
  named = declined_named given (pattern_named code.net given.pattern) (sink_named code.net given.node) (stream_paths given.input code.net links) (given.output ∷ []) is.clear

  pattern_within : pattern_in given code < length code.net.patterns
  pattern_within =
      subst (λ n. n < length code.net.patterns) (sym (ap (λ (o : Option ℕ). unwrap_or o 0) named.2))
      (named_within (λ pattern. bytes_eq pattern.name given.pattern) code.net.patterns named.0 named.2)

  place_within : sink_in given code < length code.net.sinks
  place_within =
      subst (λ n. n < length code.net.sinks) (sym (ap (λ (o : Option ℕ). unwrap_or o 0) named.3))
      (sink_within code.net (node_named code.net given.node) named.1 named.3)

  demand_within : demand < demand_count code.net
  demand_within = number_within code.net (record { sink = sink_in given code; pattern = pattern_in given code }) place_within pattern_within

  pattern_is : pattern_of_demand code.net demand ≡ pattern_in given code
  pattern_is = ap (λ (demand : Demand). demand.pattern) (demand_of_number code.net (record { sink = sink_in given code; pattern = pattern_in given code }) pattern_within)

  accepted : IsAccepted code
  accepted = is.code_held.2.accepted

  -- the links that are wanted are live, and there is one
  live : (link : ℕ) → Contains links link → is_live_in code (pattern_in given code) link ≡ true
  live link there =
      let plan = sink_plan_of code demand in
      let live_in = is_live_in code (pattern_of_demand code.net demand) in
      let wanted : wants plan link ≡ true = All-contains (λ link. wants plan link ≡ true) links link (filter_passes (wants plan) plan.links) there in
      let within : place_of plan link < length plan.links = omega (arith, wanted-place plan link wanted, length-map plan.links live_in) in
      ap (λ pattern. is_live_in code pattern link) (sym pattern_is) ∙ ap live_in (sym (at-place_of plan link within)) ∙ sym (get_or-map live_in plan.links (place_of plan link) 0 false within) ∙ wanted

  -- ---- what is read

  counts : All (HasCount count) streams
  counts = subst (λ n. All (HasCount n) streams) (length-file_window file code.rate) (streams_count given code links window files is.numbered is.streams live)

  generations : generations_of streams ≡ count
  generations = by_links streams (λ none. some_wanted code demand accepted demand_within (sym (streams_links given code links window files is.numbered is.streams) ∙ ap (map (λ stream. stream.link)) none)) counts
    where
      by_links : (streams : List Stream) → streams ≢ [] → All (HasCount count) streams → generations_of streams ≡ count
      by_links [] some each = absurd (some refl)
      by_links (stream ∷ streams) some each = generations-count count stream streams (omega arith) each

  -- the blocks that are decoded are those of the file
  decoded : (generation : ℕ) → generation < count → block_in code demand streams generation ≡ block_of code.rate (piece_of file code.rate generation)
  decoded generation below =
      decoded-traffic code demand window streams is.numbered
      (subst (λ pattern. All (BringsTraffic code pattern window) streams) (sym pattern_is) (streams_bring given code links window files is.numbered is.streams))
      (streams_links given code links window files is.numbered is.streams) accepted demand_within generation (omega (arith, below, length-file_window file code.rate))
      ∙ block_at-file file code.rate generation below

  -- so no place is missing, no count is wrong, and what they count is the file
  no_bad : first_bad code demand streams count ≡ None
  no_bad =
      let block = block_in code demand streams in
      ap (option_map (bad_block (λ generation. count_of (block generation))))
      (find_nothing (λ generation. is_bad (capacity code.rate) count generation (count_of (block generation))) 0 count (λ generation from below.
      let within : generation < count = omega arith in
      ap (is_bad (capacity code.rate) count generation) (ap count_of (decoded generation within) ∙ count_of-file file code.rate rate_some rate_low generation)
      ∙ count_is-good file code.rate rate_some rate_low generation within))

  abbrev refusal : Option Outcome
  refusal = option_or (first_lacking code.net count streams) (first_bad code demand streams count)

  none_refused : refusal ≡ None
  none_refused = ap (λ lacking. option_or lacking (first_bad code demand streams count)) (none_lacking code.net count streams counts) ∙ no_bad

  abbrev turns : List (List Written)
  turns = sink_turns given code streams count

  abbrev line : List ℕ
  line = received_line (bytes_in code demand streams count) count

  file_is : files_by (given.output ∷ []) turns ≡ (given.output, file) ∷ []
  file_is =
      ap (λ bytes. (given.output, bytes) ∷ [])
      (turns-add given.output (sink_turn given code streams) (received_in code demand streams) (λ generation. part-adds given.output (received_in code demand streams generation)) (range_with_len 0 count)
      ∙ ap concat (same_made (received_in code demand streams) (piece_of file code.rate) count []
      (λ generation below. ap counted_bytes (decoded generation below) ∙ counted-file file code.rate rate_some rate_low generation))
      ∙ pieces-file file code.rate rate_some)

  -- ---- step by step

  abbrev gathers : List (List ℕ) → Behaviour
  gathers read = sink_gathers given code (streams_of links read)

  abbrev reads : Behaviour
  reads = reads_each stream_limit (streams_wanted given.input code.net links) gathers

  abbrev declines : Option Outcome
  declines = declined given (pattern_named code.net given.pattern) (sink_named code.net given.node) (stream_paths given.input code.net links) (given.output ∷ [])

  held : AreHeld stream_limit (streams_wanted given.input code.net links) read files
  held = streams_held given code links window files is.numbered is.streams

  -- the command owes to be done
  gathers_owed : OwedBy (sink_gathers given code streams).due files Done
  gathers_owed =
      subst (λ n. OwedBy (sink_writes given code streams n).due files Done) (sym generations)
      (or_owed refusal (fills (given.output ∷ []) turns line) files Done none_refused refl)

  owed : OwedBy (sink_command given).due files Done
  owed =
      held_owed code_limit IsCodeOf RefusesCode given.code (sink_through given) files code is.code_held Done
      (or_owed declines reads files Done is.clear (each_owed stream_limit (streams_wanted given.input code.net links) gathers read files Done held gathers_owed))

  -- and where it is, the file is left
  left : (outcome : Outcome) (before after : Outside) → before.files ≡ Some files → outcome.status ≡ Done → (sink_command given).changes outcome before after
      → Told after.files (λ files. Holds file (files given.output))
  left outcome before after told done changes =
      let found : is_lost outcome.status ≡ false = ap is_lost done in
      let through = held_changes code_limit IsCodeOf RefusesCode given.code (sink_through given) files code is.code_held code_input.same outcome before after told found changes in
      let gathered = each_changes stream_limit (streams_wanted given.input code.net links) gathers read files outcome before after told held found
      (or_changes declines reads outcome before after is.clear through) in
      let filled = or_changes refusal (fills (given.output ∷ []) turns line) outcome before after none_refused
      (subst (λ n. (sink_writes given code streams n).changes outcome before after) generations gathered) in
      let all : Becomes before.files after.files (WritesFiles (files_by (given.output ∷ []) turns)) =
      subst (λ status. ChangesFilling (given.output ∷ []) turns line status before after) done filled in
      left_told before.files after.files files (WritesFiles (files_by (given.output ∷ []) turns)) (λ files. Holds file (files given.output)) told all (λ new written.
      All-head (λ file. Holds file.1 (new file.0)) (given.output, file) [] (subst (λ written. WritesFiles written files new) file_is written).these)

-- A sink that is given streams for the blocks of a file is done, or there was no memory, and its file is that file.
pub sink-receives : {S C L : Type 0} {g : StoreGhosts S} {h : SinkGhosts C} {k : LinksGhosts L} (o : Objects g h k) (given : AtNode) (status : Status) → Performs (sink_command given) o status
    → SinkReceives given status (outside_before o) (outside_after o)
sink-receives o given status performs code file files told is =
    let before = outside_before o in
    let after = outside_after o in
    let leaves = performs.of_content in
    record {
      received = λ done. left given code file files is leaves.outcome before after told (done_outcome leaves.outcome status before after done leaves.says) leaves.changes;
      comes = owed_comes (sink_command given) status before after files told (owed given code file files is) performs.of_inputs;
    }
