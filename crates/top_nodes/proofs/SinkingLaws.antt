-- What has to be known of a sink at work: streams that are whole, counts, and the calls.
use Rattle.std.specs.Prelude.{◌≡◌, ◌⊎◌, ◌<◌, ◌+◌, ◌∷◌, ◌++◌, ◌==◌, [], ℕ, Bool, true, false, nat_lt, if◌then◌else◌, find, position, sum_by, unwrap_or, List, None, Option, Some, length}
use Rattle.std.specs.List.{range_with_len}
use Rattle.std.specs.Str.{bytes_eq}
use Rattle.std.specs.Option.{option_and_then, option_map, option_or}
use Rattle.std.proofs.Common.{refl, sym, ap, subst, ◌∙◌, arith, inl, inr}
use Rattle.std.proofs.lemmas.Bool.{eqb-false, eqb-true, lt-ltb}
use Rattle.std.proofs.lemmas.List.{map-id}
use Rattle.std.proofs.lemmas.List.FromFn.{sum_by-map-range_with_len_more}
use Rattle.std.proofs.lemmas.List.Quantifiers.{position-Some}
use Rattle.command_steps.proofs.ListedLaws.{reads_each_had, reads_each_lost}
use Rattle.command_steps.specs.Filling.{Fills, RunsFilling, StopsFilling, fills}
use Rattle.command_steps.specs.Listed.{reads_each}
use Rattle.command_steps.specs.Steps.{RunsOrForgets}
use Rattle.command_steps.proofs.RefusalLaws.{or_refuses_none, or_refuses_some}
use Rattle.failure_patterns.specs.Demands.{number_of}
use Rattle.generation_frame.specs.Blocks.{capacity, counted_bytes}
use Rattle.item_list.proofs.Ranges.{find_first, find_nothing}
use Rattle.lif_outside.specs.Events.{Event, appended}
use Rattle.lif_outside.specs.FileCalls.{StopsWithin, Written, appends_of}
use Rattle.lif_outside.specs.Sequences.{Are}
use Rattle.link_streams.specs.Streams.{Stream}
use Rattle.net_model.specs.declared.net.Net.{Net}
use Rattle.node_program.specs.declared.code.Code.{Code}
use Rattle.node_stations.specs.Opening.{demand_of}
use Rattle.top_base.specs.Inputs.{IsNoMemory}
use Rattle.top_base.specs.Making.{shares}
use Rattle.top_base.specs.Named.{node_named, pattern_named, sink_named}
use Rattle.top_base.specs.Paths.{shared_path}
use Rattle.top_base.specs.Lines.{received_line, write_fault_line}
use Rattle.top_base.specs.Performs.{Behaviour}
use Rattle.top_base.specs.Words.{AtNode}
use Rattle.top_base.specs.declared.outcome.Outcome.{Outcome}
use Rattle.top_base.specs.declared.status.Status.TheVariants.{Done, WriteFault}
use Rattle.top_nodes.proofs.ReadingLaws.{HasLost, HasReadAll}
use Rattle.top_nodes.specs.Declined.{declined}
use Rattle.top_nodes.specs.Files.{first_lacking, generations_of, stream_limit, stream_paths, streams_of, streams_wanted}
use Rattle.top_nodes.specs.Sink.{bad_block, block_in, bytes_in, demand_in, first_bad, is_bad, links_in, received_in, sink_gathers, sink_in, sink_through, sink_turn, sink_turns}
use Rattle.top_nodes.specs.declared.sinking.Sinking.{Sinking}

-- ---- what words name

-- a pattern that is named is one of the network's, and so is a sink
pub pattern_within : (net : Net) (name : List ℕ) (pattern : ℕ) → pattern_named net name ≡ Some pattern → pattern < length net.patterns
pattern_within net name pattern named = (position-Some (λ pattern. bytes_eq pattern.name name) net.patterns pattern (record { name = []; links = [] }) named).0

pub sink_within : (net : Net) (name : List ℕ) (sink : ℕ) → sink_named net name ≡ Some sink → sink < length net.sinks
sink_within net name sink named = by_node (node_named net name) named
  where
    by_node : (node : Option ℕ) → option_and_then (λ node. position (λ one. one == node) net.sinks) node ≡ Some sink → sink < length net.sinks
    by_node (Some node) named = (position-Some (λ one. one == node) net.sinks sink 0 named).0
    by_node None named = absurd (cc)

-- where both are named, this is their demand
pub demand_named : (given : AtNode) (code : Code) (pattern sink : ℕ) → pattern_named code.net given.pattern ≡ Some pattern → sink_named code.net given.node ≡ Some sink
    → demand_in given code ≡ number_of code.net (record { sink = sink; pattern = pattern })
demand_named given code pattern sink named found =
    ap (λ (one : Option ℕ). demand_of code (unwrap_or one 0) (sink_in given code)) named ∙ ap (λ (one : Option ℕ). demand_of code pattern (unwrap_or one 0)) found

-- and a path that is shared declines
pub declined_named : (given : AtNode) (named found : Option ℕ) (pattern sink : ℕ) (inputs outputs : List (List ℕ)) → named ≡ Some pattern → found ≡ Some sink
    → declined given named found inputs outputs ≡ option_map shares (shared_path (given.code ∷ inputs) outputs)
declined_named given named found pattern sink inputs outputs is is_found =
    ap (λ named. declined given named found inputs outputs) is ∙ ap (λ found. declined given (Some pattern) found inputs outputs) is_found

-- ---- counts

-- so many blocks, by what each counts and by how many bytes it has room for
module _ (room generations : ℕ) (count : ℕ → ℕ) where
  abbrev bad : ℕ → Bool
  bad generation = is_bad room generations generation (count generation)

  abbrev refused : Option Outcome
  refused = option_map (bad_block count) (find bad (range_with_len 0 generations))

  -- the first count is wrong, behind others that aren't
  pub count_bad : (generation counted : ℕ) → generation < generations → ((one : ℕ) → one < generation → bad one ≡ false) → counted ≡ count generation → is_bad room generations generation counted ≡ true
      → refused ≡ Some (bad_block (λ one. counted) generation)
  count_bad generation counted below good is wrong =
      ap (option_map (bad_block count)) (find_first bad 0 generations generation (omega arith) (omega arith) (ap (is_bad room generations generation) (sym is) ∙ wrong) (λ one from before. good one before))
      ∙ ap (λ number. Some (bad_block (λ one. number) generation)) (sym is)

  -- no count is
  pub counts_good : ((one : ℕ) → one < generations → bad one ≡ false) → refused ≡ None
  counts_good good = ap (option_map (bad_block count)) (find_nothing bad 0 generations (λ one from below. good one (omega (arith, below))))

-- one block more
pub counted_more : (count : ℕ → ℕ) (generations : ℕ) → sum_by count (range_with_len 0 (generations + 1)) ≡ sum_by count (range_with_len 0 generations) + count generations
counted_more count generations =
    ap (sum_by count) (sym (map-id (range_with_len 0 (generations + 1)))) ∙ sum_by-map-range_with_len_more count (λ (one : ℕ). one) 0 generations generations (omega arith)
    ∙ ap (λ numbers. sum_by count numbers + count generations) (map-id (range_with_len 0 generations))

-- ---- a sink at work

-- it has the code, the demand, the streams and the generations as before
pub record IsStill {F : Type 0} (old new : Sinking F) : Type 0 where
  pub code : new.code ≡ old.code
  pub demand : new.demand ≡ old.demand
  pub streams : new.streams ≡ old.streams
  pub generations : new.generations ≡ old.generations

pub still_here : {F : Type 0} (sinking : Sinking F) → IsStill sinking sinking
still_here sinking = record { code = refl; demand = refl; streams = refl; generations = refl }

pub still_then : {F : Type 0} (old mid new : Sinking F) → IsStill old mid → IsStill mid new → IsStill old new
still_then old mid new one other = record {
  code = other.code ∙ one.code;
  demand = other.demand ∙ one.demand;
  streams = other.streams ∙ one.streams;
  generations = other.generations ∙ one.generations;
}

module _ {F : Type 0} (old new : Sinking F) (still : IsStill old new) where
  -- so its blocks are as before, which counts are wrong, and what the output gets of a block
  pub block_still : (generation : ℕ) → block_in new.code.now new.demand new.streams generation ≡ block_in old.code.now old.demand old.streams generation
  block_still generation = cc

  pub turns_still : (given : AtNode) → sink_turns given new.code.now new.streams new.generations ≡ sink_turns given old.code.now old.streams old.generations
  turns_still given = cc

  pub bad_still : (generation count : ℕ)
      → is_bad (capacity new.code.now.rate) new.generations generation count ≡ is_bad (capacity old.code.now.rate) old.generations generation count
  bad_still generation count = cc

  pub turn_still : (given : AtNode) (generation : ℕ) → sink_turn given new.code.now new.streams generation ≡ sink_turn given old.code.now old.streams generation
  turn_still given generation = cc

-- ---- the calls

-- the appends of the turn of a generation, by what its block counts
module _ (given : AtNode) (code : Code) (streams : List Stream) (generation demand : ℕ) (block bytes : List ℕ)
    (numbered : demand ≡ demand_in given code) (decoded : block ≡ block_in code demand streams generation) (counted : bytes ≡ counted_bytes block) where
  received : bytes ≡ received_in code (demand_in given code) streams generation
  received = counted ∙ ap counted_bytes (decoded ∙ ap (λ number. block_in code number streams generation) numbered)

  abbrev turn_by : Bool → List ℕ → List Event
  turn_by some bytes = appends_of ((if some then (given.output, bytes) ∷ [] else []) ∷ [])

  turn_is : (some : Bool) → nat_lt 0 (length bytes) ≡ some → appends_of (sink_turn given code streams generation ∷ []) ≡ turn_by some bytes
  turn_is some is = ap (λ bytes. turn_by (nat_lt 0 (length bytes)) bytes) (sym received) ∙ ap (λ some. turn_by some bytes) is

  pub turn_none : (length bytes == 0) ≡ true → appends_of (sink_turn given code streams generation ∷ []) ≡ []
  turn_none none = turn_is false (ap (nat_lt 0) (eqb-true (length bytes) 0 none))

  pub turn_some : (length bytes == 0) ≡ false → appends_of (sink_turn given code streams generation ∷ []) ≡ appended given.output bytes ∷ []
  turn_some some =
      let apart = eqb-false (length bytes) 0 some in
      turn_is true (lt-ltb 0 (length bytes) (omega (arith, apart)))

-- ---- with streams that were read

-- the calls of a sink whose streams are whole
module _ (given : AtNode) (code : Code) (demand : ℕ) (streams : List Stream) (generations : ℕ)
    (numbered : demand ≡ demand_in given code) (all : generations ≡ generations_of streams) (whole : first_lacking code.net generations streams ≡ None) where
  abbrev number : ℕ
  number = demand_in given code

  abbrev count : ℕ
  count = generations_of streams

  abbrev turns_all : List (List Written)
  turns_all = sink_turns given code streams count

  abbrev line_all : List ℕ
  line_all = received_line (bytes_in code number streams count) count

  -- what refuses them is the first count that is wrong
  refusal_is : option_or (first_lacking code.net count streams) (first_bad code number streams count) ≡ first_bad code demand streams generations
  refusal_is =
      ap (λ lack. option_or lack (first_bad code number streams count)) (ap (λ n. first_lacking code.net n streams) (sym all) ∙ whole)
      ∙ ap (λ n. first_bad code number streams n) (sym all) ∙ ap (λ d. first_bad code d streams generations) (sym numbered)

  pub runs_refused : (outcome : Outcome) → first_bad code demand streams generations ≡ Some outcome → RunsOrForgets (sink_gathers given code streams) outcome []
  runs_refused outcome bad =
      or_refuses_some (option_or (first_lacking code.net count streams) (first_bad code number streams count)) (fills (given.output ∷ []) turns_all line_all) outcome outcome []
      (refusal_is ∙ bad) (inl refl) refl

  -- where none is, the file is filled
  runs_filled : (outcome : Outcome) (events : List Event) → first_bad code demand streams generations ≡ None → RunsFilling (given.output ∷ []) turns_all line_all outcome.status outcome.line events
      → RunsOrForgets (sink_gathers given code streams) outcome events
  runs_filled outcome events good runs =
      or_refuses_none (option_or (first_lacking code.net count streams) (first_bad code number streams count)) (fills (given.output ∷ []) turns_all line_all) outcome events
      (refusal_is ∙ good) (inl (runs, refl))

  pub runs_done : (said : List ℕ) (events : List Event) → first_bad code demand streams generations ≡ None → said ≡ received_line (bytes_in code demand streams generations) generations
      → Fills (given.output ∷ []) (Are (appends_of (sink_turns given code streams generations))) events → RunsOrForgets (sink_gathers given code streams) (record { status = Done; line = said }) events
  runs_done said events good is filled =
      let line : said ≡ line_all =
      is ∙ ap (λ d. received_line (bytes_in code d streams generations) generations) numbered ∙ ap (λ n. received_line (bytes_in code number streams n) n) all in
      runs_filled (record { status = Done; line = said }) events good
      (line, subst (λ n. Fills (given.output ∷ []) (Are (appends_of (sink_turns given code streams n))) events) all filled)

  pub runs_stopped : (outcome : Outcome) (events : List Event) → first_bad code demand streams generations ≡ None → outcome.status ≡ WriteFault → outcome.line ≡ write_fault_line
      → StopsFilling (given.output ∷ []) (StopsWithin (appends_of (sink_turns given code streams generations))) events → RunsOrForgets (sink_gathers given code streams) outcome events
  runs_stopped outcome events good status line stopped =
      runs_filled outcome events good
      (subst (λ status. RunsFilling (given.output ∷ []) turns_all line_all status outcome.line events) (sym status)
      (line, subst (λ n. StopsFilling (given.output ∷ []) (StopsWithin (appends_of (sink_turns given code streams n))) events) all stopped))

-- ---- with an accepted code

module _ (given : AtNode) (code : Code) where
  abbrev links : List ℕ
  links = links_in given code

  abbrev refusal : Option Outcome
  refusal = declined given (pattern_named code.net given.pattern) (sink_named code.net given.node) (stream_paths given.input code.net links) (given.output ∷ [])

  abbrev rest : List (List ℕ) → Behaviour
  rest files = sink_gathers given code (streams_of links files)

  abbrev reads : Behaviour
  reads = reads_each stream_limit (streams_wanted given.input code.net links) rest

  -- words are declined, or there is no memory for them
  pub through_declined : (outcome : Outcome) → IsNoMemory outcome ⊎ (refusal ≡ Some outcome) → RunsOrForgets (sink_through given code) outcome []
  through_declined outcome (inl lost) = inr (lost, refl)
  through_declined outcome (inr refused) = or_refuses_some refusal reads outcome outcome [] refused (inl refl) refl

  -- streams lack a place, or there is no memory for their sink
  pub gathers_refused : (streams : List Stream) (outcome : Outcome) → IsNoMemory outcome ⊎ (first_lacking code.net (generations_of streams) streams ≡ Some outcome)
      → RunsOrForgets (sink_gathers given code streams) outcome []
  gathers_refused streams outcome (inl lost) = inr (lost, refl)
  gathers_refused streams outcome (inr lacking) =
      let count = generations_of streams in
      let number = demand_in given code in
      let bad = first_bad code number streams count in
      or_refuses_some (option_or (first_lacking code.net count streams) bad)
      (fills (given.output ∷ []) (sink_turns given code streams count) (received_line (bytes_in code number streams count) count)) outcome outcome []
      (ap (λ lack. option_or lack bad) lacking) (inl refl) refl

  module _ (clear : refusal ≡ None) where
    -- a stream couldn't be had
    pub through_lost : (outcome : Outcome) (events : List Event) → HasLost given.input code.net links outcome events → RunsOrForgets (sink_through given code) outcome events
    through_lost outcome events (inl loses) =
        or_refuses_none refusal reads outcome events clear (inl (reads_each_lost stream_limit (streams_wanted given.input code.net links) rest outcome events loses))
    through_lost outcome events (inr forgets) = inr forgets

    -- all were, and this came of them
    pub through_read : (streams : List Stream) (outcome : Outcome) (first later : List Event) → HasReadAll given.input code.net links streams first
        → RunsOrForgets (sink_gathers given code streams) outcome later → RunsOrForgets (sink_through given code) outcome (first ++ later)
    through_read streams outcome first later read runs =
        or_refuses_none refusal reads outcome (first ++ later) clear
        (reads_each_had stream_limit (streams_wanted given.input code.net links) rest read.0 outcome first later read.1
        (subst (λ streams. RunsOrForgets (sink_gathers given code streams) outcome later) read.2 runs))
