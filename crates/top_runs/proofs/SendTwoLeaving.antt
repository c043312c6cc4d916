-- What `sendtwo` leaves, by the calls after an accepted code was read.
use Rattle.std.specs.Prelude.{◌≡◌, ◌⊎◌, ◌<◌, ◌≤◌, ◌||◌, ◌*◌, ◌+◌, ◌-◌, ◌/◌, ◌%◌, ◌==◌, ◌^◌, if◌then◌else◌, ℕ, Bool, true, false, List, [], ◌∷◌, Option, Some, Ok, drop, length, map, not, take, unwrap_or, Contains, slice_get}
use Rattle.std.specs.List.{AllByRecursion, concat}
use Rattle.std.specs.Str.{bytes_eq}
use Rattle.std.proofs.Common.{refl, sym, ap, subst, ◌∙◌, inl, inr, arith}
use Rattle.std.proofs.Math.Bool.{or-true}
use Rattle.std.proofs.Math.Nat.{add-mul, lt-div-mul-add, mul-le-mul_right}
use Rattle.std.proofs.Math.Seq.{drop-append_seam, take-append_seam}
use Rattle.std.proofs.lemmas.List.{take_all}
use Rattle.std.proofs.lemmas.Option.{slice_get_within}
use Rattle.std.proofs.lemmas.Slice.Eq.{bytes_eq-Decides}
use Rattle.generation_frame.proofs.BlockLaws.{counted-block, length-block}
use Rattle.generation_frame.proofs.PieceLaws.{concat-pieces_before, length-piece_of}
use Rattle.generation_frame.specs.Blocks.{block_count, capacity, counted_bytes, piece_of, pieces_before, row_bytes}
use Rattle.lif_outside.proofs.DeedLaws.{Accounted}
use Rattle.lif_outside.proofs.FileCallLaws.{appends_held, fault_there, long_held, reads_begin, whole_held}
use Rattle.lif_outside.proofs.StreamLaws.{fault_begins, whole_begins, whole_ended, whole_gave}
use Rattle.lif_outside.proofs.TurnLaws.{appends-front, appends-stopped, creates_of-fault}
use Rattle.lif_outside.specs.Calls.{Calls, Deeds, Outside}
use Rattle.lif_outside.specs.EventLaws.{KeepsPath}
use Rattle.lif_outside.specs.Events.{Event, Follow, HappenAt}
use Rattle.lif_outside.specs.FileCalls.{ReadsPastLimit, ReadsToFault, ReadsWhole, StopsWithin, bytes_appended, bytes_read}
use Rattle.lif_outside.specs.Files.{AreDistinct, Holds, HoldsPrefix}
use Rattle.lif_outside.specs.Moves.{Move, flights_given}
use Rattle.lif_outside.specs.Sequences.{Are, IsFrontOf}
use Rattle.lif_outside.specs.Told.{Becomes, Told}
use Rattle.lif_outside.specs.ToldLaws.{becomes_weaker}
use Rattle.node_program.specs.declared.code.Code.{Code}
use Rattle.source_delivery.proofs.TwinLaws.{brought-all}
use Rattle.source_delivery.specs.Carried.{Breaks, file_block, packets_given}
use Rattle.source_delivery.specs.Parts.{rows_of}
use Rattle.source_delivery.specs.Streaming.{AtRest, Feed}
use Rattle.source_delivery.specs.Twin.{marked, twin_block, twin_count, twin_feed, unmarked}
use Rattle.source_delivery.specs.declared.parts.Parts.TheVariants.{Two}
use Rattle.top_base.proofs.BothPathLaws.{length_both}
use Rattle.top_base.proofs.LeavingLaws.{keep_files, none_keep, told_at}
use Rattle.top_base.proofs.PathLaws.{clear_apart, clear_distinct}
use Rattle.top_base.specs.Accepting.{HoldsCode}
use Rattle.top_base.specs.Inputs.{HoldsLong, HoldsShort}
use Rattle.top_base.specs.Performs.{LeavesAll}
use Rattle.top_base.specs.Words.{SendTwo, source_limit}
use Rattle.top_base.specs.declared.status.Status.{Status}
use Rattle.top_base.specs.declared.status.Status.TheVariants.{BadSplit, Done, LinkFault, OutOfMemory, ReadFault, SamePath, TooLong, UnknownPattern, WriteFault}
use Rattle.top_runs.proofs.MarkedLaws.{marked-among, marked-happen, reads-keep}
use Rattle.top_runs.proofs.ReceivedLaws.{pieces-received}
use Rattle.top_runs.proofs.SendLeaving.{prefix_of_front, within-patterns}
use Rattle.top_runs.proofs.SendingLaws.{all_keeps, append_fault, at_source, bytes_got, count_of as carried_count, decoded_blocks, due_are, due_of, leaves_carried, links_fault, part_keeps, quiet-left, read_among, reads_of, seed-left, stopped_keeps, uncreated, writes_of}
use Rattle.top_runs.specs.SendTwo.Changes.{ChangesTo, HasCode, LeavesOutputs, LeavesPart, LeavesSources, LeavesUnwritten, own}
use Rattle.top_runs.specs.SendTwo.Given.{IsClear, count_of, first_of, outputs_of, pattern_in, second_of, sending_of}
use Rattle.top_runs.specs.SendTwo.Runs.{CarriesBoth, FirstSoFar, RunsCode, SecondSoFar, SentBoth, StopsCreating}
use Rattle.top_runs.specs.Sending.{Sending, received_by}

-- ---- the rows of each source in a block of both

module _ (first_rate second_rate : ℕ) (some_first : 1 ≤ first_rate) (some_second : 1 ≤ second_rate) (low : first_rate + second_rate ≤ 32) (one two : List ℕ) where
  short : (rate : ℕ) (file : List ℕ) (generation : ℕ) → rate ≤ 32 → length (piece_of file rate generation) < 2 ^ 32
  short rate file generation few = omega (arith, length-piece_of file rate generation, few)

  -- what the rows of a file count are its source's bytes
  own-piece : (file generation : ℕ) → counted_bytes (rows_of (Two first_rate) file (twin_block first_rate second_rate one two generation))
      ≡ (if file % 2 == 0 then piece_of one first_rate generation else piece_of two second_rate generation)
  own-piece file generation = by_test (file % 2 == 0)
    where
      front : List ℕ
      front = file_block one first_rate generation

      long : length (file_block one first_rate generation) ≡ first_rate * row_bytes
      long = length-block first_rate (piece_of one first_rate generation) some_first (length-piece_of one first_rate generation)

      by_test : (test : Bool)
          → counted_bytes (if test then take (first_rate * row_bytes) (twin_block first_rate second_rate one two generation) else drop (first_rate * row_bytes) (twin_block first_rate second_rate one two generation))
          ≡ (if test then piece_of one first_rate generation else piece_of two second_rate generation)
      by_test true =
          ap (λ n. counted_bytes (take n (twin_block first_rate second_rate one two generation))) (sym long)
          ∙ ap counted_bytes (take-append_seam (file_block one first_rate generation) (file_block two second_rate generation))
          ∙ counted-block first_rate (piece_of one first_rate generation) (short first_rate one generation (omega (arith, low)))
      by_test false =
          ap (λ n. counted_bytes (drop n (twin_block first_rate second_rate one two generation))) (sym long)
          ∙ ap counted_bytes (drop-append_seam (file_block one first_rate generation) (file_block two second_rate generation))
          ∙ counted-block second_rate (piece_of two second_rate generation) (short second_rate two generation (omega (arith, low)))

-- a source of a rate, by a file's place
abbrev own_rate : ℕ → ℕ → ℕ → ℕ
own_rate first_rate second_rate file = if file % 2 == 0 then first_rate else second_rate

-- whole generations of a file are all of it
whole-pieces : (file : List ℕ) (rate count : ℕ) → 1 ≤ rate → block_count file rate ≤ count → concat (pieces_before file rate count) ≡ file
whole-pieces file rate count some all =
    let size : 0 < capacity rate = omega (arith, some) in
    let enough : length file < length file / capacity rate * capacity rate + capacity rate = lt-div-mul-add size in
    let next : (length file / capacity rate + 1) * capacity rate ≤ count * capacity rate = mul-le-mul_right (capacity rate) all in
    let sum : (length file / capacity rate + 1) * capacity rate ≡ length file / capacity rate * capacity rate + 1 * capacity rate = add-mul (length file / capacity rate) 1 (capacity rate) in
    concat-pieces_before file rate count ∙ take_all (count * capacity rate) file (omega (arith, enough, next, sum))

-- a prefix of the front of a source is one of the source
own-prefix : (one two : List ℕ) (first_rate second_rate count file : ℕ) (b : Option (List ℕ))
    → HoldsPrefix (own (concat (pieces_before one first_rate count)) (concat (pieces_before two second_rate count)) file) b → HoldsPrefix (own one two file) b
own-prefix one two first_rate second_rate count file b = by_test (file % 2 == 0)
  where
    by_test : (test : Bool) → HoldsPrefix (if test then concat (pieces_before one first_rate count) else concat (pieces_before two second_rate count)) b → HoldsPrefix (if test then one else two) b
    by_test true held = prefix_of_front one first_rate count b held
    by_test false held = prefix_of_front two second_rate count b held

-- the pieces of a file's own source
own-pieces : (one two : List ℕ) (first_rate second_rate file generation : ℕ)
    → (if file % 2 == 0 then piece_of one first_rate generation else piece_of two second_rate generation) ≡ piece_of (own one two file) (own_rate first_rate second_rate file) generation
own-pieces one two first_rate second_rate file generation = by_test (file % 2 == 0)
  where
    by_test : (test : Bool) → (if test then piece_of one first_rate generation else piece_of two second_rate generation) ≡ piece_of (if test then one else two) (if test then first_rate else second_rate) generation
    by_test true = refl
    by_test false = refl

own-front : (one two : List ℕ) (first_rate second_rate count file : ℕ)
    → concat (pieces_before (own one two file) (own_rate first_rate second_rate file) count) ≡ own (concat (pieces_before one first_rate count)) (concat (pieces_before two second_rate count)) file
own-front one two first_rate second_rate count file = by_test (file % 2 == 0)
  where
    by_test : (test : Bool) → concat (pieces_before (if test then one else two) (if test then first_rate else second_rate) count)
        ≡ (if test then concat (pieces_before one first_rate count) else concat (pieces_before two second_rate count))
    by_test true = refl
    by_test false = refl

-- ---- the calls after the code was read, seen at a path

module _ (send : SendTwo) (code : Code) where
  abbrev inputs : List (List ℕ)
  inputs = send.code ∷ send.first ∷ send.second ∷ []

  -- no output stands twice, and none is a source; the pattern is one of the code's
  distinct : IsClear send code → AreDistinct (outputs_of send code)
  distinct clear = clear_distinct inputs (outputs_of send code) clear.apart

  pub first_apart : IsClear send code → ¬ Contains (outputs_of send code) send.first
  first_apart clear = clear_apart inputs (outputs_of send code) clear.apart send.first
      (ap (λ test. bytes_eq send.first send.code || (test || (bytes_eq send.first send.second || false))) ((bytes_eq-Decides send.first send.first).1 refl) ∙ or-true (bytes_eq send.first send.code))

  pub second_apart : IsClear send code → ¬ Contains (outputs_of send code) send.second
  second_apart clear = clear_apart inputs (outputs_of send code) clear.apart send.second
      (ap (λ test. bytes_eq send.second send.code || (bytes_eq send.second send.first || (test || false))) ((bytes_eq-Decides send.second send.second).1 refl)
      ∙ ap (λ test. bytes_eq send.second send.code || test) (or-true (bytes_eq send.second send.first)) ∙ or-true (bytes_eq send.second send.code))

  known : IsClear send code → pattern_in send code < length code.net.patterns
  known clear = within-patterns (λ pattern. bytes_eq pattern.name send.pattern) code.net.patterns clear.known

  abbrev pub how : Sending
  how = sending_of send code

  abbrev first_rate : ℕ
  first_rate = send.first_rate

  abbrev second_rate : ℕ
  second_rate = code.rate - send.first_rate

  abbrev pub feed : List Bool → Feed
  feed marks = twin_feed (first_of send).rate (second_of send code).rate marks

  module _ (faithful : Bool) where
    -- the sources were read after that, their first blocks were carried, and what came delivered
    module _ (P Q : List Event → Type 0) (D : List Event → List Event → Type 0) (R : (ℕ → List ℕ) → ℕ → ℕ → List Move → Type 0) (calls : Calls) (is : CarriesBoth faithful send code P Q D R calls)
        (keeps : (place : List ℕ) (due made : List Event) → AllByRecursion (KeepsPath place) due → D due made → AllByRecursion (KeepsPath place) made) where
      abbrev reads : List Event
      reads = reads_of code how (feed is.marks) faithful _ D R calls is.carries

      abbrev pub ones : List Event
      ones = marked is.marks reads

      abbrev pub twos : List Event
      twos = unmarked is.marks reads

      abbrev writes : List Event
      writes = writes_of code how (feed is.marks) faithful _ D R calls is.carries

      abbrev due : List Event
      due = due_of code how (feed is.marks) faithful _ D R calls is.carries

      abbrev count : ℕ
      count = carried_count code how (feed is.marks) faithful _ D R calls is.carries

      -- what happens at a source's path happens by its reads
      pub by_ones : (a b : Option (List ℕ)) → HappenAt send.first calls.on_store a b → HappenAt send.first ones a b
      by_ones a b happen =
          marked-happen send.first is.marks reads a b (reads-keep send.first is.carries.on_store.later)
          (at_source code how (feed is.marks) faithful _ D R calls is.carries keeps send.first a b (first_apart is.clear) happen)

      pub by_twos : (a b : Option (List ℕ)) → HappenAt send.second calls.on_store a b → HappenAt send.second twos a b
      by_twos a b happen =
          marked-happen send.second (map not is.marks) reads a b (reads-keep send.second is.carries.on_store.later)
          (at_source code how (feed is.marks) faithful _ D R calls is.carries keeps send.second a b (second_apart is.clear) happen)

      pub one_among : (event : Event) → Contains ones event → Contains calls.on_store event
      one_among event there = read_among code how (feed is.marks) faithful _ D R calls is.carries event (marked-among is.marks reads event there)

      pub two_among : (event : Event) → Contains twos event → Contains calls.on_store event
      two_among event there = read_among code how (feed is.marks) faithful _ D R calls is.carries event (marked-among (map not is.marks) reads event there)

      -- by faithful links, what is delivered to a file is the front of what was read of its source
      got_own : faithful ≡ true → (place : ℕ) → place < length (outputs_of send code)
          → received_by (Two first_rate) code (pattern_in send code) (packets_given calls.on_links) count place
          ≡ own (concat (pieces_before (bytes_read ones) first_rate count)) (concat (pieces_before (bytes_read twos) second_rate count)) place
      got_own by_faithful place within =
          let fit = is.clear.fit in
          let low = code.code.draft.low_rate in
          let some : 1 ≤ second_rate = omega (arith, fit.less) in
          pieces-received (Two first_rate) code (pattern_in send code) (packets_given calls.on_links) (own (bytes_read ones) (bytes_read twos) place) (own_rate first_rate second_rate place) place count (λ generation below.
          ap (λ block. counted_bytes (rows_of (Two first_rate) place block))
          (decoded_blocks code how (feed is.marks) faithful _ D R calls is.carries (known is.clear) by_faithful generation (place / 2) below
          (omega (arith, within, length_both send.prefix code.net)))
          ∙ own-piece first_rate second_rate fit.some some (omega (arith, fit.less, low)) (bytes_read ones) (bytes_read twos) place generation
          ∙ own-pieces (bytes_read ones) (bytes_read twos) first_rate second_rate place generation)
          ∙ own-front (bytes_read ones) (bytes_read twos) first_rate second_rate count place

      -- so each output holds a prefix of what was read of its source
      part_left : ((place : List ℕ) (b : Option (List ℕ)) → HappenAt place writes (Some []) b → HoldsPrefix (bytes_appended place due) b)
          → ((a b : Option (List ℕ)) → HappenAt send.first ones a b → IsFrontOf (unwrap_or a []) (bytes_read ones))
          → ((a b : Option (List ℕ)) → HappenAt send.second twos a b → IsFrontOf (unwrap_or a []) (bytes_read twos))
          → (before after : Outside) → Becomes before.files after.files (Follow calls.on_store) → LeavesPart faithful send code before after
      part_left held begins begins' before after change = record {
        first = bytes_read ones;
        second = bytes_read twos;
        first_front = told_at before.files after.files calls.on_store send.first (λ file. IsFrontOf (unwrap_or file []) (bytes_read ones)) (λ a b happen. begins a b (by_ones a b happen)) change;
        second_front = told_at before.files after.files calls.on_store send.second (λ file. IsFrontOf (unwrap_or file []) (bytes_read twos)) (λ a b happen. begins' a b (by_twos a b happen)) change;
        left = leaves_carried code how (feed is.marks) faithful _ D R calls is.carries keeps
            (λ path file. (place : ℕ) → slice_get (outputs_of send code) place ≡ Some path → faithful ≡ true → HoldsPrefix (own (bytes_read ones) (bytes_read twos) place) file)
            (λ path b there happen place at by_faithful.
            own-prefix (bytes_read ones) (bytes_read twos) first_rate second_rate count place b
            (subst (λ bytes. HoldsPrefix bytes b)
            (bytes_got code how (feed is.marks) faithful _ D R calls is.carries (distinct is.clear) path place at ∙ got_own by_faithful place (slice_get_within (outputs_of send code) place path at))
            (held path b happen)))
            before.files after.files change;
      }

    -- ---- both were read and delivered in full

    module _ (one two : List ℕ) (calls : Calls) (is : SentBoth faithful send code one two calls) where
      abbrev ByOnes : List Event → Type 0
      ByOnes = ReadsWhole send.first source_limit one

      abbrev ByTwos : List Event → Type 0
      ByTwos = ReadsWhole send.second source_limit two

      abbrev whole_ones : List Event
      whole_ones = ones ByOnes ByTwos Are AtRest calls is.delivered all_keeps

      abbrev whole_twos : List Event
      whole_twos = twos ByOnes ByTwos Are AtRest calls is.delivered all_keeps

      abbrev whole_count : ℕ
      whole_count = count ByOnes ByTwos Are AtRest calls is.delivered all_keeps

      whole : ByOnes whole_ones
      whole = is.delivered.carries.on_store.holds_later.reads.of_first

      whole' : ByTwos whole_twos
      whole' = is.delivered.carries.on_store.holds_later.reads.of_second

      pub first_held : (a b : Option (List ℕ)) → HappenAt send.first calls.on_store a b → HoldsShort source_limit one a
      first_held a b happen = record {
        held = whole_held send.first source_limit one whole_ones a b whole (by_ones ByOnes ByTwos Are AtRest calls is.delivered all_keeps a b happen);
        short = whole.short;
      }

      pub second_held : (a b : Option (List ℕ)) → HappenAt send.second calls.on_store a b → HoldsShort source_limit two a
      second_held a b happen = record {
        held = whole_held send.second source_limit two whole_twos a b whole' (by_twos ByOnes ByTwos Are AtRest calls is.delivered all_keeps a b happen);
        short = whole'.short;
      }

      gave : bytes_read whole_ones ≡ one
      gave = whole_gave send.first source_limit one whole_ones whole

      gave' : bytes_read whole_twos ≡ two
      gave' = whole_gave send.second source_limit two whole_twos whole'

      -- all blocks were brought, and carried
      all_count : whole_count ≡ count_of send code one two
      all_count =
          let brought = brought-all first_rate second_rate whole_ones whole_twos (whole_ended send.first source_limit one whole_ones whole) (whole_ended send.second source_limit two whole_twos whole') in
          let same : twin_count first_rate second_rate (bytes_read whole_ones) (bytes_read whole_twos) ≡ count_of send code one two =
          ap (λ bytes. twin_count first_rate second_rate bytes (bytes_read whole_twos)) gave ∙ ap (twin_count first_rate second_rate one) gave' in
          omega (arith, brought, same, is.all)

      -- each sink's file is what its rows count in what the sink decodes of what came
      received : (before after : Outside) → Becomes before.files after.files (Follow calls.on_store)
          → LeavesOutputs send code (λ place. Holds (received_by (Two first_rate) code (pattern_in send code) (packets_given calls.on_links) (count_of send code one two) place)) before after
      received before after change =
          leaves_carried code how (feed is.delivered.marks) faithful _ Are AtRest calls is.delivered.carries all_keeps
          (λ path file. (place : ℕ) → slice_get (outputs_of send code) place ≡ Some path
          → Holds (received_by (Two first_rate) code (pattern_in send code) (packets_given calls.on_links) (count_of send code one two) place) file)
          (λ path b there happen place at.
          appends_held (outputs_of send code) path (due ByOnes ByTwos Are AtRest calls is.delivered all_keeps) [] (Some []) b
          (due_are code how (feed is.delivered.marks) faithful _ Are AtRest calls is.delivered.carries) refl
          (subst (λ es. HappenAt path es (Some []) b) is.delivered.carries.on_store.holds_later.writes happen)
          ∙ ap Some (bytes_got code how (feed is.delivered.marks) faithful _ Are AtRest calls is.delivered.carries (distinct is.delivered.clear) path place at
          ∙ ap (λ n. received_by (Two first_rate) code (pattern_in send code) (packets_given calls.on_links) n place) all_count))
          before.files after.files change

      -- by faithful links, that is its own source
      received_own : faithful ≡ true → (place : ℕ) → place < length (outputs_of send code)
          → received_by (Two first_rate) code (pattern_in send code) (packets_given calls.on_links) (count_of send code one two) place ≡ own one two place
      received_own by_faithful place within =
          let fit = is.delivered.clear.fit in
          let n = count_of send code one two in
          let first_whole = whole-pieces one first_rate n fit.some (omega arith) in
          let second_whole = whole-pieces two second_rate n (omega (arith, fit.less)) (omega arith) in
          ap (λ n. received_by (Two first_rate) code (pattern_in send code) (packets_given calls.on_links) n place) (sym all_count)
          ∙ got_own ByOnes ByTwos Are AtRest calls is.delivered all_keeps by_faithful place within
          ∙ ap (λ n. own (concat (pieces_before (bytes_read whole_ones) first_rate n)) (concat (pieces_before (bytes_read whole_twos) second_rate n)) place) all_count
          ∙ ap (λ bytes. own (concat (pieces_before bytes first_rate n)) (concat (pieces_before (bytes_read whole_twos) second_rate n)) place) gave
          ∙ ap (λ bytes. own (concat (pieces_before one first_rate n)) (concat (pieces_before bytes second_rate n)) place) gave'
          ∙ ap (λ bytes. own bytes (concat (pieces_before two second_rate n)) place) first_whole
          ∙ ap (λ bytes. own one bytes place) second_whole

      delivered : (before after : Outside) → Becomes before.files after.files (Follow calls.on_store) → LeavesOutputs send code (λ place new. faithful ≡ true → Holds (own one two place) new) before after
      delivered before after change = becomes_weaker (received before after change) (λ old new changes. record {
        others = changes.others;
        these = λ path there place at by_faithful.
            changes.these path there place at ∙ ap Some (received_own by_faithful place (slice_get_within (outputs_of send code) place path at));
      })

      -- some blocks were carried
      some : 0 < is.delivered.carries.carried
      some = omega (arith, is.all)

    -- ---- they were read in part

    first_begins : (reads : List Event) (a b : Option (List ℕ)) → FirstSoFar send reads → HappenAt send.first reads a b → IsFrontOf (unwrap_or a []) (bytes_read reads)
    first_begins reads a b (false, are) happen = reads_begin send.first reads a b are.0 happen
    first_begins reads a b (true, are) happen = whole_begins send.first source_limit (bytes_read reads) reads a b are happen

    second_begins : (reads : List Event) (a b : Option (List ℕ)) → SecondSoFar send code reads → HappenAt send.second reads a b → IsFrontOf (unwrap_or a []) (bytes_read reads)
    second_begins reads a b (false, are) happen = reads_begin send.second reads a b are.0 happen
    second_begins reads a b (true, are) happen = whole_begins send.second source_limit (bytes_read reads) reads a b are happen

    module _ (P Q : List Event → Type 0) (R : (ℕ → List ℕ) → ℕ → ℕ → List Move → Type 0) (calls : Calls) (is : CarriesBoth faithful send code P Q IsFrontOf R calls)
        (begins : (reads : List Event) (a b : Option (List ℕ)) → P reads → HappenAt send.first reads a b → IsFrontOf (unwrap_or a []) (bytes_read reads))
        (begins' : (reads : List Event) (a b : Option (List ℕ)) → Q reads → HappenAt send.second reads a b → IsFrontOf (unwrap_or a []) (bytes_read reads)) where
      front_left : (before after : Outside) → Becomes before.files after.files (Follow calls.on_store) → LeavesPart faithful send code before after
      front_left before after change =
          part_left P Q IsFrontOf R calls is part_keeps
          (λ place b happen. appends-front (outputs_of send code) (due P Q IsFrontOf R calls is part_keeps) _ place b (due_are code how (feed is.marks) faithful _ IsFrontOf R calls is.carries)
          is.carries.on_store.holds_later.writes happen)
          (λ a b happen. begins (ones P Q IsFrontOf R calls is part_keeps) a b is.carries.on_store.holds_later.reads.of_first happen)
          (λ a b happen. begins' (twos P Q IsFrontOf R calls is part_keeps) a b is.carries.on_store.holds_later.reads.of_second happen)
          before after change

    -- ---- an append failed

    abbrev AnyOnes : List Event → Type 0
    AnyOnes = FirstSoFar send

    abbrev AnyTwos : List Event → Type 0
    AnyTwos = SecondSoFar send code

    stops_left : (calls : Calls) → CarriesBoth faithful send code AnyOnes AnyTwos StopsWithin AtRest calls
        → (before after : Outside) → Becomes before.files after.files (Follow calls.on_store) → LeavesPart faithful send code before after
    stops_left calls is before after change =
        part_left AnyOnes AnyTwos StopsWithin AtRest calls is stopped_keeps
        (λ place b happen.
        appends-stopped (outputs_of send code) (due AnyOnes AnyTwos StopsWithin AtRest calls is stopped_keeps) _ place b (due_are code how (feed is.marks) faithful _ StopsWithin AtRest calls is.carries)
        is.carries.on_store.holds_later.writes happen)
        (λ a b happen. first_begins (ones AnyOnes AnyTwos StopsWithin AtRest calls is stopped_keeps) a b is.carries.on_store.holds_later.reads.of_first happen)
        (λ a b happen. second_begins (twos AnyOnes AnyTwos StopsWithin AtRest calls is stopped_keeps) a b is.carries.on_store.holds_later.reads.of_second happen)
        before after change

    -- ---- what is left

    module _ (deeds : Deeds) (before after : Outside) (accounted : Accounted deeds before after) (held : Told before.files (λ files. HoldsCode (files send.code) (Ok code))) where
      abbrev made : Calls
      made = deeds.calls

      has_code : IsClear send code → HasCode send code before
      has_code clear = record { clear = clear; held = held }

      unwritten : StopsCreating send code made ⊎ CarriesBoth faithful send code AnyOnes AnyTwos StopsWithin AtRest made → LeavesUnwritten faithful send code before after
      unwritten (inl is) =
          let fault = creates_of-fault (outputs_of send code) made.on_store is.stops.on_store in
          record {
            has_code = has_code is.clear;
            output = fault.0;
            is_output = fault.1;
            rose = accounted.failed_create fault.0 fault.2;
            left = inl (uncreated code how (feed []) faithful made is.stops before.files after.files accounted.files);
          }
      unwritten (inr is) =
          let fault = append_fault code how (feed is.marks) faithful _ AtRest made is.carries in
          record {
            has_code = has_code is.clear;
            output = fault.0;
            is_output = fault.2;
            rose = accounted.failed_append fault.0 fault.1 fault.3;
            left = inr (stops_left made is before after accounted.files);
          }

      left_all : made.on_store ≡ [] → LeavesAll before after
      left_all none = keep_files before.files after.files made.on_store (none_keep made.on_store none) accounted.files

      sent : (one two : List ℕ) → SentBoth faithful send code one two made → LeavesSources faithful send code one two before after
      sent one two is =
          let carries = is.delivered.carries in
          record {
            has_code = has_code is.delivered.clear;
            has_first = told_at before.files after.files made.on_store send.first (HoldsShort source_limit one) (first_held one two made is) accounted.files;
            has_second = told_at before.files after.files made.on_store send.second (HoldsShort source_limit two) (second_held one two made is) accounted.files;
            seed = seed-left code how (feed is.delivered.marks) faithful _ Are made carries (some one two made is) before.faithful before.in_flight after.in_flight accounted.moved;
            quiet = quiet-left code how (feed is.delivered.marks) faithful _ Are made carries (some one two made is) before.faithful before.in_flight after.in_flight accounted.moved;
            flights = flights_given made.on_links;
            gave = accounted.gives;
            received = received one two made is before after accounted.files;
            left = delivered one two made is before after accounted.files;
          }

      abbrev FirstFault : List Event → Type 0
      FirstFault = ReadsToFault send.first source_limit

      abbrev SecondFault : List Event → Type 0
      SecondFault = ReadsToFault send.second source_limit

      abbrev FirstLong : List Event → Type 0
      FirstLong = ReadsPastLimit send.first source_limit

      abbrev SecondLong : List Event → Type 0
      SecondLong = ReadsPastLimit send.second source_limit

      -- what the calls after an accepted code was read leave
      pub changes_with : (status : Status) (line : List ℕ) → RunsCode faithful send code status line made → ChangesTo faithful send status line before after
      changes_with Done line (one, two, line_is, is) = (code, one, two, line_is, sent one two is)
      changes_with UnknownPattern line (unknown, line_is, none) = left_all (ap (λ (c : Calls). c.on_store) none)
      changes_with (BadSplit rate) line (pattern, unfit, rate_is, line_is, none) = left_all (ap (λ (c : Calls). c.on_store) none)
      changes_with SamePath line (path, pattern, fit, shared, line_is, none) = left_all (ap (λ (c : Calls). c.on_store) none)
      changes_with OutOfMemory line (lacks, line_is) = left_all lacks.on_store
      changes_with WriteFault line (stop, line_is) = (code, unwritten stop)
      changes_with ReadFault line (inl is, line_is) =
          let fault = is.carries.on_store.holds_later.reads.of_first in
          inr (
            code,
            record {
              has_code = has_code is.clear;
              rose = inl (accounted.failed_read send.first _ fault.room
                  (one_among FirstFault AnyTwos IsFrontOf AtRest made is part_keeps _ (fault_there send.first source_limit (ones FirstFault AnyTwos IsFrontOf AtRest made is part_keeps) fault)));
              left = front_left FirstFault AnyTwos AtRest made is (λ reads a b fault happen. fault_begins send.first source_limit reads a b fault happen) second_begins before after accounted.files;
            },
          )
      changes_with ReadFault line (inr is, line_is) =
          let fault = is.carries.on_store.holds_later.reads.of_second in
          inr (
            code,
            record {
              has_code = has_code is.clear;
              rose = inr (accounted.failed_read send.second _ fault.room
                  (two_among AnyOnes SecondFault IsFrontOf AtRest made is part_keeps _ (fault_there send.second source_limit (twos AnyOnes SecondFault IsFrontOf AtRest made is part_keeps) fault)));
              left = front_left AnyOnes SecondFault AtRest made is first_begins (λ reads a b fault happen. fault_begins send.second source_limit reads a b fault happen) before after accounted.files;
            },
          )
      changes_with TooLong line (inl is, line_is) = inr (
        code,
        record {
          has_code = has_code is.clear;
          long = inl (told_at before.files after.files made.on_store send.first (HoldsLong source_limit)
              (λ a b happen. long_held send.first source_limit (ones FirstLong AnyTwos IsFrontOf AtRest made is part_keeps) a b is.carries.on_store.holds_later.reads.of_first
              (by_ones FirstLong AnyTwos IsFrontOf AtRest made is part_keeps a b happen)) accounted.files);
          left = front_left FirstLong AnyTwos AtRest made is (λ reads a b past happen. reads_begin send.first reads a b past.reads happen) second_begins before after accounted.files;
        },
      )
      changes_with TooLong line (inr is, line_is) = inr (
        code,
        record {
          has_code = has_code is.clear;
          long = inr (told_at before.files after.files made.on_store send.second (HoldsLong source_limit)
              (λ a b happen. long_held send.second source_limit (twos AnyOnes SecondLong IsFrontOf AtRest made is part_keeps) a b is.carries.on_store.holds_later.reads.of_second
              (by_twos AnyOnes SecondLong IsFrontOf AtRest made is part_keeps a b happen)) accounted.files);
          left = front_left AnyOnes SecondLong AtRest made is first_begins (λ reads a b past happen. reads_begin send.second reads a b past.reads happen) before after accounted.files;
        },
      )
      changes_with LinkFault line (is, line_is) = (
        code,
        record {
          has_code = has_code is.clear;
          rose = accounted.failed_move (links_fault code how (feed is.marks) faithful _ IsFrontOf made is.carries);
          left = front_left AnyOnes AnyTwos (Breaks faithful code (pattern_in send code)) made is first_begins second_begins before after accounted.files;
        },
      )
      changes_with status line runs = absurd runs
