-- What `send` leaves, by the calls after an accepted code was read.
use Rattle.std.specs.Prelude.{◌≡◌, ◌⊎◌, ◌<◌, ◌||◌, ◌*◌, ◌^◌, ℕ, Bool, true, false, cond, nat_lt, List, [], ◌∷◌, IsSome, Option, None, Some, Ok, length, position, take, unwrap_or, Contains}
use Rattle.std.specs.List.{AllByRecursion, concat, position_or_len}
use Rattle.std.specs.Str.{bytes_eq}
use Rattle.std.proofs.Common.{refl, sym, ap, subst, ◌∙◌, inl, inr, ⊎_elim, arith}
use Rattle.std.proofs.Math.Bool.{or-true}
use Rattle.std.proofs.lemmas.Bool.{cases_lt, false≢true, ltb-true}
use Rattle.std.proofs.lemmas.List.{length-map, length-take, take_all, take-take}
use Rattle.std.proofs.lemmas.Slice.Eq.{bytes_eq-Decides}
use Rattle.generation_frame.proofs.BlockLaws.{counted-block}
use Rattle.generation_frame.proofs.PieceLaws.{concat-pieces_before, concat-pieces_of, length-piece_of}
use Rattle.generation_frame.specs.Blocks.{block_count, capacity, counted_bytes, piece_of, pieces_before}
use Rattle.lif_outside.proofs.DeedLaws.{Accounted}
use Rattle.lif_outside.proofs.FileCallLaws.{appends_held, fault_there, long_held, reads_begin, whole_held}
use Rattle.lif_outside.proofs.StreamLaws.{fault_begins, whole_begins, whole_gave}
use Rattle.lif_outside.proofs.TurnLaws.{appends-front, appends-stopped, creates_of-fault}
use Rattle.lif_outside.specs.Calls.{Calls, Deeds, Outside}
use Rattle.lif_outside.specs.EventLaws.{KeepsPath}
use Rattle.lif_outside.specs.Events.{Event, Follow, HappenAt}
use Rattle.lif_outside.specs.FileCalls.{ReadsPastLimit, ReadsToFault, ReadsWhole, StopsWithin, bytes_appended, bytes_read}
use Rattle.lif_outside.specs.Files.{AreDistinct, ChangesOnly, Files, Holds, HoldsPrefix}
use Rattle.lif_outside.specs.Moves.{Move, flights_given}
use Rattle.lif_outside.specs.Sequences.{Are, IsFrontOf}
use Rattle.lif_outside.specs.Told.{Becomes, Told}
use Rattle.lif_outside.specs.ToldLaws.{becomes_weaker}
use Rattle.name_texts.specs.Names.{node_name}
use Rattle.node_program.specs.declared.code.Code.{Code}
use Rattle.top_base.proofs.LeavingLaws.{keep_files, none_keep, told_at}
use Rattle.top_base.proofs.PathLaws.{clear_apart, clear_distinct}
use Rattle.top_base.specs.Accepting.{HoldsCode}
use Rattle.top_base.specs.Inputs.{HoldsLong, HoldsShort, ReadsAny}
use Rattle.top_base.specs.Performs.{LeavesAll}
use Rattle.top_base.specs.Words.{Send, source_limit}
use Rattle.top_base.specs.declared.status.Status.{Status}
use Rattle.top_base.specs.declared.status.Status.TheVariants.{Done, LinkFault, OutOfMemory, ReadFault, SamePath, TooLong, UnknownPattern, WriteFault}
use Rattle.top_runs.proofs.ReceivedLaws.{pieces-received}
use Rattle.top_runs.proofs.SendingLaws.{all_keeps, append_fault, at_source, bytes_got, count_of, decoded_blocks, due_are, due_of, leaves_carried, links_fault, part_keeps, place_of, quiet-left, read_among, reads_of, seed-left, stopped_keeps, uncreated, writes_of}
use Rattle.source_delivery.proofs.StreamingLaws.{all-brought}
use Rattle.top_base.specs.Paths.{dotted_path}
use Rattle.source_delivery.specs.Carried.{Breaks, packets_given}
use Rattle.top_runs.specs.Send.Changes.{ChangesTo, HasCode, HoldsReceived, LeavesPart, LeavesSource, LeavesUnwritten}
use Rattle.top_runs.specs.Send.Given.{IsClear, outputs_of, pattern_in, sending_of}
use Rattle.top_runs.specs.Send.Runs.{CarriesSource, RunsCode, Sent, StopsCreating}
use Rattle.top_runs.specs.Sending.{Carries, Sending, received_by}
use Rattle.source_delivery.specs.Streaming.{AtRest, Feed, file_feed}
use Rattle.source_delivery.specs.declared.parts.Parts.TheVariants.{One}

-- the front of a front is a front

take_twice : (k n : ℕ) (xs : List ℕ) → (m : ℕ) × (take k (take n xs) ≡ take m xs)
take_twice k n xs = ⊎_elim
    (λ less. (k, take-take k n xs (omega (arith, less))))
    (λ more. (n, take_all k (take n xs) (omega (arith, more, length-take n xs))))
    (cases_lt k n)

-- so a prefix of the one is a prefix of the other
pub prefix_of_front : (bytes : List ℕ) (rate count : ℕ) (b : Option (List ℕ)) → HoldsPrefix (concat (pieces_before bytes rate count)) b → HoldsPrefix bytes b
prefix_of_front bytes rate count b held =
    let within = take_twice held.0 (count * capacity rate) bytes in
    (within.0, held.1 ∙ ap (λ front. Some (take held.0 front)) (concat-pieces_before bytes rate count) ∙ ap Some within.1)

-- a pattern that is known is one of the code's
pub within-patterns : {X : Type 0} (test : X → Bool) (patterns : List X) → IsSome (position test patterns) → unwrap_or (position test patterns) 0 < length patterns
within-patterns test patterns is = by_test (nat_lt (position_or_len test patterns) (length patterns)) refl is
  where
    by_test : (within : Bool) → nat_lt (position_or_len test patterns) (length patterns) ≡ within → IsSome (cond within (Some (position_or_len test patterns)) None)
        → unwrap_or (cond within (Some (position_or_len test patterns)) None) 0 < length patterns
    by_test true e is = ltb-true (position_or_len test patterns) (length patterns) e
    by_test false e is = absurd (false≢true is)

-- ---- the calls after the code was read, seen at a path

module _ (send : Send) (code : Code) where
  -- no output stands twice, and none is the source; the pattern is one of the code's
  distinct : IsClear send code → AreDistinct (outputs_of send code)
  distinct clear = clear_distinct (send.code ∷ send.source ∷ []) (outputs_of send code) clear.apart

  pub source_apart : IsClear send code → ¬ Contains (outputs_of send code) send.source
  source_apart clear = clear_apart (send.code ∷ send.source ∷ []) (outputs_of send code) clear.apart send.source
      (ap (λ test. bytes_eq send.source send.code || (test || false)) ((bytes_eq-Decides send.source send.source).1 refl) ∙ or-true (bytes_eq send.source send.code))

  known : IsClear send code → pattern_in send code < length code.net.patterns
  known clear = within-patterns (λ pattern. bytes_eq pattern.name send.pattern) code.net.patterns clear.known

  abbrev pub how : Sending
  how = sending_of send code

  abbrev pub feed : Feed
  feed = file_feed code.rate

  module _ (faithful : Bool) where
    -- the source was read after that, its first blocks were carried, and what came delivered
    module _ (P : List Event → Type 0) (Q : List Event → List Event → Type 0) (R : (ℕ → List ℕ) → ℕ → ℕ → List Move → Type 0) (calls : Calls) (is : CarriesSource faithful send code P Q R calls)
        (keeps : (place : List ℕ) (due made : List Event) → AllByRecursion (KeepsPath place) due → Q due made → AllByRecursion (KeepsPath place) made) where
      abbrev pub reads : List Event
      reads = reads_of code how feed faithful P Q R calls is.carries

      abbrev writes : List Event
      writes = writes_of code how feed faithful P Q R calls is.carries

      abbrev due : List Event
      due = due_of code how feed faithful P Q R calls is.carries

      abbrev count : ℕ
      count = count_of code how feed faithful P Q R calls is.carries

      -- what happens at the source's path happens by the reads
      pub by_reads : (a b : Option (List ℕ)) → HappenAt send.source calls.on_store a b → HappenAt send.source reads a b
      by_reads a b happen = at_source code how feed faithful P Q R calls is.carries keeps send.source a b (source_apart is.clear) happen

      -- by faithful links, what is delivered to an output is the front of what was read
      got_front : faithful ≡ true → (place : ℕ) → place < length (outputs_of send code)
          → received_by One code (pattern_in send code) (packets_given calls.on_links) count place ≡ concat (pieces_before (bytes_read reads) code.rate count)
      got_front by_faithful place within =
          pieces-received One code (pattern_in send code) (packets_given calls.on_links) (bytes_read reads) code.rate place count (λ generation below.
          let short : length (piece_of (bytes_read reads) code.rate generation) < 2 ^ 32 =
          omega (arith, length-piece_of (bytes_read reads) code.rate generation, code.code.draft.low_rate) in
          ap counted_bytes
          (decoded_blocks code how feed faithful P Q R calls is.carries (known is.clear) by_faithful generation place below
          (omega (arith, within, length-map code.net.sinks (λ sink. dotted_path send.prefix (node_name code.net sink)))))
          ∙ counted-block code.rate (piece_of (bytes_read reads) code.rate generation) short)

      bytes_delivered : faithful ≡ true → (path : List ℕ) → Contains (outputs_of send code) path → bytes_appended path due ≡ concat (pieces_before (bytes_read reads) code.rate count)
      bytes_delivered by_faithful path there =
          bytes_got code how feed faithful P Q R calls is.carries (distinct is.clear) path there.0 (place_of (outputs_of send code) path there) ∙ got_front by_faithful there.0 there.1

      -- so each output holds a prefix of what was read
      part_left : ((place : List ℕ) (b : Option (List ℕ)) → HappenAt place writes (Some []) b → HoldsPrefix (bytes_appended place due) b)
          → ((a b : Option (List ℕ)) → HappenAt send.source reads a b → IsFrontOf (unwrap_or a []) (bytes_read reads))
          → (before after : Outside) → Becomes before.files after.files (Follow calls.on_store) → LeavesPart faithful send code before after
      part_left held begins before after change = record {
        read = bytes_read reads;
        is_front = told_at before.files after.files calls.on_store send.source (λ file. IsFrontOf (unwrap_or file []) (bytes_read reads)) (λ a b happen. begins a b (by_reads a b happen)) change;
        left = leaves_carried code how feed faithful P Q R calls is.carries keeps (λ path file. faithful ≡ true → HoldsPrefix (bytes_read reads) file)
            (λ place b there happen by_faithful.
            prefix_of_front (bytes_read reads) code.rate count b
            (subst (λ bytes. HoldsPrefix bytes b) (bytes_delivered by_faithful place there) (held place b happen)))
            before.files after.files change;
      }

    -- ---- the source was read and delivered in full

    module _ (source : List ℕ) (calls : Calls) (is : Sent faithful send code source calls) where
      abbrev ByReads : List Event → Type 0
      ByReads = ReadsWhole send.source source_limit source

      abbrev carries : Carries faithful how code feed ByReads Are AtRest calls
      carries = is.delivered.carries

      abbrev whole_reads : List Event
      whole_reads = reads ByReads Are AtRest calls is.delivered all_keeps

      abbrev whole_count : ℕ
      whole_count = count ByReads Are AtRest calls is.delivered all_keeps

      whole : ByReads whole_reads
      whole = carries.on_store.holds_later.reads

      pub source_held : (a b : Option (List ℕ)) → HappenAt send.source calls.on_store a b → HoldsShort source_limit source a
      source_held a b happen = record {
        held = whole_held send.source source_limit source whole_reads a b whole (by_reads ByReads Are AtRest calls is.delivered all_keeps a b happen);
        short = whole.short;
      }

      -- all blocks were brought, and carried
      all_count : whole_count ≡ block_count source code.rate
      all_count = omega (arith, all-brought send.source source_limit source whole_reads code.rate whole, is.all)

      -- each sink's file is what the sink decodes of what came
      received : (before after : Option Files) → Becomes before after (Follow calls.on_store)
          → Becomes before after (ChangesOnly (outputs_of send code) (λ path old new. HoldsReceived send code source (packets_given calls.on_links) path new))
      received before after change =
          leaves_carried code how feed faithful ByReads Are AtRest calls carries all_keeps (HoldsReceived send code source (packets_given calls.on_links))
          (λ path b there happen place at.
          appends_held (outputs_of send code) path (due ByReads Are AtRest calls is.delivered all_keeps) [] (Some []) b (due_are code how feed faithful ByReads Are AtRest calls carries) refl
          (subst (λ es. HappenAt path es (Some []) b) carries.on_store.holds_later.writes happen)
          ∙ ap Some (bytes_got code how feed faithful ByReads Are AtRest calls carries (distinct is.delivered.clear) path place at
          ∙ ap (λ n. received_by One code (pattern_in send code) (packets_given calls.on_links) n place) all_count))
          before after change

      -- by faithful links, that is the source
      received_source : faithful ≡ true → (place : ℕ) → place < length (outputs_of send code)
          → received_by One code (pattern_in send code) (packets_given calls.on_links) (block_count source code.rate) place ≡ source
      received_source by_faithful place within =
          ap (λ n. received_by One code (pattern_in send code) (packets_given calls.on_links) n place) (sym all_count)
          ∙ got_front ByReads Are AtRest calls is.delivered all_keeps by_faithful place within
          ∙ ap (λ n. concat (pieces_before (bytes_read whole_reads) code.rate n)) all_count
          ∙ ap (λ bytes. concat (pieces_before bytes code.rate (block_count source code.rate))) (whole_gave send.source source_limit source whole_reads whole)
          ∙ concat-pieces_of source code.rate code.code.draft.some_rate

      delivered : (before after : Option Files) → Becomes before after (Follow calls.on_store) → Becomes before after (ChangesOnly (outputs_of send code) (λ path old new. faithful ≡ true → Holds source new))
      delivered before after change = becomes_weaker (received before after change) (λ old new changes. record {
        others = changes.others;
        these = λ path there by_faithful.
            changes.these path there there.0 (place_of (outputs_of send code) path there) ∙ ap Some (received_source by_faithful there.0 there.1);
      })

      -- some blocks were carried
      some : 0 < carries.carried
      some = omega (arith, is.all)

    -- ---- the source was read in part

    module _ (P : List Event → Type 0) (R : (ℕ → List ℕ) → ℕ → ℕ → List Move → Type 0) (calls : Calls) (is : CarriesSource faithful send code P IsFrontOf R calls)
        (begins : (reads : List Event) (a b : Option (List ℕ)) → P reads → HappenAt send.source reads a b → IsFrontOf (unwrap_or a []) (bytes_read reads)) where
      front_left : (before after : Outside) → Becomes before.files after.files (Follow calls.on_store) → LeavesPart faithful send code before after
      front_left before after change =
          part_left P IsFrontOf R calls is part_keeps
          (λ place b happen. appends-front (outputs_of send code) (due P IsFrontOf R calls is part_keeps) _ place b (due_are code how feed faithful P IsFrontOf R calls is.carries)
          is.carries.on_store.holds_later.writes happen)
          (λ a b happen. begins (reads P IsFrontOf R calls is part_keeps) a b is.carries.on_store.holds_later.reads happen)
          before after change

    -- ---- an append failed, or a call on the links

    any_begins : (reads : List Event) (a b : Option (List ℕ)) → ReadsAny send.source source_limit reads → HappenAt send.source reads a b → IsFrontOf (unwrap_or a []) (bytes_read reads)
    any_begins reads a b (inl some) happen = reads_begin send.source reads a b some.reads happen
    any_begins reads a b (inr whole) happen = whole_begins send.source source_limit whole.0 reads a b whole.1 happen

    abbrev AnyReads : List Event → Type 0
    AnyReads = ReadsAny send.source source_limit

    stops_left : (calls : Calls) → CarriesSource faithful send code AnyReads StopsWithin AtRest calls
        → (before after : Outside) → Becomes before.files after.files (Follow calls.on_store) → LeavesPart faithful send code before after
    stops_left calls is before after change =
        part_left AnyReads StopsWithin AtRest calls is stopped_keeps
        (λ place b happen.
        appends-stopped (outputs_of send code) (due AnyReads StopsWithin AtRest calls is stopped_keeps) _ place b (due_are code how feed faithful AnyReads StopsWithin AtRest calls is.carries)
        is.carries.on_store.holds_later.writes happen)
        (λ a b happen. any_begins (reads AnyReads StopsWithin AtRest calls is stopped_keeps) a b is.carries.on_store.holds_later.reads happen)
        before after change

    -- ---- what is left

    module _ (deeds : Deeds) (before after : Outside) (accounted : Accounted deeds before after) (held : Told before.files (λ files. HoldsCode (files send.code) (Ok code))) where
      abbrev made : Calls
      made = deeds.calls

      has_code : IsClear send code → HasCode send code before
      has_code clear = record { clear = clear; held = held }

      unwritten : StopsCreating send code made ⊎ CarriesSource faithful send code AnyReads StopsWithin AtRest made → LeavesUnwritten faithful send code before after
      unwritten (inl is) =
          let fault = creates_of-fault (outputs_of send code) made.on_store is.stops.on_store in
          record {
            has_code = has_code is.clear;
            output = fault.0;
            is_output = fault.1;
            rose = accounted.failed_create fault.0 fault.2;
            left = inl (uncreated code how feed faithful made is.stops before.files after.files accounted.files);
          }
      unwritten (inr is) =
          let fault = append_fault code how feed faithful AnyReads AtRest made is.carries in
          record {
            has_code = has_code is.clear;
            output = fault.0;
            is_output = fault.2;
            rose = accounted.failed_append fault.0 fault.1 fault.3;
            left = inr (stops_left made is before after accounted.files);
          }

      left_all : made.on_store ≡ [] → LeavesAll before after
      left_all none = keep_files before.files after.files made.on_store (none_keep made.on_store none) accounted.files

      sent : (source : List ℕ) → Sent faithful send code source made → LeavesSource faithful send code source before after
      sent source is =
          let carries = is.delivered.carries in
          let ByReads = ReadsWhole send.source source_limit source in
          record {
            has_code = has_code is.delivered.clear;
            has_source = told_at before.files after.files made.on_store send.source (HoldsShort source_limit source) (source_held source made is) accounted.files;
            seed = seed-left code how feed faithful ByReads Are made carries (some source made is) before.faithful before.in_flight after.in_flight accounted.moved;
            quiet = quiet-left code how feed faithful ByReads Are made carries (some source made is) before.faithful before.in_flight after.in_flight accounted.moved;
            flights = flights_given made.on_links;
            gave = accounted.gives;
            received = received source made is before.files after.files accounted.files;
            left = delivered source made is before.files after.files accounted.files;
          }

      abbrev ToFault : List Event → Type 0
      ToFault = ReadsToFault send.source source_limit

      abbrev PastLimit : List Event → Type 0
      PastLimit = ReadsPastLimit send.source source_limit

      -- what the calls after an accepted code was read leave
      pub changes_with : (status : Status) (line : List ℕ) → RunsCode faithful send code status line made → ChangesTo faithful send status line before after
      changes_with Done line (source, line_is, is) = (code, source, line_is, sent source is)
      changes_with UnknownPattern line (unknown, line_is, none) = left_all (ap (λ (c : Calls). c.on_store) none)
      changes_with SamePath line (path, pattern, shared, line_is, none) = left_all (ap (λ (c : Calls). c.on_store) none)
      changes_with OutOfMemory line (lacks, line_is) = left_all lacks.on_store
      changes_with WriteFault line (stop, line_is) = (code, unwritten stop)
      changes_with ReadFault line (is, line_is) =
          let fault = is.carries.on_store.holds_later.reads in
          inr (
            code,
            record {
              has_code = has_code is.clear;
              rose = accounted.failed_read send.source _ fault.room
                  (read_among code how feed faithful ToFault IsFrontOf AtRest made is.carries _ (fault_there send.source source_limit (reads ToFault IsFrontOf AtRest made is part_keeps) fault));
              left = front_left ToFault AtRest made is (λ reads a b fault happen. fault_begins send.source source_limit reads a b fault happen) before after accounted.files;
            },
          )
      changes_with TooLong line (is, line_is) =
          inr (
            code,
            record {
              has_code = has_code is.clear;
              long = told_at before.files after.files made.on_store send.source (HoldsLong source_limit)
                  (λ a b happen. long_held send.source source_limit (reads PastLimit IsFrontOf AtRest made is part_keeps) a b is.carries.on_store.holds_later.reads
                  (by_reads PastLimit IsFrontOf AtRest made is part_keeps a b happen)) accounted.files;
              left = front_left PastLimit AtRest made is (λ reads a b past happen. reads_begin send.source reads a b past.reads happen) before after accounted.files;
            },
          )
      changes_with LinkFault line (is, line_is) = (
        code,
        record {
          has_code = has_code is.clear;
          rose = accounted.failed_move (links_fault code how feed faithful AnyReads IsFrontOf made is.carries);
          left = front_left AnyReads (Breaks faithful code (pattern_in send code)) made is any_begins before after accounted.files;
        },
      )
      changes_with status line runs = absurd runs
