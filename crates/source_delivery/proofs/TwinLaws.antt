-- Two sources that are streamed: what was read and carried so far, and what follows when more is read, delivered or fails.
use Rattle.std.specs.Prelude.{◌≡◌, ◌⊎◌, ◌<◌, ◌≤◌, ◌+◌, ◌*◌, ◌/◌, ◌^◌, ℕ, zero, suc, Bool, true, false, IsTrue, if◌then◌else◌, max, min, List, [], ◌∷◌, ◌++◌, Some, length, slice_get, take}
use Rattle.std.specs.List.{AllByRecursion}
use Rattle.std.proofs.Common.{refl, sym, ap, ◌∙◌, subst, arith, inl, inr, ⊎_elim}
use Rattle.std.proofs.Math.Nat.{add-mul, div-lt_iff_lt-mul, mul-le-mul_left, mul-le-mul_right}
use Rattle.std.proofs.lemmas.Bool.{cases_lt, false_from_ne_true, false≢true}
use Rattle.std.proofs.lemmas.List.{append-nil, append_assoc, drop_all, length-append}
use Rattle.std.proofs.lemmas.Nat.{le-div}
use Rattle.std.proofs.lemmas.Option.{same_Some}
use Rattle.generation_frame.proofs.BlockLaws.{length-block}
use Rattle.generation_frame.proofs.PieceLaws.{length-piece_of}
use Rattle.generation_frame.specs.Blocks.{block_count, capacity, piece_of, row_bytes}
use Rattle.lif_outside.proofs.FileCallLaws.{bytes_read-append}
use Rattle.lif_outside.proofs.SequenceLaws.{front_all, stops_behind}
use Rattle.lif_outside.proofs.StreamLaws.{AreWrites, due_stops, reads-append, split_at_call, stops_are_writes}
use Rattle.lif_outside.specs.Calls.{Calls}
use Rattle.lif_outside.specs.Events.{Event}
use Rattle.lif_outside.specs.FileCalls.{ReadsWhole, StopsWithin, bytes_read}
use Rattle.lif_outside.specs.Limits.{last_place}
use Rattle.lif_outside.specs.Sequences.{Are, IsFrontOf}
use Rattle.lif_outside.specs.Streams.{have_ended, reads_in, writes_in}
use Rattle.node_program.specs.declared.code.Code.{Code}
use Rattle.relay_runner.specs.Carried.{packets_given}
use Rattle.source_delivery.proofs.CarriedLaws.{blocks_in-alike, blocks_in-behind}
use Rattle.source_delivery.proofs.DeliveryLaws.{numbered-at}
use Rattle.source_delivery.proofs.MarkLaws.{all_marks, first-marks, first-rests, mark-front, mark-more, marked-short, more-as_many, second-marks, second-rests, unmarked-short}
use Rattle.source_delivery.proofs.PartLaws.{split-rows}
use Rattle.source_delivery.proofs.ReaderLaws.{AllRead, all-behind, block-behind, block-front, carried-brought, carried-whole, ended-by, full-count, held-count, last-count, reads-all, reads-are, stops-are}
use Rattle.source_delivery.proofs.StreamingLaws.{due, due-of, reads-still, streamed-break, streamed-end, streamed-longer, streamed-more, streamed-none, streamed-over, streamed-reads, streamed-refed, turns-writes}
use Rattle.source_delivery.specs.Carried.{blocks_in, file_block}
use Rattle.source_delivery.specs.Delivering.{DeliversBlocks, InterruptsBlocks, calls_join}
use Rattle.source_delivery.specs.Reading.{AreReads, AreWithin, HasRead, HaveEnded, IsSameReader, IsUnread, ReadsOn, Source, StopsReadingOn, StopsReads, source_of}
use Rattle.source_delivery.specs.Parts.{is_split}
use Rattle.source_delivery.specs.declared.delivery.SourceDelivery.{SourceDelivery}
use Rattle.source_delivery.specs.Streaming.{AtRest, Feed, IsStreamed}
use Rattle.source_delivery.specs.Turns.{Outputs, turns_from}
use Rattle.source_delivery.specs.Twin.{AreInTurn, AreSources, EndsTwin, IsFedTwin, IsOnTwin, ReadsBoth, ReadsSoFar, StopsTwin, StreamsBoth, StreamsTwin, AreTwinCounts, marked, twin_block, twin_brought, twin_count, twin_feed, unmarked}
use Rattle.source_delivery.specs.declared.reader.SourceReader.{SourceReader}
use Rattle.source_delivery.specs.declared.twin.TwinCounts.{TwinCounts}
use Rattle.source_delivery.specs.declared.delivery.DeliveryFault.{DeliveryFault}
use Rattle.source_delivery.specs.declared.delivery.DeliveryFault.TheVariants as fault
use Rattle.source_delivery.specs.declared.streaming.StreamFault.{StreamFault}
use Rattle.source_delivery.specs.declared.streaming.StreamFault.TheVariants as stream

-- ---- how many blocks two sources bring

-- the least of what those bring that haven't ended
least-enough : (carried those others all : ℕ) (e e' : Bool) → (e ≡ false → carried ≤ those) → (e' ≡ false → carried ≤ others) → (e ≡ true → e' ≡ true → carried ≤ all)
    → carried ≤ (if e then if e' then all else others else if e' then those else min those others)
least-enough carried those others all true true one other both = both refl refl
least-enough carried those others all true false one other both = other refl
least-enough carried those others all false true one other both = one refl
least-enough carried those others all false false one other both = omega (arith, one refl, other refl)

-- so many blocks were brought, where each source has them or has ended, and both together have so many
pub brought-enough : (first_rate second_rate carried : ℕ) (first second : List Event)
    → (have_ended first ≡ false → carried ≤ length (bytes_read first) / capacity first_rate)
    → (have_ended second ≡ false → carried ≤ length (bytes_read second) / capacity second_rate)
    → (have_ended first ≡ true → have_ended second ≡ true → carried ≤ twin_count first_rate second_rate (bytes_read first) (bytes_read second))
    → carried ≤ twin_brought first_rate second_rate first second
brought-enough first_rate second_rate carried first second =
    least-enough carried (length (bytes_read first) / capacity first_rate) (length (bytes_read second) / capacity second_rate)
    (twin_count first_rate second_rate (bytes_read first) (bytes_read second)) (have_ended first) (have_ended second)

-- once both have ended, all
pub brought-all : (first_rate second_rate : ℕ) (first second : List Event) → have_ended first ≡ true → have_ended second ≡ true
    → twin_brought first_rate second_rate first second ≡ twin_count first_rate second_rate (bytes_read first) (bytes_read second)
brought-all first_rate second_rate first second one other =
    ap (λ e. if e
    then if have_ended second then twin_count first_rate second_rate (bytes_read first) (bytes_read second) else length (bytes_read second) / capacity second_rate
    else if have_ended second then length (bytes_read first) / capacity first_rate else min (length (bytes_read first) / capacity first_rate) (length (bytes_read second) / capacity second_rate)) one
    ∙ ap (λ e. if e then twin_count first_rate second_rate (bytes_read first) (bytes_read second) else length (bytes_read second) / capacity second_rate) other

-- a front of no calls has none
front-none : (events more rest : List Event) → events ≡ [] → events ≡ more ++ rest → more ≡ []
front-none events [] rest none parts = refl
front-none events (event ∷ more) rest none parts = absurd (cc)

-- ---- a source that is read on

-- so many blocks are there of a source: it has ended, or they are whole
abbrev pub Enough : ℕ → ℕ → List Event → Type 0
Enough rate carried reads = have_ended reads ≡ false → carried ≤ length (bytes_read reads) / capacity rate

-- what a reader has read is enough, and stays so with what is read on
module _ (source : Source) (limit carried : ℕ) (reader : SourceReader) (before : List Event) (is : HasRead source limit carried reader before) (some_rate : 1 ≤ source.rate) where
  has-ended : have_ended before ≡ reader.ended
  has-ended = ended-by source.path limit reader.ended before is.are

  pub enough-here : Enough source.rate carried before
  enough-here unended = carried-brought source limit carried reader before is some_rate (sym has-ended ∙ unended)

  -- calls that follow none, or follow a source that hasn't ended
  pub enough-more : (events : List Event) → (reader.ended ≡ true → events ≡ []) → (more rest : List Event) → events ≡ more ++ rest → Enough source.rate carried (before ++ more)
  enough-more events none more rest parts unended = by_end reader.ended refl
    where
      longer : length (bytes_read before) ≤ length (bytes_read (before ++ more))
      longer = omega (arith, ap length (bytes_read-append before more), length-append (bytes_read before) (bytes_read more))

      by_end : (e : Bool) → reader.ended ≡ e → carried ≤ length (bytes_read (before ++ more)) / capacity source.rate
      by_end false running =
          let here = carried-whole source limit carried reader before is some_rate running in
          le-div carried (length (bytes_read (before ++ more))) (capacity source.rate) (omega (arith, some_rate)) (omega (arith, here, longer))
      by_end true over =
          let no_more : more ≡ [] = front-none events more rest (none over) parts in
          let same : before ++ more ≡ before = ap (λ more. before ++ more) no_more ∙ append-nil before in
          absurd (false≢true (sym unended ∙ ap have_ended same ∙ has-ended ∙ over))

  -- the blocks that were carried stay the same
  pub same-block : (more : List Event) → (reader.ended ≡ true → more ≡ []) → (generation : ℕ) → generation < carried
      → file_block (bytes_read (before ++ more)) source.rate generation ≡ file_block (bytes_read before) source.rate generation
  same-block more none generation below = by_end reader.ended refl
    where
      by_end : (e : Bool) → reader.ended ≡ e → file_block (bytes_read (before ++ more)) source.rate generation ≡ file_block (bytes_read before) source.rate generation
      by_end false running =
          let here = carried-whole source limit carried reader before is some_rate running in
          let few : (generation + 1) * capacity source.rate ≤ carried * capacity source.rate = mul-le-mul_right (capacity source.rate) (omega (arith, below)) in
          ap (λ bytes. file_block bytes source.rate generation) (bytes_read-append before more)
          ∙ block-front (bytes_read before) (bytes_read more) source.rate generation (omega (arith, few, here))
      by_end true over =
          let same : before ++ more ≡ before = ap (λ more. before ++ more) (none over) ∙ append-nil before in
          ap (λ events. file_block (bytes_read events) source.rate generation) same

-- ---- the reads of both, in turn

module _ (first_rate second_rate : ℕ) (marks : List Bool) (reads later : List Event) (as_many : length marks ≡ length reads) (turn : AreInTurn first_rate second_rate marks reads) where
  abbrev Ahead : List Bool → List Event → Type 0
  Ahead marks front =
      IsTrue (have_ended (marked marks front)) ⊎ (length (bytes_read (unmarked marks front)) / capacity second_rate < length (bytes_read (marked marks front)) / capacity first_rate)

  -- the reads so far, with more marks
  so_far : (others : List Bool) (front : List Event) (next : Event) (more : List Event) → reads ≡ front ++ next ∷ more → slice_get (marks ++ others) (length front) ≡ Some false → Ahead (marks ++ others) front
  so_far others front next more parts mark =
      let below : length front < length marks = omega (arith, as_many, ap length parts, length-append front (next ∷ more)) in
      let here = turn front next more parts (sym (mark-front marks others (length front) below) ∙ mark) in
      subst (λ events. IsTrue (have_ended events) ⊎ (length (bytes_read (unmarked (marks ++ others) front)) / capacity second_rate < length (bytes_read events) / capacity first_rate))
      (sym (marked-short marks others front (omega (arith, below))))
      (subst (λ events. IsTrue (have_ended (marked marks front)) ⊎ (length (bytes_read events) / capacity second_rate < length (bytes_read (marked marks front)) / capacity first_rate))
      (sym (unmarked-short marks others front (omega (arith, below)))) here)

  -- more reads of the first source are in turn
  pub first-in_turn : AreInTurn first_rate second_rate (marks ++ all_marks true later) (reads ++ later)
  first-in_turn front next rest parts mark = ⊎_elim
      (λ within. so_far (all_marks true later) front next within.0 within.1 mark)
      (λ past. absurd (behind past.0 past.1 past.2))
      (split_at_call reads later front next rest parts)
    where
      behind : (more : List Event) → front ≡ reads ++ more → later ≡ more ++ next ∷ rest → ⊥
      behind more is those =
          let place : length front ≡ length marks + length more = omega (arith, ap length is, length-append reads more, as_many) in
          let below : length more < length later = omega (arith, ap length those, length-append more (next ∷ rest)) in
          let is_first : slice_get (marks ++ all_marks true later) (length front) ≡ Some true =
          ap (slice_get (marks ++ all_marks true later)) place ∙ mark-more marks true later (length more) below in
          false≢true (same_Some false true (sym mark ∙ is_first))

  -- and so are those of the second, where the first is ahead of each
  pub second-in_turn : ((more : List Event) (next : Event) (rest : List Event) → later ≡ more ++ next ∷ rest
      → IsTrue (have_ended (marked marks reads)) ⊎ (length (bytes_read (unmarked marks reads ++ more)) / capacity second_rate < length (bytes_read (marked marks reads)) / capacity first_rate))
      → AreInTurn first_rate second_rate (marks ++ all_marks false later) (reads ++ later)
  second-in_turn ahead front next rest parts mark = ⊎_elim
      (λ within. so_far (all_marks false later) front next within.0 within.1 mark)
      (λ past. behind past.0 past.1 past.2)
      (split_at_call reads later front next rest parts)
    where
      behind : (more : List Event) → front ≡ reads ++ more → later ≡ more ++ next ∷ rest → Ahead (marks ++ all_marks false later) front
      behind more is those =
          let marks' = marks ++ all_marks false later in
          let firsts : marked marks' front ≡ marked marks reads = ap (marked marks') is ∙ second-marks marks reads later more (next ∷ rest) as_many those in
          let seconds : unmarked marks' front ≡ unmarked marks reads ++ more = ap (unmarked marks') is ∙ second-rests marks reads later more (next ∷ rest) as_many those in
          subst (λ events. IsTrue (have_ended events) ⊎ (length (bytes_read (unmarked marks' front)) / capacity second_rate < length (bytes_read events) / capacity first_rate)) (sym firsts)
          (subst (λ events. IsTrue (have_ended (marked marks reads)) ⊎ (length (bytes_read events) / capacity second_rate < length (bytes_read (marked marks reads)) / capacity first_rate)) (sym seconds)
          (ahead more next rest those))

-- ---- two sources on their way

module _ (faithful : Bool) (code : Code) (pattern : ℕ) (outputs : Outputs) (known : pattern < length code.net.patterns) (one two : Source) (some_one : 1 ≤ one.rate) (some_two : 1 ≤ two.rate) (limit : ℕ) where
  -- calls that follow on the store
  abbrev pub calls_behind : Calls → List Event → Calls
  calls_behind calls events = record { on_store = calls.on_store ++ events; on_links = calls.on_links }

  -- the blocks of what was read, and what was streamed of them
  abbrev block_by : List Bool → List Event → ℕ → List ℕ
  block_by marks reads = twin_block one.rate two.rate (bytes_read (marked marks reads)) (bytes_read (unmarked marks reads))

  abbrev feed_by : List Bool → Feed
  feed_by marks = twin_feed one.rate two.rate marks

  abbrev StreamedBy : List Bool → List Event → ℕ → Calls → Type 0
  StreamedBy marks reads carried calls = IsStreamed faithful code pattern outputs (feed_by marks) (block_by marks reads) carried calls

  -- marks behind those of the reads so far change nothing
  more-marks : (marks others : List Bool) (carried : ℕ) (block : ℕ → List ℕ) (calls : Calls) → length marks ≡ length (reads_in calls.on_store)
      → IsStreamed faithful code pattern outputs (feed_by marks) block carried calls → IsStreamed faithful code pattern outputs (feed_by (marks ++ others)) block carried calls
  more-marks marks others carried block calls as_many is =
      streamed-refed faithful code pattern outputs (feed_by marks) (feed_by (marks ++ others)) block carried calls
      (λ front rest parts.
      let few : length (reads_in front) ≤ length marks =
      omega (arith, as_many, ap length (ap reads_in parts ∙ reads-append front rest), length-append (reads_in front) (reads_in rest)) in
      ap (λ events. twin_brought one.rate two.rate events (unmarked marks (reads_in front))) (sym (marked-short marks others (reads_in front) few))
      ∙ ap (twin_brought one.rate two.rate (marked (marks ++ others) (reads_in front))) (sym (unmarked-short marks others (reads_in front) few)))
      is

  module _ (carried : ℕ) (first second : SourceReader) (before : Calls) (is : IsFedTwin faithful code pattern outputs one two limit carried first second before) where
    abbrev reads : List Event
    reads = reads_in before.on_store

    abbrev firsts : List Event
    firsts = marked is.marks reads

    abbrev seconds : List Event
    seconds = unmarked is.marks reads

    -- what was carried is there of both
    covered : first.ended ≡ true → second.ended ≡ true → carried ≤ twin_count one.rate two.rate (bytes_read firsts) (bytes_read seconds)
    covered over over' =
        let all = brought-all one.rate two.rate firsts seconds
        (has-ended one limit carried first firsts is.reads.of_first some_one ∙ over) (has-ended two limit carried second seconds is.reads.of_second some_two ∙ over') in
        omega (arith, is.streamed.brought, all)

    module _ (events : List Event) (all : AllRead events) where
      -- more was read of the first source
      module _ (none : first.ended ≡ true → events ≡ []) where
        first-brought : (more rest : List Event) → events ≡ more ++ rest → carried ≤ twin_brought one.rate two.rate (firsts ++ more) seconds
        first-brought more rest parts =
            brought-enough one.rate two.rate carried (firsts ++ more) seconds
            (enough-more one limit carried first firsts is.reads.of_first some_one events none more rest parts)
            (enough-here two limit carried second seconds is.reads.of_second some_two)
            (λ over over'. by_end first.ended refl (sym (has-ended two limit carried second seconds is.reads.of_second some_two) ∙ over'))
          where
            longer : length (bytes_read firsts) ≤ length (bytes_read (firsts ++ more))
            longer = omega (arith, ap length (bytes_read-append firsts more), length-append (bytes_read firsts) (bytes_read more))

            by_end : (e : Bool) → first.ended ≡ e → second.ended ≡ true → carried ≤ twin_count one.rate two.rate (bytes_read (firsts ++ more)) (bytes_read seconds)
            by_end true over over' =
                let same : firsts ++ more ≡ firsts = ap (λ more. firsts ++ more) (front-none events more rest (none over) parts) ∙ append-nil firsts in
                subst (λ events. carried ≤ twin_count one.rate two.rate (bytes_read events) (bytes_read seconds)) (sym same) (covered over over')
            by_end false running over' =
                let whole = le-div carried (length (bytes_read (firsts ++ more))) (capacity one.rate) (omega (arith, some_one))
                (omega (arith, carried-whole one limit carried first firsts is.reads.of_first some_one running, longer)) in
                omega (arith, whole)

        pub first-streamed : StreamedBy (is.marks ++ all_marks true events) (reads ++ events) carried (calls_behind before events)
        first-streamed =
            let marks = is.marks ++ all_marks true events in
            let block = twin_block one.rate two.rate (bytes_read firsts) (bytes_read seconds) in
            let whole : events ≡ events ++ [] = sym (append-nil events) in
            streamed-longer faithful code pattern outputs (feed_by marks) known block (block_by marks (reads ++ events)) carried (calls_behind before events)
            (blocks_in-alike (block_by marks (reads ++ events)) block 0 carried (λ generation begun below.
            ap (λ these. file_block (bytes_read these) one.rate generation ++ file_block (bytes_read (unmarked marks (reads ++ events))) two.rate generation) (first-marks is.marks reads events events [] is.reads.as_many whole)
            ∙ ap (λ these. file_block (bytes_read (firsts ++ events)) one.rate generation ++ file_block (bytes_read these) two.rate generation) (first-rests is.marks reads events events [] is.reads.as_many whole)
            ∙ ap (λ front. front ++ file_block (bytes_read seconds) two.rate generation) (same-block one limit carried first firsts is.reads.of_first some_one events none generation (omega (arith, below)))))
            (streamed-reads faithful code pattern outputs (feed_by marks) known block carried before events all (more-marks is.marks (all_marks true events) carried block before is.reads.as_many is.streamed)
            (λ more rest parts.
            subst (λ these. carried ≤ twin_brought one.rate two.rate these (unmarked marks (reads ++ more))) (sym (first-marks is.marks reads events more rest is.reads.as_many parts))
            (subst (λ these. carried ≤ twin_brought one.rate two.rate (firsts ++ more) these) (sym (first-rests is.marks reads events more rest is.reads.as_many parts))
            (first-brought more rest parts))))

      -- or of the second
      module _ (none : second.ended ≡ true → events ≡ []) where
        second-brought : (more rest : List Event) → events ≡ more ++ rest → carried ≤ twin_brought one.rate two.rate firsts (seconds ++ more)
        second-brought more rest parts =
            brought-enough one.rate two.rate carried firsts (seconds ++ more)
            (enough-here one limit carried first firsts is.reads.of_first some_one)
            (enough-more two limit carried second seconds is.reads.of_second some_two events none more rest parts)
            (λ over over'. by_end second.ended refl (sym (has-ended one limit carried first firsts is.reads.of_first some_one) ∙ over))
          where
            longer : length (bytes_read seconds) ≤ length (bytes_read (seconds ++ more))
            longer = omega (arith, ap length (bytes_read-append seconds more), length-append (bytes_read seconds) (bytes_read more))

            by_end : (e : Bool) → second.ended ≡ e → first.ended ≡ true → carried ≤ twin_count one.rate two.rate (bytes_read firsts) (bytes_read (seconds ++ more))
            by_end true over' over =
                let same : seconds ++ more ≡ seconds = ap (λ more. seconds ++ more) (front-none events more rest (none over') parts) ∙ append-nil seconds in
                subst (λ events. carried ≤ twin_count one.rate two.rate (bytes_read firsts) (bytes_read events)) (sym same) (covered over over')
            by_end false running over =
                let whole = le-div carried (length (bytes_read (seconds ++ more))) (capacity two.rate) (omega (arith, some_two))
                (omega (arith, carried-whole two limit carried second seconds is.reads.of_second some_two running, longer)) in
                omega (arith, whole)

        pub second-streamed : StreamedBy (is.marks ++ all_marks false events) (reads ++ events) carried (calls_behind before events)
        second-streamed =
            let marks = is.marks ++ all_marks false events in
            let block = twin_block one.rate two.rate (bytes_read firsts) (bytes_read seconds) in
            let whole : events ≡ events ++ [] = sym (append-nil events) in
            streamed-longer faithful code pattern outputs (feed_by marks) known block (block_by marks (reads ++ events)) carried (calls_behind before events)
            (blocks_in-alike (block_by marks (reads ++ events)) block 0 carried (λ generation begun below.
            ap (λ these. file_block (bytes_read these) one.rate generation ++ file_block (bytes_read (unmarked marks (reads ++ events))) two.rate generation) (second-marks is.marks reads events events [] is.reads.as_many whole)
            ∙ ap (λ these. file_block (bytes_read firsts) one.rate generation ++ file_block (bytes_read these) two.rate generation) (second-rests is.marks reads events events [] is.reads.as_many whole)
            ∙ ap (λ later. file_block (bytes_read firsts) one.rate generation ++ later) (same-block two limit carried second seconds is.reads.of_second some_two events none generation (omega (arith, below)))))
            (streamed-reads faithful code pattern outputs (feed_by marks) known block carried before events all (more-marks is.marks (all_marks false events) carried block before is.reads.as_many is.streamed)
            (λ more rest parts.
            subst (λ these. carried ≤ twin_brought one.rate two.rate these (unmarked marks (reads ++ more))) (sym (second-marks is.marks reads events more rest is.reads.as_many parts))
            (subst (λ these. carried ≤ twin_brought one.rate two.rate firsts these) (sym (second-rests is.marks reads events more rest is.reads.as_many parts))
            (second-brought more rest parts))))

      -- all reads, after these
      reads-now : reads_in (before.on_store ++ events) ≡ reads ++ events
      reads-now = reads-append before.on_store events ∙ ap (λ those. reads ++ those) (reads-all events all)

      whole-events : events ≡ events ++ []
      whole-events = sym (append-nil events)

      -- what was read of both, where more was read of the first, or of the second
      pub first-both : (P Q : List Event → Type 0) → P (firsts ++ events) → Q seconds
          → ReadsBoth one.rate two.rate P Q (is.marks ++ all_marks true events) (reads_in (before.on_store ++ events))
      first-both P Q here there = subst (ReadsBoth one.rate two.rate P Q (is.marks ++ all_marks true events)) (sym reads-now) (record {
        as_many = more-as_many is.marks reads events is.reads.as_many true;
        of_first = subst P (sym (first-marks is.marks reads events events [] is.reads.as_many whole-events)) here;
        of_second = subst Q (sym (first-rests is.marks reads events events [] is.reads.as_many whole-events)) there;
        in_turn = first-in_turn one.rate two.rate is.marks reads events is.reads.as_many is.reads.in_turn;
      })

      pub second-both : (P Q : List Event → Type 0) → P firsts → Q (seconds ++ events)
          → ((more : List Event) (next : Event) (rest : List Event) → events ≡ more ++ next ∷ rest
          → IsTrue (have_ended firsts) ⊎ (length (bytes_read (seconds ++ more)) / capacity two.rate < length (bytes_read firsts) / capacity one.rate))
          → ReadsBoth one.rate two.rate P Q (is.marks ++ all_marks false events) (reads_in (before.on_store ++ events))
      second-both P Q here there ahead = subst (ReadsBoth one.rate two.rate P Q (is.marks ++ all_marks false events)) (sym reads-now) (record {
        as_many = more-as_many is.marks reads events is.reads.as_many false;
        of_first = subst P (sym (second-marks is.marks reads events events [] is.reads.as_many whole-events)) here;
        of_second = subst Q (sym (second-rests is.marks reads events events [] is.reads.as_many whole-events)) there;
        in_turn = second-in_turn one.rate two.rate is.marks reads events is.reads.as_many is.reads.in_turn ahead;
      })

    -- the first source was read on
    module _ (now : SourceReader) (events : List Event) (none : first.ended ≡ true → events ≡ []) (more : HasRead one limit carried now (firsts ++ events)) where
      first-all : AllRead events
      first-all = all-behind firsts events (reads-are one.path limit now.ended (firsts ++ events) more.are)

      pub on-first : IsFedTwin faithful code pattern outputs one two limit carried now second (calls_behind before events)
      on-first = record {
        marks = is.marks ++ all_marks true events;
        reads = first-both events first-all (HasRead one limit carried now) (HasRead two limit carried second) more is.reads.of_second;
        streamed = subst (λ reads. StreamedBy (is.marks ++ all_marks true events) reads carried (calls_behind before events)) (sym (reads-now events first-all)) (first-streamed events first-all none);
      }

    -- where the first is held for a window, or has ended, a read of the second within its room is in turn
    ahead-of : (window : ℕ) (events : List Event) → (first.ended ≡ false → first.held ≡ window * capacity one.rate) → (second.ended ≡ true → events ≡ [])
        → length second.bytes.items ≡ window * capacity two.rate → AreWithin second events
        → (more : List Event) (next : Event) (rest : List Event) → events ≡ more ++ next ∷ rest
        → IsTrue (have_ended firsts) ⊎ (length (bytes_read (seconds ++ more)) / capacity two.rate < length (bytes_read firsts) / capacity one.rate)
    ahead-of window events full none room within more next rest parts = by_end first.ended refl
      where
        running : second.ended ≡ false
        running = false_from_ne_true second.ended (λ over. absurd (omega (arith, ap length (sym parts ∙ none over), length-append more (next ∷ rest))))

        by_end : (e : Bool) → first.ended ≡ e → IsTrue (have_ended firsts) ⊎ (length (bytes_read (seconds ++ more)) / capacity two.rate < length (bytes_read firsts) / capacity one.rate)
        by_end true over = inl (has-ended one limit carried first firsts is.reads.of_first some_one ∙ over)
        by_end false still =
            let those = full-count one limit carried first firsts is.reads.of_first some_one window still (full still) in
            let sum : (carried + window) * capacity two.rate ≡ carried * capacity two.rate + window * capacity two.rate = add-mul carried window (capacity two.rate) in
            let long : length (bytes_read (seconds ++ more)) ≡ length (bytes_read seconds) + length (bytes_read more) = ap length (bytes_read-append seconds more) ∙ length-append (bytes_read seconds) (bytes_read more) in
            let below : length (bytes_read (seconds ++ more)) < (carried + window) * capacity two.rate =
            omega (arith, long, sum, is.reads.of_second.at, is.reads.of_second.whole running, within more next rest parts, room) in
            let some : 0 < capacity two.rate = omega (arith, some_two) in
            inr (subst (λ n. length (bytes_read (seconds ++ more)) / capacity two.rate < n) (sym those) ((div-lt_iff_lt-mul some).1 below))

    -- the second source was read on, after the first
    module _ (window : ℕ) (now : SourceReader) (events : List Event) (none : second.ended ≡ true → events ≡ []) (more : HasRead two limit carried now (seconds ++ events))
        (full : first.ended ≡ false → first.held ≡ window * capacity one.rate) (room : length second.bytes.items ≡ window * capacity two.rate) (within : AreWithin second events) where
      second-all : AllRead events
      second-all = all-behind seconds events (reads-are two.path limit now.ended (seconds ++ events) more.are)

      pub on-second : IsFedTwin faithful code pattern outputs one two limit carried first now (calls_behind before events)
      on-second = record {
        marks = is.marks ++ all_marks false events;
        reads = second-both events second-all (HasRead one limit carried first) (HasRead two limit carried now) is.reads.of_first more (ahead-of window events full none room within);
        streamed = subst (λ reads. StreamedBy (is.marks ++ all_marks false events) reads carried (calls_behind before events)) (sym (reads-now events second-all)) (second-streamed events second-all none);
      }

    -- ---- a source couldn't be read on

    stops-twin : (why : StreamFault) (calls : Calls)
        → StreamsTwin faithful code pattern outputs one two (StopsReads one.path limit why) (ReadsSoFar two limit) IsFrontOf AtRest calls
        ⊎ StreamsTwin faithful code pattern outputs one two (ReadsSoFar one limit) (StopsReads two.path limit why) IsFrontOf AtRest calls
        → StopsTwin faithful code pattern outputs one two limit why calls
    stops-twin stream.Read calls stops = stops
    stops-twin stream.TooLong calls stops = stops
    stops-twin (stream.Sinks fault) calls (inl stops) = absurd stops.streams.on_store.reads.of_first
    stops-twin (stream.Sinks fault) calls (inr stops) = absurd stops.streams.on_store.reads.of_second

    module _ (why : StreamFault) (events : List Event) where
      pub first-stopped : first.ended ≡ false → StopsReads one.path limit why (firsts ++ events) → StopsTwin faithful code pattern outputs one two limit why (calls_behind before events)
      first-stopped still stop =
          let all = all-behind firsts events (stops-are one.path limit why (firsts ++ events) stop) in
          let marks = is.marks ++ all_marks true events in
          stops-twin why (calls_behind before events) (inl (record {
            marks = marks;
            streams = (streamed-over faithful code pattern outputs (feed_by marks) known (block_by marks (reads ++ events)) carried (calls_behind before events)
                (first-streamed events all (λ over. absurd (false≢true (sym still ∙ over))))
                (ReadsBoth one.rate two.rate (StopsReads one.path limit why) (ReadsSoFar two limit) marks) IsFrontOf front_all
                (first-both events all (StopsReads one.path limit why) (ReadsSoFar two limit) stop (second.ended, is.reads.of_second.are)) (ap (block_by marks) (reads-now events all))).0;
          }))

      pub second-stopped : (window : ℕ) → (first.ended ≡ false → first.held ≡ window * capacity one.rate) → length second.bytes.items ≡ window * capacity two.rate → AreWithin second events
          → second.ended ≡ false → StopsReads two.path limit why (seconds ++ events) → StopsTwin faithful code pattern outputs one two limit why (calls_behind before events)
      second-stopped window full room within still stop =
          let all = all-behind seconds events (stops-are two.path limit why (seconds ++ events) stop) in
          let marks = is.marks ++ all_marks false events in
          let none : second.ended ≡ true → events ≡ [] = λ over. absurd (false≢true (sym still ∙ over)) in
          stops-twin why (calls_behind before events) (inr (record {
            marks = marks;
            streams = (streamed-over faithful code pattern outputs (feed_by marks) known (block_by marks (reads ++ events)) carried (calls_behind before events)
                (second-streamed events all none)
                (ReadsBoth one.rate two.rate (ReadsSoFar one limit) (StopsReads two.path limit why) marks) IsFrontOf front_all
                (second-both events all (ReadsSoFar one limit) (StopsReads two.path limit why) (first.ended, is.reads.of_first.are) stop (ahead-of window events full none room within)) (ap (block_by marks) (reads-now events all))).0;
          }))

    -- ---- the blocks that both readers hold were carried

    -- both sources have ended only now, or a window of each that hasn't is held
    module _ (window count : ℕ) (began : (carried * capacity one.rate ≤ length (bytes_read firsts)) ⊎ (carried * capacity two.rate ≤ length (bytes_read seconds)))
        (first_full : first.ended ≡ false → first.held ≡ window * capacity one.rate) (second_full : second.ended ≡ false → second.held ≡ window * capacity two.rate)
        (first_few : first.held ≤ window * capacity one.rate) (second_few : second.held ≤ window * capacity two.rate)
        (running : ¬ HaveEnded first second → count ≡ window) (over : HaveEnded first second → count ≡ max (first.held / capacity one.rate) (second.held / capacity two.rate) + 1) where
      abbrev block : ℕ → List ℕ
      block = block_by is.marks reads

      -- how many blocks each has
      count-of : (source : Source) (reader : SourceReader) (these : List Event) → HasRead source limit carried reader these → 1 ≤ source.rate
          → ((block_count (bytes_read these) source.rate ≡ carried + reader.held / capacity source.rate + 1) ⊎ ((reader.held ≡ 0) × (block_count (bytes_read these) source.rate ≤ carried)))
      count-of source reader these has some = ⊎_elim
          (λ less. inr (omega (arith, held-count source limit carried reader these has some, less), few less))
          (λ whole. inl (last-count source limit carried reader these has some whole))
          (cases_lt (length (bytes_read these)) (carried * capacity source.rate))
        where
          few : length (bytes_read these) < carried * capacity source.rate → block_count (bytes_read these) source.rate ≤ carried
          few less =
              let size : 0 < capacity source.rate = omega (arith, some) in
              let below : length (bytes_read these) / capacity source.rate < carried = (div-lt_iff_lt-mul size).1 less in
              omega (arith, below)

      -- once both have ended, these are the last
      pub all-carried : HaveEnded first second → carried + count ≡ twin_count one.rate two.rate (bytes_read firsts) (bytes_read seconds)
      all-carried ended = by_counts (count-of one first firsts is.reads.of_first some_one) (count-of two second seconds is.reads.of_second some_two)
        where
          nothing : (held rate : ℕ) → held ≡ 0 → 1 ≤ rate → held / capacity rate ≡ 0
          nothing held rate none some = ap (λ n. n / capacity rate) none ∙ omega (arith, some)

          by_counts : ((block_count (bytes_read firsts) one.rate ≡ carried + first.held / capacity one.rate + 1) ⊎ ((first.held ≡ 0) × (block_count (bytes_read firsts) one.rate ≤ carried)))
              → ((block_count (bytes_read seconds) two.rate ≡ carried + second.held / capacity two.rate + 1) ⊎ ((second.held ≡ 0) × (block_count (bytes_read seconds) two.rate ≤ carried)))
              → carried + count ≡ twin_count one.rate two.rate (bytes_read firsts) (bytes_read seconds)
          by_counts (inl a) (inl b) = omega (arith, a, b, over ended)
          by_counts (inl a) (inr b) = omega (arith, a, b.1, nothing second.held two.rate b.0 some_two, over ended)
          by_counts (inr a) (inl b) = omega (arith, a.1, nothing first.held one.rate a.0 some_one, b, over ended)
          by_counts (inr a) (inr b) = ⊎_elim
              (λ whole. absurd (omega (arith, le-div carried (length (bytes_read firsts)) (capacity one.rate) (omega (arith, some_one)) whole, a.1)))
              (λ whole. absurd (omega (arith, le-div carried (length (bytes_read seconds)) (capacity two.rate) (omega (arith, some_two)) whole, b.1)))
              began

      -- so many blocks were brought
      pub within : carried + count ≤ twin_brought one.rate two.rate firsts seconds
      within =
          brought-enough one.rate two.rate (carried + count) firsts seconds
          (λ still.
          let is_open = sym (has-ended one limit carried first firsts is.reads.of_first some_one) ∙ still in
          let same : count ≡ window = running (λ ended. absurd (false≢true (sym is_open ∙ ended.0))) in
          omega (arith, same, full-count one limit carried first firsts is.reads.of_first some_one window is_open (first_full is_open)))
          (λ still.
          let is_open = sym (has-ended two limit carried second seconds is.reads.of_second some_two) ∙ still in
          let same : count ≡ window = running (λ ended. absurd (false≢true (sym is_open ∙ ended.1))) in
          omega (arith, same, full-count two limit carried second seconds is.reads.of_second some_two window is_open (second_full is_open)))
          (λ end end'.
          let all = all-carried (sym (has-ended one limit carried first firsts is.reads.of_first some_one) ∙ end, sym (has-ended two limit carried second seconds is.reads.of_second some_two) ∙ end') in
          omega (arith, all))

      -- the blocks at hand are those behind the ones that were carried
      abbrev hand : ℕ → List ℕ
      hand = twin_block one.rate two.rate (take first.held first.bytes.items) (take second.held second.bytes.items)

      pub hand-blocks : blocks_in hand 0 count ≡ blocks_in block carried count
      hand-blocks =
          blocks_in-behind hand block carried 0 count (λ generation.
          ap (λ bytes. file_block bytes one.rate generation ++ file_block (take second.held second.bytes.items) two.rate generation) is.reads.of_first.holds
          ∙ ap (λ front. front ++ file_block (take second.held second.bytes.items) two.rate generation) (block-behind (bytes_read firsts) one.rate carried generation)
          ∙ ap (λ bytes. file_block (bytes_read firsts) one.rate (carried + generation) ++ file_block bytes two.rate generation) is.reads.of_second.holds
          ∙ ap (λ later. file_block (bytes_read firsts) one.rate (carried + generation) ++ later) (block-behind (bytes_read seconds) two.rate carried generation))
          ∙ ap (λ n. blocks_in block n count) none
        where
          none : carried + 0 ≡ carried
          none = omega arith

      -- what a reader holds was carried whole
      emptied : (source : Source) (reader after : SourceReader) (these : List Event) → HasRead source limit carried reader these → 1 ≤ source.rate
          → after.at ≡ reader.at → after.ended ≡ reader.ended → after.held ≡ 0
          → (reader.ended ≡ false → reader.held ≡ count * capacity source.rate) → reader.held ≤ count * capacity source.rate → HasRead source limit (carried + count) after these
      emptied source reader after these has some at ended held full few =
          let sum : (carried + count) * capacity source.rate ≡ carried * capacity source.rate + count * capacity source.rate = add-mul carried count (capacity source.rate) in
          let past : length (bytes_read these) ≤ (carried + count) * capacity source.rate = omega (arith, sum, few, held-count source limit carried reader these has some) in
          record {
            are = subst (λ ended. AreReads source.path limit ended these) (sym ended) has.are;
            at = at ∙ has.at;
            holds = ap (λ n. take n after.bytes.items) held ∙ sym (drop_all ((carried + count) * capacity source.rate) (bytes_read these) past);
            whole = λ still.
                let is_open = sym ended ∙ still in
                omega (arith, at, held, has.whole is_open, full is_open, sum);
          }

      -- they were delivered
      pub on-carried : (first_now second_now : SourceReader) → first_now.at ≡ first.at → first_now.ended ≡ first.ended → first_now.held ≡ 0
          → second_now.at ≡ second.at → second_now.ended ≡ second.ended → second_now.held ≡ 0
          → (later : Calls) → DeliversBlocks faithful code pattern outputs carried (blocks_in hand 0 count) Are later
          → IsOnTwin faithful code pattern outputs one two limit (carried + count) first_now second_now (calls_join before later)
      on-carried first_now second_now at ended held at' ended' held' later more =
          let delivered = subst (λ blocks. DeliversBlocks faithful code pattern outputs carried blocks Are later) hand-blocks more in
          let feed = feed_by is.marks in
          let writes = subst AreWrites (sym (due-of faithful code pattern outputs feed known block carried count before later is.streamed within Are delivered.on_store))
          (turns-writes (turns_from outputs code pattern (packets_given later.on_links) carried count)) in
          let same = reads-still faithful code pattern outputs feed known block carried count before later is.streamed within writes in
          record {
            fed = record {
              marks = is.marks;
              reads = subst (ReadsBoth one.rate two.rate (HasRead one limit (carried + count) first_now) (HasRead two limit (carried + count) second_now) is.marks) (sym same) (record {
                as_many = is.reads.as_many;
                of_first = emptied one first first_now firsts is.reads.of_first some_one at ended held first-held first-few;
                of_second = emptied two second second_now seconds is.reads.of_second some_two at' ended' held' second-held second-few;
                in_turn = is.reads.in_turn;
              });
              streamed = subst (λ reads. StreamedBy is.marks reads (carried + count) (calls_join before later)) (sym same)
                  (streamed-more faithful code pattern outputs feed known block carried count before later is.streamed within delivered);
            };
            all = λ both.
                subst (λ reads. carried + count ≡ twin_count one.rate two.rate (bytes_read (marked is.marks reads)) (bytes_read (unmarked is.marks reads))) (sym same)
                (all-carried (sym ended ∙ both.0, sym ended' ∙ both.1));
          }
        where
          first-held : first.ended ≡ false → first.held ≡ count * capacity one.rate
          first-held still =
              first_full still ∙ ap (λ n. n * capacity one.rate) (sym (running (λ both. absurd (false≢true (sym still ∙ both.0)))))

          second-held : second.ended ≡ false → second.held ≡ count * capacity two.rate
          second-held still =
              second_full still ∙ ap (λ n. n * capacity two.rate) (sym (running (λ both. absurd (false≢true (sym still ∙ both.1)))))

          -- the last blocks have room for what is held
          few-of : (held rate n : ℕ) → held / capacity rate < n → 1 ≤ rate → held ≤ n * capacity rate
          few-of held rate n below some =
              let size : 0 < capacity rate = omega (arith, some) in
              let less : held < n * capacity rate = (div-lt_iff_lt-mul size).0 below in
              omega (arith, less)

          window-few : ¬ HaveEnded first second → (first.held ≤ count * capacity one.rate) × (second.held ≤ count * capacity two.rate)
          window-few still = (
            subst (λ n. first.held ≤ n * capacity one.rate) (sym (running still)) first_few,
            subst (λ n. second.held ≤ n * capacity two.rate) (sym (running still)) second_few,
          )

          few-by : (e e' : Bool) → first.ended ≡ e → second.ended ≡ e' → (first.held ≤ count * capacity one.rate) × (second.held ≤ count * capacity two.rate)
          few-by true true is_over is_over' = (
            few-of first.held one.rate count (omega (arith, over (is_over, is_over'))) some_one,
            few-of second.held two.rate count (omega (arith, over (is_over, is_over'))) some_two,
          )
          few-by true false is_over still = window-few (λ both. absurd (false≢true (sym still ∙ both.1)))
          few-by false e' still is_over' = window-few (λ both. absurd (false≢true (sym still ∙ both.0)))

          first-few : first.held ≤ count * capacity one.rate
          first-few = (few-by first.ended second.ended refl refl).0

          second-few : second.held ≤ count * capacity two.rate
          second-few = (few-by first.ended second.ended refl refl).1

      abbrev AnyReads : List Event → Type 0
      AnyReads = ReadsBoth one.rate two.rate (ReadsSoFar one limit) (ReadsSoFar two limit) is.marks

      -- or they weren't
      pub on-interrupted : (later : Calls) (why : DeliveryFault) → InterruptsBlocks faithful code pattern outputs carried (blocks_in hand 0 count) why later
          → StopsTwin faithful code pattern outputs one two limit (stream.Sinks why) (calls_join before later)
      on-interrupted later why broken =
          by_fault why (subst (λ blocks. InterruptsBlocks faithful code pattern outputs carried blocks why later) hand-blocks broken)
        where
          any : AnyReads reads
          any = record { as_many = is.reads.as_many; of_first = (first.ended, is.reads.of_first.are); of_second = (second.ended, is.reads.of_second.are); in_turn = is.reads.in_turn }

          by_fault : (why : DeliveryFault) → InterruptsBlocks faithful code pattern outputs carried (blocks_in block carried count) why later
              → StopsTwin faithful code pattern outputs one two limit (stream.Sinks why) (calls_join before later)
          by_fault fault.Links broken = record {
            marks = is.marks;
            streams = streamed-break faithful code pattern outputs (feed_by is.marks) known block carried count before later is.streamed within broken AnyReads any refl;
          }
          by_fault fault.Write broken =
              let these = due faithful code pattern outputs (feed_by is.marks) known block carried count before later is.streamed within in
              let sent =
              streamed-end faithful code pattern outputs (feed_by is.marks) known block carried count before later is.streamed within AnyReads StopsWithin any refl
              (λ writes stop. (stops_are_writes these later.on_store stop writes, due_stops these later.on_store stop))
              (λ these events stop. stops_behind (writes_in before.on_store) these events stop) broken in
              record { marks = is.marks; streams = sent.0 }

-- ---- a window of both

-- the rates of two sources that are sent
pub source-rates : {F : Type 0} (delivery : SourceDelivery F) (first second : SourceReader) → AreSources delivery first second → (1 ≤ first.rate) × (1 ≤ second.rate)
source-rates delivery first second are =
    let split = split-rows first.rate delivery.runner.code.rate (ap (λ parts. is_split parts delivery.runner.code.rate) (sym are.parts) ∙ delivery.split) in
    (split.0, omega (arith, split.1, are.rates))

-- a window has room for the blocks that are carried next
pub window-count : (first_rate second_rate window count : ℕ) (first second : SourceReader) → 1 ≤ first_rate → 1 ≤ second_rate → 1 ≤ window
    → (first.ended ≡ true → first.held < window * capacity first_rate) → (second.ended ≡ true → second.held < window * capacity second_rate)
    → (¬ HaveEnded first second → count ≡ window) → (HaveEnded first second → count ≡ max (first.held / capacity first_rate) (second.held / capacity second_rate) + 1)
    → (1 ≤ count) × (count ≤ window)
window-count first_rate second_rate window count first second some some' more room room' running over = by_ends first.ended second.ended refl refl
  where
    whole : ¬ HaveEnded first second → (1 ≤ count) × (count ≤ window)
    whole is = (omega (arith, running is, more), omega (arith, running is))

    by_ends : (e e' : Bool) → first.ended ≡ e → second.ended ≡ e' → (1 ≤ count) × (count ≤ window)
    by_ends true true end end' =
        let size : 0 < capacity first_rate = omega (arith, some) in
        let size' : 0 < capacity second_rate = omega (arith, some') in
        let below = (div-lt_iff_lt-mul size).1 (room end) in
        let below' = (div-lt_iff_lt-mul size').1 (room' end') in
        (omega (arith, over (end, end')), omega (arith, over (end, end'), below, below'))
    by_ends false e' is end' = whole (λ both. absurd (false≢true (sym is ∙ both.0)))
    by_ends true false end is = whole (λ both. absurd (false≢true (sym is ∙ both.1)))

-- the blocks of two sources are of the size of a block of the code
pub twin-sized : (first_rate second_rate rate : ℕ) → 1 ≤ first_rate → 1 ≤ second_rate → first_rate + second_rate ≡ rate → (first second : List ℕ) (start count : ℕ)
    → AllByRecursion (λ (block : List ℕ). length block ≡ rate * row_bytes) (blocks_in (twin_block first_rate second_rate first second) start count)
twin-sized first_rate second_rate rate some some' sum first second start zero = tt
twin-sized first_rate second_rate rate some some' sum first second start (suc count) =
    let front = length-block first_rate (piece_of first first_rate start) some (length-piece_of first first_rate start) in
    let rest = length-block second_rate (piece_of second second_rate start) some' (length-piece_of second second_rate start) in (
      omega (arith, length-append (file_block first first_rate start) (file_block second second_rate start), front, rest, sum),
      twin-sized first_rate second_rate rate some some' sum first second (start + 1) count,
    )

module _ (faithful : Bool) (code : Code) (pattern : ℕ) (outputs : Outputs) (known : pattern < length code.net.patterns) (limit : ℕ) (first second : SourceReader) (some_first : 1 ≤ first.rate) (some_second : 1 ≤ second.rate)
    (window carried : ℕ) (room : length first.bytes.items ≡ window * capacity first.rate) (room' : length second.bytes.items ≡ window * capacity second.rate) where
  abbrev one : Source
  one = source_of first

  abbrev two : Source
  two = source_of second

  abbrev Stops : StreamFault → Calls → Type 0
  Stops why calls = StopsTwin faithful code pattern outputs one two limit why calls

  -- calls on the store alone, behind those before
  joined-store : (P : Calls → Type 0) (before : Calls) (events : List Event) → P (calls_behind faithful code pattern outputs known one two some_first some_second limit before events)
      → P (calls_join before (record { on_store = events; on_links = [] }))
  joined-store P before events is = subst (λ moves. P (record { on_store = before.on_store ++ events; on_links = moves })) (sym (append-nil before.on_links)) is

  -- the first source couldn't be read on
  pub first-ends : (why : StreamFault) (events : List Event) → StopsReadingOn limit first why events
      → EndsTwin faithful code pattern outputs one two limit carried first second why (record { on_store = events; on_links = [] })
  first-ends why events stop before on =
      joined-store (Stops why) before events
      (first-stopped faithful code pattern outputs known one two some_first some_second limit carried first second before on.fed why events stop.unended (stop.stops one.rate carried _ on.fed.reads.of_first))

  module _ (now : SourceReader) (events : List Event) (same : IsSameReader first now) (read : ReadsOn limit first now events)
      (full : now.ended ≡ false → now.held ≡ length now.bytes.items) where
    first-full : now.ended ≡ false → now.held ≡ window * capacity first.rate
    first-full still = full still ∙ same.room ∙ room

    fed-first : (before : Calls) → IsOnTwin faithful code pattern outputs one two limit carried first second before
        → IsFedTwin faithful code pattern outputs one two limit carried now second (calls_behind faithful code pattern outputs known one two some_first some_second limit before events)
    fed-first before on =
        on-first faithful code pattern outputs known one two some_first some_second limit carried first second before on.fed now events read.unended (read.on one.rate carried _ on.fed.reads.of_first)

    -- the second source couldn't be read on
    pub second-ends : (why : StreamFault) (later : List Event) → StopsReadingOn limit second why later
        → EndsTwin faithful code pattern outputs one two limit carried first second why (record { on_store = events ++ later; on_links = [] })
    second-ends why later stop before on =
        let fed = fed-first before on in
        joined-store (Stops why) before (events ++ later)
        (subst (λ these. Stops why (record { on_store = these; on_links = before.on_links })) (append_assoc before.on_store events later)
        (second-stopped faithful code pattern outputs known one two some_first some_second limit carried now second (calls_behind faithful code pattern outputs known one two some_first some_second limit before events) fed why later
        window first-full room' stop.within stop.unended (stop.stops two.rate carried _ fed.reads.of_second)))

    -- both were read
    module _ (now' : SourceReader) (later : List Event) (same' : IsSameReader second now') (read' : ReadsOn limit second now' later)
        (full' : now'.ended ≡ false → now'.held ≡ length now'.bytes.items) where
      pub fed-both : (before : Calls) → IsOnTwin faithful code pattern outputs one two limit carried first second before
          → IsFedTwin faithful code pattern outputs one two limit carried now now' (record { on_store = before.on_store ++ (events ++ later); on_links = before.on_links })
      fed-both before on =
          let fed = fed-first before on in
          subst (λ these. IsFedTwin faithful code pattern outputs one two limit carried now now' (record { on_store = these; on_links = before.on_links })) (append_assoc before.on_store events later)
          (on-second faithful code pattern outputs known one two some_first some_second limit carried now second (calls_behind faithful code pattern outputs known one two some_first some_second limit before events) fed
          window now' later read'.unended (read'.on two.rate carried _ fed.reads.of_second) first-full room' read'.within)

      -- what a source that hadn't ended had brought before is still there
      before-whole : (reader after : SourceReader) (source : Source) (these those more : List Event) → HasRead source limit carried reader these → HasRead source limit carried after (these ++ more)
          → HasRead source limit carried after those → reader.ended ≡ false → carried * capacity source.rate ≤ length (bytes_read those)
      before-whole reader after source these those more was is here still =
          omega (arith, was.at, was.whole still, is.at, here.at, ap length (bytes_read-append these more), length-append (bytes_read these) (bytes_read more))

      module _ (count : ℕ) (unended : ¬ HaveEnded first second) (running : ¬ HaveEnded now now' → count ≡ window)
          (over : HaveEnded now now' → count ≡ max (now.held / capacity first.rate) (now'.held / capacity second.rate) + 1)
          (before : Calls) (on : IsOnTwin faithful code pattern outputs one two limit carried first second before) where
        abbrev fed : IsFedTwin faithful code pattern outputs one two limit carried now now' (record { on_store = before.on_store ++ (events ++ later); on_links = before.on_links })
        fed = fed-both before on

        began : (carried * capacity one.rate ≤ length (bytes_read (marked fed.marks (reads_in (before.on_store ++ (events ++ later))))))
            ⊎ (carried * capacity two.rate ≤ length (bytes_read (unmarked fed.marks (reads_in (before.on_store ++ (events ++ later))))))
        began = by_end first.ended second.ended refl refl
          where
            by_end : (e e' : Bool) → first.ended ≡ e → second.ended ≡ e' → (carried * capacity one.rate ≤ length (bytes_read (marked fed.marks (reads_in (before.on_store ++ (events ++ later))))))
                ⊎ (carried * capacity two.rate ≤ length (bytes_read (unmarked fed.marks (reads_in (before.on_store ++ (events ++ later))))))
            by_end false e' still end' = inl (before-whole first now one _ _ events on.fed.reads.of_first (read.on one.rate carried _ on.fed.reads.of_first) fed.reads.of_first still)
            by_end true false end still = inr (before-whole second now' two _ _ later on.fed.reads.of_second (read'.on two.rate carried _ on.fed.reads.of_second) fed.reads.of_second still)
            by_end true true end end' = absurd (unended (end, end'))

        abbrev pub held-blocks : ℕ → List ℕ
        held-blocks = twin_block first.rate second.rate (take now.held now.bytes.items) (take now'.held now'.bytes.items)

        few : now.held ≤ window * capacity first.rate
        few = omega (arith, now.held_there, now.bytes.ok.0, same.room, room)

        few' : now'.held ≤ window * capacity second.rate
        few' = omega (arith, now'.held_there, now'.bytes.ok.0, same'.room, room')

        -- and their next blocks were delivered
        pub twin-carried : (first_now second_now : SourceReader) → first_now.at ≡ now.at → first_now.ended ≡ now.ended → first_now.held ≡ 0
            → second_now.at ≡ now'.at → second_now.ended ≡ now'.ended → second_now.held ≡ 0
            → (calls : Calls) → DeliversBlocks faithful code pattern outputs carried (blocks_in held-blocks 0 count) Are calls
            → IsOnTwin faithful code pattern outputs one two limit (carried + count) first_now second_now
            (calls_join before (record { on_store = (events ++ later) ++ calls.on_store; on_links = calls.on_links }))
        twin-carried first_now second_now at ended held at' ended' held' calls more =
            subst (λ these. IsOnTwin faithful code pattern outputs one two limit (carried + count) first_now second_now (record { on_store = these; on_links = before.on_links ++ calls.on_links }))
            (append_assoc before.on_store (events ++ later) calls.on_store)
            (on-carried faithful code pattern outputs known one two some_first some_second limit carried now now' (record { on_store = before.on_store ++ (events ++ later); on_links = before.on_links }) fed window count began
            first-full (λ still. full' still ∙ same'.room ∙ room') few few' running over first_now second_now at ended held at' ended' held' calls more)

        -- or they weren't
        pub twin-interrupted : (calls : Calls) (why : DeliveryFault) → InterruptsBlocks faithful code pattern outputs carried (blocks_in held-blocks 0 count) why calls
            → Stops (stream.Sinks why) (calls_join before (record { on_store = (events ++ later) ++ calls.on_store; on_links = calls.on_links }))
        twin-interrupted calls why broken =
            subst (λ these. Stops (stream.Sinks why) (record { on_store = these; on_links = before.on_links ++ calls.on_links })) (append_assoc before.on_store (events ++ later) calls.on_store)
            (on-interrupted faithful code pattern outputs known one two some_first some_second limit carried now now' (record { on_store = before.on_store ++ (events ++ later); on_links = before.on_links }) fed window count began
            first-full (λ still. full' still ∙ same'.room ∙ room') few few' running over calls why broken)

-- ---- from the start to the end

-- readers with the same path and rate are of the same source
pub same-source : {old new : SourceReader} → IsSameReader old new → source_of new ≡ source_of old
same-source {old} {new} same =
    ap (λ path. record { path = path; rate = new.rate }) same.path ∙ ap (λ rate. record { path = old.path.now; rate = rate }) same.rate

-- nothing was read of a source yet
unread : (limit : ℕ) (reader : SourceReader) → IsUnread reader → HasRead (source_of reader) limit 0 reader []
unread limit reader is = record {
  are = subst (λ ended. AreReads reader.path.now limit ended []) (sym is.ended) (tt, omega arith);
  at = is.at;
  holds = ap (λ n. take n reader.bytes.items) is.held ∙ sym (drop_all (0 * capacity reader.rate) [] (omega arith));
  whole = λ running. omega (arith, is.at, is.held);
}

module _ (faithful : Bool) (code : Code) (pattern : ℕ) (outputs : Outputs) (known : pattern < length code.net.patterns) (limit : ℕ) where
  -- nothing was read of both
  pub on-unread : (first second : SourceReader) → IsUnread first → IsUnread second
      → IsOnTwin faithful code pattern outputs (source_of first) (source_of second) limit 0 first second (record { on_store = []; on_links = [] })
  on-unread first second one two = record {
    fed = record {
      marks = [];
      reads = record { as_many = refl; of_first = unread limit first one; of_second = unread limit second two; in_turn = none };
      streamed = streamed-none faithful code pattern outputs (twin_feed first.rate second.rate []) known _;
    };
    all = λ both. absurd (false≢true (sym one.ended ∙ both.0));
  }
    where
      none : AreInTurn first.rate second.rate [] []
      none [] next rest is mark = absurd (cc)
      none (event ∷ front) next rest is mark = absurd (cc)

  module _ (one two : Source) (some_one : 1 ≤ one.rate) (some_two : 1 ≤ two.rate) (carried : ℕ) (first second : SourceReader) (calls : Calls)
      (on : IsOnTwin faithful code pattern outputs one two limit carried first second calls) where
    abbrev ones : List Event
    ones = marked on.fed.marks (reads_in calls.on_store)

    abbrev twos : List Event
    twos = unmarked on.fed.marks (reads_in calls.on_store)

    -- of a source that hasn't ended, what was carried is within the limit
    within-limit : (source : Source) (reader : SourceReader) (these : List Event) → 1 ≤ source.rate → HasRead source limit carried reader these → reader.ended ≡ false
        → (carried ≤ limit + 1) × (carried * capacity source.rate ≤ limit + 1)
    within-limit source reader these some has running =
        let are = subst (λ ended. AreReads source.path limit ended these) running has.are in
        let all : carried * capacity source.rate ≤ limit + 1 = omega (arith, has.at, has.whole running, are.1) in
        let least : carried * 1 ≤ carried * capacity source.rate = mul-le-mul_left carried (omega (arith, some)) in
        (omega (arith, all, least), all)

    -- so it is while they haven't both
    pub few-carried : ¬ HaveEnded first second → limit < last_place → (carried ≤ limit + 1) × (carried + 4 ≤ 2 ^ 32)
    few-carried running short = by_ends first.ended second.ended refl refl
      where
        by_ends : (e e' : Bool) → first.ended ≡ e → second.ended ≡ e' → (carried ≤ limit + 1) × (carried + 4 ≤ 2 ^ 32)
        by_ends false e' is end' =
            let few = within-limit one first ones some_one on.fed.reads.of_first is in (few.0, numbered-at one.rate carried some_one (omega (arith, few.1, short)))
        by_ends true false end is =
            let few = within-limit two second twos some_two on.fed.reads.of_second is in (few.0, numbered-at two.rate carried some_two (omega (arith, few.1, short)))
        by_ends true true end end' = absurd (running (end, end'))

    -- once both have ended, all was carried
    pub on-ended : HaveEnded first second → (counts : TwinCounts) → AreTwinCounts code one.rate two.rate (bytes_read ones) (bytes_read twos) counts
        → StreamsBoth faithful code pattern outputs one two limit counts calls
    on-ended ended counts are =
        let streams =
        streamed-over faithful code pattern outputs (twin_feed one.rate two.rate on.fed.marks) known _ carried calls on.fed.streamed
        (ReadsBoth one.rate two.rate (ReadsWhole one.path limit (bytes_read ones)) (ReadsWhole two.path limit (bytes_read twos)) on.fed.marks) Are (λ events. refl)
        (record {
          as_many = on.fed.reads.as_many;
          of_first = subst (λ ended. AreReads one.path limit ended ones) ended.0 on.fed.reads.of_first.are;
          of_second = subst (λ ended. AreReads two.path limit ended twos) ended.1 on.fed.reads.of_second.are;
          in_turn = on.fed.reads.in_turn;
        }) refl in
        record {
          one = bytes_read ones;
          two = bytes_read twos;
          counts_are = are;
          twin = record { marks = on.fed.marks; streams = streams.0 };
          all = streams.1 ∙ on.all ended;
        }
