-- What has to be known of a step that creates files and fills them while it reads a source.
use Rattle.std.specs.Prelude.{◌≡◌, ◌++◌, ◌&&◌, ◌||◌, ◌==◌, ◌+◌, nat_lt, ℕ, Bool, true, false, List, [], ◌∷◌, length, Option, Some, unwrap_or, IsTrue, IsFalse, Contains}
use Rattle.std.specs.List.{AllByRecursion, list_any}
use Rattle.std.proofs.Common.{refl, sym, ap, subst, ◌∙◌, inl, inr, arith}
use Rattle.std.proofs.lemmas.Bool.{false≢true, ne_eqb}
use Rattle.std.proofs.lemmas.List.{append_assoc}
use Rattle.std.proofs.lemmas.List.Folds.{list_any-append}
use Rattle.lif_outside.proofs.DeedLaws.{Accounted}
use Rattle.lif_outside.proofs.FaultLaws.{HaveFailed, appends_unfailed, fault_failed, none_failed, reads_unfailed, whole_unfailed}
use Rattle.lif_outside.proofs.FileCallLaws.{appends_held, appends_keep, fault_there, long_held, reads_begin, whole_held}
use Rattle.lif_outside.proofs.SequenceLaws.{front_all, stops_first}
use Rattle.lif_outside.proofs.StreamLaws.{fault_begins, reads_among, reads_happen, stream_failed, stream_keeps, whole_ended, whole_gave, writes_among, writes_happen}
use Rattle.lif_outside.proofs.TurnLaws.{appends-failed, appends-fault, appends-front, appends-stopped, creates_of-failed, creates_of-keep, front_keeps, front_unfailed, stops_keep}
use Rattle.lif_outside.specs.Calls.{Deeds, Outside}
use Rattle.lif_outside.specs.EventLaws.{KeepsPath}
use Rattle.lif_outside.specs.Events.{Event, Follow, HappenAt, append_failed, read, read_failed}
use Rattle.lif_outside.specs.FileCalls.{AreAppendsTo, AreReadsFrom, ReadsPastLimit, ReadsToFault, ReadsWhole, StopsWithin, Written, appends_of, bytes_appended, bytes_read}
use Rattle.lif_outside.specs.Files.{AreDistinct, Files, HoldsPrefix, SameBut}
use Rattle.lif_outside.specs.Moves as moves
use Rattle.lif_outside.specs.Sequences.{Are, IsFrontOf}
use Rattle.lif_outside.specs.Streams.{Streams, gave_nothing, have_ended, reads_in, writes_in}
use Rattle.lif_outside.specs.Told.{Becomes}
use Rattle.lif_outside.specs.ToldLaws.{becomes_weaker, told_before}
use Rattle.command_steps.proofs.FillingLaws.{behind-failed, behind_creates, others_kept, part_by, part_created, raises_created, writes_by}
use Rattle.command_steps.proofs.StepLaws.{IsStep}
use Rattle.command_steps.specs.Feeding.{ChangesFeeding, DueFeeding, FeedsFiles, FeedsWell, LeavesPart, RunsFeeding, brought, feeds}
use Rattle.command_steps.specs.Filling.{Fills}
use Rattle.top_base.proofs.InputLaws.{any-unfailed, not_long, short_held}
use Rattle.top_base.proofs.LeavingLaws.{happen_later, keep_files, later_among, none_keep, told_at}
use Rattle.top_base.proofs.PerformingLaws.{is_link_fault, is_read_fault, is_write_fault}
use Rattle.top_base.specs.Inputs.{HoldsLong, ReadsAny}
use Rattle.top_base.specs.Outcome.{any_witness, fault_line, is_fault, is_of_inputs}
use Rattle.top_base.specs.declared.status.Status.{Status}
use Rattle.top_base.specs.declared.status.Status.TheVariants.{Done, LinkFault, OutOfMemory, ReadFault, TooLong, WriteFault}

-- ---- calls

-- the front of a front is a front
front_then : {E : Type 0} (these mid events : List E) → IsFrontOf these mid → IsFrontOf mid events → IsFrontOf these events
front_then these mid events one other =
    (other.0 ++ one.0, one.1 ∙ ap (λ front. front ++ one.0) other.1 ∙ append_assoc events other.0 one.0)

-- and calls that stop within a front stop within all
front_stops : (these mid events : List Event) → IsFrontOf these mid → StopsWithin mid events → StopsWithin these events
front_stops these mid events front stop = subst (λ all. StopsWithin all events) (sym front.1) (stops_first mid front.0 events stop)

-- reads that gave something haven't ended
pub unended : (at : ℕ) (path : List ℕ) (events : List Event) → AreReadsFrom at path events → have_ended events ≡ false
unended at path [] reads = refl
unended at path (read other place room bytes ∷ events) reads =
    let some : (length bytes == 0) ≡ false = ne_eqb (length bytes) 0 (λ none. omega arith) in
    ap (λ b. (nat_lt 0 room && b) || have_ended events) some ∙ by_test (nat_lt 0 room) ∙ unended (at + length bytes) path events reads.3
  where
    by_test : (b : Bool) → ((b && false) || have_ended events) ≡ have_ended events
    by_test true = refl
    by_test false = refl
unended at path (event ∷ events) reads = absurd reads

-- and neither has a read that failed
fault-unended : (path : List ℕ) (limit : ℕ) (events : List Event) → ReadsToFault path limit events → have_ended events ≡ false
fault-unended path limit events fault =
    ap have_ended fault.failed ∙ list_any-append gave_nothing fault.front (read_failed path (length (bytes_read fault.front)) fault.room ∷ [])
    ∙ ap (λ ended. ended || false) (unended 0 path fault.front fault.reads)

-- ---- files that are filled while a source is read

module _ (path : List ℕ) (limit : ℕ) (paths : List (List ℕ)) (turns : Bool → List ℕ → List (List Written)) (line : List ℕ → List ℕ) where
  -- the appends that reads bring, and those of a source
  abbrev brings : List Event → List Event
  brings reads = brought path limit paths turns line reads

  abbrev all_of : List ℕ → List Event
  all_of source = appends_of (turns true source)

  -- the line of a fault, or of want of memory
  line_of : (status : Status) (said : List ℕ) (calls : List Event) → RunsFeeding path limit paths turns line status said calls → IsFalse (is_of_inputs status) → said ≡ fault_line status
  line_of ReadFault said calls runs not = runs.0
  line_of WriteFault said calls runs not = runs.0
  line_of OutOfMemory said calls runs not = runs.0
  line_of LinkFault said calls runs not = absurd runs
  line_of status said calls runs not = absurd (false≢true (sym not))

  -- the status is none of a call on links
  unlinked : (status : Status) (said : List ℕ) (calls : List Event) → RunsFeeding path limit paths turns line status said calls → is_link_fault status ≡ false
  unlinked LinkFault said calls runs = absurd runs
  unlinked status said calls runs = refl

  -- one status is due
  same_due : (files : Files) (status : Status) (said : List ℕ) (status' : Status) (said' : List ℕ) → DueFeeding path limit paths turns line status said files
      → DueFeeding path limit paths turns line status' said' files → status ≡ status'
  same_due files Done said Done said' one other = refl
  same_due files Done said TooLong said' one other = absurd (not_long limit (files path) one.0 one.1 other.0)
  same_due files TooLong said Done said' one other = absurd (not_long limit (files path) other.0 other.1 one.0)
  same_due files TooLong said TooLong said' one other = refl
  same_due files Done said status' said' one other = absurd other
  same_due files TooLong said status' said' one other = absurd other
  same_due files status said status' said' one other = absurd one

  -- no status of a fault comes where no count rose
  faultless : (status : Status) (before after : Outside) → ChangesFeeding path limit paths turns line status before after → FeedsWell path limit paths turns line before after → IsFalse (is_fault status)
  faultless ReadFault before after change works = absurd (works.source change.0)
  faultless WriteFault before after change works = absurd (works.outputs change.0.path change.0.is_output change.0.rose)
  faultless LinkFault before after change works = absurd change
  faultless status before after change works = refl

  -- The outputs are apart from the source and get all that turns bring, and more of the source brings no less.
  module _ (apart : ¬ Contains paths path) (to_outputs : (ended : Bool) (bytes : List ℕ) → AreAppendsTo paths (appends_of (turns ended bytes)))
      (grows : (front more : List ℕ) → IsFrontOf (appends_of (turns true (front ++ more))) (appends_of (turns false front))) where
    -- ---- what the reads bring

    brings_are : (reads : List Event) → AreAppendsTo paths (brings reads)
    brings_are reads = to_outputs (have_ended reads) (bytes_read reads)

    -- the first bytes of the source bring the first of what it brings
    front_brings : (reads : List Event) (a : Option (List ℕ)) → have_ended reads ≡ false → IsFrontOf (unwrap_or a []) (bytes_read reads) → IsFrontOf (all_of (unwrap_or a [])) (brings reads)
    front_brings reads a not front =
        subst (λ ended. IsFrontOf (all_of (unwrap_or a [])) (appends_of (turns ended (bytes_read reads)))) (sym not)
        (subst (λ source. IsFrontOf (all_of source) (appends_of (turns false (bytes_read reads)))) (sym front.1) (grows (bytes_read reads) front.0))

    -- and the whole source brings all of it
    whole_brings : (source : List ℕ) (reads : List Event) → ReadsWhole path limit source reads → brings reads ≡ all_of source
    whole_brings source reads whole =
        ap (λ ended. appends_of (turns ended (bytes_read reads))) (whole_ended path limit source reads whole)
        ∙ ap all_of (whole_gave path limit source reads whole)

    -- what was read brings the first of what the file of the source brings
    abbrev Begins : (List Event → Type 0) → Type 0
    Begins P = (reads : List Event) (a b : Option (List ℕ)) → P reads → HappenAt path reads a b → IsFrontOf (all_of (unwrap_or a [])) (brings reads)

    fault_brings : Begins (ReadsToFault path limit)
    fault_brings reads a b fault happen = front_brings reads a (fault-unended path limit reads fault) (fault_begins path limit reads a b fault happen)

    past_brings : Begins (ReadsPastLimit path limit)
    past_brings reads a b past happen = front_brings reads a (unended 0 path reads past.reads) (reads_begin path reads a b past.reads happen)

    any_brings : Begins (ReadsAny path limit)
    any_brings reads a b (inl some) happen = front_brings reads a (unended 0 path reads some.reads) (reads_begin path reads a b some.reads happen)
    any_brings reads a b (inr whole) happen =
        let content : unwrap_or a [] ≡ whole.0 = ap (λ file. unwrap_or file []) (whole_held path limit whole.0 reads a b whole.1 happen) in
        subst (λ source. IsFrontOf (all_of source) (brings reads)) (sym content)
        (subst (IsFrontOf (all_of whole.0)) (sym (whole_brings whole.0 reads whole.1)) (front_all (all_of whole.0)))

    -- ---- the calls, seen at a path

    module _ (P : List Event → Type 0) (Q : List Event → List Event → Type 0) (calls : List Event) (is : Fills paths (Streams brings P Q) calls)
        (keeps : (place : List ℕ) (due made : List Event) → AllByRecursion (KeepsPath place) due → Q due made → AllByRecursion (KeepsPath place) made) where
      abbrev reads_of : List Event
      reads_of = reads_in is.later

      abbrev writes_of : List Event
      writes_of = writes_in is.later

      writes_keep : (place : List ℕ) → ¬ Contains paths place → AllByRecursion (KeepsPath place) writes_of
      writes_keep place apart = keeps place (brings reads_of) writes_of (appends_keep paths place (brings reads_of) apart (brings_are reads_of)) is.holds_later.writes

      -- what happens at the source's path happens by the reads
      at_source : (a b : Option (List ℕ)) → HappenAt path calls a b → HappenAt path reads_of a b
      at_source a b happen =
          let created = subst (AllByRecursion (KeepsPath path)) (sym is.holds_first) (creates_of-keep paths path apart) in
          reads_happen path is.later a b (writes_keep path apart) (happen_later is.first is.later calls is.events_are path a b created happen)

      -- and what happens at an output's by the writes
      at_output : (place : List ℕ) (a b : Option (List ℕ)) → Contains paths place → HappenAt place calls a b → HappenAt place writes_of (Some []) b
      at_output place a b there happen = writes_happen place is.later (Some []) b (behind_creates paths _ calls is place a b there happen)

      -- no other path is changed
      others_same : (old new : Files) → Follow calls old new → SameBut paths old new
      others_same old new follow = others_kept paths _ calls is old new (λ place apart. stream_keeps place is.later (writes_keep place apart)) follow

      read_among : (event : Event) → Contains reads_of event → Contains calls event
      read_among event there = later_among is.first is.later calls is.events_are event (reads_among is.later event there)

      written_among : (event : Event) → Contains writes_of event → Contains calls event
      written_among event there = later_among is.first is.later calls is.events_are event (writes_among is.later event there)

      -- each output holds a prefix of what the file of the source brings
      part_left : Begins P
          → ((source place : List ℕ) (b : Option (List ℕ)) → IsFrontOf (all_of source) (brings reads_of) → HappenAt place writes_of (Some []) b → HoldsPrefix (bytes_appended place (all_of source)) b)
          → (before after : Outside) → Becomes before.files after.files (Follow calls) → LeavesPart path limit paths turns line before after
      part_left begins held before after change = becomes_weaker change (λ old new follow.
          let source = unwrap_or (old path) [] in
          let front = begins reads_of (old path) (new path) is.holds_later.reads (at_source (old path) (new path) (follow path)) in
          part_by paths (turns true source) old new (others_same old new follow)
          (λ place there. inr (held source place (new place) front (at_output place (old place) (new place) there (follow place)))))

      -- which of the calls have failed
      reads_failed : (reads writes : Bool) → HaveFailed reads false reads_of → HaveFailed false writes writes_of → HaveFailed reads writes calls
      reads_failed reads writes one other = behind-failed paths _ calls is reads writes (stream_failed is.later reads writes false false one other)

    -- ---- the source was read and all was appended

    all_keeps : (place : List ℕ) (due made : List Event) → AllByRecursion (KeepsPath place) due → Are due made → AllByRecursion (KeepsPath place) made
    all_keeps place due made keeps are = subst (AllByRecursion (KeepsPath place)) (sym are) keeps

    module _ (source : List ℕ) (calls : List Event) (is : Fills paths (Streams brings (ReadsWhole path limit source) Are) calls) where
      abbrev ByAll : List Event → Type 0
      ByAll = ReadsWhole path limit source

      writes_are : writes_in is.later ≡ all_of source
      writes_are = is.holds_later.writes ∙ whole_brings source (reads_in is.later) is.holds_later.reads

      fed_files : (before after : Outside) → Becomes before.files after.files (Follow calls) → Becomes before.files after.files (FeedsFiles path limit paths turns line)
      fed_files before after change = becomes_weaker change (λ old new follow. record {
        source = source;
        held = short_held limit path source (reads_in is.later) (old path) (new path) is.holds_later.reads (at_source ByAll Are calls is all_keeps (old path) (new path) (follow path));
        left = writes_by paths (turns true source) old new (others_same ByAll Are calls is all_keeps old new follow)
            (λ place there. appends_held paths place (all_of source) [] (Some []) (new place) (to_outputs true source) refl
            (subst (λ es. HappenAt place es (Some []) (new place)) writes_are (at_output ByAll Are calls is all_keeps place (old place) (new place) there (follow place))));
      })

      fed_failed : HaveFailed false false calls
      fed_failed = reads_failed ByAll Are calls is all_keeps false false
          (whole_unfailed path limit source (reads_in is.later) is.holds_later.reads)
          (subst (HaveFailed false false) (sym writes_are) (appends_unfailed paths (all_of source) (to_outputs true source)))

    -- ---- the source was read in part

    part_keeps : (place : List ℕ) (due made : List Event) → AllByRecursion (KeepsPath place) due → IsFrontOf due made → AllByRecursion (KeepsPath place) made
    part_keeps place due made keeps front = front_keeps place due made front keeps

    module _ (P : List Event → Type 0) (begins : Begins P) (calls : List Event) (is : Fills paths (Streams brings P IsFrontOf) calls) where
      front_left : (before after : Outside) → Becomes before.files after.files (Follow calls) → LeavesPart path limit paths turns line before after
      front_left = part_left P IsFrontOf calls is part_keeps begins
          (λ source place b front happen. appends-front paths (all_of source) (writes_in is.later) place b (to_outputs true source)
          (front_then (all_of source) (brings (reads_in is.later)) (writes_in is.later) front is.holds_later.writes) happen)

      front_failed : (reads : Bool) → HaveFailed reads false (reads_in is.later) → HaveFailed reads false calls
      front_failed reads failed = reads_failed P IsFrontOf calls is part_keeps reads false failed
          (front_unfailed paths (brings (reads_in is.later)) (writes_in is.later) (brings_are (reads_in is.later)) is.holds_later.writes)

    -- ---- an append failed

    stop_keeps : (place : List ℕ) (due made : List Event) → AllByRecursion (KeepsPath place) due → StopsWithin due made → AllByRecursion (KeepsPath place) made
    stop_keeps place due made keeps stop = stops_keep place due made stop keeps

    module _ (calls : List Event) (is : Fills paths (Streams brings (ReadsAny path limit) StopsWithin) calls) where
      abbrev ByAny : List Event → Type 0
      ByAny = ReadsAny path limit

      stops_left : (before after : Outside) → Becomes before.files after.files (Follow calls) → LeavesPart path limit paths turns line before after
      stops_left = part_left ByAny StopsWithin calls is stop_keeps any_brings
          (λ source place b front happen. appends-stopped paths (all_of source) (writes_in is.later) place b (to_outputs true source)
          (front_stops (all_of source) (brings (reads_in is.later)) (writes_in is.later) front is.holds_later.writes) happen)

      -- the append that failed is among the calls
      append_fault : (place bytes : List ℕ) × Contains paths place × Contains calls (append_failed place bytes)
      append_fault =
          let fault = appends-fault paths (brings (reads_in is.later)) (writes_in is.later) (brings_are (reads_in is.later)) is.holds_later.writes in
          (fault.0, fault.1, fault.2, written_among ByAny StopsWithin calls is stop_keeps (append_failed fault.0 fault.1) fault.3)

      stops_failed : HaveFailed false true calls
      stops_failed = reads_failed ByAny StopsWithin calls is stop_keeps false true
          (any-unfailed path limit (reads_in is.later) is.holds_later.reads)
          (appends-failed paths (brings (reads_in is.later)) (writes_in is.later) (brings_are (reads_in is.later)) is.holds_later.writes)

    -- ---- the step

    store_failed : (status : Status) (said : List ℕ) (calls : List Event) → RunsFeeding path limit paths turns line status said calls → HaveFailed (is_read_fault status) (is_write_fault status) calls
    store_failed Done said calls runs = fed_failed runs.source calls runs.fed
    store_failed ReadFault said calls (said_is, is) =
        front_failed (ReadsToFault path limit) fault_brings calls is true (fault_failed path limit (reads_in is.later) is.holds_later.reads)
    store_failed TooLong said calls (said_is, is) =
        front_failed (ReadsPastLimit path limit) past_brings calls is false (reads_unfailed 0 path (reads_in is.later) is.holds_later.reads.reads)
    store_failed WriteFault said calls (said_is, inl stop) = creates_of-failed paths calls stop
    store_failed WriteFault said calls (said_is, inr is) = stops_failed calls is
    store_failed OutOfMemory said calls (said_is, none) = none_failed calls none
    store_failed status said calls runs = absurd runs

    due_of : (status : Status) (said : List ℕ) (calls : List Event) (old new : Files) → Follow calls old new → IsTrue (is_of_inputs status)
        → RunsFeeding path limit paths turns line status said calls → DueFeeding path limit paths turns line status said old
    due_of Done said calls old new follow inputs runs =
        let happen = at_source (ReadsWhole path limit runs.source) Are calls runs.fed all_keeps (old path) (new path) (follow path) in
        (runs.source, short_held limit path runs.source (reads_in runs.fed.later) (old path) (new path) runs.fed.holds_later.reads happen, runs.line_is)
    due_of TooLong said calls old new follow inputs (said_is, is) =
        let happen = at_source (ReadsPastLimit path limit) IsFrontOf calls is part_keeps (old path) (new path) (follow path) in
        (long_held path limit (reads_in is.later) (old path) (new path) is.holds_later.reads happen, said_is)
    due_of ReadFault said calls old new follow inputs runs = absurd (false≢true inputs)
    due_of WriteFault said calls old new follow inputs runs = absurd (false≢true inputs)
    due_of OutOfMemory said calls old new follow inputs runs = absurd (false≢true inputs)
    due_of status said calls old new follow inputs runs = absurd runs

    module _ (deeds : Deeds) (before after : Outside) (accounted : Accounted deeds before after) where
      abbrev made : List Event
      made = deeds.calls.on_store

      changes : (status : Status) (said : List ℕ) → RunsFeeding path limit paths turns line status said made → ChangesFeeding path limit paths turns line status before after
      changes Done said runs = fed_files runs.source made runs.fed before after accounted.files
      changes ReadFault said (said_is, is) =
          let fault = is.holds_later.reads in
          let there = read_among (ReadsToFault path limit) IsFrontOf made is part_keeps _ (fault_there path limit (reads_in is.later) fault) in
          (accounted.failed_read path _ fault.room there, front_left (ReadsToFault path limit) fault_brings made is before after accounted.files)
      changes TooLong said (said_is, is) =
          let past = ReadsPastLimit path limit in (
            told_at before.files after.files made path (HoldsLong limit)
                (λ a b happen. long_held path limit (reads_in is.later) a b is.holds_later.reads (at_source past IsFrontOf made is part_keeps a b happen)) accounted.files,
            front_left past past_brings made is before after accounted.files,
          )
      changes WriteFault said (said_is, inl stop) =
          let left = becomes_weaker accounted.files (λ old new follow. part_created paths made stop (turns true (unwrap_or (old path) [])) old new follow) in
          (raises_created paths made stop deeds before after accounted refl, left)
      changes WriteFault said (said_is, inr is) =
          let fault = append_fault made is in
          (record { path = fault.0; is_output = fault.2; rose = accounted.failed_append fault.0 fault.1 fault.3 }, stops_left made is before after accounted.files)
      changes OutOfMemory said (said_is, none) = keep_files before.files after.files made (none_keep made none) accounted.files
      changes status said runs = absurd runs

    step_feeding : IsStep (feeds path limit paths turns line)
    step_feeding = record {
      changes = λ outcome deeds before after accounted runs. changes deeds before after accounted outcome.status outcome.line runs.0;
      due = λ outcome deeds before after accounted runs inputs. told_before before.files after.files (Follow deeds.calls.on_store)
          (λ files. DueFeeding path limit paths turns line outcome.status outcome.line files) accounted.files
          (λ old new follow. due_of outcome.status outcome.line deeds.calls.on_store old new follow inputs runs.0);
      lines = λ outcome calls runs not. line_of outcome.status outcome.line calls.on_store runs.0 not;
      causes = λ outcome calls runs. record {
        on_store = store_failed outcome.status outcome.line calls.on_store runs.0;
        on_links = ap (list_any moves.is_fault) runs.1 ∙ sym (unlinked outcome.status outcome.line calls.on_store runs.0);
      };
      alike = λ files due owed is is_owed. ap any_witness (same_due files due.status due.line owed is_owed.0 is is_owed.1);
      used = λ outcome calls runs is. subst (λ status. RunsFeeding path limit paths turns line status outcome.line calls.on_store) is runs.0;
      faultless = λ outcome files before after told change works. faultless outcome.status before after change works;
    }

-- Files that are filled while a source is read are a step: where their paths are distinct and none is the source's, where turns append
-- to them alone, and where more of the source brings no less.
pub feeds_step : (path : List ℕ) (limit : ℕ) (paths : List (List ℕ)) (turns : Bool → List ℕ → List (List Written)) (line : List ℕ → List ℕ) → AreDistinct paths → ¬ Contains paths path
    → ((ended : Bool) (bytes : List ℕ) → AreAppendsTo paths (appends_of (turns ended bytes)))
    → ((front more : List ℕ) → IsFrontOf (appends_of (turns true (front ++ more))) (appends_of (turns false front))) → IsStep (feeds path limit paths turns line)
feeds_step path limit paths turns line distinct = step_feeding path limit paths turns line
