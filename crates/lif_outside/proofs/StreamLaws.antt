-- What follows of reads and writes that are mixed.
use Rattle.std.specs.Prelude.{◌≡◌, ◌⊎◌, ◌&&◌, ◌||◌, ◌==◌, nat_lt, ℕ, Bool, true, false, cond, not, List, [], ◌∷◌, ◌++◌, Option, unwrap_or, filter, length, Contains}
use Rattle.std.specs.List.{AllByRecursion, list_any}
use Rattle.std.proofs.Common.{refl, sym, ap, ◌∙◌, subst, inl, inr, ⊎_elim}
use Rattle.std.proofs.lemmas.Bool.{lt-ltb}
use Rattle.std.proofs.lemmas.List.{append-nil, append_assoc}
use Rattle.std.proofs.lemmas.List.Elements.{Contains-append_cases, Contains-append_left, Contains-append_right, filter-append}
use Rattle.std.proofs.lemmas.List.Folds.{list_any-append}
use Rattle.lif_outside.specs.Events.{Event, read, read_failed, created, create_failed, appended, append_failed, is_failed_read, is_failed_write, HappenAt}
use Rattle.lif_outside.specs.EventLaws.{KeepsPath, happen-split, happens_keeping}
use Rattle.lif_outside.proofs.FaultLaws.{HaveFailed}
use Rattle.lif_outside.specs.FileCalls.{ReadsToFault, ReadsWhole, StopsWithin, bytes_read, failed_of}
use Rattle.lif_outside.proofs.FileCallLaws.{bytes_read-append, reads_begin, whole_held}
use Rattle.lif_outside.specs.Sequences.{Are, IsFrontOf}
use Rattle.lif_outside.proofs.SequenceLaws.{all_split, front_all, front_none, stops_all}
use Rattle.lif_outside.specs.Streams.{Streams, gave_nothing, have_ended, is_read, is_write, reads_in, writes_in}

-- a call that passes a test is among the calls
filter_among : (test : Event → Bool) (events : List Event) (event : Event) → Contains (filter test events) event → Contains events event
filter_among test [] event there = there
filter_among test (first ∷ events) event there = by_test (filter_among test events event) (test first) there
  where
    by_test : (Contains (filter test events) event → Contains events event) → (b : Bool) → Contains (cond b (first ∷ filter test events) (filter test events)) event → Contains (first ∷ events) event
    by_test behind true there = ⊎_elim
        (Contains-append_left (first ∷ []) events event)
        (λ rest. Contains-append_right (first ∷ []) events event (behind rest))
        (Contains-append_cases (first ∷ []) (filter test events) event there)
    by_test behind false there = Contains-append_right (first ∷ []) events event (behind there)

pub reads_among : (events : List Event) (event : Event) → Contains (reads_in events) event → Contains events event
reads_among = filter_among is_read

pub writes_among : (events : List Event) (event : Event) → Contains (writes_in events) event → Contains events event
writes_among = filter_among is_write

-- what happens at a path, happens by the writes
pub writes_happen : (place : List ℕ) (events : List Event) (a b : Option (List ℕ)) → HappenAt place events a b → HappenAt place (writes_in events) a b
writes_happen place [] a b h = h
writes_happen place (read path at room bytes ∷ events) a b h =
    subst (λ file. HappenAt place (writes_in events) file b) (happens_keeping place (read path at room bytes) a h.0 tt h.1) (writes_happen place events h.0 b h.2)
writes_happen place (read_failed path at room ∷ events) a b h =
    subst (λ file. HappenAt place (writes_in events) file b) (happens_keeping place (read_failed path at room) a h.0 tt h.1) (writes_happen place events h.0 b h.2)
writes_happen place (created path ∷ events) a b h = (h.0, h.1, writes_happen place events h.0 b h.2)
writes_happen place (create_failed path ∷ events) a b h = (h.0, h.1, writes_happen place events h.0 b h.2)
writes_happen place (appended path bytes ∷ events) a b h = (h.0, h.1, writes_happen place events h.0 b h.2)
writes_happen place (append_failed path bytes ∷ events) a b h = (h.0, h.1, writes_happen place events h.0 b h.2)

-- where the writes keep a path, only reads happen there, and it is kept
skip : (place : List ℕ) (event : Event) (rest : List Event) (a mid b : Option (List ℕ)) → KeepsPath place event → HappenAt place (event ∷ []) a mid → HappenAt place rest mid b → HappenAt place rest a b
skip place event rest a mid b keeps h later = subst (λ file. HappenAt place rest file b) (h.2 ∙ happens_keeping place event a h.0 keeps h.1) later

pub reads_happen : (place : List ℕ) (events : List Event) (a b : Option (List ℕ)) → AllByRecursion (KeepsPath place) (writes_in events) → HappenAt place events a b → HappenAt place (reads_in events) a b
reads_happen place [] a b keeps h = h
reads_happen place (read path at room bytes ∷ events) a b keeps h = (h.0, h.1, reads_happen place events h.0 b keeps h.2)
reads_happen place (read_failed path at room ∷ events) a b keeps h = (h.0, h.1, reads_happen place events h.0 b keeps h.2)
reads_happen place (created path ∷ events) a b keeps h =
    skip place (created path) (reads_in events) a h.0 b keeps.0 (h.0, h.1, refl) (reads_happen place events h.0 b keeps.1 h.2)
reads_happen place (create_failed path ∷ events) a b keeps h =
    skip place (create_failed path) (reads_in events) a h.0 b keeps.0 (h.0, h.1, refl) (reads_happen place events h.0 b keeps.1 h.2)
reads_happen place (appended path bytes ∷ events) a b keeps h =
    skip place (appended path bytes) (reads_in events) a h.0 b keeps.0 (h.0, h.1, refl) (reads_happen place events h.0 b keeps.1 h.2)
reads_happen place (append_failed path bytes ∷ events) a b keeps h =
    skip place (append_failed path bytes) (reads_in events) a h.0 b keeps.0 (h.0, h.1, refl) (reads_happen place events h.0 b keeps.1 h.2)

pub stream_keeps : (place : List ℕ) (events : List Event) → AllByRecursion (KeepsPath place) (writes_in events) → AllByRecursion (KeepsPath place) events
stream_keeps place [] keeps = tt
stream_keeps place (read path at room bytes ∷ events) keeps = (tt, stream_keeps place events keeps)
stream_keeps place (read_failed path at room ∷ events) keeps = (tt, stream_keeps place events keeps)
stream_keeps place (created path ∷ events) keeps = (keeps.0, stream_keeps place events keeps.1)
stream_keeps place (create_failed path ∷ events) keeps = (keeps.0, stream_keeps place events keeps.1)
stream_keeps place (appended path bytes ∷ events) keeps = (keeps.0, stream_keeps place events keeps.1)
stream_keeps place (append_failed path bytes ∷ events) keeps = (keeps.0, stream_keeps place events keeps.1)

-- which calls have failed
failed_reads : (events : List Event) → list_any is_failed_read events ≡ list_any is_failed_read (reads_in events)
failed_reads [] = refl
failed_reads (read path at room bytes ∷ events) = failed_reads events
failed_reads (read_failed path at room ∷ events) = refl
failed_reads (created path ∷ events) = failed_reads events
failed_reads (create_failed path ∷ events) = failed_reads events
failed_reads (appended path bytes ∷ events) = failed_reads events
failed_reads (append_failed path bytes ∷ events) = failed_reads events

failed_writes : (events : List Event) → list_any is_failed_write events ≡ list_any is_failed_write (writes_in events)
failed_writes [] = refl
failed_writes (read path at room bytes ∷ events) = failed_writes events
failed_writes (read_failed path at room ∷ events) = failed_writes events
failed_writes (created path ∷ events) = failed_writes events
failed_writes (create_failed path ∷ events) = refl
failed_writes (appended path bytes ∷ events) = failed_writes events
failed_writes (append_failed path bytes ∷ events) = refl

pub stream_failed : (events : List Event) (reads writes other another : Bool) → HaveFailed reads other (reads_in events) → HaveFailed another writes (writes_in events) → HaveFailed reads writes events
stream_failed events reads writes other another one two = record {
  failed_read = failed_reads events ∙ one.failed_read;
  failed_write = failed_writes events ∙ two.failed_write;
}

-- calls that are reads, and calls that are writes
abbrev pub AreReads : List Event → Type 0
AreReads events = AllByRecursion (λ event. is_read event ≡ true) events

abbrev pub AreWrites : List Event → Type 0
AreWrites events = AllByRecursion (λ event. is_read event ≡ false) events

failed_is_write : (event : Event) → is_read event ≡ false → is_read (failed_of event) ≡ false
failed_is_write (read path at room bytes) is = is
failed_is_write (read_failed path at room) is = is
failed_is_write (created path) is = refl
failed_is_write (create_failed path) is = refl
failed_is_write (appended path bytes) is = refl
failed_is_write (append_failed path bytes) is = refl

pub stops_are_writes : (these events : List Event) → StopsWithin these events → AreWrites these → AreWrites events
stops_are_writes these events stop all = stops_all (λ event. is_read event ≡ false) failed_is_write these events stop all

-- the reads among reads, and the writes among writes, are all of them
reads_all : (events : List Event) → AreReads events → reads_in events ≡ events
reads_all [] all = refl
reads_all (event ∷ events) all = ap (λ test. cond test (event ∷ reads_in events) (reads_in events)) all.0 ∙ ap (λ rest. event ∷ rest) (reads_all events all.1)

pub reads_none : (events : List Event) → AreWrites events → reads_in events ≡ []
reads_none [] all = refl
reads_none (event ∷ events) all = ap (λ test. cond test (event ∷ reads_in events) (reads_in events)) all.0 ∙ reads_none events all.1

writes_none : (events : List Event) → AreReads events → writes_in events ≡ []
writes_none [] all = refl
writes_none (event ∷ events) all = ap (λ test. cond (not test) (event ∷ writes_in events) (writes_in events)) all.0 ∙ writes_none events all.1

pub writes_all : (events : List Event) → AreWrites events → writes_in events ≡ events
writes_all [] all = refl
writes_all (event ∷ events) all = ap (λ test. cond (not test) (event ∷ writes_in events) (writes_in events)) all.0 ∙ ap (λ rest. event ∷ rest) (writes_all events all.1)

-- those among two lists of calls
pub reads-append : (first later : List Event) → reads_in (first ++ later) ≡ reads_in first ++ reads_in later
reads-append first later = filter-append is_read first later

pub writes-append : (first later : List Event) → writes_in (first ++ later) ≡ writes_in first ++ writes_in later
writes-append first later = filter-append is_write first later

-- a call among the calls of two lists is among the first, or among the later ones
pub split_at_call : (first later front : List Event) (next : Event) (rest : List Event) → first ++ later ≡ front ++ next ∷ rest
    → ((more : List Event) × (first ≡ front ++ next ∷ more)) ⊎ ((more : List Event) × (front ≡ first ++ more) × (later ≡ more ++ next ∷ rest))
split_at_call [] later front next rest e = inr (front, refl, e)
split_at_call (event ∷ first) later [] next rest e =
    let same : event ≡ next = cc in
    inl (first, ap (λ event. event ∷ first) same)
split_at_call (event ∷ first) later (other ∷ front) next rest e =
    let same : event ≡ other = cc in
    let behind : first ++ later ≡ front ++ next ∷ rest = cc in
    ⊎_elim
    (λ within. inl (within.0, ap (λ rest. event ∷ rest) within.1 ∙ ap (λ head. head ∷ (front ++ next ∷ within.0)) same))
    (λ past. inr (past.0, ap (λ rest. other ∷ rest) past.1 ∙ ap (λ head. head ∷ (first ++ past.0)) (sym same), past.2))
    (split_at_call first later front next rest behind)

-- Calls of which each, but the last, is the next one due.
abbrev pub AreDue : List Event → List Event → Type 0
AreDue these events = (front : List Event) (next : Event) (rest : List Event) → events ≡ front ++ next ∷ rest → IsFrontOf these front

pub due_none : (these : List Event) → AreDue these []
due_none these front next rest e = absurd (empty front e)
  where
    empty : (front : List Event) → [] ≡ front ++ next ∷ rest → ⊥
    empty [] e = cc
    empty (event ∷ front) e = cc

pub due_all : (these events : List Event) → Are these events → AreDue these events
due_all these events are front next rest e = (next ∷ rest, sym are ∙ e)

pub due_stops : (these events : List Event) → StopsWithin these events → AreDue these events
due_stops these events stop front next rest e = ⊎_elim
    (λ within. (next ∷ within.0 ++ stop.next ∷ stop.rest, stop.these_are ∙ ap (λ first. first ++ stop.next ∷ stop.rest) within.1 ∙ append_assoc front (next ∷ within.0) (stop.next ∷ stop.rest)))
    (λ past. (stop.next ∷ stop.rest, stop.these_are ∙ ap (λ first. first ++ stop.next ∷ stop.rest) (sym (past.1 ∙ ap (λ more. stop.front ++ more) (last past.0 past.2) ∙ append-nil stop.front))))
    (split_at_call stop.front (failed_of stop.next ∷ []) front next rest (sym stop.events_are ∙ e))
  where
    last : (more : List Event) → failed_of stop.next ∷ [] ≡ more ++ next ∷ rest → more ≡ []
    last [] e = refl
    last (event ∷ []) e = absurd (cc)
    last (event ∷ other ∷ more) e = absurd (cc)

-- All reads, and then writes of what they bring, are mixed so.
module _ (brings : List Event → List Event) (P : List Event → Type 0) (Q : List Event → List Event → Type 0) (reads writes : List Event) (are_reads : AreReads reads) (are_writes : AreWrites writes) where
  pub reads_of_all : reads_in (reads ++ writes) ≡ reads
  reads_of_all = reads-append reads writes ∙ ap (λ first. first ++ reads_in writes) (reads_all reads are_reads) ∙ ap (λ later. reads ++ later) (reads_none writes are_writes) ∙ append-nil reads

  writes_of_all : writes_in (reads ++ writes) ≡ writes
  writes_of_all = writes-append reads writes ∙ ap (λ first. first ++ writes_in writes) (writes_none reads are_reads) ∙ writes_all writes are_writes

  in_reads : (front : List Event) (next : Event) (more : List Event) → reads ≡ front ++ next ∷ more → IsFrontOf (brings (reads_in front)) (writes_in front)
  in_reads front next more e =
      let parts = all_split (λ event. is_read event ≡ true) front (next ∷ more) (subst AreReads e are_reads) in
      subst (IsFrontOf (brings (reads_in front))) (sym (writes_none front parts.0)) (front_none (brings (reads_in front)))

  in_writes : AreDue (brings reads) writes → (front more : List Event) (next : Event) (rest : List Event) → front ≡ reads ++ more → writes ≡ more ++ next ∷ rest → IsFrontOf (brings (reads_in front)) (writes_in front)
  in_writes due front more next rest front_is e =
      let parts = all_split (λ event. is_read event ≡ false) more (next ∷ rest) (subst AreWrites e are_writes) in
      let first : reads_in front ≡ reads = ap reads_in front_is ∙ reads-append reads more ∙ ap (λ first. first ++ reads_in more) (reads_all reads are_reads)
      ∙ ap (λ later. reads ++ later) (reads_none more parts.0) ∙ append-nil reads in
      let later : writes_in front ≡ more = ap writes_in front_is ∙ writes-append reads more ∙ ap (λ first. first ++ writes_in more) (writes_none reads are_reads) ∙ writes_all more parts.0 in
      subst (λ these. IsFrontOf (brings these) (writes_in front)) (sym first) (subst (IsFrontOf (brings reads)) (sym later) (due more next rest e))

  pub streams_whole : P reads → Q (brings reads) writes → AreDue (brings reads) writes → Streams brings P Q (reads ++ writes)
  streams_whole p q due = record {
    reads = subst P (sym reads_of_all) p;
    writes = subst (λ these. Q (brings these) (writes_in (reads ++ writes))) (sym reads_of_all) (subst (Q (brings reads)) (sym writes_of_all) q);
    in_time = λ front next rest e. ⊎_elim
        (λ within. in_reads front next within.0 within.1)
        (λ past. in_writes due front past.0 next rest past.1 past.2)
        (split_at_call reads writes front next rest e);
  }

-- ---- what reads gave

-- a file that was read to its end gave its bytes, and ended
pub whole_gave : (path : List ℕ) (limit : ℕ) (bytes : List ℕ) (events : List Event) → ReadsWhole path limit bytes events → bytes_read events ≡ bytes
whole_gave path limit bytes events whole =
    ap bytes_read whole.ended ∙ bytes_read-append whole.front (read path (length bytes) whole.room [] ∷ []) ∙ append-nil (bytes_read whole.front) ∙ whole.gave

pub whole_ended : (path : List ℕ) (limit : ℕ) (bytes : List ℕ) (events : List Event) → ReadsWhole path limit bytes events → have_ended events ≡ true
whole_ended path limit bytes events whole =
    let last : list_any gave_nothing (read path (length bytes) whole.room [] ∷ []) ≡ true = ended_there (nat_lt 0 whole.room) (lt-ltb 0 whole.room whole.some_room) in
    ap have_ended whole.ended ∙ list_any-append gave_nothing whole.front (read path (length bytes) whole.room [] ∷ [])
    ∙ ap (λ last. list_any gave_nothing whole.front || last) last ∙ or_true (list_any gave_nothing whole.front)
  where
    ended_there : (test : Bool) → test ≡ true → ((test && (0 == 0)) || false) ≡ true
    ended_there true e = refl
    ended_there false e = e

    or_true : (b : Bool) → (b || true) ≡ true
    or_true true = refl
    or_true false = refl

-- what came of a file is its front
pub fault_begins : (path : List ℕ) (limit : ℕ) (events : List Event) (a b : Option (List ℕ)) → ReadsToFault path limit events → HappenAt path events a b → IsFrontOf (unwrap_or a []) (bytes_read events)
fault_begins path limit events a b fault h =
    let failed = read_failed path (length (bytes_read fault.front)) fault.room in
    let halves = happen-split path fault.front (failed ∷ []) a b (subst (λ es. HappenAt path es a b) fault.failed h) in
    subst (IsFrontOf (unwrap_or a [])) (sym (ap bytes_read fault.failed ∙ bytes_read-append fault.front (failed ∷ []) ∙ append-nil (bytes_read fault.front)))
    (reads_begin path fault.front a halves.0 fault.reads halves.1)

pub whole_begins : (path : List ℕ) (limit : ℕ) (bytes : List ℕ) (events : List Event) (a b : Option (List ℕ)) → ReadsWhole path limit bytes events → HappenAt path events a b → IsFrontOf (unwrap_or a []) (bytes_read events)
whole_begins path limit bytes events a b whole h =
    subst (λ file. IsFrontOf (unwrap_or file []) (bytes_read events)) (sym (whole_held path limit bytes events a b whole h))
    (subst (IsFrontOf bytes) (sym (whole_gave path limit bytes events whole)) (front_all bytes))
