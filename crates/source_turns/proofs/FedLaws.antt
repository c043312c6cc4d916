-- A source that is fed: what was read and sent so far, and what follows when more is read, sent or fails.
use Rattle.std.specs.Prelude.{◌≡◌, ◌<◌, ◌≤◌, ◌+◌, ◌-◌, ◌*◌, ◌/◌, ◌^◌, ◌||◌, not, cond, map, min, ℕ, zero, suc, true, false, List, [], ◌∷◌, ◌++◌, drop, length, slice_range, take, Result, Ok, Err}
use Rattle.std.proofs.Common.{refl, sym, ap, ◌∙◌, subst, arith, inl, inr, ⊎_elim}
use Rattle.std.proofs.Math.Nat.{add-mul, add-mul-div_right, div-mul-le_self, mul-div_left, mul-le-mul_left, mul-le-mul_right}
use Rattle.std.proofs.lemmas.List.{append-nil, append_assoc, drop-append-le, drop-drop, drop-take, drop_all, length-append, length-drop, take-append-le, take_at}
use Rattle.std.proofs.Math.Seq.{length-take-le, take-append-add}
use Rattle.std.specs.Result.{IsErrAnd}
use borrow.Rule.Slice.PartMut.{put_mid}
use Rattle.std.proofs.lemmas.List.Folds.{list_any-append}
use Rattle.std.proofs.lemmas.Nat.{le-div}
use Rattle.command_steps.proofs.FeedingLaws.{unended}
use Rattle.generation_frame.specs.Blocks.{block_count, block_of, capacity, piece_of, row_bytes}
use Rattle.item_list.proofs.Maps.{same_made}
use Rattle.item_list.proofs.Tests.{AllByRecursion-append}
use Rattle.lif_outside.specs.Events.{Event, appended, read, read_failed}
use Rattle.lif_outside.specs.FileCalls.{AreReadsFrom, ReadsPastLimit, ReadsToFault, ReadsWhole, StopsWithin, Written, appends_of, bytes_read}
use Rattle.lif_outside.specs.Sequences.{Are, IsFrontOf}
use Rattle.lif_outside.specs.Streams.{Streams, gave_nothing, have_ended, is_read, reads_in, writes_in}
use Rattle.lif_outside.proofs.FileCallLaws.{bytes_read-append, reads_more}
use Rattle.lif_outside.proofs.SequenceLaws.{all_split, stops_behind, stops_first}
use Rattle.lif_outside.proofs.StreamLaws.{AreDue, AreWrites, due_all, due_stops, reads-append, reads_none, split_at_call, stops_are_writes, whole_ended, whole_gave, writes-append, writes_all}
use Rattle.command_steps.specs.Filling.{Fills}
use Rattle.top_base.specs.Inputs.{ReadsAny}
use Rattle.source_turns.proofs.AppendLaws.{turns_front}
use Rattle.source_turns.proofs.AppendLaws as append
use Rattle.source_turns.specs.Feeding.{IsLeft}
use Rattle.source_turns.specs.Turns.{Job, blocks_by, feed_brought, feed_turns, size_of, turns_from}

-- appends are writes
turn-writes : (turn : List Written) → AreWrites (map (λ (part : Written). appended part.0 part.1) turn)
turn-writes [] = tt
turn-writes (part ∷ turn) = (refl, turn-writes turn)

turns-writes : (turns : List (List Written)) → AreWrites (appends_of turns)
turns-writes [] = tt
turns-writes (turn ∷ turns) = AllByRecursion-append (λ event. is_read event ≡ false) (map (λ (part : Written). appended part.0 part.1) turn) (appends_of turns) (turn-writes turn) (turns-writes turns)

-- ---- what is left

-- nothing was sent of bytes that are left
pub left-none : (size : ℕ) (bytes : List ℕ) → IsLeft size 0 bytes bytes
left-none size bytes =
    let none : 0 * size ≡ 0 = omega arith in
    record { whole = omega (arith, none); left_is = sym (ap (λ n. drop n bytes) none) }

-- bytes that come are left too
left-more : (size blocks : ℕ) (bytes left more : List ℕ) → IsLeft size blocks bytes left → IsLeft size blocks (bytes ++ more) (left ++ more)
left-more size blocks bytes left more is = record {
  whole = omega (arith, is.whole, length-append bytes more);
  left_is = ap (λ left. left ++ more) is.left_is ∙ sym (drop-append-le (blocks * size) bytes more is.whole);
}

left-long : (size blocks : ℕ) (bytes left : List ℕ) → IsLeft size blocks bytes left → length left + blocks * size ≡ length bytes
left-long size blocks bytes left is = omega (arith, ap length is.left_is, length-drop (blocks * size) bytes, is.whole)

-- and where some blocks more were sent, what is left of what was left
left-then : (size blocks others : ℕ) (bytes left rest : List ℕ) → IsLeft size blocks bytes left → IsLeft size others left rest → IsLeft size (blocks + others) bytes rest
left-then size blocks others bytes left rest is other =
    let sum : (blocks + others) * size ≡ blocks * size + others * size = add-mul blocks others size in
    record {
      whole = omega (arith, left-long size blocks bytes left is, other.whole, sum);
      left_is = other.left_is ∙ ap (drop (others * size)) is.left_is ∙ drop-drop (others * size) (blocks * size) bytes ∙ ap (λ n. drop n bytes) (sym sum);
    }

-- a whole block of the bytes that came doesn't change by those that follow
pub piece_front : (front more : List ℕ) (rate generation : ℕ) → (generation + 1) * capacity rate ≤ length front → piece_of (front ++ more) rate generation ≡ piece_of front rate generation
piece_front front more rate generation whole =
    let size = capacity rate in
    let next : (generation + 1) * size ≡ generation * size + 1 * size = add-mul generation 1 size in
    let start : generation * size ≤ length front = omega arith in
    let room : size ≤ length (drop (generation * size) front) = omega (arith, length-drop (generation * size) front) in
    ap (take size) (drop-append-le (generation * size) front more start) ∙ take-append-le size (drop (generation * size) front) more room

module _ (job : Job) where
  abbrev size : ℕ
  size = size_of job

  abbrev rate : ℕ
  rate = job.rate

  some_size : 0 < size
  some_size = let some : 1 ≤ rate = job.some_rate in omega (arith, some)

  -- ---- turns

  abbrev sent : ℕ → ℕ → List ℕ → List Event
  sent first count bytes = appends_of (turns_from job first count bytes)

  -- one turn more
  pub turns_more : (first count : ℕ) (bytes : List ℕ) → sent first count bytes ++ appends_of (job.turn (first + count) (piece_of bytes rate count) ∷ []) ≡ sent first (count + 1) bytes
  turns_more first count bytes = append.turns_more (λ place. job.turn (first + place) (piece_of bytes rate place)) count

  -- some turns, and then those of what is left
  turns_join : (blocks count : ℕ) (bytes left : List ℕ) → IsLeft size blocks bytes left → sent 0 blocks bytes ++ sent blocks count left ≡ sent 0 (blocks + count) bytes
  turns_join blocks zero bytes left is =
      let none : blocks ≡ blocks + 0 = omega arith in
      append-nil (sent 0 blocks bytes) ∙ ap (λ n. sent 0 n bytes) none
  turns_join blocks (suc count) bytes left is =
      let next : suc count ≡ count + 1 = omega arith in
      let sum : blocks + count + 1 ≡ blocks + suc count = omega arith in
      let zero_more : blocks + count ≡ 0 + (blocks + count) = omega arith in
      let piece : piece_of left rate count ≡ piece_of bytes rate (blocks + count) =
      ap (λ left. piece_of left rate count) is.left_is
      ∙ ap (take size) (drop-drop (count * size) (blocks * size) bytes ∙ ap (λ n. drop n bytes) (sym (add-mul blocks count size))) in
      let turn : job.turn (blocks + count) (piece_of left rate count) ≡ job.turn (0 + (blocks + count)) (piece_of bytes rate (blocks + count)) =
      ap (job.turn (blocks + count)) piece ∙ ap (λ n. job.turn n (piece_of bytes rate (blocks + count))) zero_more in
      ap (λ n. sent 0 blocks bytes ++ sent blocks n left) next
      ∙ ap (λ events. sent 0 blocks bytes ++ events) (sym (turns_more blocks count left))
      ∙ sym (append_assoc (sent 0 blocks bytes) (sent blocks count left) (appends_of (job.turn (blocks + count) (piece_of left rate count) ∷ [])))
      ∙ ap (λ events. events ++ appends_of (job.turn (blocks + count) (piece_of left rate count) ∷ [])) (turns_join blocks count bytes left is)
      ∙ ap (λ turn. sent 0 (blocks + count) bytes ++ appends_of (turn ∷ [])) turn
      ∙ turns_more 0 (blocks + count) bytes ∙ ap (λ n. sent 0 n bytes) sum

  -- the turns of whole blocks don't change by what follows
  turns_same : (blocks : ℕ) (bytes more : List ℕ) → blocks * size ≤ length bytes → turns_from job 0 blocks (bytes ++ more) ≡ turns_from job 0 blocks bytes
  turns_same blocks bytes more whole =
      same_made (λ place. job.turn (0 + place) (piece_of (bytes ++ more) rate place)) (λ place. job.turn (0 + place) (piece_of bytes rate place)) blocks []
      (λ place below.
      let among : (place + 1) * size ≤ blocks * size = mul-le-mul_right size (omega (arith, below)) in
      ap (job.turn (0 + place)) (piece_front bytes more rate place (omega (arith, among, whole))))

  -- few turns are the first of all
  pub turns_first : (first few all : ℕ) (bytes : List ℕ) → few ≤ all → IsFrontOf (sent first all bytes) (sent first few bytes)
  turns_first first few all bytes within =
      let turn : ℕ → List Written = λ place. job.turn (first + place) (piece_of bytes rate place) in
      turns_front turn turn few all within (λ place below. refl)

  -- the turn that is next stops
  pub turns_stop : (first count all : ℕ) (bytes : List ℕ) (events : List Event) → count < all
      → StopsWithin (appends_of (job.turn (first + count) (piece_of bytes rate count) ∷ [])) events → StopsWithin (sent first all bytes) (sent first count bytes ++ events)
  turns_stop first count all bytes events below stop = append.turns_stopped (λ place. job.turn (first + place) (piece_of bytes rate place)) all count events below stop

  -- ---- calls

  -- before each call the writes so far are the first of those that the reads so far bring
  abbrev pub IsAhead : List Event → Type 0
  IsAhead events = IsFrontOf (feed_brought job (reads_in events)) (writes_in events)

  abbrev pub InTime : List Event → Type 0
  InTime events = (front : List Event) (next : Event) (rest : List Event) → events ≡ front ++ next ∷ rest → IsAhead front

  in_time_more : (events later : List Event) → InTime events → ((more : List Event) (next : Event) (rest : List Event) → later ≡ more ++ next ∷ rest → IsAhead (events ++ more)) → InTime (events ++ later)
  in_time_more events later in_time behind front next rest e = ⊎_elim
      (λ within. in_time front next within.0 within.1)
      (λ past. subst IsAhead (sym past.1) (behind past.0 next rest past.2))
      (split_at_call events later front next rest e)

  -- What was sent so far of what was read: the turns of the first blocks, and each append in time.
  pub record HasFed (file : List ℕ) (next : ℕ) (events : List Event) : Type 0 where
    pub gave : bytes_read (reads_in events) ≡ file
    pub writes : writes_in events ≡ sent 0 next file
    pub in_time : InTime events
    pub within : next ≤ blocks_by (have_ended (reads_in events)) file rate

  -- what those reads bring
  brought_is : (file : List ℕ) (events : List Event) → bytes_read (reads_in events) ≡ file
      → feed_brought job (reads_in events) ≡ sent 0 (blocks_by (have_ended (reads_in events)) file rate) file
  brought_is file events gave = ap (λ bytes. appends_of (feed_turns job (have_ended (reads_in events)) bytes)) gave

  ahead : (file : List ℕ) (next : ℕ) (events : List Event) → HasFed file next events → IsAhead events
  ahead file next events is =
      let ended = have_ended (reads_in events) in
      subst (λ these. IsFrontOf these (writes_in events)) (sym (brought_is file events is.gave))
      (subst (IsFrontOf (sent 0 (blocks_by ended file rate) file)) (sym is.writes) (turns_first 0 next (blocks_by ended file rate) file is.within))

  -- the reads end, and nothing more is sent
  streams_over : (P : List Event → Type 0) (file : List ℕ) (next : ℕ) (events : List Event) → HasFed file next events → P (reads_in events) → Streams (feed_brought job) P IsFrontOf events
  streams_over P file next events is reads = record { reads = reads; writes = ahead file next events is; in_time = is.in_time }

  -- the reads and the writes after one more that reads
  reads-then : (events : List Event) (event : Event) → is_read event ≡ true → reads_in (events ++ event ∷ []) ≡ reads_in events ++ event ∷ []
  reads-then events event reads = reads-append events (event ∷ []) ∙ ap (λ b. reads_in events ++ cond b (event ∷ []) []) reads

  writes-then : (events : List Event) (event : Event) → is_read event ≡ true → writes_in (events ++ event ∷ []) ≡ writes_in events
  writes-then events event reads = writes-append events (event ∷ []) ∙ ap (λ b. writes_in events ++ cond (not b) (event ∷ []) []) reads ∙ append-nil (writes_in events)

  -- one call more that reads
  fed-read : (file other : List ℕ) (next : ℕ) (events : List Event) (event : Event) → is_read event ≡ true → HasFed file next events → sent 0 next other ≡ sent 0 next file
      → bytes_read (reads_in events ++ event ∷ []) ≡ other → next ≤ blocks_by (have_ended (reads_in events ++ event ∷ [])) other rate → HasFed other next (events ++ event ∷ [])
  fed-read file other next events event reads is same gave within = record {
    gave = ap bytes_read (reads-then events event reads) ∙ gave;
    writes = writes-then events event reads ∙ is.writes ∙ sym same;
    in_time = in_time_more events (event ∷ []) is.in_time last;
    within = subst (λ those. next ≤ blocks_by (have_ended those) other rate) (sym (reads-then events event reads)) within;
  }
    where
      last : (more : List Event) (later : Event) (rest : List Event) → event ∷ [] ≡ more ++ later ∷ rest → IsAhead (events ++ more)
      last [] later rest e = subst IsAhead (sym (append-nil events)) (ahead file next events is)
      last (one ∷ []) later rest e = absurd (cc)
      last (one ∷ another ∷ more) later rest e = absurd (cc)

  -- turns of what is left are sent
  module _ (file gathered : List ℕ) (next count : ℕ) (events later : List Event) (is : HasFed file next events) (left : IsLeft size next file gathered)
      (within : next + count ≤ blocks_by (have_ended (reads_in events)) file rate) where
    abbrev due : List Event
    due = sent next count gathered

    due-writes : AreWrites due
    due-writes = turns-writes (turns_from job next count gathered)

    -- all that was sent then
    all-sent : writes_in events ++ due ≡ sent 0 (next + count) file
    all-sent = ap (λ events. events ++ due) is.writes ∙ turns_join next count file gathered left

    front : IsFrontOf (feed_brought job (reads_in events)) (writes_in events ++ due)
    front =
        let all = blocks_by (have_ended (reads_in events)) file rate in
        subst (λ these. IsFrontOf these (writes_in events ++ due)) (sym (brought_is file events is.gave))
        (subst (IsFrontOf (sent 0 all file)) (sym all-sent) (turns_first 0 (next + count) all file within))

    module _ (writes : AreWrites later) where
      reads-still : (more : List Event) → AreWrites more → reads_in (events ++ more) ≡ reads_in events
      reads-still more some = reads-append events more ∙ ap (λ others. reads_in events ++ others) (reads_none more some) ∙ append-nil (reads_in events)

      writes-on : (more : List Event) → AreWrites more → writes_in (events ++ more) ≡ writes_in events ++ more
      writes-on more some = writes-append events more ∙ ap (λ others. writes_in events ++ others) (writes_all more some)

      in-time-on : AreDue due later → InTime (events ++ later)
      in-time-on in_order = in_time_more events later is.in_time
          (λ more one rest parts.
          let some = (all_split (λ event. is_read event ≡ false) more (one ∷ rest) (subst AreWrites parts writes)).0 in
          let first = in_order more one rest parts in
          subst (λ reads. IsFrontOf (feed_brought job reads) (writes_in (events ++ more))) (sym (reads-still more some))
          (subst (IsFrontOf (feed_brought job (reads_in events))) (sym (writes-on more some)) (
            first.0 ++ front.0,
            front.1 ∙ ap (λ due. (writes_in events ++ due) ++ front.0) first.1 ∙ append_assoc (writes_in events) (more ++ first.0) front.0
                ∙ ap (λ rest. writes_in events ++ rest) (append_assoc more first.0 front.0) ∙ sym (append_assoc (writes_in events) more (first.0 ++ front.0)),
          )))

    -- they were sent, and more may come
    fed-on : later ≡ due → HasFed file (next + count) (events ++ later)
    fed-on made =
        let writes : AreWrites later = subst AreWrites (sym made) due-writes in
        record {
          gave = ap bytes_read (reads-still writes later writes) ∙ is.gave;
          writes = writes-on writes later writes ∙ ap (λ later. writes_in events ++ later) made ∙ all-sent;
          in_time = in-time-on writes (due_all due later made);
          within = subst (λ reads. next + count ≤ blocks_by (have_ended reads) file rate) (sym (reads-still writes later writes)) within;
        }

    -- they were sent, and that is all
    streams_all : (P : List Event → Type 0) → P (reads_in events) → next + count ≡ blocks_by (have_ended (reads_in events)) file rate → later ≡ due → Streams (feed_brought job) P Are (events ++ later)
    streams_all P reads all made =
        let writes : AreWrites later = subst AreWrites (sym made) due-writes in
        let same = reads-still writes later writes in
        record {
          reads = subst P (sym same) reads;
          writes = writes-on writes later writes ∙ ap (λ later. writes_in events ++ later) made ∙ all-sent ∙ ap (λ n. sent 0 n file) all
              ∙ sym (brought_is file events is.gave) ∙ sym (ap (feed_brought job) same);
          in_time = in-time-on writes (due_all due later made);
        }

    -- they weren't
    streams_stop : (P : List Event → Type 0) → P (reads_in events) → StopsWithin due later → Streams (feed_brought job) P StopsWithin (events ++ later)
    streams_stop P reads stop =
        let writes : AreWrites later = stops_are_writes due later stop due-writes in
        let same = reads-still writes later writes in
        record {
          reads = subst P (sym same) reads;
          writes = subst (λ reads. StopsWithin (feed_brought job reads) (writes_in (events ++ later))) (sym same)
              (subst (StopsWithin (feed_brought job (reads_in events))) (sym (writes-on writes later writes))
              (subst (λ these. StopsWithin these (writes_in events ++ later)) (sym front.1)
              (stops_first (writes_in events ++ due) front.0 (writes_in events ++ later) (stops_behind (writes_in events) due later stop))));
          in_time = in-time-on writes (due_stops due later stop);
        }

  -- ---- the path of the source

  -- A source on its way: so many bytes of the file were read, the first whole blocks of them were sent, and the rest is gathered.
  pub record IsFed (path : List ℕ) (at next : ℕ) (gathered : List ℕ) (events : List Event) : Type 0 where
    pub file : List ℕ
    pub long : length file ≡ at
    pub reads : AreReadsFrom 0 path (reads_in events)
    pub left : IsLeft size next file gathered
    pub fed : HasFed file next events

  -- nothing was read yet
  pub on-none : (path : List ℕ) → IsFed path 0 0 [] []
  on-none path = record {
    file = [];
    long = refl;
    reads = tt;
    left = left-none size [];
    fed = record { gave = refl; writes = refl; in_time = none; within = omega arith };
  }
    where
      none : InTime []
      none [] next rest e = absurd (cc)
      none (event ∷ front) next rest e = absurd (cc)

  module _ (path : List ℕ) (at next : ℕ) (gathered : List ℕ) (events : List Event) (is : IsFed path at next gathered events) where
    place : 0 + length (bytes_read (reads_in events)) ≡ at
    place = omega (arith, ap length is.fed.gave, is.long)

    -- whole blocks of the bytes so far are whole ones of all that came
    whole-in : (blocks : ℕ) (file : List ℕ) → blocks * size ≤ length file → blocks ≤ length file / size
    whole-in blocks file whole = le-div blocks (length file) size some_size whole

    whole-brought : (reads : List Event) (file : List ℕ) → have_ended reads ≡ false → blocks_by (have_ended reads) file rate ≡ length file / size
    whole-brought reads file ended = ap (λ ended. blocks_by ended file rate) ended

    -- so many blocks were sent, and so many are left
    counted : length is.file / size ≡ length gathered / size + next
    counted = ap (λ n. n / size) (sym (left-long size next is.file gathered is.left)) ∙ add-mul-div_right (length gathered) next some_size

    -- no more blocks were sent, and are left, than numbers serve
    pub few : at ≤ 2 ^ 41 → next + (length gathered / size + 1) < 2 ^ 32
    few short =
        let blocks = length is.file / size in
        let least : blocks * 1020 ≤ blocks * size = mul-le-mul_left blocks (let some : 1 ≤ rate = job.some_rate in omega (arith, some)) in
        omega (arith, counted, least, div-mul-le_self (length is.file) size, is.long, short)

    -- more came
    pub on-read : (room : ℕ) (bytes : List ℕ) → 0 < length bytes → IsFed path (at + length bytes) next (gathered ++ bytes) (events ++ read path at room bytes ∷ [])
    on-read room bytes some =
        let event = read path at room bytes in
        let file = is.file ++ bytes in
        let reads : AreReadsFrom 0 path (reads_in events ++ event ∷ []) =
        subst (λ n. AreReadsFrom 0 path (reads_in events ++ read path n room bytes ∷ [])) place (reads_more 0 path (reads_in events) room bytes is.reads some) in
        let gave : bytes_read (reads_in events ++ event ∷ []) ≡ file =
        bytes_read-append (reads_in events) (event ∷ []) ∙ ap (λ last. bytes_read (reads_in events) ++ last) (append-nil bytes) ∙ ap (λ front. front ++ bytes) is.fed.gave in
        let left = left-more size next is.file gathered bytes is.left in
        record {
          file = file;
          long = length-append is.file bytes ∙ ap (λ n. n + length bytes) is.long;
          reads = subst (AreReadsFrom 0 path) (sym (reads-then events event refl)) reads;
          left = left;
          fed = fed-read is.file file next events event refl is.fed (ap appends_of (turns_same next is.file bytes is.left.whole)) gave
              (omega (arith, whole-brought (reads_in events ++ event ∷ []) file (unended 0 path (reads_in events ++ event ∷ []) reads), whole-in next file left.whole));
        }

    -- whole blocks of what is gathered may be sent
    within-whole : (count : ℕ) → count * size ≤ length gathered → next + count ≤ blocks_by (have_ended (reads_in events)) is.file rate
    within-whole count whole =
        omega (arith, whole-brought (reads_in events) is.file (unended 0 path (reads_in events) is.reads), counted, whole-in count gathered whole)

    -- blocks of it were sent
    pub on-sent : (count : ℕ) (left : List ℕ) (later : List Event) → IsLeft size count gathered left → later ≡ sent next count gathered → IsFed path at (next + count) left (events ++ later)
    on-sent count left later behind made =
        let writes : AreWrites later = subst AreWrites (sym made) (turns-writes (turns_from job next count gathered)) in
        let same : reads_in (events ++ later) ≡ reads_in events =
        reads-append events later ∙ ap (λ others. reads_in events ++ others) (reads_none later writes) ∙ append-nil (reads_in events) in
        record {
          file = is.file;
          long = is.long;
          reads = subst (AreReadsFrom 0 path) (sym same) is.reads;
          left = left-then size next count is.file gathered left is.left behind;
          fed = fed-on is.file gathered next count events later is.fed is.left (within-whole count behind.whole) made;
        }

    -- blocks of it weren't
    pub on-stopped : (limit count : ℕ) → 0 < at → at ≤ limit + 1 → count * size ≤ length gathered → (later : List Event) → StopsWithin (sent next count gathered) later
        → Streams (feed_brought job) (ReadsAny path limit) StopsWithin (events ++ later)
    on-stopped limit count some short whole later stop =
        streams_stop is.file gathered next count events later is.fed is.left (within-whole count whole) (ReadsAny path limit)
        (inl (record { reads = is.reads; some = omega (arith, place, some); short = omega (arith, place, short) })) stop

    -- a read failed
    pub on-failed : (limit room : ℕ) → at ≤ limit → Streams (feed_brought job) (ReadsToFault path limit) IsFrontOf (events ++ read_failed path at room ∷ [])
    on-failed limit room short =
        let event = read_failed path at room in
        let ended : have_ended (reads_in events ++ event ∷ []) ≡ false = list_any-append gave_nothing (reads_in events) (event ∷ []) ∙ ap (λ b. b || false) (unended 0 path (reads_in events) is.reads) in
        let gave : bytes_read (reads_in events ++ event ∷ []) ≡ is.file = bytes_read-append (reads_in events) (event ∷ []) ∙ append-nil (bytes_read (reads_in events)) ∙ is.fed.gave in
        streams_over (ReadsToFault path limit) is.file next (events ++ event ∷ [])
        (fed-read is.file is.file next events event refl is.fed refl gave (omega (arith, whole-brought (reads_in events ++ event ∷ []) is.file ended, whole-in next is.file is.left.whole)))
        (subst (ReadsToFault path limit) (sym (reads-then events event refl)) (record {
          front = reads_in events;
          reads = is.reads;
          room = room;
          failed = ap (λ n. reads_in events ++ read_failed path n room ∷ []) (sym (ap length is.fed.gave ∙ is.long));
          short = omega (arith, place, short);
        }))

    -- the file is longer than its limit
    pub on-long : (limit : ℕ) → at ≡ limit + 1 → Streams (feed_brought job) (ReadsPastLimit path limit) IsFrontOf events
    on-long limit long = streams_over (ReadsPastLimit path limit) is.file next events is.fed (record { reads = is.reads; long = omega (arith, place, long) })

    -- the file ended there
    module _ (limit room : ℕ) (some : 0 < room) (short : at ≤ limit) where
      abbrev over : List Event
      over = events ++ read path at room [] ∷ []

      whole : ReadsWhole path limit is.file (reads_in events ++ read path at room [] ∷ [])
      whole = record {
        front = reads_in events;
        reads = is.reads;
        gave = is.fed.gave;
        room = room;
        some_room = some;
        ended = ap (λ n. reads_in events ++ read path n room [] ∷ []) (sym is.long);
        short = omega (arith, is.long, short);
      }

      whole-over : ReadsWhole path limit is.file (reads_in over)
      whole-over = subst (ReadsWhole path limit is.file) (sym (reads-then events (read path at room []) refl)) whole

      all-brought : (reads : List Event) → ReadsWhole path limit is.file reads → blocks_by (have_ended reads) is.file rate ≡ block_count is.file rate
      all-brought reads whole = ap (λ ended. blocks_by ended is.file rate) (whole_ended path limit is.file reads whole)

      ended : HasFed is.file next over
      ended =
          fed-read is.file is.file next events (read path at room []) refl is.fed refl (whole_gave path limit is.file (reads_in events ++ read path at room [] ∷ []) whole)
          (omega (arith, all-brought (reads_in events ++ read path at room [] ∷ []) whole, whole-in next is.file is.left.whole))

      abbrev count : ℕ
      count = length gathered / size + 1

      pub all : next + count ≡ block_count is.file rate
      all = omega (arith, counted)

      all-over : next + count ≡ blocks_by (have_ended (reads_in over)) is.file rate
      all-over = all ∙ sym (all-brought (reads_in over) whole-over)

      -- and its last blocks were sent
      pub on-all : (later : List Event) → later ≡ sent next count gathered → Streams (feed_brought job) (ReadsWhole path limit is.file) Are (over ++ later)
      on-all later made = streams_all is.file gathered next count over later ended is.left (omega (arith, all-over)) (ReadsWhole path limit is.file) whole-over all-over made

      -- or they weren't
      pub on-broken : (later : List Event) → StopsWithin (sent next count gathered) later → Streams (feed_brought job) (ReadsAny path limit) StopsWithin (over ++ later)
      on-broken later stop = streams_stop is.file gathered next count over later ended is.left (omega (arith, all-over)) (ReadsAny path limit) (inr (is.file, whole-over)) stop

-- files that were created, and calls behind that
pub fills_then : (paths : List (List ℕ)) (P Q : List Event → Type 0) (first later : List Event) → Fills paths P first → ((events : List Event) → P events → Q (events ++ later)) → Fills paths Q (first ++ later)
fills_then paths P Q first later fills more = record {
  first = fills.first;
  later = fills.later ++ later;
  events_are = ap (λ events. events ++ later) fills.events_are ∙ append_assoc fills.first fills.later later;
  holds_first = fills.holds_first;
  holds_later = more fills.later fills.holds_later;
}

-- the same, where what follows is known
pub fills_after : (paths : List (List ℕ)) (P Q : List Event → Type 0) (first later : List Event) (fills : Fills paths P first) → Q (fills.later ++ later) → Fills paths Q (first ++ later)
fills_after paths P Q first later fills more = record {
  first = fills.first;
  later = fills.later ++ later;
  events_are = ap (λ events. events ++ later) fills.events_are ∙ append_assoc fills.first fills.later later;
  holds_first = fills.holds_first;
  holds_later = more;
}

-- ---- what stands in the room for bytes

-- what is gathered, and then what came
pub room_read : (len filled k count n : ℕ) (room chunk old held : List ℕ) → n ≡ filled + count → room ≡ held → filled ≤ length room → count ≤ length chunk → length (put_mid filled k room chunk) ≡ len
    → take n (take len (put_mid filled k room chunk ++ drop (length (put_mid filled k room chunk)) old)) ≡ take filled held ++ take count chunk
room_read len filled k count n room chunk old held n_is room_is within came long =
    let all = put_mid filled k room chunk in
    let rest = drop k (drop filled room) in
    let seam : length (take filled room) ≡ filled = length-take-le filled room within in
    let sum : n ≡ length (take filled room) + count = omega (arith, n_is, seam) in
    ap (take n) (take_at all (drop (length all) old) len long) ∙ ap (λ n. take n all) sum ∙ take-append-add (take filled room) (chunk ++ rest) count
    ∙ ap (λ bytes. take filled room ++ bytes) (take-append-le count chunk rest came) ∙ ap (λ room. take filled room ++ take count chunk) room_is

-- and it is as long as the room
pub room_long : (filled : ℕ) (room chunk : List ℕ) → filled ≤ length room → length chunk ≡ length room - filled → length (put_mid filled (length room - filled) room chunk) ≡ length room
room_long filled room chunk within long =
    let k = length room - filled in
    let rest = drop k (drop filled room) in
    omega (arith, length-append (take filled room) (chunk ++ rest), length-append chunk rest, length-take-le filled room within, length-drop k (drop filled room), length-drop filled room, long, within)

-- the result of an exit by `?`
pub err_is : {T E : Type 0} (r : Result T E) (made : E) → IsErrAnd r (λ error. error ≡ made) → r ≡ Err made
err_is (Ok x) made is = absurd is
err_is (Err error) made is = ap (λ error. Err error) is

-- ---- reads that bring alike

-- reads that bring alike are mixed alike
pub streams_alike : (brings others : List Event → List Event) (P : List Event → Type 0) (Q : List Event → List Event → Type 0) (events : List Event) → ((reads : List Event) → brings reads ≡ others reads) → Streams brings P Q events → Streams others P Q events
streams_alike brings others P Q events same streams = record {
  reads = streams.reads;
  writes = subst (λ these. Q these (writes_in events)) (same (reads_in events)) streams.writes;
  in_time = λ front next rest e. subst (λ these. IsFrontOf these (writes_in front)) (same (reads_in front)) (streams.in_time front next rest e);
}

pub fills_weaker : (paths : List (List ℕ)) (P Q : List Event → Type 0) (calls : List Event) → Fills paths P calls → ((events : List Event) → P events → Q events) → Fills paths Q calls
fills_weaker paths P Q calls fills more = record {
  first = fills.first;
  later = fills.later;
  events_are = fills.events_are;
  holds_first = fills.holds_first;
  holds_later = more fills.later fills.holds_later;
}

-- ---- places in what is gathered

-- each block that is sent begins in it
pub reaches : (place count size filled : ℕ) → place < count → count * size ≤ filled + size → place * size ≤ filled
reaches place count size filled below within =
    let some : (place + 1) * size ≤ count * size = mul-le-mul_right size (omega (arith, below)) in
    let next : (place + 1) * size ≡ place * size + 1 * size = add-mul place 1 size in
    omega (arith, some, next, within)

take-both : (n m k : ℕ) (xs : List ℕ) → k ≡ min n m → take k xs ≡ take n (take m xs)
take-both zero m k xs is = let none : k ≡ 0 = omega (arith, is) in ap (λ k. take k xs) none
take-both (suc n) zero k xs is = let none : k ≡ 0 = omega (arith, is) in ap (λ k. take k xs) none
take-both (suc n) (suc m) k [] is = let some : k ≡ suc (min n m) = omega (arith, is) in ap (λ k. take k []) some
take-both (suc n) (suc m) k (x ∷ xs) is =
    let some : k ≡ suc (min n m) = omega (arith, is) in
    ap (λ k. take k (x ∷ xs)) some ∙ ap (λ rest. x ∷ rest) (take-both n m (min n m) xs refl)

-- and is its piece there
pub gathered_piece : (bytes : List ℕ) (filled rate place start end : ℕ) → place * capacity rate ≤ filled → start ≡ place * capacity rate → end ≡ min filled (start + capacity rate)
    → slice_range bytes start end ≡ piece_of (take filled bytes) rate place
gathered_piece bytes filled rate place start end begins start_is end_is =
    let size = capacity rate in
    let behind = drop start bytes in
    let left = filled - start in
    let all : filled ≡ start + left = omega (arith, start_is, begins) in
    let long : end - start ≡ min size left = omega (arith, start_is, end_is, begins) in
    take-both size left (end - start) behind long ∙ ap (take size) (sym (drop-take start left bytes))
    ∙ ap (λ n. take size (drop start (take n bytes))) (sym all) ∙ ap (λ n. take size (drop n (take filled bytes))) start_is

-- the turn of the block that is next
pub next_turn : (job other : Job) (first next place room filled end : ℕ) (bytes items : List ℕ) → other ≡ job → next ≡ first + place → items ≡ bytes → room ≡ size_of job → place * room ≤ filled
    → end ≡ min filled (place * room + room) → other.turn next (slice_range items (place * room) end) ≡ job.turn (first + place) (piece_of (take filled bytes) job.rate place)
next_turn job other first next place room filled end bytes items same next_is bytes_are room_is begins end_is =
    let start = place * room in
    let start_is : start ≡ place * size_of job = ap (λ n. place * n) room_is in
    let within : place * size_of job ≤ filled = subst (λ n. n ≤ filled) start_is begins in
    let last : end ≡ min filled (start + size_of job) = end_is ∙ ap (λ n. min filled (start + n)) room_is in
    ap (λ (job : Job). job.turn next (slice_range items start end)) same
    ∙ ap (λ n. job.turn n (slice_range items start end)) next_is
    ∙ ap (λ bytes. job.turn (first + place) (slice_range bytes start end)) bytes_are
    ∙ ap (job.turn (first + place)) (gathered_piece bytes filled job.rate place start end within start_is last)

-- the block that was cut, where the room for it is as long as a block of the rate
pub cut_there : (block piece is : List ℕ) (room rate : ℕ) → block ≡ block_of (room / row_bytes) piece → room ≡ rate * row_bytes → piece ≡ is → block ≡ block_of rate is
cut_there block piece is room rate made long same =
    let some : 0 < row_bytes = omega arith in
    made ∙ ap (λ room. block_of (room / row_bytes) piece) long ∙ ap (λ rate. block_of rate piece) (mul-div_left rate some) ∙ ap (block_of rate) same
