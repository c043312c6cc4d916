-- What follows of reads into a reader's room: that more is held, that the source has ended, or that it can't be read on.
use Rattle.std.specs.Prelude.{◌≡◌, ◌⊎◌, ◌<◌, ◌≤◌, ◌+◌, ◌-◌, ◌*◌, ℕ, Bool, true, false, List, [], ◌∷◌, ◌++◌, Vec, drop, length, take}
use Rattle.std.specs.Vec.{with_items}
use Rattle.std.proofs.Common.{refl, sym, ap, ◌∙◌, subst, arith, ⊎_elim}
use Rattle.std.proofs.Math.Seq.{take-append-add}
use Rattle.std.proofs.lemmas.Bool.{false≢true}
use Rattle.std.proofs.lemmas.List.{append-nil, append_assoc, drop-append-le, length-append, length-take-le, take-append-le, take-take}
use Rattle.generation_frame.specs.Blocks.{capacity}
use Rattle.lif_outside.proofs.FileCallLaws.{bytes_read-append, reads_more}
use Rattle.lif_outside.proofs.StreamLaws.{split_at_call}
use Rattle.lif_outside.specs.Events.{Event, read, read_failed}
use Rattle.lif_outside.specs.FileCalls.{AreReadsFrom, ReadsPastLimit, bytes_read}
use Rattle.source_delivery.specs.Reading.{AreReads, AreWithin, HasRead, IsSameReader, ReadsOn, StopsReadingOn, StopsReads}
use Rattle.source_delivery.specs.declared.reader.SourceReader.{SourceReader}
use Rattle.source_delivery.specs.declared.streaming.StreamFault.{StreamFault}
use Rattle.source_delivery.specs.declared.streaming.StreamFault.TheVariants as stream

-- what stands in a room once bytes were written behind those that are held
pub written : {Z : Type 0} (room : Vec ℕ Z) (held count n : ℕ) (chunk rest now : List ℕ) → n ≡ held + count → now ≡ room.items → n ≤ length room.items → count ≤ length chunk
    → take n (with_items room (take held now ++ (chunk ++ rest))).items ≡ take held room.items ++ take count chunk
written room held count n chunk rest now sum same within few =
    let front = take held room.items in
    let all = front ++ (chunk ++ rest) in
    let long : length front ≡ held = length-take-le held room.items (omega (arith, within, sum)) in
    let enough : n ≤ length all = omega (arith, sum, long, few, length-append front (chunk ++ rest), length-append chunk rest) in
    let room_for : n ≤ room.len = omega (arith, within, room.ok.0) in
    subst (λ now. take n (with_items room (take held now ++ (chunk ++ rest))).items ≡ front ++ take count chunk) (sym same)
    (take-take n room.len (all ++ drop (length all) room.items) room_for
    ∙ take-append-le n all (drop (length all) room.items) enough
    ∙ ap (λ n. take n all) (omega (arith, sum, long))
    ∙ take-append-add front (chunk ++ rest) count
    ∙ ap (λ came. front ++ came) (take-append-le count chunk rest few))

-- ---- reads within the room that is left

pub within-none : (reader : SourceReader) → AreWithin reader []
within-none reader front next rest is = omega (arith, ap length is, length-append front (next ∷ rest))

-- of one call none comes before
none-before : (event : Event) (front : List Event) (next : Event) (rest : List Event) → event ∷ [] ≡ front ++ next ∷ rest → front ≡ []
none-before event [] next rest is = refl
none-before event (first ∷ front) next rest is = absurd (omega (arith, ap length is, length-append front (next ∷ rest)))

pub within-one : (reader : SourceReader) (event : Event) → reader.held < length reader.bytes.items → AreWithin reader (event ∷ [])
within-one reader event room front next rest is =
    subst (λ front. reader.held + length (bytes_read front) < length reader.bytes.items) (sym (none-before event front next rest is)) (omega (arith, room))

-- and then more, of what holds what the first brought
pub within-then : (old mid : SourceReader) (first later : List Event) → mid.held ≡ old.held + length (bytes_read first) → length mid.bytes.items ≡ length old.bytes.items
    → AreWithin old first → AreWithin mid later → AreWithin old (first ++ later)
within-then old mid first later grew room one other front next rest is = ⊎_elim
    (λ here. one front next here.0 here.1)
    (λ behind.
    let more = behind.0 in
    let brought : length (bytes_read front) ≡ length (bytes_read first) + length (bytes_read more) =
    ap (λ (events : List Event). length (bytes_read events)) behind.1 ∙ ap length (bytes_read-append first more) ∙ length-append (bytes_read first) (bytes_read more) in
    omega (arith, brought, grew, room, other more next rest behind.2))
    (split_at_call first later front next rest is)

-- ---- one read

-- the reads of a source that hasn't ended
abbrev AreUnended : List ℕ → ℕ → List Event → Type 0
AreUnended path limit reads = AreReads path limit false reads

module _ (limit : ℕ) (old : SourceReader) (unended : old.ended ≡ false) where
  abbrev path : List ℕ
  path = old.path.now

  -- what was read so far
  so_far : (rate carried : ℕ) (before : List Event) → HasRead (record { path = path; rate = rate }) limit carried old before → AreUnended path limit before
  so_far rate carried before is = subst (λ ended. AreReads path limit ended before) unended is.are

  -- the source is longer than the limit
  pub stops-long : limit < old.at → StopsReadingOn limit old stream.TooLong []
  stops-long past = record {
    unended = unended;
    within = within-none old;
    stops = λ rate carried before is.
        let are = so_far rate carried before is in
        subst (ReadsPastLimit path limit) (sym (append-nil before)) (record { reads = are.0; long = omega (arith, are.1, is.at, past) });
  }

  -- a read failed
  pub stops-failed : (room : ℕ) → old.at ≤ limit → old.held < length old.bytes.items → StopsReadingOn limit old stream.Read (read_failed path old.at room ∷ [])
  stops-failed room short left = record {
    unended = unended;
    within = within-one old (read_failed path old.at room) left;
    stops = λ rate carried before is. record {
      front = before;
      reads = (so_far rate carried before is).0;
      room = room;
      failed = ap (λ n. before ++ read_failed path n room ∷ []) is.at;
      short = omega (arith, is.at, short);
    };
  }

  -- nothing came: the source has ended
  pub on-end : (new : SourceReader) (room : ℕ) → 0 < room → old.at ≤ limit → old.held < length old.bytes.items → new.ended ≡ true → new.at ≡ old.at → new.held ≡ old.held
      → take new.held new.bytes.items ≡ take old.held old.bytes.items → ReadsOn limit old new (read path old.at room [] ∷ [])
  on-end new room some short left ended at held holds =
      let event = read path old.at room [] in
      let gave : (before : List Event) → bytes_read (before ++ event ∷ []) ≡ bytes_read before = λ before. bytes_read-append before (event ∷ []) ∙ append-nil (bytes_read before) in
      record {
        unended = λ over. absurd (false≢true (sym unended ∙ over));
        within = within-one old event left;
        grows = omega (arith, held);
        on = λ rate carried before is. record {
          are = subst (λ ended. AreReads path limit ended (before ++ event ∷ [])) (sym ended) (record {
            front = before;
            reads = (so_far rate carried before is).0;
            gave = sym (gave before);
            room = room;
            some_room = some;
            ended = ap (λ n. before ++ read path n room [] ∷ []) (is.at ∙ sym (ap length (gave before)));
            short = omega (arith, is.at, ap length (gave before), short);
          });
          at = at ∙ is.at ∙ sym (ap length (gave before));
          holds = holds ∙ is.holds ∙ ap (drop (carried * capacity rate)) (sym (gave before));
          whole = λ running. absurd (false≢true (sym running ∙ ended));
        };
      }

  -- bytes came
  pub on-more : (new : SourceReader) (room : ℕ) (came : List ℕ) → 0 < length came → old.held < length old.bytes.items → new.ended ≡ false → new.at ≡ old.at + length came → new.at ≤ limit + 1
      → new.held ≡ old.held + length came → take new.held new.bytes.items ≡ take old.held old.bytes.items ++ came → ReadsOn limit old new (read path old.at room came ∷ [])
  on-more new room came some left running at short held holds =
      let event = read path old.at room came in
      let gave : (before : List Event) → bytes_read (before ++ event ∷ []) ≡ bytes_read before ++ came =
      λ before. bytes_read-append before (event ∷ []) ∙ ap (λ last. bytes_read before ++ last) (append-nil came) in
      record {
        unended = λ over. absurd (false≢true (sym unended ∙ over));
        within = within-one old event left;
        grows = held ∙ ap (λ last. old.held + length last) (sym (append-nil came));
        on = λ rate carried before is.
            let file = bytes_read before in
            let size = carried * capacity rate in
            let all : length (bytes_read (before ++ event ∷ [])) ≡ length file + length came = ap length (gave before) ∙ length-append file came in
            let reads : AreReadsFrom 0 path (before ++ event ∷ []) =
            subst (λ n. AreReadsFrom 0 path (before ++ read path n room came ∷ [])) (omega (arith, is.at)) (reads_more 0 path before room came (so_far rate carried before is).0 some) in
            record {
              are = subst (λ ended. AreReads path limit ended (before ++ event ∷ [])) (sym running) (reads, omega (arith, all, is.at, at, short));
              at = omega (arith, all, is.at, at);
              holds = holds ∙ ap (λ front. front ++ came) is.holds ∙ sym (drop-append-le size file came (omega (arith, is.at, is.whole unended))) ∙ ap (drop size) (sym (gave before));
              whole = λ running. omega (arith, is.whole unended, at, held);
            };
      }

-- ---- reads one after another

pub same-then : (old mid new : SourceReader) → IsSameReader old mid → IsSameReader mid new → IsSameReader old new
same-then old mid new one other = record { path = other.path ∙ one.path; rate = other.rate ∙ one.rate; room = other.room ∙ one.room }

-- nothing was read
pub on-none : (limit : ℕ) (reader : SourceReader) → ReadsOn limit reader reader []
on-none limit reader = record {
  unended = λ ended. refl;
  within = within-none reader;
  grows = omega arith;
  on = λ rate carried before is. subst (HasRead (record { path = reader.path.now; rate = rate }) limit carried reader) (sym (append-nil before)) is;
}

module _ (limit : ℕ) (old mid : SourceReader) (same : IsSameReader old mid) (unended : old.ended ≡ false) (first : List Event) (one : ReadsOn limit old mid first) where
  -- more was read
  pub on-then : (new : SourceReader) (later : List Event) → ReadsOn limit mid new later → ReadsOn limit old new (first ++ later)
  on-then new later other = record {
    unended = λ over. absurd (false≢true (sym unended ∙ over));
    within = within-then old mid first later one.grows same.room one.within other.within;
    grows = omega (arith, one.grows, other.grows, ap length (bytes_read-append first later), length-append (bytes_read first) (bytes_read later));
    on = λ rate carried before is.
        let HasNow : List ℕ → SourceReader → List Event → Type 0 = λ path reader events. HasRead (record { path = path; rate = rate }) limit carried reader events in
        let mid_has : HasNow mid.path.now mid (before ++ first) = subst (λ path. HasNow path mid (before ++ first)) (sym same.path) (one.on rate carried before is) in
        subst (HasNow old.path.now new) (append_assoc before first later) (subst (λ path. HasNow path new ((before ++ first) ++ later)) same.path (other.on rate carried (before ++ first) mid_has));
  }

  -- the source couldn't be read on
  pub stops-then : (why : StreamFault) (later : List Event) → StopsReadingOn limit mid why later → StopsReadingOn limit old why (first ++ later)
  stops-then why later stop = record {
    unended = unended;
    within = within-then old mid first later one.grows same.room one.within stop.within;
    stops = λ rate carried before is.
        let HasNow : List ℕ → Type 0 = λ path. HasRead (record { path = path; rate = rate }) limit carried mid (before ++ first) in
        let mid_has : HasNow mid.path.now = subst HasNow (sym same.path) (one.on rate carried before is) in
        subst (StopsReads old.path.now limit why) (append_assoc before first later)
        (subst (λ path. StopsReads path limit why ((before ++ first) ++ later)) same.path (stop.stops rate carried (before ++ first) mid_has));
  }

-- ---- until a window is held

-- a source that has not ended hadn't ended before
pub unended-before : (old new : Bool) → (old ≡ true → new ≡ true) → new ≡ false → old ≡ false
unended-before true new kept running = absurd (false≢true (sym running ∙ kept refl))
unended-before false new kept running = refl

-- how much is left to do: the room that is left, and to see that the source has ended
abbrev to_see : Bool → ℕ
to_see true = 0
to_see false = 1

abbrev pub left_to_read : SourceReader → ℕ
left_to_read reader = length reader.bytes.items - reader.held + to_see reader.ended

-- with each read it is less
pub left-less : (old new : SourceReader) → old.ended ≡ false → old.held < length old.bytes.items → length new.bytes.items ≡ length old.bytes.items → old.held ≤ new.held
    → ((new.ended ≡ true) ⊎ (old.held < new.held)) → left_to_read new < left_to_read old
left-less old new unended left room grown more =
    let one : to_see old.ended ≡ to_see false = ap to_see unended in
    ⊎_elim
    (λ over.
    let none : to_see new.ended ≡ to_see true = ap to_see over in
    omega (arith, one, none, left, room, grown))
    (λ behind. omega (arith, one, few new.ended, left, room, behind))
    more
  where
    few : (ended : Bool) → to_see ended ≤ 1
    few true = omega arith
    few false = omega arith
