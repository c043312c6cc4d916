-- A source that is streamed: what was read and delivered so far, and what follows when more is read, delivered or fails.
use Rattle.std.specs.Prelude.{◌≡◌, ◌<◌, ◌≤◌, ◌+◌, ◌-◌, ◌*◌, ◌/◌, ◌||◌, min, not, cond, map, if◌then◌else◌, ℕ, Bool, true, false, List, [], ◌∷◌, ◌++◌, length}
use Rattle.std.proofs.Common.{refl, sym, ap, ◌∙◌, subst, arith, inl, inr, ⊎_elim}
use Rattle.std.proofs.Math.Nat.{add-mul-div_right}
use Rattle.std.proofs.lemmas.List.{append-nil, append_assoc, length-append, length-drop}
use Rattle.std.proofs.lemmas.List.Folds.{list_any-append}
use Rattle.std.proofs.lemmas.Nat.{le-div}
use Rattle.command_steps.proofs.FeedingLaws.{unended}
use Rattle.generation_frame.specs.Blocks.{block_count, capacity}
use Rattle.generation_frame.specs.declared.frame.Packet.{Packet}
use Rattle.item_list.proofs.Tests.{AllByRecursion-append}
use Rattle.lif_outside.specs.Calls.{Calls, MakesBoth, MakesCalls}
use Rattle.lif_outside.specs.declared.links.Links.{Ghosts as LinksGhosts}
use Rattle.lif_outside.specs.declared.store.Store.{Ghosts as StoreGhosts}
use Rattle.lif_outside.specs.Events.{Event, appended, read, read_failed}
use Rattle.lif_outside.specs.Moves.{Move}
use Rattle.lif_outside.specs.FileCalls.{AreReadsFrom, ReadsPastLimit, ReadsToFault, ReadsWhole, StopsWithin, Written, appends_of, bytes_read}
use Rattle.lif_outside.specs.Sequences.{Are, IsFrontOf}
use Rattle.lif_outside.specs.Streams.{gave_nothing, have_ended, is_read, reads_in, writes_in}
use Rattle.lif_outside.proofs.FileCallLaws.{bytes_read-append, reads_more}
use Rattle.lif_outside.proofs.SequenceLaws.{all_split, front_all, stops_behind}
use Rattle.lif_outside.proofs.StreamLaws.{AreDue, AreWrites, due_all, due_none, due_stops, reads-append, reads_none, split_at_call, stops_are_writes, whole_ended, whole_gave, writes-append, writes_all}
use Rattle.node_program.specs.declared.code.Code.{Code}
use Rattle.relay_runner.specs.Carried.{packets_given}
use Rattle.top_base.specs.Inputs.{ReadsAny}
use Rattle.source_delivery.proofs.CarriedLaws.{blocks_from-behind, blocks_in-append, carried-then, decoded-still, length-blocks_in}
use Rattle.source_delivery.proofs.DeliveryLaws.{turns-joined}
use Rattle.source_delivery.proofs.GatherLaws.{behind-more, behind-none, behind-then, count-left, left-blocks, same-blocks}
use Rattle.source_delivery.proofs.ReaderLaws.{AllRead}
use Rattle.source_delivery.proofs.TurnLaws.{turns-alike, turns-append}
use Rattle.source_delivery.specs.Carried.{AreCarried, Breaks, blocks_from, blocks_in, file_block}
use Rattle.source_delivery.specs.Delivering.{BreaksBlocks, DeliversBlocks, InterruptsBlocks, InterruptsBytes, IsBehind, calls_join}
use Rattle.source_delivery.specs.Delivery.{AreCounts}
use Rattle.source_delivery.specs.Streaming.{AtRest, Feed, InTime, IsStreamed, StopsStreaming, StreamsAll, StreamsSource, blocks_brought, deliveries_to, file_feed}
use Rattle.source_delivery.specs.declared.delivery.SentCounts.{SentCounts}
use Rattle.source_delivery.specs.declared.delivery.DeliveryFault.{DeliveryFault}
use Rattle.source_delivery.specs.declared.delivery.DeliveryFault.TheVariants as fault
use Rattle.source_delivery.specs.declared.streaming.StreamFault.TheVariants as stream
use Rattle.source_delivery.specs.Turns.{Outputs, turns_before, turns_from}

-- they bring the blocks that are whole
pub brought-whole : (path : List ℕ) (events : List Event) (rate : ℕ) → AreReadsFrom 0 path events → blocks_brought events rate ≡ length (bytes_read events) / capacity rate
brought-whole path events rate reads =
    ap (λ ended. if ended then block_count (bytes_read events) rate else length (bytes_read events) / capacity rate) (unended 0 path events reads)

-- a source that was read to its end comes whole, and brings all its blocks
pub all-brought : (path : List ℕ) (limit : ℕ) (source : List ℕ) (reads : List Event) (rate : ℕ) → ReadsWhole path limit source reads → blocks_brought reads rate ≡ block_count source rate
all-brought path limit source reads rate whole =
    ap (λ ended. if ended then block_count (bytes_read reads) rate else length (bytes_read reads) / capacity rate) (whole_ended path limit source reads whole)
    ∙ ap (λ bytes. block_count bytes rate) (whole_gave path limit source reads whole)

module _ (outputs : Outputs) (code : Code) (pattern : ℕ) (feed : Feed) where
  -- one call more that reads
  in-time-read : (came : List Packet) (carried : ℕ) (events : List Event) (event : Event) → InTime outputs code pattern feed came carried events
      → writes_in events ≡ appends_of (turns_before outputs code pattern came carried) → carried ≤ feed.brought (reads_in events)
      → InTime outputs code pattern feed came carried (events ++ event ∷ [])
  in-time-read came carried events event in_time writes brought front next rest e = ⊎_elim
      (λ within. in_time front next within.0 within.1)
      (λ past. last past.0 past.1 past.2)
      (split_at_call events (event ∷ []) front next rest e)
    where
      least : min carried (feed.brought (reads_in events)) ≡ carried
      least = omega (arith, brought)

      here : IsFrontOf (deliveries_to outputs code pattern feed came carried (reads_in events)) (writes_in events)
      here =
          subst (λ these. IsFrontOf these (writes_in events))
          (writes ∙ sym (ap (λ n. appends_of (turns_before outputs code pattern came n)) least)) (front_all (writes_in events))

      last : (more : List Event) → front ≡ events ++ more → event ∷ [] ≡ more ++ next ∷ rest → IsFrontOf (deliveries_to outputs code pattern feed came carried (reads_in front)) (writes_in front)
      last [] is e = subst (λ front. IsFrontOf (deliveries_to outputs code pattern feed came carried (reads_in front)) (writes_in front)) (sym (is ∙ append-nil events)) here
      last (other ∷ []) is e = absurd (cc)
      last (other ∷ another ∷ more) is e = absurd (cc)

-- appends are writes
turn-writes : (turn : List Written) → AreWrites (map (λ (part : Written). appended part.0 part.1) turn)
turn-writes [] = tt
turn-writes (part ∷ turn) = (refl, turn-writes turn)

pub turns-writes : (turns : List (List Written)) → AreWrites (appends_of turns)
turns-writes [] = tt
turns-writes (turn ∷ turns) = AllByRecursion-append (λ event. is_read event ≡ false) (map (λ (part : Written). appended part.0 part.1) turn) (appends_of turns) (turn-writes turn) (turns-writes turns)

module _ (faithful : Bool) (code : Code) (pattern : ℕ) (outputs : Outputs) (feed : Feed) (known : pattern < length code.net.patterns) where
  abbrev Streamed : (ℕ → List ℕ) → ℕ → Calls → Type 0
  Streamed = IsStreamed faithful code pattern outputs feed

  -- nothing was read yet
  pub streamed-none : (block : ℕ → List ℕ) → Streamed block 0 (record { on_store = []; on_links = [] })
  streamed-none block = record { on_links = refl; writes = refl; in_time = none; brought = omega arith }
    where
      none : InTime outputs code pattern feed [] 0 []
      none [] next rest e = absurd (cc)
      none (event ∷ front) next rest e = absurd (cc)

  -- one call more that reads
  pub streamed-read : (block : ℕ → List ℕ) (carried : ℕ) (calls : Calls) (event : Event) → is_read event ≡ true → Streamed block carried calls
      → carried ≤ feed.brought (reads_in calls.on_store ++ event ∷ [])
      → Streamed block carried (record { on_store = calls.on_store ++ event ∷ []; on_links = calls.on_links })
  streamed-read block carried calls event reads is brought = record {
    on_links = is.on_links;
    writes = writes-append calls.on_store (event ∷ []) ∙ ap (λ b. writes_in calls.on_store ++ cond (not b) (event ∷ []) []) reads ∙ append-nil (writes_in calls.on_store) ∙ is.writes;
    in_time = in-time-read outputs code pattern feed (packets_given calls.on_links) carried calls.on_store event is.in_time is.writes is.brought;
    brought = subst (λ events. carried ≤ feed.brought events)
        (sym (reads-append calls.on_store (event ∷ []) ∙ ap (λ b. reads_in calls.on_store ++ cond b (event ∷ []) []) reads)) brought;
  }

  -- some calls more that read
  pub streamed-reads : (block : ℕ → List ℕ) (carried : ℕ) (calls : Calls) (events : List Event) → AllRead events → Streamed block carried calls
      → ((more rest : List Event) → events ≡ more ++ rest → carried ≤ feed.brought (reads_in calls.on_store ++ more))
      → Streamed block carried (record { on_store = calls.on_store ++ events; on_links = calls.on_links })
  streamed-reads block carried calls [] all is brought =
      subst (λ events. Streamed block carried (record { on_store = events; on_links = calls.on_links })) (sym (append-nil calls.on_store)) is
  streamed-reads block carried calls (event ∷ events) all is brought =
      let here : Calls = record { on_store = calls.on_store ++ event ∷ []; on_links = calls.on_links } in
      let same : reads_in here.on_store ≡ reads_in calls.on_store ++ event ∷ [] =
      reads-append calls.on_store (event ∷ []) ∙ ap (λ b. reads_in calls.on_store ++ cond b (event ∷ []) []) all.0 in
      let next = streamed-read block carried calls event all.0 is (brought (event ∷ []) events refl) in
      subst (λ these. Streamed block carried (record { on_store = these; on_links = calls.on_links })) (append_assoc calls.on_store (event ∷ []) events)
      (streamed-reads block carried here events all.1 next (λ more rest parts.
      subst (λ reads. carried ≤ feed.brought reads) (sym (ap (λ reads. reads ++ more) same ∙ append_assoc (reads_in calls.on_store) (event ∷ []) more))
      (brought (event ∷ more) rest (ap (λ rest. event ∷ rest) parts))))

  -- what was carried are the same blocks by another word
  pub streamed-longer : (block other : ℕ → List ℕ) (carried : ℕ) (calls : Calls) → blocks_in other 0 carried ≡ blocks_in block 0 carried → Streamed block carried calls → Streamed other carried calls
  streamed-longer block other carried calls same is = record {
    on_links = subst (λ blocks. AreCarried faithful code pattern 0 blocks calls.on_links) (sym same) is.on_links;
    writes = is.writes;
    in_time = is.in_time;
    brought = is.brought;
  }

  module _ (block : ℕ → List ℕ) (carried count : ℕ) (calls later : Calls) (is : Streamed block carried calls) (within : carried + count ≤ feed.brought (reads_in calls.on_store)) where
    abbrev those : List (List ℕ)
    those = blocks_in block 0 carried

    long : length those ≡ carried
    long = length-blocks_in block 0 carried

    abbrev came : List Packet
    came = packets_given (calls.on_links ++ later.on_links)

    abbrev pub due : List Event
    due = appends_of (turns_from outputs code pattern (packets_given later.on_links) carried count)

    -- the writes so far as a delivery
    so-far : DeliversBlocks faithful code pattern outputs 0 those Are (record { on_store = writes_in calls.on_store; on_links = calls.on_links })
    so-far = record {
      on_links = is.on_links;
      on_store = is.writes ∙ ap (λ n. appends_of (turns_before outputs code pattern (packets_given calls.on_links) n)) (sym long);
    }

    -- what is due of all blocks
    all-due : appends_of (turns_before outputs code pattern came (carried + count)) ≡ writes_in calls.on_store ++ due
    all-due =
        let start : 0 + length those ≡ carried = omega (arith, long) in
        let sum : carried + count ≡ length those + count = omega (arith, long) in
        ap (λ n. appends_of (turns_before outputs code pattern came n)) sum
        ∙ turns-joined faithful code pattern outputs known 0 those (blocks_in block carried count) (record { on_store = writes_in calls.on_store; on_links = calls.on_links }) later so-far count
        (sym (length-blocks_in block carried count))
        ∙ ap (λ n. writes_in calls.on_store ++ appends_of (turns_from outputs code pattern (packets_given later.on_links) n count)) start

    -- what was due before is due
    still-due : (reads events : List Event) → IsFrontOf (deliveries_to outputs code pattern feed (packets_given calls.on_links) carried reads) events
        → IsFrontOf (deliveries_to outputs code pattern feed came (carried + count) reads) events
    still-due reads events front =
        let b = feed.brought reads in
        let n = min carried b in
        let more = min (carried + count) b - n in
        let sum : min (carried + count) b ≡ n + more = omega arith in
        let low : n ≤ carried = omega arith in
        let rest = appends_of (turns_from outputs code pattern came (0 + n) more) in
        let same : turns_from outputs code pattern came 0 n ≡ turns_before outputs code pattern (packets_given calls.on_links) n =
        turns-alike outputs code pattern came (packets_given calls.on_links) 0 n
        (λ generation begun below sink. decoded-still faithful code pattern 0 those calls.on_links later.on_links sink generation is.on_links known begun (omega (arith, low, long, below))) in (
          front.0 ++ rest,
          ap (λ n. appends_of (turns_before outputs code pattern came n)) sum ∙ turns-append outputs code pattern came 0 n more
              ∙ ap (λ turns. appends_of turns ++ rest) same ∙ ap (λ these. these ++ rest) front.1 ∙ append_assoc events front.0 rest,
        )

    -- writes that are due come in time
    in-time-more : AreWrites later.on_store → AreDue due later.on_store → InTime outputs code pattern feed came (carried + count) (calls.on_store ++ later.on_store)
    in-time-more writes in_order front next rest e = ⊎_elim
        (λ inside. still-due (reads_in front) (writes_in front) (is.in_time front next inside.0 inside.1))
        (λ past. behind past.0 past.1 past.2)
        (split_at_call calls.on_store later.on_store front next rest e)
      where
        behind : (more : List Event) → front ≡ calls.on_store ++ more → later.on_store ≡ more ++ next ∷ rest
            → IsFrontOf (deliveries_to outputs code pattern feed came (carried + count) (reads_in front)) (writes_in front)
        behind more is_front parts =
            let some = (all_split (λ event. is_read event ≡ false) more (next ∷ rest) (subst AreWrites parts writes)).0 in
            let first : reads_in front ≡ reads_in calls.on_store =
            ap reads_in is_front ∙ reads-append calls.on_store more ∙ ap (λ others. reads_in calls.on_store ++ others) (reads_none more some) ∙ append-nil (reads_in calls.on_store) in
            let made : writes_in front ≡ writes_in calls.on_store ++ more =
            ap writes_in is_front ∙ writes-append calls.on_store more ∙ ap (λ others. writes_in calls.on_store ++ others) (writes_all more some) in
            let ahead = in_order more next rest parts in
            let least : min (carried + count) (feed.brought (reads_in calls.on_store)) ≡ carried + count = omega (arith, within) in
            subst (λ reads. IsFrontOf (deliveries_to outputs code pattern feed came (carried + count) reads) (writes_in front)) (sym first)
            (subst (λ n. IsFrontOf (appends_of (turns_before outputs code pattern came n)) (writes_in front)) (sym least)
            (subst (IsFrontOf (appends_of (turns_before outputs code pattern came (carried + count)))) (sym made)
            (ahead.0, all-due ∙ ap (λ due. writes_in calls.on_store ++ due) ahead.1 ∙ sym (append_assoc (writes_in calls.on_store) more ahead.0))))

    -- the reads and the writes of all
    pub reads-still : AreWrites later.on_store → reads_in (calls.on_store ++ later.on_store) ≡ reads_in calls.on_store
    reads-still writes = reads-append calls.on_store later.on_store ∙ ap (λ others. reads_in calls.on_store ++ others) (reads_none later.on_store writes) ∙ append-nil (reads_in calls.on_store)

    writes-then : AreWrites later.on_store → writes_in (calls.on_store ++ later.on_store) ≡ writes_in calls.on_store ++ later.on_store
    writes-then writes = writes-append calls.on_store later.on_store ∙ ap (λ others. writes_in calls.on_store ++ others) (writes_all later.on_store writes)

    carried-on : AreCarried faithful code pattern carried (blocks_in block carried count) later.on_links
        → AreCarried faithful code pattern 0 (blocks_in block 0 (carried + count)) (calls.on_links ++ later.on_links)
    carried-on are =
        let start : 0 + carried ≡ carried = omega arith in
        let next : carried ≡ 0 + length those = omega (arith, long) in
        subst (λ blocks. AreCarried faithful code pattern 0 blocks (calls.on_links ++ later.on_links))
        (sym (blocks_in-append block 0 carried count ∙ ap (λ n. those ++ blocks_in block n count) start))
        (carried-then faithful code pattern 0 those calls.on_links (blocks_in block carried count) later.on_links is.on_links
        (subst (λ n. AreCarried faithful code pattern n (blocks_in block carried count) later.on_links) next are))

    pub due-of : (Q : List Event → List Event → Type 0) → Q (appends_of (turns_from outputs code pattern (packets_given later.on_links) carried (length (blocks_in block carried count)))) later.on_store → Q due later.on_store
    due-of Q made = subst (λ n. Q (appends_of (turns_from outputs code pattern (packets_given later.on_links) carried n)) later.on_store) (length-blocks_in block carried count) made

    -- blocks were delivered, and more may come
    pub streamed-more : DeliversBlocks faithful code pattern outputs carried (blocks_in block carried count) Are later → Streamed block (carried + count) (calls_join calls later)
    streamed-more more =
        let made : later.on_store ≡ due = due-of Are more.on_store in
        let writes : AreWrites later.on_store = subst AreWrites (sym made) (turns-writes (turns_from outputs code pattern (packets_given later.on_links) carried count)) in
        record {
          on_links = carried-on more.on_links;
          writes = writes-then writes ∙ ap (λ events. writes_in calls.on_store ++ events) made ∙ sym all-due;
          in_time = in-time-more writes (due_all due later.on_store made);
          brought = subst (λ reads. carried + count ≤ feed.brought reads) (sym (reads-still writes)) within;
        }

    -- blocks were delivered, or not to all files, and that is the end
    pub streamed-end : (P : List Event → Type 0) (Q : List Event → List Event → Type 0) → P (reads_in calls.on_store) → feed.block (reads_in calls.on_store) ≡ block
        → (AreWrites due → Q due later.on_store → AreWrites later.on_store × AreDue due later.on_store) → ((these events : List Event) → Q these events → Q (writes_in calls.on_store ++ these) (writes_in calls.on_store ++ events))
        → DeliversBlocks faithful code pattern outputs carried (blocks_in block carried count) Q later
        → (streams : StreamsSource faithful code pattern outputs feed P Q AtRest (calls_join calls later)) × (streams.carried ≡ carried + count)
    streamed-end P Q reads gave ordered behind more =
        let made : Q due later.on_store = due-of Q more.on_store in
        let parts = ordered (turns-writes (turns_from outputs code pattern (packets_given later.on_links) carried count)) made in
        let same = reads-still parts.0 in
        let least : min (carried + count) (feed.brought (reads_in calls.on_store)) ≡ carried + count = omega (arith, within) in (
          record {
            carried = carried + count;
            on_store = record {
              reads = subst P (sym same) reads;
              writes = subst (λ reads. Q (deliveries_to outputs code pattern feed came (carried + count) reads) (writes_in (calls.on_store ++ later.on_store))) (sym same)
                  (subst (λ n. Q (appends_of (turns_before outputs code pattern came n)) (writes_in (calls.on_store ++ later.on_store))) (sym least)
                  (subst (Q (appends_of (turns_before outputs code pattern came (carried + count)))) (sym (writes-then parts.0))
                  (subst (λ these. Q these (writes_in calls.on_store ++ later.on_store)) (sym all-due) (behind due later.on_store made))));
              in_time = in-time-more parts.0 parts.1;
            };
            on_links = record {
              first = calls.on_links ++ later.on_links;
              later = [];
              moves_are = sym (append-nil (calls.on_links ++ later.on_links));
              some = subst (λ reads. carried + count ≤ feed.brought reads) (sym same) within;
              carries = subst (λ block. AreCarried faithful code pattern 0 (blocks_in block 0 (carried + count)) (calls.on_links ++ later.on_links))
                  (sym (ap feed.block same ∙ gave)) (carried-on more.on_links);
              rest = refl;
            };
          },
          refl,
        )

  -- a call on the links failed before the next blocks were carried
  module _ (block : ℕ → List ℕ) (carried more : ℕ) (calls later : Calls) (is : Streamed block carried calls) (within : carried + more ≤ feed.brought (reads_in calls.on_store))
      (broken : BreaksBlocks faithful code pattern carried (blocks_in block carried more) later) where
    pub streamed-break : (P : List Event → Type 0) → P (reads_in calls.on_store) → feed.block (reads_in calls.on_store) ≡ block
        → StreamsSource faithful code pattern outputs feed P IsFrontOf (Breaks faithful code pattern) (calls_join calls later)
    streamed-break P reads gave =
        let store : calls.on_store ++ later.on_store ≡ calls.on_store = ap (λ events. calls.on_store ++ events) broken.on_store ∙ append-nil calls.on_store in
        let none : carried + 0 ≡ carried = omega arith in
        let few : carried + 0 ≤ feed.brought (reads_in calls.on_store) = omega (arith, within) in
        let rest : Calls = record { on_store = []; on_links = later.on_links } in
        let due-here : appends_of (turns_before outputs code pattern (packets_given (calls.on_links ++ later.on_links)) carried) ≡ writes_in calls.on_store =
        ap (λ n. appends_of (turns_before outputs code pattern (packets_given (calls.on_links ++ later.on_links)) n)) (sym none)
        ∙ all-due block carried 0 calls rest is few ∙ append-nil (writes_in calls.on_store) in
        let least : min carried (feed.brought (reads_in calls.on_store)) ≡ carried = omega (arith, within) in
        let brought = feed.brought (reads_in calls.on_store) in
        let in_time : InTime outputs code pattern feed (packets_given (calls.on_links ++ later.on_links)) carried calls.on_store =
        subst (λ n. InTime outputs code pattern feed (packets_given (calls.on_links ++ later.on_links)) n calls.on_store) none
        (subst (InTime outputs code pattern feed (packets_given (calls.on_links ++ later.on_links)) (carried + 0)) (append-nil calls.on_store)
        (in-time-more block carried 0 calls rest is few tt (due_none (due block carried 0 calls rest is few)))) in
        let all : StreamsSource faithful code pattern outputs feed P IsFrontOf (Breaks faithful code pattern) (record { on_store = calls.on_store; on_links = calls.on_links ++ later.on_links }) = record {
          carried = carried;
          on_store = record {
            reads = reads;
            writes = subst (λ n. IsFrontOf (appends_of (turns_before outputs code pattern (packets_given (calls.on_links ++ later.on_links)) n)) (writes_in calls.on_store)) (sym least)
                (subst (λ these. IsFrontOf these (writes_in calls.on_store)) (sym due-here) (front_all (writes_in calls.on_store)));
            in_time = in_time;
          };
          on_links = record {
            first = calls.on_links;
            later = later.on_links;
            moves_are = refl;
            some = omega (arith, within);
            carries = subst (λ block. AreCarried faithful code pattern 0 (blocks_in block 0 carried) calls.on_links) (sym gave) is.on_links;
            rest = subst (λ block. Breaks faithful code pattern block brought carried later.on_links) (sym gave)
                (record { more = more; some = within; stopped = broken.on_links });
          };
        } in
        subst (λ events. StreamsSource faithful code pattern outputs feed P IsFrontOf (Breaks faithful code pattern) (record { on_store = events; on_links = calls.on_links ++ later.on_links })) (sym store) all

  -- the reads end, and nothing more is carried
  pub streamed-over : (block : ℕ → List ℕ) (carried : ℕ) (calls : Calls) → Streamed block carried calls → (P : List Event → Type 0) (Q : List Event → List Event → Type 0) → ((events : List Event) → Q events events)
      → P (reads_in calls.on_store) → feed.block (reads_in calls.on_store) ≡ block
      → (streams : StreamsSource faithful code pattern outputs feed P Q AtRest calls) × (streams.carried ≡ carried)
  streamed-over block carried calls is P Q itself reads gave =
      let least : min carried (feed.brought (reads_in calls.on_store)) ≡ carried = omega (arith, is.brought) in (
        record {
          carried = carried;
          on_store = record {
            reads = reads;
            writes = subst (λ n. Q (appends_of (turns_before outputs code pattern (packets_given calls.on_links) n)) (writes_in calls.on_store)) (sym least)
                (subst (λ these. Q these (writes_in calls.on_store)) is.writes (itself (writes_in calls.on_store)));
            in_time = is.in_time;
          };
          on_links = record {
            first = calls.on_links;
            later = [];
            moves_are = sym (append-nil calls.on_links);
            some = is.brought;
            carries = subst (λ block. AreCarried faithful code pattern 0 (blocks_in block 0 carried) calls.on_links) (sym gave) is.on_links;
            rest = refl;
          };
        },
        refl,
      )

-- by another word on what the reads bring, of all reads so far
pub streamed-refed : (faithful : Bool) (code : Code) (pattern : ℕ) (outputs : Outputs) (feed other : Feed) (block : ℕ → List ℕ) (carried : ℕ) (calls : Calls)
    → ((front rest : List Event) → calls.on_store ≡ front ++ rest → feed.brought (reads_in front) ≡ other.brought (reads_in front))
    → IsStreamed faithful code pattern outputs feed block carried calls → IsStreamed faithful code pattern outputs other block carried calls
streamed-refed faithful code pattern outputs feed other block carried calls same is = record {
  on_links = is.on_links;
  writes = is.writes;
  in_time = λ front next rest e.
      subst (λ n. IsFrontOf (appends_of (turns_before outputs code pattern (packets_given calls.on_links) (min carried n))) (writes_in front)) (same front (next ∷ rest) e)
      (is.in_time front next rest e);
  brought = subst (λ n. carried ≤ n) (same calls.on_store [] (sym (append-nil calls.on_store))) is.brought;
}

-- ---- one source

-- files that are the same have the same blocks
same-feed : (rate : ℕ) {bytes file : List ℕ} → bytes ≡ file → file_block bytes rate ≡ file_block file rate
same-feed rate same = ap (λ bytes. file_block bytes rate) same

-- the blocks that are next, delivered or not

-- what was streamed of a file
abbrev pub OfFile : Bool → Code → ℕ → Outputs → List ℕ → ℕ → Calls → Type 0
OfFile faithful code pattern outputs file = IsStreamed faithful code pattern outputs (file_feed code.rate) (file_block file code.rate)

module _ (faithful : Bool) (code : Code) (pattern : ℕ) (outputs : Outputs) (known : pattern < length code.net.patterns) where
  -- they weren't delivered to all files
  pub streamed-interrupted : (file : List ℕ) (carried count : ℕ) (calls later : Calls) → OfFile faithful code pattern outputs file carried calls → carried + count ≤ blocks_brought (reads_in calls.on_store) code.rate
      → (path : List ℕ) (limit : ℕ) → ReadsAny path limit (reads_in calls.on_store) → bytes_read (reads_in calls.on_store) ≡ file
      → (why : DeliveryFault) → InterruptsBlocks faithful code pattern outputs carried (blocks_from file code.rate carried count) why later
      → StopsStreaming faithful code pattern outputs path limit (stream.Sinks why) (calls_join calls later)
  streamed-interrupted file carried count calls later is within path limit reads gave fault.Links broken =
      streamed-break faithful code pattern outputs (file_feed code.rate) known (file_block file code.rate) carried count calls later is within broken (ReadsAny path limit) reads (same-feed code.rate gave)
  streamed-interrupted file carried count calls later is within path limit reads gave fault.Write broken =
      let these = due faithful code pattern outputs (file_feed code.rate) known (file_block file code.rate) carried count calls later is within in
      (streamed-end faithful code pattern outputs (file_feed code.rate) known (file_block file code.rate) carried count calls later is within (ReadsAny path limit) StopsWithin reads (same-feed code.rate gave)
      (λ writes stop. (stops_are_writes these later.on_store stop writes, due_stops these later.on_store stop))
      (λ these events stop. stops_behind (writes_in calls.on_store) these events stop) broken).0

  -- and of some bytes that came
  pub streamed-stopped : (file : List ℕ) (carried : ℕ) (left : List ℕ) (calls later : Calls) → OfFile faithful code pattern outputs file carried calls → IsBehind code.rate carried file left
      → length file / capacity code.rate ≤ blocks_brought (reads_in calls.on_store) code.rate
      → (path : List ℕ) (limit : ℕ) → ReadsAny path limit (reads_in calls.on_store) → bytes_read (reads_in calls.on_store) ≡ file
      → (why : DeliveryFault) → InterruptsBytes faithful code pattern outputs carried left (length left / capacity code.rate) why later
      → StopsStreaming faithful code pattern outputs path limit (stream.Sinks why) (calls_join calls later)
  streamed-stopped file carried left calls later is behind brought path limit reads gave why broken =
      let rate = code.rate in
      let size = capacity rate in
      let some_rate : 1 ≤ rate = code.code.draft.some_rate in
      let long : length left ≡ length file - carried * size = ap length behind.left_is ∙ length-drop (carried * size) file in
      let all : length file ≡ length left + carried * size = omega (arith, long, behind.whole) in
      let count : length file / size ≡ length left / size + carried = ap (λ n. n / size) all ∙ add-mul-div_right (length left) carried (omega (arith, some_rate)) in
      let front = broken.front in
      let k = broken.before in
      let within : carried + k + broken.more ≤ blocks_brought (reads_in calls.on_store) rate = omega (arith, brought, count, broken.within) in
      let first : carried + k ≤ blocks_brought (reads_in calls.on_store) rate = omega (arith, within) in
      let those : blocks_from left rate 0 k ≡ blocks_from file rate carried k = left-blocks rate carried k file left behind in
      let next : blocks_from left rate k broken.more ≡ blocks_from file rate (carried + k) broken.more =
      ap (λ left. blocks_from left rate k broken.more) behind.left_is ∙ blocks_from-behind file rate carried k broken.more in
      let delivered = subst (λ blocks. DeliversBlocks faithful code pattern outputs carried blocks Are front) those broken.delivered in
      let writes = subst AreWrites (sym (due-of faithful code pattern outputs (file_feed code.rate) known (file_block file code.rate) carried k calls front is first Are delivered.on_store)) (turns-writes (turns_from outputs code pattern (packets_given front.on_links) carried k)) in
      let now = streamed-more faithful code pattern outputs (file_feed code.rate) known (file_block file code.rate) carried k calls front is first delivered in
      let same : reads_in (calls.on_store ++ front.on_store) ≡ reads_in calls.on_store = reads-still faithful code pattern outputs (file_feed code.rate) known (file_block file code.rate) carried k calls front is first writes in
      let stopped = streamed-interrupted file (carried + k) broken.more (calls_join calls front) broken.later now (subst (λ reads. carried + k + broken.more ≤ blocks_brought reads rate) (sym same) within)
      path limit (subst (ReadsAny path limit) (sym same) reads) (ap bytes_read same ∙ gave) why
      (subst (λ blocks. InterruptsBlocks faithful code pattern outputs (carried + k) blocks why broken.later) next broken.interrupted) in
      let joined : calls_join (calls_join calls front) broken.later ≡ calls_join calls later =
      ap (λ (parts : List Event). record { on_store = parts; on_links = (calls.on_links ++ front.on_links) ++ broken.later.on_links }) (append_assoc calls.on_store front.on_store broken.later.on_store)
      ∙ ap (λ (moves : List Move). record { on_store = calls.on_store ++ (front.on_store ++ broken.later.on_store); on_links = moves }) (append_assoc calls.on_links front.on_links broken.later.on_links)
      ∙ ap (calls_join calls) (sym broken.joined) in
      subst (StopsStreaming faithful code pattern outputs path limit (stream.Sinks why)) joined stopped

-- A source on its way: so many bytes of the file were read, the first whole blocks of them were carried and delivered, and the rest is
-- gathered.
pub record IsOnStream (faithful : Bool) (code : Code) (pattern : ℕ) (outputs : Outputs) (path : List ℕ) (at carried : ℕ) (gathered : List ℕ) (calls : Calls) : Type 0 where
  pub file : List ℕ
  pub long : length file ≡ at
  pub reads : AreReadsFrom 0 path (reads_in calls.on_store)
  pub gave : bytes_read (reads_in calls.on_store) ≡ file
  pub left : IsBehind code.rate carried file gathered
  pub streamed : OfFile faithful code pattern outputs file carried calls

module _ (faithful : Bool) (code : Code) (pattern : ℕ) (outputs : Outputs) (known : pattern < length code.net.patterns) (path : List ℕ) where
  abbrev OnStream : ℕ → ℕ → List ℕ → Calls → Type 0
  OnStream = IsOnStream faithful code pattern outputs path

  -- calls that follow on the store
  abbrev then_on_store : Calls → List Event → Calls
  then_on_store calls events = record { on_store = calls.on_store ++ events; on_links = calls.on_links }

  -- nothing was read yet
  pub on-none : OnStream 0 0 [] (record { on_store = []; on_links = [] })
  on-none = record {
    file = [];
    long = refl;
    reads = tt;
    gave = refl;
    left = behind-none code.rate [];
    streamed = streamed-none faithful code pattern outputs (file_feed code.rate) known (file_block [] code.rate);
  }

  module _ (at carried : ℕ) (gathered : List ℕ) (calls : Calls) (is : OnStream at carried gathered calls) where
    -- the reads after one more, whatever it gave
    reads-then : (event : Event) → is_read event ≡ true → reads_in (calls.on_store ++ event ∷ []) ≡ reads_in calls.on_store ++ event ∷ []
    reads-then event reads = reads-append calls.on_store (event ∷ []) ∙ ap (λ b. reads_in calls.on_store ++ cond b (event ∷ []) []) reads

    place : 0 + length (bytes_read (reads_in calls.on_store)) ≡ at
    place = omega (arith, ap length is.gave, is.long)

    -- the blocks that were carried are whole
    whole-in : (file : List ℕ) → length is.file ≤ length file → carried ≤ length file / capacity code.rate
    whole-in file longer =
        let some_rate : 1 ≤ code.rate = code.code.draft.some_rate in
        le-div carried (length file) (capacity code.rate) (omega (arith, some_rate)) (omega (arith, is.left.whole, longer))

    -- more came
    pub on-read : (room : ℕ) (bytes : List ℕ) → 0 < length bytes → OnStream (at + length bytes) carried (gathered ++ bytes) (then_on_store calls (read path at room bytes ∷ []))
    on-read room bytes some =
        let event = read path at room bytes in
        let file = is.file ++ bytes in
        let reads : AreReadsFrom 0 path (reads_in calls.on_store ++ event ∷ []) =
        subst (λ n. AreReadsFrom 0 path (reads_in calls.on_store ++ read path n room bytes ∷ [])) place (reads_more 0 path (reads_in calls.on_store) room bytes is.reads some) in
        let gave : bytes_read (reads_in calls.on_store ++ event ∷ []) ≡ file =
        bytes_read-append (reads_in calls.on_store) (event ∷ []) ∙ ap (λ last. bytes_read (reads_in calls.on_store) ++ last) (append-nil bytes) ∙ ap (λ front. front ++ bytes) is.gave in
        let brought : carried ≤ blocks_brought (reads_in calls.on_store ++ event ∷ []) code.rate =
        omega (arith, brought-whole path (reads_in calls.on_store ++ event ∷ []) code.rate reads, ap (λ bytes. length bytes / capacity code.rate) gave, whole-in file (omega (arith, length-append is.file bytes))) in
        record {
          file = file;
          long = length-append is.file bytes ∙ ap (λ n. n + length bytes) is.long;
          reads = subst (AreReadsFrom 0 path) (sym (reads-then event refl)) reads;
          gave = ap bytes_read (reads-then event refl) ∙ gave;
          left = behind-more code.rate carried is.file gathered bytes is.left;
          streamed = streamed-longer faithful code pattern outputs (file_feed code.rate) known (file_block is.file code.rate) (file_block file code.rate) carried (then_on_store calls (event ∷ [])) (same-blocks code.rate carried is.file gathered bytes is.left)
              (streamed-read faithful code pattern outputs (file_feed code.rate) known (file_block is.file code.rate) carried calls event refl is.streamed brought);
        }

    -- the blocks of what came, as far as it has whole ones
    whole-brought : length is.file / capacity code.rate ≤ blocks_brought (reads_in calls.on_store) code.rate
    whole-brought = omega (arith, brought-whole path (reads_in calls.on_store) code.rate is.reads, ap (λ bytes. length bytes / capacity code.rate) is.gave)

    -- blocks of it were delivered
    pub on-carried : (count : ℕ) (left : List ℕ) (later : Calls) → IsBehind code.rate count gathered left
        → DeliversBlocks faithful code pattern outputs carried (blocks_from gathered code.rate 0 count) Are later → OnStream at (carried + count) left (calls_join calls later)
    on-carried count left later behind more =
        let some_rate : 1 ≤ code.rate = code.code.draft.some_rate in
        let all = behind-then code.rate carried count is.file gathered left is.left behind in
        let few : carried + count ≤ length is.file / capacity code.rate = le-div (carried + count) (length is.file) (capacity code.rate) (omega (arith, some_rate)) all.whole in
        let within : carried + count ≤ blocks_brought (reads_in calls.on_store) code.rate = omega (arith, few, whole-brought) in
        let delivered = subst (λ blocks. DeliversBlocks faithful code pattern outputs carried blocks Are later) (left-blocks code.rate carried count is.file gathered is.left) more in
        let writes = subst AreWrites (sym (due-of faithful code pattern outputs (file_feed code.rate) known (file_block is.file code.rate) carried count calls later is.streamed within Are delivered.on_store))
        (turns-writes (turns_from outputs code pattern (packets_given later.on_links) carried count)) in
        let same = reads-still faithful code pattern outputs (file_feed code.rate) known (file_block is.file code.rate) carried count calls later is.streamed within writes in
        record {
          file = is.file;
          long = is.long;
          reads = subst (AreReadsFrom 0 path) (sym same) is.reads;
          gave = ap bytes_read same ∙ is.gave;
          left = all;
          streamed = streamed-more faithful code pattern outputs (file_feed code.rate) known (file_block is.file code.rate) carried count calls later is.streamed within delivered;
        }

    -- blocks of it weren't
    pub on-stopped : (limit : ℕ) → 0 < at → at ≤ limit + 1 → (later : Calls) (why : DeliveryFault)
        → InterruptsBytes faithful code pattern outputs carried gathered (length gathered / capacity code.rate) why later
        → StopsStreaming faithful code pattern outputs path limit (stream.Sinks why) (calls_join calls later)
    on-stopped limit some short later why broken =
        streamed-stopped faithful code pattern outputs known is.file carried gathered calls later is.streamed is.left whole-brought path limit
        (inl (record { reads = is.reads; some = omega (arith, place, some); short = omega (arith, place, short) })) is.gave why broken

    -- a read failed
    pub on-failed : (limit room : ℕ) → at ≤ limit → StopsStreaming faithful code pattern outputs path limit stream.Read (then_on_store calls (read_failed path at room ∷ []))
    on-failed limit room short =
        let event = read_failed path at room in
        let ended : have_ended (reads_in calls.on_store ++ event ∷ []) ≡ false = list_any-append gave_nothing (reads_in calls.on_store) (event ∷ []) ∙ ap (λ b. b || false) (unended 0 path (reads_in calls.on_store) is.reads) in
        let gave : bytes_read (reads_in calls.on_store ++ event ∷ []) ≡ is.file =
        bytes_read-append (reads_in calls.on_store) (event ∷ []) ∙ append-nil (bytes_read (reads_in calls.on_store)) ∙ is.gave in
        let brought : blocks_brought (reads_in calls.on_store ++ event ∷ []) code.rate ≡ length is.file / capacity code.rate =
        ap (λ b. if b then block_count (bytes_read (reads_in calls.on_store ++ event ∷ [])) code.rate else length (bytes_read (reads_in calls.on_store ++ event ∷ [])) / capacity code.rate) ended
        ∙ ap (λ (bytes : List ℕ). length bytes / capacity code.rate) gave in
        (streamed-over faithful code pattern outputs (file_feed code.rate) known (file_block is.file code.rate) carried (then_on_store calls (event ∷ []))
        (streamed-read faithful code pattern outputs (file_feed code.rate) known (file_block is.file code.rate) carried calls event refl is.streamed (omega (arith, brought, whole-in is.file (omega arith)))) (ReadsToFault path limit) IsFrontOf front_all
        (subst (ReadsToFault path limit) (sym (reads-then event refl)) (record {
          front = reads_in calls.on_store;
          reads = is.reads;
          room = room;
          failed = ap (λ n. reads_in calls.on_store ++ read_failed path n room ∷ []) (sym (ap length is.gave ∙ is.long));
          short = omega (arith, place, short);
        })) (same-feed code.rate (ap bytes_read (reads-then event refl) ∙ gave))).0

    -- the file is longer than its limit
    pub on-long : (limit : ℕ) → at ≡ limit + 1 → StopsStreaming faithful code pattern outputs path limit stream.TooLong calls
    on-long limit long =
        (streamed-over faithful code pattern outputs (file_feed code.rate) known (file_block is.file code.rate) carried calls is.streamed (ReadsPastLimit path limit) IsFrontOf front_all
        (record { reads = is.reads; long = omega (arith, place, long) }) (same-feed code.rate is.gave)).0

    -- the file ended there
    module _ (limit room : ℕ) (some : 0 < room) (short : at ≤ limit) where
      abbrev over : Calls
      over = then_on_store calls (read path at room [] ∷ [])

      whole : ReadsWhole path limit is.file (reads_in over.on_store)
      whole =
          subst (ReadsWhole path limit is.file) (sym (reads-then (read path at room []) refl)) (record {
            front = reads_in calls.on_store;
            reads = is.reads;
            gave = is.gave;
            room = room;
            some_room = some;
            ended = ap (λ n. reads_in calls.on_store ++ read path n room [] ∷ []) (sym is.long);
            short = omega (arith, is.long, short);
          })

      brought : blocks_brought (reads_in over.on_store) code.rate ≡ block_count is.file code.rate
      brought = all-brought path limit is.file (reads_in over.on_store) code.rate whole

      ended : OfFile faithful code pattern outputs is.file carried over
      ended =
          streamed-read faithful code pattern outputs (file_feed code.rate) known (file_block is.file code.rate) carried calls (read path at room []) refl is.streamed
          (subst (λ reads. carried ≤ blocks_brought reads code.rate) (reads-then (read path at room []) refl) (omega (arith, brought, whole-in is.file (omega arith))))

      abbrev count : ℕ
      count = block_count gathered code.rate

      all : carried + count ≡ block_count is.file code.rate
      all = count-left code carried is.file gathered is.left

      within : carried + count ≤ blocks_brought (reads_in over.on_store) code.rate
      within = omega (arith, all, brought)

      gave : bytes_read (reads_in over.on_store) ≡ is.file
      gave = whole_gave path limit is.file (reads_in over.on_store) whole

      -- and its last blocks were delivered
      pub on-all : (later : Calls) (counts : SentCounts) → AreCounts code is.file counts → DeliversBlocks faithful code pattern outputs carried (blocks_from gathered code.rate 0 count) Are later
          → StreamsAll faithful code pattern outputs path limit counts (calls_join over later)
      on-all later counts are more =
          let these = due faithful code pattern outputs (file_feed code.rate) known (file_block is.file code.rate) carried count over later ended within in
          let sent = streamed-end faithful code pattern outputs (file_feed code.rate) known (file_block is.file code.rate) carried count over later ended within (ReadsWhole path limit is.file) Are whole (same-feed code.rate gave)
          (λ writes made. (subst AreWrites (sym made) writes, due_all these later.on_store made)) (λ these events made. ap (λ events. writes_in over.on_store ++ events) made)
          (subst (λ blocks. DeliversBlocks faithful code pattern outputs carried blocks Are later) (left-blocks code.rate carried count is.file gathered is.left) more) in
          record { source = is.file; counts_are = are; streams = sent.0; all = sent.1 ∙ all }

      -- or they weren't
      pub on-broken : (later : Calls) (why : DeliveryFault) → InterruptsBlocks faithful code pattern outputs carried (blocks_from gathered code.rate 0 count) why later
          → StopsStreaming faithful code pattern outputs path limit (stream.Sinks why) (calls_join over later)
      on-broken later why broken =
          streamed-interrupted faithful code pattern outputs known is.file carried count over later ended within path limit (inr (is.file, whole)) gave why
          (subst (λ blocks. InterruptsBlocks faithful code pattern outputs carried blocks why later) (left-blocks code.rate carried count is.file gathered is.left) broken)

-- calls on both objects, and then some on the store
pub both_then_store : {S L : Type 0} (g : StoreGhosts S) (k : LinksGhosts L) → ((first later : List Event) (a b c : S) → g.calls first a b → g.calls later b c → g.calls (first ++ later) a c)
    → {a b c : S} {at now : L} (P : Calls → Type 0) (Q : List Event → Type 0) (R : Calls → Type 0) → MakesBoth g k a b at now P → MakesCalls g b c Q
    → ((calls : Calls) (events : List Event) → P calls → Q events → R (record { on_store = calls.on_store ++ events; on_links = calls.on_links })) → MakesBoth g k a c at now R
both_then_store g k more P Q R one other join = record {
  calls = record { on_store = one.calls.on_store ++ other.made; on_links = one.calls.on_links };
  on_store = more one.calls.on_store other.made _ _ _ one.on_store other.lead;
  on_links = one.on_links;
  holds = join one.calls other.made one.holds other.holds;
}
