use Rattle.std.specs.Prelude.{◌≤◌, ◌<◌, ◌+◌, ◌-◌, ◌/◌, ◌^◌, ℕ, drop, length, Ok}
use Rattle.std.proofs.Common.{◌≡◌, ◌++◌, ◌∷◌, [], Contains, Err, List, take, refl, sym, ap, ◌∙◌, subst, arith, inr}
use Rattle.command_steps.specs.Filling.{Fills}
use Rattle.lif_outside.proofs.CallLaws.{calls_then, calls_weaker}
use Rattle.lif_outside.specs.Calls.{MakesCalls}
use Rattle.lif_outside.specs.Events.{Event, read}
use Rattle.lif_outside.specs.FileCalls.{ReadsToFault, ReadsWhole, StopsWithin, appends_of, creates_of}
use Rattle.lif_outside.specs.Sequences.{Are, IsFrontOf}
use Rattle.lif_outside.specs.Streams.{Streams}
use Rattle.std.proofs.Math.Nat.{div-mul-le_self}
use Rattle.std.proofs.Math.Seq.{length-take-le}
use Rattle.std.proofs.lemmas.List.{append-nil, length-append, length-drop}
use Rattle.top_base.specs.FileReading.{ReadsNext}
use Rattle.top_base.specs.Inputs.{ReadsAny}
use Rattle.source_turns.proofs.FedLaws.{IsFed, all, err_is, few, fills_after, fills_then, fills_weaker, on-all, on-broken, on-failed, on-long, on-none, on-read, on-sent, on-stopped, room_long, room_read}
use Rattle.source_turns.specs.Feeding.{Feeds, IsLeft}
use Rattle.source_turns.specs.Turns.{Job, feed_brought, size_of, turns_from}
use Rattle.source_turns.specs.declared.feeding.FeedFault.TheVariants as fault
use borrow.Rule.Slice.PartMut.{put_mid}
use Rattle.source_turns.proofs.feeding.Feeding.feed.Given as given
use Rattle.source_turns.proofs.feeding.Feeding.feed.Goals as goal
use Rattle.source_turns.proofs.feeding.Feeding.feed.Goals.{After-read_next}

pub loop-at-init : goal.loop-at-init
loop-at-init g c =
    let self = c.args.self.now in
    let job = g.T.BlockTurns.job self.turns in
    let path = c.args.path.now in
    record {
      still = refl;
      within = omega arith;
      room = self.some;
      made = c.in_ok-create.ensures.made;
      calls = calls_weaker (Are (creates_of job.paths)) (Fills job.paths (IsFed job path 0 0 [])) c.in_ok-create.ensures.created
          (λ made are. record { first = made; later = []; events_are = sym (append-nil made); holds_first = are; holds_later = on-none job path });
    }

pub returns-clause-calls : goal.returns-clause-calls
returns-clause-calls g c =
    let job = g.T.BlockTurns.job c.args.self.now.turns in
    let at = c.loop-at in
    let path = c.args.path.now in
    let gathered = take at.self.filled at.self.bytes.items in
    let past : at.at ≡ c.args.limit + 1 = omega (arith, at.invariant.within, c.loop-at-test.false) in
    calls_weaker (Fills job.paths (IsFed job path at.at at.self.next gathered)) (Feeds job path c.args.limit (Err fault.TooLong)) at.invariant.calls
    (λ made fills. fills_weaker job.paths _ _ made fills (λ events is. on-long job path at.at at.self.next gathered events is c.args.limit past))

-- ---- after a read

abbrev job : (g : given.Over) (c : After-read_next g) → Job
job g c = g.T.BlockTurns.job c.args.self.now.turns

abbrev gathered : (g : given.Over) (c : After-read_next g) → List ℕ
gathered g c = take c.loop-at.self.filled c.loop-at.self.bytes.items

-- the bytes that came
abbrev bytes : (g : given.Over) (c : After-read_next g) → ℕ → List ℕ
bytes g c count = take count c.read_next.new.chunk

-- what stands in the room for bytes
abbrev stood : (g : given.Over) (c : After-read_next g) → List ℕ
stood g c =
    let room = c.deref_mut.result.now in
    let filled = c.loop-at.self.filled in
    let all = put_mid filled (length room - filled) room c.read_next.new.chunk in
    take c.loop-at.self.bytes.len (all ++ drop (length all) c.loop-at.self.bytes.items)

long : (g : given.Over) (c : After-read_next g) → length (gathered g c) ≡ c.loop-at.self.filled
long g c = length-take-le c.loop-at.self.filled c.loop-at.self.bytes.items (omega (arith, c.loop-at.self.bytes.ok.0, c.loop-at.invariant.room))

-- what is said of it, said of the job that began and what is gathered
retold : (D : Job → ℕ → List ℕ → Type 0) (g : given.Over) (c : After-read_next g) (count n : ℕ) → n ≡ c.loop-at.self.filled + count → count ≤ length c.read_next.new.chunk
    → D (g.T.BlockTurns.job c.loop-at.self.turns) n (take n (stood g c)) → D (job g c) (length (gathered g c ++ bytes g c count)) (gathered g c ++ bytes g c count)
retold D g c count n n_is within holds =
    let room = c.deref_mut.result.now in
    let filled = c.loop-at.self.filled in
    let chunk = c.read_next.new.chunk in
    let length_is : length room ≡ c.loop-at.self.bytes.len = c.deref_mut.ensures.len in
    let below : filled ≤ length room = omega (arith, length_is, c.loop-at.invariant.room) in
    let chunk_long : length chunk ≡ length room - filled = omega (arith, c.read_next.auto.chunk, length-take-le (length room - filled) (drop filled room) (omega (arith, length-drop filled room)), below) in
    let same = room_read c.loop-at.self.bytes.len filled (length room - filled) count n room chunk c.loop-at.self.bytes.items c.loop-at.self.bytes.items n_is c.deref_mut.ensures.value below within (room_long filled room chunk below chunk_long ∙ length_is) in
    let sum : n ≡ length (gathered g c ++ bytes g c count) = omega (arith, n_is, length-append (gathered g c) (bytes g c count), long g c, length-take-le count chunk within) in
    subst (λ n. D (job g c) n (gathered g c ++ bytes g c count)) sum
    (subst (D (job g c) n) same (subst (λ job. D job n (take n (stood g c))) c.loop-at.invariant.still holds))

retold-none : (D : Job → ℕ → List ℕ → Type 0) (g : given.Over) (c : After-read_next g)
    → D (g.T.BlockTurns.job c.loop-at.self.turns) c.loop-at.self.filled (take c.loop-at.self.filled (stood g c)) → D (job g c) (length (gathered g c)) (gathered g c)
retold-none D g c holds =
    subst (λ (these : List ℕ). D (job g c) (length these) these) (append-nil (gathered g c))
    (retold D g c 0 c.loop-at.self.filled (omega arith) (omega arith) holds)

-- what was made stays made
made : (g : given.Over) (c : After-read_next g) (path : List ℕ) → Contains (g.T.BlockTurns.job c.loop-at.self.turns).paths path → g.S.Store.made c.read_next.new.store path
made g c path there =
    let reads = c.read_next.ensures.reads in
    (g.met.S.Store.accounts reads.made _ _ reads.lead).counts.still_made path
    (c.loop-at.invariant.made path (subst (λ job. Contains job.paths path) c.loop-at.invariant.still there))

-- the calls with what came
abbrev Came : (g : given.Over) (c : After-read_next g) → ℕ → List Event → Type 0
Came g c count = Fills (job g c).paths (IsFed (job g c) c.args.path.now (c.loop-at.at + length (bytes g c count)) c.loop-at.self.next (gathered g c ++ bytes g c count))

came : (g : given.Over) (c : After-read_next g) (count : ℕ) → c.read_next.result ≡ Ok count → 0 < length (bytes g c count)
    → MakesCalls g.S.Store c.args.store.now c.read_next.new.store (Came g c count)
came g c count is some =
    let path = c.args.path.now in
    let last = subst (λ r. MakesCalls g.S.Store c.loop-at.store c.read_next.new.store (ReadsNext path c.loop-at.at c.read_next.new.chunk r)) is c.read_next.ensures.reads in
    calls_then g.met.S.Store.more_calls _ _ (Came g c count) c.loop-at.invariant.calls last
    (λ first later fed reads. fills_then (job g c).paths _ _ first later fed
    (λ events on. subst (λ later. IsFed (job g c) path (c.loop-at.at + length (bytes g c count)) c.loop-at.self.next (gathered g c ++ bytes g c count) (events ++ later)) (sym reads.2)
    (on-read (job g c) path c.loop-at.at c.loop-at.self.next (gathered g c) events on reads.0 (bytes g c count) some)))

-- the calls with a read that gave nothing
abbrev Ended : (g : given.Over) (c : After-read_next g) → List Event → Type 0
Ended g c events =
    (front : List Event) × (room : ℕ) × (0 < room) × IsFed (job g c) c.args.path.now c.loop-at.at c.loop-at.self.next (gathered g c) front × (events ≡ front ++ read c.args.path.now c.loop-at.at room [] ∷ [])

at-end : (g : given.Over) (c : After-read_next g) (count : ℕ) → c.read_next.result ≡ Ok count → count ≡ 0
    → MakesCalls g.S.Store c.args.store.now c.read_next.new.store (Fills (job g c).paths (Ended g c))
at-end g c count is none =
    let path = c.args.path.now in
    let last = subst (λ n. MakesCalls g.S.Store c.loop-at.store c.read_next.new.store (ReadsNext path c.loop-at.at c.read_next.new.chunk (Ok n))) none
    (subst (λ r. MakesCalls g.S.Store c.loop-at.store c.read_next.new.store (ReadsNext path c.loop-at.at c.read_next.new.chunk r)) is c.read_next.ensures.reads) in
    calls_then g.met.S.Store.more_calls _ _ (Fills (job g c).paths (Ended g c)) c.loop-at.invariant.calls last
    (λ first later fed reads. fills_then (job g c).paths _ (Ended g c) first later fed
    (λ events on. (events, reads.0, reads.1, on, ap (λ (later : List Event). events ++ later) reads.2)))

pub returns-in_default-clause-calls : goal.returns-in_default-clause-calls
returns-in_default-clause-calls g c =
    let at = (goal.at.returns-in_default-clause-calls g c).After-read_next in
    let path = c.args.path.now in
    let last = subst (λ r. MakesCalls g.S.Store c.loop-at.store c.read_next.new.store (ReadsNext path c.loop-at.at c.read_next.new.chunk r)) c.in_default.is c.read_next.ensures.reads in
    calls_then g.met.S.Store.more_calls _ _ (Feeds (job g at) path c.args.limit (Err fault.Read)) c.loop-at.invariant.calls last
    (λ first later fed reads. fills_then (job g at).paths _ _ first later fed
    (λ events on. subst (λ later. Streams (feed_brought (job g at)) (ReadsToFault path c.args.limit) IsFrontOf (events ++ later)) (sym reads.1)
    (on-failed (job g at) path c.loop-at.at c.loop-at.self.next (gathered g at) events on c.args.limit reads.0 (omega (arith, c.loop-at-test.true)))))

pub send_last-requires-clause-more : goal.send_last-requires-clause-more
send_last-requires-clause-more g c =
    let at = (goal.at.send_last-requires-clause-more g c).After-read_next in
    let next = c.loop-at.self.next in
    let fed = c.loop-at.invariant.calls.holds.holds_later in
    subst (λ (job : Job). next + (c.loop-at.self.filled / size_of job + 1) < 2 ^ 32) (sym c.loop-at.invariant.still)
    (subst (λ n. next + (n / size_of (job g at) + 1) < 2 ^ 32) (long g at)
    (few (job g at) c.args.path.now c.loop-at.at next (gathered g at) _ fed (omega (arith, c.loop-at-test.true, c.requires))))

pub send_full-requires-clause-more : goal.send_full-requires-clause-more
send_full-requires-clause-more g c =
    let at = (goal.at.send_full-requires-clause-more g c).After-read_next in
    let next = c.loop-at.self.next in
    let count = c.in-Ok.count in
    let held = gathered g at ++ bytes g at count in
    let came_long = length-take-le count c.read_next.new.chunk c.in-Ok.ensures.count in
    let held_long : length held ≡ c.loop-at.self.filled + count = omega (arith, length-append (gathered g at) (bytes g at count), long g at, came_long) in
    let fed = (came g at count c.in-Ok.is (omega (arith, came_long, c.if-count-eq0.false))).holds.holds_later in
    let serves = few (job g at) c.args.path.now (c.loop-at.at + length (bytes g at count)) next held _ fed (omega (arith, came_long, c.in-Ok.ensures.past, c.requires)) in
    subst (λ (job : Job). next + (c.loop-at.self.filled + count) / size_of job < 2 ^ 32) (sym c.loop-at.invariant.still)
    (subst (λ n. next + n / size_of (job g at) < 2 ^ 32) held_long (omega (arith, serves)))

pub send_last-requires-clause-made : goal.send_last-requires-clause-made
send_last-requires-clause-made g c = made g (goal.at.send_last-requires-clause-made g c).After-read_next

pub send_full-requires-clause-made : goal.send_full-requires-clause-made
send_full-requires-clause-made g c = made g (goal.at.send_full-requires-clause-made g c).After-read_next

pub returns-then-count-eq0-clause-calls : goal.returns-then-count-eq0-clause-calls
returns-then-count-eq0-clause-calls g c =
    let at = (goal.at.returns-then-count-eq0-clause-calls g c).After-read_next in
    let path = c.args.path.now in
    let next = c.loop-at.self.next in
    let last = retold-none (λ job filled bytes. MakesCalls g.S.Store c.read_next.new.store c.send_last.new.store (Are (appends_of (turns_from job next (filled / size_of job + 1) bytes)))) g at c.in_ok-send_last.ensures.sent in
    let count = retold-none (λ job filled bytes. c.send_last.new.self.next ≡ next + (filled / size_of job + 1)) g at c.in_ok-send_last.ensures.next in
    calls_then g.met.S.Store.more_calls _ _ (Feeds (job g at) path c.args.limit (Ok (record { bytes = c.loop-at.at; generations = c.from.result }))) (at-end g at c.in-Ok.count c.in-Ok.is c.if-count-eq0.true) last
    (λ first later over more.
    let end = over.holds_later in
    let is = end.3 in (
      is.file,
      sym is.long,
      c.from.ensures ∙ count ∙ all (job g at) path c.loop-at.at next (gathered g at) end.0 is c.args.limit end.1 end.2 (omega (arith, c.loop-at-test.true)),
      fills_after (job g at).paths _ (Streams (feed_brought (job g at)) (ReadsWhole path c.args.limit is.file) Are) first later over
          (subst (λ events. Streams (feed_brought (job g at)) (ReadsWhole path c.args.limit is.file) Are (events ++ later)) (sym end.4)
          (on-all (job g at) path c.loop-at.at next (gathered g at) end.0 is c.args.limit end.1 end.2 (omega (arith, c.loop-at-test.true)) later more)),
    ))

pub returns-in_err-send_last-clause-calls : goal.returns-in_err-send_last-clause-calls
returns-in_err-send_last-clause-calls g c =
    let at = (goal.at.returns-in_err-send_last-clause-calls g c).After-read_next in
    let path = c.args.path.now in
    let next = c.loop-at.self.next in
    let last = retold-none (λ job filled bytes. MakesCalls g.S.Store c.read_next.new.store c.send_last.new.store (StopsWithin (appends_of (turns_from job next (filled / size_of job + 1) bytes)))) g at c.in_err-send_last.ensures.failed in
    subst (λ r. MakesCalls g.S.Store c.args.store.now c.send_last.new.store (Feeds (job g at) path c.args.limit r)) (sym (err_is c.from_residual-in_err-send_last.result fault.Write c.from_residual-in_err-send_last.ensures.1))
    (calls_then g.met.S.Store.more_calls _ _ (Feeds (job g at) path c.args.limit (Err fault.Write)) (at-end g at c.in-Ok.count c.in-Ok.is c.if-count-eq0.true) last
    (λ first later over more.
    let end = over.holds_later in
    inr (fills_after (job g at).paths _ (Streams (feed_brought (job g at)) (ReadsAny path c.args.limit) StopsWithin) first later over
    (subst (λ events. Streams (feed_brought (job g at)) (ReadsAny path c.args.limit) StopsWithin (events ++ later)) (sym end.4)
    (on-broken (job g at) path c.loop-at.at next (gathered g at) end.0 end.3 c.args.limit end.1 end.2 (omega (arith, c.loop-at-test.true)) later more)))))

pub returns-in_err-send_full-clause-calls : goal.returns-in_err-send_full-clause-calls
returns-in_err-send_full-clause-calls g c =
    let at = (goal.at.returns-in_err-send_full-clause-calls g c).After-read_next in
    let path = c.args.path.now in
    let next = c.loop-at.self.next in
    let count = c.in-Ok.count in
    let within = c.in-Ok.ensures.count in
    let came_long = length-take-le count c.read_next.new.chunk within in
    let some : 0 < length (bytes g at count) = omega (arith, came_long, c.if-count-eq0.false) in
    let held = gathered g at ++ bytes g at count in
    let last = retold (λ job filled bytes. MakesCalls g.S.Store c.read_next.new.store c.send_full.new.store (StopsWithin (appends_of (turns_from job next (filled / size_of job) bytes)))) g at count (c.loop-at.self.filled + count) refl within c.in_err-send_full.ensures.failed in
    subst (λ r. MakesCalls g.S.Store c.args.store.now c.send_full.new.store (Feeds (job g at) path c.args.limit r)) (sym (err_is c.from_residual-in_err-send_full.result fault.Write c.from_residual-in_err-send_full.ensures.1))
    (calls_then g.met.S.Store.more_calls _ _ (Feeds (job g at) path c.args.limit (Err fault.Write)) (came g at count c.in-Ok.is some) last
    (λ first later fed more. inr (fills_then (job g at).paths _ _ first later fed
    (λ events on. on-stopped (job g at) path (c.loop-at.at + length (bytes g at count)) next held events on c.args.limit (length held / size_of (job g at)) (omega (arith, some)) (omega (arith, came_long, c.in-Ok.ensures.past))
    (div-mul-le_self (length held) (size_of (job g at))) later more))))

pub loop-at-preserved : goal.loop-at-preserved
loop-at-preserved g c =
    let at = (goal.at.loop-at-preserved g c).After-read_next in
    let path = c.args.path.now in
    let next = c.loop-at.self.next in
    let count = c.in-Ok.count in
    let within = c.in-Ok.ensures.count in
    let came_long = length-take-le count c.read_next.new.chunk within in
    let some : 0 < length (bytes g at count) = omega (arith, came_long, c.if-count-eq0.false) in
    let held = gathered g at ++ bytes g at count in
    let sent = c.in_ok-send_full.ensures.sent in
    let self = c.send_full.new.self in
    let left = take self.filled self.bytes.items in
    let behind = retold (λ job filled bytes. IsLeft (size_of job) sent.0 bytes left) g at count (c.loop-at.self.filled + count) refl within sent.2 in
    let last = retold (λ job filled bytes. MakesCalls g.S.Store c.read_next.new.store c.send_full.new.store (Are (appends_of (turns_from job next sent.0 bytes)))) g at count (c.loop-at.self.filled + count) refl within sent.3 in
    record {
      still = c.send_full.ensures.still ∙ c.loop-at.invariant.still;
      within = c.in-Ok.ensures.past;
      room = c.in_ok-send_full.ensures.room_left;
      made = λ path there. c.send_full.ensures.made path (subst (λ job. Contains job.paths path) (sym c.loop-at.invariant.still) there);
      calls = calls_then g.met.S.Store.more_calls _ _ (Fills (job g at).paths (IsFed (job g at) path (c.loop-at.at + count) self.next left)) (came g at count c.in-Ok.is some) last
          (λ first later fed more. fills_then (job g at).paths _ _ first later fed
          (λ events on. subst (λ n. IsFed (job g at) path (c.loop-at.at + count) n left (events ++ later)) (sym sent.1)
          (subst (λ n. IsFed (job g at) path (c.loop-at.at + n) (next + sent.0) left (events ++ later)) came_long
          (on-sent (job g at) path (c.loop-at.at + length (bytes g at count)) next held events on sent.0 left later behind more))));
    }
