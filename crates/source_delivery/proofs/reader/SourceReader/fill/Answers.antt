use Rattle.std.proofs.Common.{◌≡◌, [], false, refl, sym, ◌∙◌, arith}
use Rattle.std.proofs.lemmas.Bool.{false≢true}
use Rattle.lif_outside.proofs.CallLaws.{calls_of, calls_then}
use Rattle.top_base.proofs.Exits.{if_err}
use Rattle.source_delivery.proofs.ReadingLaws.{left-less, on-none, on-then, same-then, stops-then, unended-before}
use Rattle.source_delivery.specs.Reading.{ReadsOn, StopsReadingOn}
use Rattle.source_delivery.proofs.reader.SourceReader.fill.Goals as goal

pub loop-self-init : goal.loop-self-init
loop-self-init g c =
    let self = c.args.self.now in
    record {
      same = record { path = refl; rate = refl; room = refl };
      room = c.requires.room;
      over = λ over. over;
      reads = calls_of (ReadsOn c.args.limit self self) [] (g.met.S.Store.no_calls c.args.store.now) (on-none c.args.limit self);
    }

pub loop-self-smaller : goal.loop-self-smaller
loop-self-smaller g c =
    let after = c.in_ok-read_more.ensures in
    left-less c.loop-self.self c.read_more.new.self c.loop-self-test.true (omega (arith, c.if-self-len.true, c.len.ensures, c.loop-self.self.bytes.ok.0)) after.same.room (omega (arith, after.read.holds.grows)) after.more

pub loop-self-preserved : goal.loop-self-preserved
loop-self-preserved g c =
    let limit = c.args.limit in
    let self = c.args.self.now in
    let was = c.loop-self.invariant in
    let mid = c.loop-self.self in
    let now = c.read_more.new.self in
    let after = c.in_ok-read_more.ensures in
    let unended : self.ended ≡ false = unended-before self.ended mid.ended was.over c.loop-self-test.true in
    record {
      same = same-then self mid now was.same after.same;
      room = after.room;
      over = λ over. absurd (false≢true (sym unended ∙ over));
      reads = calls_then g.met.S.Store.more_calls (ReadsOn limit self mid) (ReadsOn limit mid now) (ReadsOn limit self now) was.reads after.read
          (λ first later one other. on-then limit self mid was.same unended first one now later other);
    }

pub returns-in_err-read_more-clause-same : goal.returns-in_err-read_more-clause-same
returns-in_err-read_more-clause-same g c = same-then c.args.self.now c.loop-self.self c.read_more.new.self c.loop-self.invariant.same c.read_more.ensures.same

pub returns-in_err-read_more-clause-stopped : goal.returns-in_err-read_more-clause-stopped
returns-in_err-read_more-clause-stopped g c =
    let limit = c.args.limit in
    let self = c.args.self.now in
    let was = c.loop-self.invariant in
    let mid = c.loop-self.self in
    let why = c.in_err-read_more.field-0.0 in
    let unended : self.ended ≡ false = unended-before self.ended mid.ended was.over c.loop-self-test.true in
    if_err _ c.from_residual.result why c.from_residual.ensures.1
    (calls_then g.met.S.Store.more_calls (ReadsOn limit self mid) (StopsReadingOn limit mid why) (StopsReadingOn limit self why) was.reads c.in_err-read_more.ensures.stopped
    (λ first later one stop. stops-then limit self mid was.same unended first one why later stop))

pub returns-else-self-len-clause-same : goal.returns-else-self-len-clause-same
returns-else-self-len-clause-same g c = c.loop-self.invariant.same

pub returns-else-self-len-clause-read : goal.returns-else-self-len-clause-read
returns-else-self-len-clause-read g c = c.loop-self.invariant.reads

pub returns-after-loop-self-clause-same : goal.returns-after-loop-self-clause-same
returns-after-loop-self-clause-same g c = c.loop-self.invariant.same

pub returns-after-loop-self-clause-read : goal.returns-after-loop-self-clause-read
returns-after-loop-self-clause-read g c = c.loop-self.invariant.reads
