use Rattle.std.proofs.Common.{◌≡◌, ◌≤◌, ◌+◌, [], Ok, length, take, refl, sym, ap, ◌∙◌, subst, arith}
use Rattle.std.proofs.lemmas.List.{append-nil, length-take-le}
use Rattle.lif_outside.proofs.CallLaws.{calls_of, calls_weaker}
use Rattle.lif_outside.specs.Calls.{MakesCalls}
use Rattle.top_base.specs.FileReading.{ReadsNext}
use Rattle.source_delivery.proofs.ReadingLaws.{on-end, on-more, stops-failed, stops-long, written}
use Rattle.source_delivery.specs.Reading.{ReadsOn, StopsReadingOn}
use Rattle.source_delivery.specs.declared.streaming.StreamFault.TheVariants as stream
use Rattle.source_delivery.proofs.reader.SourceReader.read_more.Goals as goal

pub returns-then-self-limit-clause-stopped : goal.returns-then-self-limit-clause-stopped
returns-then-self-limit-clause-stopped g c =
    let self = c.args.self.now in
    calls_of (StopsReadingOn c.args.limit self stream.TooLong) [] (g.met.S.Store.no_calls c.args.store.now) (stops-long c.args.limit self c.requires.unended c.if-self-limit.true)

pub returns-in-Ok-eq0-clause-read : goal.returns-in-Ok-eq0-clause-read
returns-in-Ok-eq0-clause-read g c =
    let self = c.args.self.now in
    let limit = c.args.limit in
    let chunk = c.read_next.new.chunk in
    let last = subst (λ r. MakesCalls g.S.Store c.args.store.now c.read_next.new.store (ReadsNext self.path.now self.at chunk r)) (c.in-Ok-eq0.is ∙ ap Ok c.in-Ok-eq0.field-0-test) c.read_next.ensures.reads in
    calls_weaker _ (ReadsOn limit self _) last
    (λ events reads. subst (ReadsOn limit self _) (sym reads.2)
    (on-end limit self c.requires.unended _ reads.0 reads.1 (omega arith) c.requires.room refl refl refl
    (written self.bytes self.held 0 self.held chunk _ c.deref_mut.result.now (omega arith) c.deref_mut.ensures.value (omega (arith, c.requires.room)) (omega arith) ∙ append-nil (take self.held self.bytes.items))))

pub returns-in-Ok-clause-read : goal.returns-in-Ok-clause-read
returns-in-Ok-clause-read g c =
    let self = c.args.self.now in
    let limit = c.args.limit in
    let chunk = c.read_next.new.chunk in
    let count = c.in-Ok.count in
    let came = take count chunk in
    let last = subst (λ r. MakesCalls g.S.Store c.args.store.now c.read_next.new.store (ReadsNext self.path.now self.at chunk r)) c.in-Ok.is c.read_next.ensures.reads in
    let few : count ≤ length chunk = c.in-Ok.ensures.count in
    let long : length came ≡ count = length-take-le count chunk few in
    let left : self.held + count ≤ length self.bytes.items = omega (arith, few, self.bytes.ok.0) in
    calls_weaker _ (ReadsOn limit self _) last
    (λ events reads. subst (ReadsOn limit self _) (sym reads.2)
    (on-more limit self c.requires.unended _ reads.0 came (omega (arith, long)) c.requires.room c.requires.unended (omega (arith, long)) (omega (arith, c.in-Ok.ensures.past)) (omega (arith, long))
    (written self.bytes self.held count (self.held + count) chunk _ c.deref_mut.result.now refl c.deref_mut.ensures.value left few)))

pub returns-in-Err-clause-stopped : goal.returns-in-Err-clause-stopped
returns-in-Err-clause-stopped g c =
    let self = c.args.self.now in
    let limit = c.args.limit in
    let last = subst (λ r. MakesCalls g.S.Store c.args.store.now c.read_next.new.store (ReadsNext self.path.now self.at c.read_next.new.chunk r)) c.in-Err.is c.read_next.ensures.reads in
    calls_weaker _ (StopsReadingOn limit self stream.Read) last
    (λ events reads. subst (StopsReadingOn limit self stream.Read) (sym reads.1) (stops-failed limit self c.requires.unended reads.0 (omega arith) c.requires.room))
