use Rattle.std.proofs.Common.{◌≤◌, Ok, Err, true, false, length, subst, ap, ◌∙◌, arith}
use Rattle.lif_outside.specs.Calls.{MakesCalls}
use Rattle.lif_outside.proofs.CallLaws.{calls_then}
use Rattle.lif_outside.specs.FileCalls.{ReadsWhole}
use Rattle.top_base.specs.FileReading.{ReadsMore, StopsReading}
use Rattle.top_base.proofs.Exits.{if_err}
use Rattle.top_base.proofs.FileReadingLaws.{Gave, gave_more, gave_all, stops_more}
use Rattle.top_base.proofs.reading.read_whole.Goals as goal

pub returns-in_err-read_more-clause-refused : goal.returns-in_err-read_more-clause-refused
returns-in_err-read_more-clause-refused g c =
    let path = c.args.path.now in
    let limit = c.args.limit in
    let refusal = c.in_err-read_more.field-0.0 in
    let old = c.loop-chunk.bytes.items in
    let new = c.read_more.new.front.items in
    let last = subst (λ r. MakesCalls g.S.Store c.loop-chunk.store c.read_more.new.store (ReadsMore path limit old new r)) c.in_err-read_more.was c.read_more.ensures.reads in
    let short : length old ≤ limit = omega arith in
    let stopped = calls_then g.met.S.Store.more_calls (Gave path old) (ReadsMore path limit old new (Err refusal)) (StopsReading path limit refusal) c.loop-chunk.invariant.reads last
    (λ front later. stops_more path limit refusal old new front later short) in
    if_err _ c.from_residual.result refusal c.from_residual.ensures.1 stopped

pub returns-then-not-branch-clause-whole : goal.returns-then-not-branch-clause-whole
returns-then-not-branch-clause-whole g c =
    let path = c.args.path.now in
    let limit = c.args.limit in
    let old = c.loop-chunk.bytes.items in
    let new = c.read_more.new.front.items in
    let last = subst (λ r. MakesCalls g.S.Store c.loop-chunk.store c.read_more.new.store (ReadsMore path limit old new r)) (c.in_ok-read_more.was ∙ ap Ok c.if-not-branch.true) c.read_more.ensures.reads in
    let short : length old ≤ limit = omega arith in
    calls_then g.met.S.Store.more_calls (Gave path old) (ReadsMore path limit old new (Ok false)) (ReadsWhole path limit new) c.loop-chunk.invariant.reads last
    (λ front later. gave_all path limit old new front later short)

pub loop-chunk-preserved : goal.loop-chunk-preserved
loop-chunk-preserved g c =
    let path = c.args.path.now in
    let limit = c.args.limit in
    let old = c.loop-chunk.bytes.items in
    let new = c.read_more.new.front.items in
    let last = subst (λ r. MakesCalls g.S.Store c.loop-chunk.store c.read_more.new.store (ReadsMore path limit old new r)) (c.in_ok-read_more.was ∙ ap Ok c.if-not-branch.false) c.read_more.ensures.reads in
    record {
      within = c.read_more.ensures.within;
      room = omega arith;
      reads = calls_then g.met.S.Store.more_calls (Gave path old) (ReadsMore path limit old new (Ok true)) (Gave path new) c.loop-chunk.invariant.reads last
          (λ front later. gave_more path limit old new front later);
    }
