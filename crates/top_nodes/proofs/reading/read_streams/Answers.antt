use Rattle.std.proofs.Common.{◌+◌, ◌-◌, ◌++◌, ◌∷◌, [], take, refl, subst, sym, arith}
use Rattle.std.proofs.lemmas.List.Elements.{All-nil, All-push, All-same}
use Rattle.lif_outside.proofs.CallLaws.{calls_of, calls_then}
use Rattle.link_streams.specs.Streams.{IsStream}
use Rattle.top_base.proofs.Exits.{if_err}
use Rattle.top_nodes.proofs.ReadingLaws.{HasLost, HasRead, forgets_read, loses_next, reads_next}
use Rattle.top_nodes.proofs.reading.read_streams.Goals as goal

pub loop-link-init : goal.loop-link-init
loop-link-init g c = record {
  within = omega arith;
  streams = All-same IsStream c.in_ok-streams.streams.items [] c.in_ok-streams.ensures.items (All-nil IsStream);
  reads = calls_of _ [] (g.met.S.Store.no_calls c.args.store.now) ([], refl, c.in_ok-streams.ensures.items, omega arith);
}

pub returns-in_err-stream-clause-lost : goal.returns-in_err-stream-clause-lost
returns-in_err-stream-clause-lost g c =
    let prefix = c.args.prefix.now in
    let net = c.args.net.now in
    let links = c.args.links.now in
    let at = c.loop-link in
    let outcome = c.in_err-stream.field-0.0 in
    if_err _ c.from_residual-in_err-stream.result outcome c.from_residual-in_err-stream.ensures.1
    (calls_then g.met.S.Store.more_calls _ _ (HasLost prefix net links outcome) at.invariant.reads c.in_err-stream.ensures.lost
    (λ first later was lost. loses_next prefix net links at.link-index at.streams.items at.left outcome first later c.loop-link-test.true was lost))

pub returns-in_default-clause-lost : goal.returns-in_default-clause-lost
returns-in_default-clause-lost g c =
    let prefix = c.args.prefix.now in
    let net = c.args.net.now in
    let links = c.args.links.now in
    let at = c.loop-link in
    let i = at.link-index in
    let stream = c.in_ok-stream.stream in
    let size = c.in_ok-stream.size in
    let outcome = c.out_of_memory.result in
    calls_then g.met.S.Store.more_calls _ _ (HasLost prefix net links outcome) at.invariant.reads c.in_ok-stream.ensures.had
    (λ first later was one.
    let more = reads_next prefix net links i at.streams.items at.left stream size first later c.loop-link-test.true was c.in_ok-stream.ensures.link one in
    forgets_read prefix net links (i + 1) (at.streams.items ++ stream ∷ []) (at.left - size) outcome (first ++ later) (omega arith) more
    (record { status = c.out_of_memory.ensures.status; line = c.out_of_memory.ensures.line }))

pub loop-link-preserved : goal.loop-link-preserved
loop-link-preserved g c =
    let prefix = c.args.prefix.now in
    let net = c.args.net.now in
    let links = c.args.links.now in
    let at = c.loop-link in
    let i = at.link-index in
    let stream = c.in_ok-stream.stream in
    let left = at.left - c.in_ok-stream.size in
    record {
      within = omega (arith, at.invariant.within);
      streams = All-same IsStream _ _ c.in-Ok.ensures.items (All-push IsStream at.streams.items stream at.invariant.streams c.in_ok-stream.ensures.stream);
      reads = calls_then g.met.S.Store.more_calls _ _ (HasRead prefix net (take (i + 1) links) c.push.new.self.items left) at.invariant.reads c.in_ok-stream.ensures.had
          (λ first later was one. subst (λ streams. HasRead prefix net (take (i + 1) links) streams left (first ++ later)) (sym c.in-Ok.ensures.items)
          (reads_next prefix net links i at.streams.items at.left stream c.in_ok-stream.size first later c.loop-link-test.true was c.in_ok-stream.ensures.link one));
    }
