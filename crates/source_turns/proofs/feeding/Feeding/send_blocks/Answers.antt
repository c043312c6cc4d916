use Rattle.std.specs.Prelude.{◌≤◌, ◌+◌, ◌*◌, min}
use Rattle.std.proofs.Common.{◌≡◌, ◌++◌, ◌∷◌, [], Contains, take, sym, ap, ◌∙◌, subst, arith}
use Rattle.generation_frame.specs.Blocks.{capacity}
use Rattle.item_list.proofs.Results.{on_err}
use Rattle.lif_outside.proofs.CallLaws.{calls_then}
use Rattle.lif_outside.specs.FileCalls.{StopsWithin, appends_of}
use Rattle.source_turns.proofs.FedLaws.{next_turn, reaches, turns_more, turns_stop}
use Rattle.source_turns.specs.Turns.{size_of, turns_from}
use Rattle.source_turns.proofs.feeding.Feeding.send_blocks.Goals as goal

pub send_block-requires-clause-order : goal.send_block-requires-clause-order
send_block-requires-clause-order g c =
    let was = c.args.self.now in
    let room : c.cap-room.result ≡ size_of (g.T.BlockTurns.job was.turns) = c.cap-room.ensures ∙ ap capacity (sym was.same_rate) in
    let begins = reaches c.loop-place.place c.args.count c.cap-room.result was.filled c.loop-place-test.true (subst (λ n. c.args.count * n ≤ was.filled + n) (sym room) c.requires.reach) in
    omega (arith, c.min-end.ensures, c.loop-place.invariant.filled, begins)

pub send_block-requires-clause-room : goal.send_block-requires-clause-room
send_block-requires-clause-room g c =
    let room : c.cap-room.result ≡ size_of (g.T.BlockTurns.job c.args.self.now.turns) = c.cap-room.ensures ∙ ap capacity (sym c.args.self.now.same_rate) in
    let here : size_of (g.T.BlockTurns.job c.loop-place.self.turns) ≡ size_of (g.T.BlockTurns.job c.args.self.now.turns) = ap size_of c.loop-place.invariant.still in
    let same : c.cap-room.result ≡ size_of (g.T.BlockTurns.job c.loop-place.self.turns) = room ∙ sym here in
    omega (arith, c.min-end.ensures, same)

pub send_block-requires-clause-more : goal.send_block-requires-clause-more
send_block-requires-clause-more g c = omega (arith, c.loop-place.invariant.next, c.requires.more, c.loop-place-test.true)

pub send_block-requires-clause-made : goal.send_block-requires-clause-made
send_block-requires-clause-made g c = λ path there. c.loop-place.invariant.made path (subst (λ job. Contains job.paths path) c.loop-place.invariant.still there)

pub returns-in_err-send_block-clause-failed : goal.returns-in_err-send_block-clause-failed
returns-in_err-send_block-clause-failed g c =
    let was = c.args.self.now in
    let at = c.loop-place in
    let job = g.T.BlockTurns.job was.turns in
    let gathered = take was.filled was.bytes.items in
    let room : c.cap-room.result ≡ size_of job = c.cap-room.ensures ∙ ap capacity (sym was.same_rate) in
    let begins = reaches at.place c.args.count c.cap-room.result was.filled c.loop-place-test.true (subst (λ n. c.args.count * n ≤ was.filled + n) (sym room) c.requires.reach) in
    let turn = next_turn job (g.T.BlockTurns.job at.self.turns) was.next at.self.next at.place c.cap-room.result was.filled c.min-end.result was.bytes.items at.self.bytes.items at.invariant.still at.invariant.next
    (ap (λ bytes. bytes.items) at.invariant.bytes) room begins (c.min-end.ensures ∙ ap (λ n. min n (at.place * c.cap-room.result + c.cap-room.result)) at.invariant.filled) in
    on_err c.from_residual.result (calls_then g.met.S.Store.more_calls _ _ (StopsWithin (appends_of (turns_from job was.next c.args.count gathered))) at.invariant.calls c.in_err-send_block.ensures.failed
    (λ first later one other. subst (λ first. StopsWithin (appends_of (turns_from job was.next c.args.count gathered)) (first ++ later)) (sym one)
    (turns_stop job was.next at.place c.args.count gathered later c.loop-place-test.true (subst (λ turn. StopsWithin (appends_of (turn ∷ [])) later) turn other))))

pub loop-place-preserved : goal.loop-place-preserved
loop-place-preserved g c =
    let was = c.args.self.now in
    let at = c.loop-place in
    let job = g.T.BlockTurns.job was.turns in
    let gathered = take was.filled was.bytes.items in
    let room : c.cap-room.result ≡ size_of job = c.cap-room.ensures ∙ ap capacity (sym was.same_rate) in
    let begins = reaches at.place c.args.count c.cap-room.result was.filled c.loop-place-test.true (subst (λ n. c.args.count * n ≤ was.filled + n) (sym room) c.requires.reach) in
    let turn = next_turn job (g.T.BlockTurns.job at.self.turns) was.next at.self.next at.place c.cap-room.result was.filled c.min-end.result was.bytes.items at.self.bytes.items at.invariant.still at.invariant.next
    (ap (λ bytes. bytes.items) at.invariant.bytes) room begins (c.min-end.ensures ∙ ap (λ n. min n (at.place * c.cap-room.result + c.cap-room.result)) at.invariant.filled) in
    let done = c.send_block.ensures in
    record {
      still = done.still ∙ at.invariant.still;
      bytes = done.bytes ∙ at.invariant.bytes;
      filled = done.filled ∙ at.invariant.filled;
      next = omega (arith, done.next, at.invariant.next);
      made = λ path there. done.made path (subst (λ job. Contains job.paths path) (sym at.invariant.still) there);
      calls = calls_then g.met.S.Store.more_calls _ _ _ at.invariant.calls c.in_ok-send_block.ensures.sent
          (λ first later one other. ap (λ first. first ++ later) one
          ∙ ap (λ later. appends_of (turns_from job was.next at.place gathered) ++ later) (other ∙ ap (λ turn. appends_of (turn ∷ [])) turn)
          ∙ turns_more job was.next at.place gathered);
    }
