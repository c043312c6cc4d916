use Rattle.std.proofs.Common.{◌≢◌, ◌<◌, ◌∷◌, ℕ, arith, below_more, ◌∙◌}
use Rattle.vector_headers.specs.Receiving.{IsReceived}
use Rattle.vector_headers.proofs.ReceivingLaws.{IsReceived-same}
use Rattle.vector_headers.proofs.receiving.take_link.Goals as goal

pub loop-piece-preserved : goal.loop-piece-preserved
loop-piece-preserved g c =
    let fabric = c.args.fabric.now in
    let link = c.args.link in
    let now = c.loop-piece.piece in
    let first = c.args.blind.now in
    let old = c.loop-piece.blind in
    let new = c.take_piece.new.blind in
    let told = c.take_piece.ensures in
    let before = c.loop-piece.invariant in
    record {
      field = told.field ∙ before.field;
      rate = told.rate ∙ before.rate;
      frame = c.take_piece.auto.frame ∙ before.frame;
      vector = c.take_piece.auto.vector ∙ before.vector;
      received = λ one is links.
          let P : ℕ → Type 0 = λ piece. IsReceived fabric.code fabric.failed one links piece first → IsReceived fabric.code fabric.failed one (link ∷ links) piece new in
          below_more P now
          (λ piece below received.
          let apart : piece ≢ now = omega arith in
          IsReceived-same fabric.code fabric.failed one (link ∷ links) piece old new (told.others piece apart) (before.received one is links piece below received))
          (λ received. told.received one is links (IsReceived-same fabric.code fabric.failed one links now first old (before.rest now (omega arith)) received));
      rest = λ piece above.
          let apart : piece ≢ now = omega arith in
          told.others piece apart ∙ before.rest piece (omega arith);
      block = λ some one is. told.block one is;
    }

pub returns-clause-received : goal.returns-clause-received
returns-clause-received g c = λ one is links piece low received.
    let below : piece < c.loop-piece.piece = omega arith in
    c.loop-piece.invariant.received one is links piece below received
