use Rattle.std.proofs.Common.{length, ap, refl, arith}
use Rattle.std.proofs.lemmas.Result.{err_from_is_err_and}
use Rattle.code_items.specs.Reading.{shared_decoder_at}
use Rattle.code_items.specs.Gives.{left_of}
use Rattle.code_items.specs.Parts.{front_seen}
use Rattle.code_items.specs.Shared.{AreFirsts}
use Rattle.code_items.proofs.SharedLaws.{is_new-from_read, AreFirsts-push}
use Rattle.code_items.proofs.shared_decoders.shared_decoder.Goals as goal

pub returns-in_err-same-clause-gives : goal.returns-in_err-same-clause-gives
unfolding shared_decoder_at
returns-in_err-same-clause-gives c =
    let p = err_from_is_err_and c.from_residual.result c.from_residual.ensures.1 in
    let firsts : AreFirsts c.deref.result.now c.args.earlier.now = rw c.deref.ensures.value c.requires.firsts in
    rw (p.1, p.2) (λ other. rw (c.in_err-same.ensures.reads c.args.earlier.now firsts other) refl)

pub returns-in_err-decoder-clause-gives : goal.returns-in_err-decoder-clause-gives
unfolding shared_decoder_at
returns-in_err-decoder-clause-gives c =
    let p = err_from_is_err_and c.from_residual-in_err-decoder.result c.from_residual-in_err-decoder.ensures.1 in
    let firsts : AreFirsts c.deref.result.now c.args.earlier.now = rw c.deref.ensures.value c.requires.firsts in
    rw (p.1, p.2) (λ other. rw (c.in_ok-same.ensures.reads c.args.earlier.now firsts, c.in_err-decoder.ensures.gives other) refl)

pub returns-clause-gives : goal.returns-clause-gives
unfolding shared_decoder_at
returns-clause-gives c =
    let firsts : AreFirsts c.deref.result.now c.args.earlier.now = rw c.deref.ensures.value c.requires.firsts in
    rw (c.in_ok-same.ensures.reads c.args.earlier.now firsts, c.in_ok-decoder.ensures.gives) refl

pub returns-clause-firsts : goal.returns-clause-firsts
returns-clause-firsts c =
    rw c.in_ok-push.ensures.items
    (AreFirsts-push c.args.firsts.now.items c.args.earlier.now c.in_ok-decoder.decoder _
    (is_new-from_read (front_seen c.args.front.now) c.args.earlier.now c.args.sink c.in_ok-same.same (left_of c.in_ok-same.rest) (left_of c.in_ok-decoder.rest) c.in_ok-decoder.decoder (omega (arith, c.in_ok-same.ensures.earlier, ap length c.deref.ensures.value, c.requires.firsts.size)) c.in_ok-decoder.ensures.gives)
    c.requires.firsts)
