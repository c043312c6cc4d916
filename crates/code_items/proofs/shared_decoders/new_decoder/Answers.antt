use Rattle.std.proofs.Common.{◌≡◌, true, false, sym, refl, ap, ◌∙◌}
use Rattle.std.proofs.lemmas.Bool.{not-true, not-false}
use Rattle.std.proofs.lemmas.Result.{err_from_is_err_and}
use Rattle.name_index.specs.Seen.{has}
use Rattle.code_items.specs.Reading.{new_decoder_at}
use Rattle.code_items.specs.Gives.{left_of}
use Rattle.code_items.specs.Parts.{front_seen}
use Rattle.code_items.specs.Sharing.{is_shared}
use Rattle.code_items.proofs.SharedLaws.{IsTaken-from_read}
use Rattle.code_items.proofs.TextLaws.{AreTexts-push}
use Rattle.code_items.proofs.shared_decoders.new_decoder.Goals as goal

pub returns-in_err-decoder-clause-reads : goal.returns-in_err-decoder-clause-reads
unfolding new_decoder_at
returns-in_err-decoder-clause-reads c earlier are =
    let p = err_from_is_err_and c.from_residual.result c.from_residual.ensures.1 in
    rw (p.1, p.2) (λ other. rw (c.in_err-decoder.ensures other) refl)

pub returns-then-not-branch-clause-reads : goal.returns-then-not-branch-clause-reads
unfolding new_decoder_at
returns-then-not-branch-clause-reads c earlier are other =
    let took = IsTaken-from_read (front_seen c.args.front.now) c.args.sink (left_of c.args.start) (left_of c.in_ok-decoder.rest) c.in_ok-decoder.decoder c.before-text.ensures.bytes c.in_ok-decoder.ensures in
    let known : is_shared earlier c.in_ok-decoder.decoder ≡ true =
    sym (are c.in_ok-decoder.decoder took.sized took.elements) ∙ ap (has c.args.texts.now) (sym took.text ∙ sym c.before-text.ensures.value) ∙ not-false _ (sym c.in_ok-add.ensures.fresh ∙ c.if-not-branch.true) in
    rw (c.in_ok-decoder.ensures, known, c.saturating_sub-last.ensures, c.element_room.ensures) refl

pub returns-clause-reads : goal.returns-clause-reads
unfolding new_decoder_at
returns-clause-reads c earlier are =
    let took = IsTaken-from_read (front_seen c.args.front.now) c.args.sink (left_of c.args.start) (left_of c.in_ok-decoder.rest) c.in_ok-decoder.decoder c.before-text.ensures.bytes c.in_ok-decoder.ensures in
    let new : is_shared earlier c.in_ok-decoder.decoder ≡ false =
    sym (are c.in_ok-decoder.decoder took.sized took.elements) ∙ ap (has c.args.texts.now) (sym took.text ∙ sym c.before-text.ensures.value) ∙ not-true _ (sym c.in_ok-add.ensures.fresh ∙ c.if-not-branch.false) in
    rw (c.in_ok-decoder.ensures, new) refl

pub returns-clause-texts : goal.returns-clause-texts
returns-clause-texts c earlier are =
    let took = IsTaken-from_read (front_seen c.args.front.now) c.args.sink (left_of c.args.start) (left_of c.in_ok-decoder.rest) c.in_ok-decoder.decoder c.before-text.ensures.bytes c.in_ok-decoder.ensures in
    rw (c.in_ok-add.ensures.added c.if-not-branch.false, c.before-text.ensures.value, took.text) (AreTexts-push c.args.front.now.field c.args.front.now.rate c.args.texts.now earlier c.in_ok-decoder.decoder took.sized took.elements are)
