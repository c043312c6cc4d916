use Rattle.std.proofs.Common.{◌≡◌, ◌<◌, length, ◌∙◌, arith}
use Rattle.std.proofs.lemmas.List.{get_or_default}
use Rattle.code_items.specs.Sharing.{decoder_of, no_decoder}
use Rattle.code_items.proofs.SharedLaws.{is_shared-earlier}
use Rattle.code_items.proofs.TextLaws.{AreTexts-again}
use Rattle.code_items.proofs.shared_decoders.named_decoder.Goals as goal

pub returns-in_ok-copy_of-in-Some-clause-texts : goal.returns-in_ok-copy_of-in-Some-clause-texts
returns-in_ok-copy_of-in-Some-clause-texts c =
    let below : c.in-Some.demand < length c.args.earlier.now = omega (arith, c.in-Some.ensures, c.requires.within) in
    let copy : c.in_ok-copy_of-in-Some.field-0 ≡ decoder_of c.args.earlier.now c.in-Some.demand =
    c.in_ok-copy_of-in-Some.ensures ∙ c.index-earlier-demand.is ∙ get_or_default _ _ _ no_decoder below in
    rw copy (AreTexts-again c.args.front.now.field c.args.front.now.rate c.args.texts.now c.args.earlier.now _ (is_shared-earlier c.args.earlier.now c.in-Some.demand below) c.requires.texts)
