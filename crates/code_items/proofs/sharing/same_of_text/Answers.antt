use Rattle.std.proofs.Common.{◌≡◌, ℕ, ◌<◌, ◌++◌, ◌∷◌, [], suc, length, refl, false, Some, None, ap, sym, ◌∙◌, arith}
use Rattle.std.specs.Prelude.{position}
use Rattle.std.specs.Str.{bytes_eq}
use Rattle.std.proofs.lemmas.Grind.{get_or_default_zero}
use Rattle.name_index.specs.Seen.{has}
use Rattle.code_items.specs.Shared.{decoder_text}
use Rattle.code_items.proofs.SameLaws.{AreSames-again, AreSames-push}
use Rattle.code_items.proofs.SharingLaws.{is_shared-from_none}
use Rattle.code_items.proofs.sharing.same_of_text.Goals as goal

pub returns-in-Some : goal.returns-in-Some
returns-in-Some c = λ field rate earlier decoder sized fit text at are.
    let found : position (bytes_eq (decoder_text field decoder)) c.args.texts.now ≡ Some c.in-Some.number = rw (← text) (sym c.number_of.ensures.value ∙ c.in-Some.is) in
    let again = AreSames-again field rate c.args.texts.now c.args.numbers.now.items earlier decoder sized fit are c.in-Some.number found in
    let within : c.in-Some.number < length c.args.numbers.now.items = omega (arith, c.in-Some.ensures.within) in
    (c.index.ensures ∙ get_or_default_zero c.args.numbers.now.items c.in-Some.number c.index.result.now within ∙ again.0, again.1)

pub returns : goal.returns
returns c = λ field rate earlier decoder sized fit text at are.
    let none : position (bytes_eq (decoder_text field decoder)) c.args.texts.now ≡ None = rw (← text) (sym c.number_of.ensures.value ∙ c.in_default.is) in
    let push = AreSames-push field rate c.args.texts.now c.args.numbers.now.items earlier decoder sized fit are none in
    let new : has c.args.texts.now c.args.text.now ≡ false = rw text (are.are_texts decoder sized fit ∙ is_shared-from_none earlier decoder push.0) in
    let texts : c.add.new.self ≡ c.args.texts.now ++ decoder_text field decoder ∷ [] = c.in_ok-add.ensures.names ∙ rw (new, text) refl in
    let numbers : c.push.new.self.items ≡ c.args.numbers.now.items ++ suc (length earlier) ∷ [] = c.in_ok-push.ensures.items ∙ ap (λ (n : ℕ). c.args.numbers.now.items ++ n ∷ []) (omega arith) in
    (sym push.0, rw (texts, numbers) push.1)
