-- The number is taken from all levels, and the one after it is at hand.
use Rattle.std.proofs.Common.{◌≡◌, length, subst, sym}
use Rattle.item_list.proofs.Writes.{written_back}
use Rattle.least_set.specs.Members.{ClearsBit, HasLeast}
use Rattle.least_set.proofs.OverLaws.{in_place}
use Rattle.least_set.proofs.LeastSet.take_below.Goals as goal

pub invariant_of-self : goal.invariant_of-self
invariant_of-self c =
    let words = c.self.inside.words in
    let over_words = c.self.inside.over_words in
    let taken = c.take_away-self-inside in
    let bits = subst (λ ws. ClearsBit c.self.inside.least ws taken.new.words) c.deref_mut.ensures.value taken.ensures.bits in
    let long = subst (λ ws. length taken.new.over_words ≡ length ws) c.deref_mut-2.ensures.value taken.ensures.long in (
      in_place words.len words.items taken.new.words over_words.len over_words.items taken.new.over_words taken.new.over_all words.ok.0 bits.long over_words.ok.0 long taken.ensures.over,
      subst (HasLeast taken.result) (sym (written_back words.items taken.new.words words.len words.ok.0 bits.long)) taken.ensures.least,
    )
