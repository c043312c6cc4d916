-- The number is added in all levels, and is the least one where it is less than that.
use Rattle.std.proofs.Common.{◌≡◌, ◌∙◌, ap, arith, length, subst, sym}
use Rattle.item_list.proofs.Writes.{written_back}
use Rattle.least_set.specs.Members.{Members, HasLeast, SetsBit}
use Rattle.least_set.proofs.OverLaws.{in_place, least_insert}
use Rattle.least_set.proofs.LeastSet.insert.Goals as goal

pub invariant_of-self : goal.invariant_of-self
invariant_of-self c =
    let words = c.self.inside.words in
    let long_view = ap (λ (set : Members). length set.words) c.self.view_is in
    let few = c.self.invariant.0.few_words in
    let over_words = c.self.inside.over_words in
    let added = c.add-self-inside.new in
    let bits = subst (λ ws. SetsBit c.args.number ws added.words) c.deref_mut.ensures.value c.add-self-inside.ensures.bits in
    let long = subst (λ ws. length added.over_words ≡ length ws) c.deref_mut-2.ensures.value c.add-self-inside.ensures.long in (
      in_place words.len words.items added.words over_words.len over_words.items added.over_words c.add-self-inside.result words.ok.0 bits.long over_words.ok.0 long c.add-self-inside.ensures.over,
      subst (HasLeast c.min-self-inside.result) (sym (written_back words.items added.words words.len words.ok.0 bits.long))
          (least_insert c.self.inside.least c.args.number c.min-self-inside.result words.items added.words c.self.invariant.1 (omega (arith, c.requires, few, long_view)) bits.here (λ other apart has. bits.others other apart ∙ has)
          (λ other less. bits.others other (omega (arith, less))) c.min-self-inside.ensures),
    )
