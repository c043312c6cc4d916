-- The numbers are added in all levels, and the first of them is the least one where it is less than that.
use Rattle.std.proofs.Common.{◌≡◌, ap, arith, length, subst, sym}
use Rattle.item_list.proofs.Writes.{written_back}
use Rattle.least_set.specs.Members.{Members, HasLeast, SetsEighths}
use Rattle.least_set.proofs.MaskLaws.{eighths-stay}
use Rattle.least_set.proofs.OverLaws.{in_place, least_insert}
use Rattle.least_set.proofs.LeastSet.insert_eighths.Goals as goal

pub invariant_of-self : goal.invariant_of-self
invariant_of-self c =
    let words = c.self.inside.words in
    let long_view = ap (λ (set : Members). length set.words) c.self.view_is in
    let few = c.self.invariant.0.few_words in
    let over_words = c.self.inside.over_words in
    let added = c.add_eighths-self-inside.new in
    let ensures = c.add_eighths-self-inside.ensures in
    let bits = subst (λ ws. SetsEighths c.args.first c.args.last ws added.words) c.deref_mut.ensures.value ensures.bits in
    let long = subst (λ ws. length added.over_words ≡ length ws) c.deref_mut-2.ensures.value ensures.long in (
      in_place words.len words.items added.words over_words.len over_words.items added.over_words c.add_eighths-self-inside.result words.ok.0 bits.long over_words.ok.0 long ensures.over,
      subst (HasLeast c.min-self-inside.result) (sym (written_back words.items added.words words.len words.ok.0 bits.long))
          (least_insert c.self.inside.least c.args.first c.min-self-inside.result words.items added.words c.self.invariant.1 (omega (arith, c.requires.within, c.requires.order, few, long_view))
          (bits.here c.args.first (record { from = omega arith; to = c.requires.order; step = omega arith }))
          (λ other apart has. eighths-stay c.args.first c.args.last words.items added.words bits other has)
          (λ other less. bits.others other (λ is. omega (arith, is.from, less))) c.min-self-inside.ensures),
    )
