-- Nothing is left of what was cleared.
use Rattle.std.proofs.Common.{length, arith, ap, ◌∙◌, ◌≡◌}
use Rattle.std.proofs.lemmas.List.{length-replicate}
use Rattle.least_set.proofs.OverLaws.{no_bits, over_zeros}
use Rattle.least_set.proofs.LeastSet.clear.Goals as goal

pub returns-clause-none : goal.returns-clause-none
returns-clause-none c = no_bits c.fill.new.self.items c.self.inside.words.len (c.fill.ensures.items (λ y e. e))

pub invariant_of-self : goal.invariant_of-self
invariant_of-self c =
    let before = c.self.invariant.0 in
    let is = c.fill.ensures.items (λ y e. e) in
    let is_over = c.fill-2.ensures.items (λ y e. e) in
    let long : length c.fill.new.self.items ≡ length c.self.inside.words.items = ap length is ∙ length-replicate _ 0 ∙ c.self.inside.words.ok.0 in
    let long_over : length c.fill-2.new.self.items ≡ length c.self.inside.over_words.items = ap length is_over ∙ length-replicate _ 0 ∙ c.self.inside.over_words.ok.0 in (
      over_zeros c.fill.new.self.items c.fill-2.new.self.items _ _ is is_over (omega (arith, long, long_over, before.room)) (omega (arith, long, before.few_words)) (omega (arith, long_over, before.few_over)),
      record { some = λ under. absurd (omega (arith, under)); none = λ over. no_bits c.fill.new.self.items _ is },
    )
