use Rattle.std.proofs.Common.{refl, sym, ◌∙◌, ap, subst, ◌≡◌, ◌<◌, ◌%◌, ◌∷◌, length, ℕ, zero, suc, ◌==◌, false, arith}
use Rattle.std.specs.Prelude.{IsPermutation, Some, swap_remove}
use Rattle.std.proofs.Math.Nat.{le_refl, mod-lt}
use Rattle.std.proofs.lemmas.Option.{slice_get_read}
use Rattle.rand_pcg.specs.Pcg.{pcg32}
use Rattle.std.proofs.lemmas.List.Sorted.{IsPermutation-swap_remove}
use Rattle.lif_outside.specs.MoveLaws.{one_move, is_taken}
use Rattle.lif_outside.specs.Seeded.{held_by, no_faults, always, untold}
use Rattle.lif_outside.specs.ToldLaws.{becomes_untold}
use Rattle.lif_outside.proofs.seeded.SeedLinksLinks.take.Goals as goal

some : (n : ℕ) → (n == 0) ≡ false → 0 < n
some zero e = absurd cc
some (suc n) e = omega arith

-- how many fly
count : (c : goal.After-self-1) → c.len.result ≡ length c.args.self.now.flying.items
count c = c.len.ensures ∙ c.args.self.now.flying.ok.0

-- the place is that of a flying pair
within : (c : goal.After-self-1) → c.next_word-word.result % c.len.result < length c.args.self.now.flying.items
within c =
    let none : (c.len.result == 0) ≡ false = ap (λ n. n == 0) c.len.ensures ∙ sym c.if-is_empty.ensures in
    subst (λ n. c.next_word-word.result % c.len.result < n) (count c) (mod-lt c.next_word-word.result (some c.len.result none))

pub returns-clause-call : goal.returns-clause-call
returns-clause-call c =
    one_move held_by always no_faults untold untold _ _ _
    (is_taken _ _ (c.next_word-word.result % c.len.result) _ _ (within c) c.swap_remove.ensures.value
    (subst (λ left. IsPermutation c.args.self.now.flying.items (c.swap_remove.result ∷ left)) (sym c.swap_remove.ensures.items)
    (IsPermutation-swap_remove _ _ _ (within c) c.swap_remove.ensures.value))
    (le_refl 0) (record { same_room = refl; same_seed = refl }))
    refl becomes_untold becomes_untold (le_refl 0) (λ is. absurd cc) (λ is. refl)

pub returns-clause-picked : goal.returns-clause-picked
returns-clause-picked c = λ flight is.
    let same : c.swap_remove.result ≡ flight = cc in
    record {
      place = c.next_word-word.result % c.len.result;
      by_word = ap (λ w. w % c.len.result) (ap (λ p. p.0) c.next_word-word.ensures) ∙ ap (λ n. (pcg32 c.args.self.now.generator).0 % n) (count c);
      flew = slice_get_read _ _ _ _ refl (within c) c.swap_remove.ensures.value ∙ ap Some same;
      gap = c.swap_remove.ensures.items ∙ ap (λ one. swap_remove c.args.self.now.flying.items (c.next_word-word.result % c.len.result) one) same;
      generator = ap (λ p. p.1) c.next_word-word.ensures;
    }
