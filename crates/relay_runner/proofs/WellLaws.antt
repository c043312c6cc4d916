-- Calls of which none failed, and takes that found nothing.
use Rattle.std.specs.Prelude.{◌≡◌, ◌||◌, ◌++◌, false, cond, List, [], ◌∷◌, count_by}
use Rattle.std.specs.List.{list_any}
use Rattle.std.proofs.Common.{◌∙◌, ap, arith, refl}
use Rattle.std.proofs.lemmas.List.Folds.{list_any-append}
use Rattle.std.proofs.lemmas.List.Sums.{sum_by-append}
use Rattle.generation_frame.specs.declared.frame.Packet.{Packet}
use Rattle.lif_outside.specs.Moves.{Move, is_fault, took_none}
use Rattle.node_stations.specs.Putting.{puts_of}
use Rattle.relay_core.proofs.ListLaws.{count-none}
use Rattle.relay_runner.specs.Carrying.{finds_nothing}

-- puts that were made
pub puts-well : (packets : List Packet) → list_any is_fault (puts_of packets) ≡ false
puts-well [] = refl
puts-well (packet ∷ packets) = puts-well packets

-- calls of which none failed, and then others
pub still-well : (moves later : List Move) → list_any is_fault moves ≡ false → list_any is_fault later ≡ false → list_any is_fault (moves ++ later) ≡ false
still-well moves later first then = list_any-append is_fault moves later ∙ ap (λ b. b || list_any is_fault later) first ∙ then

-- puts aren't takes
pub puts-busy : (packets : List Packet) → list_any finds_nothing (puts_of packets) ≡ false
puts-busy [] = refl
puts-busy (packet ∷ packets) = puts-busy packets

-- calls of which none is a take that found nothing, and then others
pub still-busy : (moves later : List Move) → list_any finds_nothing moves ≡ false → list_any finds_nothing later ≡ false
    → list_any finds_nothing (moves ++ later) ≡ false
still-busy moves later first then = list_any-append finds_nothing moves later ∙ ap (λ b. b || list_any finds_nothing later) first ∙ then

-- where only the last one is, there is one
pub one_empty : (front : List Move) → list_any finds_nothing front ≡ false → count_by finds_nothing (front ++ took_none ∷ []) ≡ 1
one_empty front none = omega (
  arith,
  sum_by-append (λ move. cond (finds_nothing move) 1 0) front (took_none ∷ []),
  count-none finds_nothing front none,
)
