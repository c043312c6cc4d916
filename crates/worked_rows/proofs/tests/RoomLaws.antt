-- The room on links after a put, and after a take.
use Rattle.std.specs.Prelude.{◌≡◌, ◌≤◌, ◌<◌, ◌+◌, ◌-◌, ℕ, Bool, [], ◌∷◌, Option, Some, Ok, length}
use Rattle.std.proofs.Common.{arith, ap, subst, ⊎_elim}
use Rattle.std.proofs.lemmas.List.Sorted.{length_permutation}
use Rattle.lif_outside.specs.Moves.{FollowMoves, InFlight, Leaves, Stays, put, take_move}
use Rattle.lif_outside.specs.declared.links.Flight.{Flight}

-- where a pair was put, there is room for one less
pub room-put : (faithful : Bool) (pair : Flight) (free : ℕ) (old new : InFlight) → FollowMoves faithful (put pair ∷ []) old new
    → 0 < free → length old.flying + free ≤ old.room → length new.flying + (free - 1) ≤ new.room
room-put faithful pair free old new follows some fits =
    omega (
      arith,
      some,
      fits,
      length_permutation (pair ∷ old.flying) follows.0.flying follows.1.flying,
      follows.1.as_opened.same_room,
      ap (λ (held : InFlight). length held.flying) follows.2,
      ap (λ (held : InFlight). held.room) follows.2,
    )

-- where a pair was taken that can't be kept, there is room for one
pub room-taken : (faithful : Bool) (flight : Flight) (given : Option Flight) (old new : InFlight) → given ≡ Some flight
    → FollowMoves faithful (take_move (Ok given) ∷ []) old new → old.repeats ≡ 0 → length old.flying ≤ old.room → length new.flying < new.room
room-taken faithful flight given old new is moved none fits =
    let follows = subst (λ (g : Option Flight). FollowMoves faithful (take_move (Ok g) ∷ []) old new) is moved in
    let taken = follows.1 in
    let room = taken.as_opened.same_room in
    let held = ap (λ (held : InFlight). length held.flying) follows.2 in
    let same = ap (λ (held : InFlight). held.room) follows.2 in
    ⊎_elim
    (λ (left : Leaves taken.pair old follows.0). omega (arith, fits, room, held, same, length_permutation old.flying (taken.pair ∷ follows.0.flying) left.flying))
    (λ (stayed : Stays old follows.0). omega (arith, none, stayed.repeats))
    taken.after
