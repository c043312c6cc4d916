-- What the calls on links account for, whatever the links tell.
use Rattle.std.specs.Prelude.{◌≡◌, ◌≤◌, ℕ, Bool, true, false, List, ◌++◌, Option}
use Rattle.std.specs.List.{list_any}
use Rattle.lif_outside.specs.declared.links.Flight.{Flight}
use Rattle.lif_outside.specs.Counts.{Rose}
use Rattle.lif_outside.specs.Moves.{Move, InFlight, FollowMoves, pairs_put, flights_given, is_fault}
use Rattle.lif_outside.specs.Told.{Becomes}

-- what flies on links, of the meanings that they give
abbrev pub holding : {L : Type 0} → (L → List Flight) → (L → ℕ) → (L → ℕ) → (L → ℕ) → L → InFlight
holding flying room opened_with repeats links =
    record { flying = flying links; room = room links; seed = opened_with links; repeats = repeats links }

-- these were added at the end
abbrev pub Adds : List Flight → List Flight → List Flight → Type 0
Adds more old new = new ≡ old ++ more

-- What flies follows the calls, and so do the pairs put and given, where they are told. The count doesn't fall, and a
-- put or a take that failed has raised it. Where none failed, it stays.
pub record LinksAccounts {L : Type 0} (holds : L → InFlight) (faithful : L → Bool) (faults : L → ℕ)
    (sent given : L → Option (List Flight)) (moves : List Move) (old new : L) : Type 0 where
  pub follows : FollowMoves (faithful old) moves (holds old) (holds new)
  pub same_faithful : faithful new ≡ faithful old
  pub sends : Becomes (sent old) (sent new) (Adds (pairs_put moves))
  pub gives : Becomes (given old) (given new) (Adds (flights_given moves))
  pub count : faults old ≤ faults new
  pub failed : list_any is_fault moves ≡ true → Rose (faults old) (faults new)
  pub steady : list_any is_fault moves ≡ false → faults new ≡ faults old
