-- Links inside others, which make each call on them.
use Rattle.std.specs.Prelude.{ℕ, Bool, List, Option}
use Rattle.lif_outside.specs.LinksAccounts.{LinksAccounts}
use Rattle.lif_outside.specs.Moves.{InFlight, Move}
use Rattle.lif_outside.specs.declared.links.Flight.{Flight}

-- what the calls account for is what they do on the links inside
pub accounts_inside : {L W : Type 0} (inside : W → L) (holds : L → InFlight) (faithful : L → Bool) (faults : L → ℕ)
    (sent given : L → Option (List Flight)) (moves : List Move) (old new : W)
    → LinksAccounts holds faithful faults sent given moves (inside old) (inside new)
    → LinksAccounts (λ links. holds (inside links)) (λ links. faithful (inside links)) (λ links. faults (inside links))
    (λ links. sent (inside links)) (λ links. given (inside links)) moves old new
accounts_inside inside holds faithful faults sent given moves old new accounts = record {
  follows = accounts.follows;
  same_faithful = accounts.same_faithful;
  sends = accounts.sends;
  gives = accounts.gives;
  count = accounts.count;
  failed = accounts.failed;
  steady = accounts.steady;
}
