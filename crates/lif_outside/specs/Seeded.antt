-- Links in memory that give what flies in an order that a number decides.
use Rattle.std.specs.Prelude.{◌≡◌, ℕ, ◌%◌, List, Option, Some, None, Bool, true, length, slice_get, swap_remove}
use Rattle.rand_pcg.specs.Lcg.{Lcg, started, increment_of}
use Rattle.rand_pcg.specs.Pcg.{multiplier_64, pcg32}
use Rattle.lif_outside.specs.declared.links.Flight.{Flight}
use Rattle.lif_outside.specs.declared.seeded.SeedLinks.{SeedLinks}
use Rattle.lif_outside.specs.LinksAccounts.{LinksAccounts}
use Rattle.lif_outside.specs.Moves.{InFlight, Move}

-- what flies on the links: no pair is ever kept
abbrev pub held_by : SeedLinks → InFlight
held_by links =
    record { flying = links.flying.items; room = links.room; seed = links.seed; repeats = 0 }

-- the generator of the order, and the one that a number starts, in the stream 54
abbrev pub generator_in : SeedLinks → Lcg
generator_in links = links.generator

abbrev pub generator_for : ℕ → Lcg
generator_for seed = started 64 multiplier_64 seed (increment_of 64 54)

-- they are faithful, never fail, and tell neither what was put nor what was given
abbrev pub always : SeedLinks → Bool
always links = true

abbrev pub no_faults : SeedLinks → ℕ
no_faults links = 0

abbrev pub untold : SeedLinks → Option (List Flight)
untold links = None

-- calls lead from one state to another where they account for it
abbrev pub moves_by : List Move → SeedLinks → SeedLinks → Type 0
moves_by moves old new = LinksAccounts held_by always no_faults untold untold moves old new

-- The pair at the next word's place, counted round, was taken, and the last one moved into the gap.
pub record IsPicked (flight : Flight) (old new : SeedLinks) : Type 0 where
  pub place : ℕ
  pub by_word : place ≡ (pcg32 (generator_in old)).0 % length (held_by old).flying
  pub flew : slice_get (held_by old).flying place ≡ Some flight
  pub gap : (held_by new).flying ≡ swap_remove (held_by old).flying place flight
  pub generator : generator_in new ≡ (pcg32 (generator_in old)).1
