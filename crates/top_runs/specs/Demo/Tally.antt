-- Sinks of which only the sum of their bytes is kept.
use Rattle.std.specs.Prelude.{◌≡◌, ◌+◌, ◌%◌, ◌^◌, ℕ, List, Option, None, sum, sum_by}
use Rattle.lif_outside.specs.Accounts.{StoreAccounts}
use Rattle.lif_outside.specs.Events.{Event, appended}
use Rattle.lif_outside.specs.Files.{Files}
use Rattle.top_runs.specs.declared.tally.Tally.{Tally}

-- it tells nothing of files, any path may be appended to, and no call fails
abbrev pub no_files : Tally → Option Files
no_files tally = None

abbrev pub no_faults : Tally → List ℕ → ℕ
no_faults tally path = 0

abbrev pub any_path : Tally → List ℕ → Type 0
any_path tally path = Unit {0}

-- the sum of the bytes of an append
abbrev pub sum_of : Event → ℕ
sum_of (appended path bytes) = sum bytes
sum_of event = 0

-- calls lead from one state to another where no count rises and the sum grows by what was appended, as 64 bits count it
pub record Tallies (events : List Event) (old new : Tally) : Type 0 where
  pub accounts : StoreAccounts no_files no_faults no_faults any_path events old new
  pub grown : new.sum % 2 ^ 64 ≡ (old.sum + sum_by sum_of events) % 2 ^ 64
