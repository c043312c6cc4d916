-- What the calls on an object account for, whatever it tells.
use Rattle.std.specs.Prelude.{◌≤◌, ℕ, List, Option, Contains}
use Rattle.lif_outside.specs.Counts.{Rose, KeepsCounts}
use Rattle.lif_outside.specs.Events.{Event, read_failed, created, create_failed, append_failed, Follow}
use Rattle.lif_outside.specs.Files.{Files}
use Rattle.lif_outside.specs.Puts.{Put, put_failed, Grow}
use Rattle.lif_outside.specs.Told.{Becomes}

-- Where a store tells its files, they follow the calls. No count falls, a call that failed has raised its path's
-- count, and a path whose create was done is made.
pub record StoreAccounts {S : Type 0} (files : S → Option Files) (read_faults write_faults : S → List ℕ → ℕ) (made : S → List ℕ → Type 0)
    (events : List Event) (old new : S) : Type 0 where
  pub content : Becomes (files old) (files new) (Follow events)
  pub counts : KeepsCounts read_faults write_faults made old new
  pub failed_read : (path : List ℕ) (at room : ℕ) → Contains events (read_failed path at room) → Rose (read_faults old path) (read_faults new path)
  pub failed_create : (path : List ℕ) → Contains events (create_failed path) → Rose (write_faults old path) (write_faults new path)
  pub failed_append : (path bytes : List ℕ) → Contains events (append_failed path bytes) → Rose (write_faults old path) (write_faults new path)
  pub makes : (path : List ℕ) → Contains events (created path) → made new path

-- Where a sink tells its bytes, they grow by the puts. The count doesn't fall, and a put that failed has raised it.
pub record SinkAccounts {C : Type 0} (written : C → Option (List ℕ)) (faults : C → ℕ) (puts : List Put) (old new : C) : Type 0 where
  pub content : Becomes (written old) (written new) (Grow puts)
  pub count : faults old ≤ faults new
  pub failed : (bytes : List ℕ) → Contains puts (put_failed bytes) → Rose (faults old) (faults new)
