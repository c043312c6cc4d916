-- What calls write where the caller says.
use Rattle.std.specs.Prelude.{◌≡◌, ◌++◌, ℕ, Bool, nat_le, true, false, List, length, drop, Result, Ok, Err, if◌then◌else◌}
use Rattle.generation_frame.specs.Blocks.{counted_bytes}
use Rattle.generation_frame.specs.declared.frame.Accepted.{Accepted}
use Rattle.generation_frame.specs.declared.frame.Accepted.TheVariants.{Known, New}
use Rattle.open_nodes.specs.declared.call_error.CallError.{CallError}
use Rattle.open_nodes.specs.declared.call_error.CallError.TheVariants.{BadLength}
use Rattle.lif_c.specs.Statuses.{error_number, ok}

-- an answer is written, or its error is told and nothing is
abbrev pub Writes : {X : Type 0} → Result X CallError → X → X → ℕ → Type 0
Writes (Ok value) old new status = (status ≡ ok) × (new ≡ value)
Writes (Err why) old new status = (status ≡ error_number why) × (new ≡ old)

-- whether what was accepted is new
abbrev pub WritesNew : Result Accepted CallError → Bool → Bool → ℕ → Type 0
WritesNew (Ok New) old new status = (status ≡ ok) × (new ≡ true)
WritesNew (Ok Known) old new status = (status ≡ ok) × (new ≡ false)
WritesNew (Err why) old new status = (status ≡ error_number why) × (new ≡ old)

-- the bytes of a name go before those that stood behind them, where there is room for all
abbrev pub NameGoes : List ℕ → List ℕ → ℕ → List ℕ → ℕ → ℕ → Bool → Type 0
NameGoes name old old_length new new_length status true = (status ≡ ok) × (new ≡ name ++ drop (length name) old) × (new_length ≡ length name)
NameGoes name old old_length new new_length status false = (status ≡ error_number BadLength) × (new ≡ old) × (new_length ≡ old_length)

-- a name, and how many bytes it has
abbrev pub WritesName : Result (List ℕ) CallError → List ℕ → ℕ → List ℕ → ℕ → ℕ → Type 0
WritesName (Ok name) old old_length new new_length status = NameGoes name old old_length new new_length status (nat_le (length name) (length old))
WritesName (Err why) old old_length new new_length status = (status ≡ error_number why) × (new ≡ old) × (new_length ≡ old_length)

-- how many bytes a block counts, where it has a count
abbrev pub count_of : List ℕ → Result ℕ CallError
count_of block = if nat_le 4 (length block) then Ok (length (counted_bytes block)) else Err BadLength
