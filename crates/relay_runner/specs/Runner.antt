-- What a runner keeps, and what a step leaves of it.
use Rattle.std.specs.Prelude.{◌≡◌, ◌⊎◌, ◌<◌, ◌∷◌, ℕ, Bool, false, List, [], Option, length}
use Rattle.lif_outside.specs.Moves.{Move, open_refused}
use Rattle.node_program.specs.declared.code.Code.{Code}
use Rattle.node_stations.specs.Table.{ArePlanned}
use Rattle.relay_node.specs.Relay.{Relay}
use Rattle.sink_decoder.specs.Receiving.{Receiver}
use Rattle.relay_runner.specs.Decoding.{AreRooms}
use Rattle.relay_runner.specs.Running.{Running}

-- The pattern is one of the code's, as long as no call has failed the nodes and sinks have their plans, and there is room for what
-- each sink decodes.
pub record IsRunner (code : Code) (pattern : ℕ) (relays : List Relay) (sinks : List (Option Receiver)) (decoded : List (List ℕ)) (failed : Bool) : Type 0 where
  pub pattern_is : pattern < length code.net.patterns
  pub planned : failed ≡ false → ArePlanned code pattern relays sinks
  pub each_sink : length decoded ≡ length code.net.sinks
  pub rooms : AreRooms code decoded

-- the code, the pattern and the window stay
pub record IsSameWork (old new : Running) : Type 0 where
  pub code : new.code ≡ old.code
  pub pattern : new.pattern ≡ old.pattern
  pub first : new.first ≡ old.first
  pub count : new.count ≡ old.count
  pub next : new.next ≡ old.next

-- the links weren't called, or were and refused to be opened
abbrev pub IsRefused : {L : Type 0} → (List Move → L → L → Type 0) → ℕ → ℕ → L → L → Type 0
IsRefused moves seed most old new = moves [] old new ⊎ moves (open_refused seed most ∷ []) old new
