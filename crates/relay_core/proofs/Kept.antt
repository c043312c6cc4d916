-- What each step keeps.
use Rattle.std.specs.Prelude.{◌≡◌, ◌≤◌, ◌||◌, ℕ, true, false}
use Rattle.std.proofs.Common.{◌∙◌}
use Rattle.std.proofs.lemmas.Bool.{or_right}
use Rattle.net_model.specs.Walks.{leaves_source}
use Rattle.node_program.specs.declared.code.Code.{Code}
use Rattle.coded_traffic.specs.Traffic.{IsKey, Key, Window}
use Rattle.relay_core.specs.Core.{RelayState, has_key, has_operands, times_of}

pub record Kept (code : Code) (pattern : ℕ) (window : Window) (state : RelayState) : Type 0 where
  -- no key stands twice
  pub flying_once : (key : Key) → times_of key state.flying ≤ 1
  pub held_once : (key : Key) → times_of key state.held ≤ 1
  pub sent_once : (key : Key) → times_of key state.sent ≤ 1
  -- what was sent flies or is held, and is of the traffic
  pub sent_is : (key : Key) → has_key key state.sent ≡ (has_key key state.flying || has_key key state.held)
  pub of_traffic : (key : Key) → has_key key state.sent ≡ true → IsKey code pattern window key
  -- a key of the traffic was sent where its link leaves the source, or where all of its operands are held
  pub opened : (key : Key) → IsKey code pattern window key → leaves_source code.net key.link ≡ true → has_key key state.sent ≡ true
  pub saturated : (key : Key) → IsKey code pattern window key → leaves_source code.net key.link ≡ false
      → has_operands code pattern state.held key ≡ true → has_key key state.sent ≡ true

-- what is held is of the traffic
pub held-is : (code : Code) (pattern : ℕ) (window : Window) (state : RelayState) → Kept code pattern window state → (key : Key) → has_key key state.held ≡ true
    → IsKey code pattern window key
held-is code pattern window state kept key has = kept.of_traffic key (kept.sent_is key ∙ or_right (has_key key state.flying) (has_key key state.held) has)
