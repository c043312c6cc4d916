-- The packets of the traffic have its keys, each once.
use Rattle.std.specs.Prelude.{◌≡◌, ◌≤◌, ◌+◌, ℕ, Bool, true, cond, count_by}
use Rattle.std.specs.List.{list_any}
use Rattle.std.proofs.Common.{arith, inl, inr, subst}
use Rattle.std.proofs.lemmas.Bool.{cases_Bool}
use Rattle.std.proofs.lemmas.List.Folds.{fold-map}
use Rattle.node_program.specs.declared.code.Code.{Code}
use Rattle.coded_traffic.proofs.KeyLaws.{key-once, keys-are}
use Rattle.coded_traffic.specs.Traffic.{IsKey, Key, Window, is_same_key, key_of, keys_of, packet_of}
use Rattle.relay_core.specs.Core.{has_key, packets_of, times_of}
use Rattle.relay_core.proofs.ListLaws.{count-none, passing, some-count}
use Rattle.relay_core.proofs.PacketLaws.{same_key, times-has}

module _ (code : Code) (pattern : ℕ) (window : Window) (key : Key) where
  -- among the keys of the traffic
  abbrev is_among : Bool
  is_among = list_any (λ other. is_same_key other key) (keys_of code pattern window)

  abbrev times : ℕ
  times = count_by (λ other. is_same_key other key) (keys_of code pattern window)

  pub among-is : is_among ≡ true → IsKey code pattern window key
  among-is among =
      let found = passing (IsKey code pattern window) (λ other. is_same_key other key) (keys_of code pattern window) among (keys-are code pattern window) in
      subst (IsKey code pattern window) (same_key found.0 key found.1) found.2

  -- a key stands among them once at most
  pub once-keys : times ≤ 1
  once-keys = elim (cases_Bool is_among) [
    | inl among ↦ omega (arith, key-once code pattern window key (among-is among))
    | inr none ↦ omega (arith, count-none (λ other. is_same_key other key) (keys_of code pattern window) none)
  ]

  -- a key stands among the packets as often as among the keys
  times-packets : times_of key (packets_of code pattern window) ≡ times
  times-packets = fold-map (λ (n : ℕ) packet. n + cond (is_same_key (key_of packet) key) 1 0) (packet_of code pattern window) 0 (keys_of code pattern window)

  pub once-packets : times_of key (packets_of code pattern window) ≤ 1
  once-packets = omega (arith, times-packets, once-keys)

  -- a key stands among the packets where it is one of the traffic
  pub has_key-packets : IsKey code pattern window key → has_key key (packets_of code pattern window) ≡ true
  has_key-packets is =
      some-count (λ packet. is_same_key (key_of packet) key) (packets_of code pattern window) (omega (arith, times-packets, key-once code pattern window key is))

  pub is_key-packets : has_key key (packets_of code pattern window) ≡ true → IsKey code pattern window key
  is_key-packets has =
      among-is (some-count (λ other. is_same_key other key) (keys_of code pattern window) (omega (arith, times-packets, times-has key (packets_of code pattern window) has)))
