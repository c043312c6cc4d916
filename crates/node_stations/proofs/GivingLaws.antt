-- What stays when a node gives a packet, and what it gave after it.
use Rattle.std.specs.Prelude.{◌≡◌, ◌≢◌, ◌≤◌, ◌+◌, ◌||◌, ◌++◌, ℕ, Bool, true, false, cond, Contains, List, ◌∷◌}
use Rattle.std.proofs.Common.{refl, sym, ap, subst, ◌∙◌, arith}
use Rattle.std.proofs.lemmas.Bool.{false_from_ne_true, false≢true}
use Rattle.std.proofs.lemmas.List.Sums.{sum_by-cons}
use Rattle.coded_traffic.specs.Traffic.{Key, Window, is_same_key, key_of}
use Rattle.generation_frame.specs.declared.frame.Packet.{Packet}
use Rattle.net_model.specs.Walks.{tail_of}
use Rattle.node_plans.specs.declared.plan.Plan.{Plan}
use Rattle.node_program.specs.declared.code.Code.{Code}
use Rattle.relay_core.proofs.PacketLaws.{has_key-append, itself, same_key, times-none}
use Rattle.relay_core.specs.Core.{has_key, times_of}
use Rattle.relay_node.proofs.TrafficLaws.{out}
use Rattle.relay_node.specs.Relay.{Gives, IsBegun, IsOut, IsSameWork, Relay, is_given}
use Rattle.node_stations.specs.Shown.{ShowsSent, WorksOn}

pub or_none : (a b : Bool) → (a || b) ≡ false → b ≡ false
or_none true b none = absurd (false≢true (sym none))
or_none false b none = none

-- a key stands once at most after one more packet, where it didn't stand if it is the packet's
pub times_more : (key : Key) (packet : Packet) (more : List Packet) → times_of key more ≤ 1 → (is_same_key (key_of packet) key ≡ true → has_key key more ≡ false)
    → times_of key (packet ∷ more) ≤ 1
times_more key packet more few none = omega (arith, sum_by-cons one packet more, by (is_same_key (key_of packet) key) refl)
  where
    one : Packet → ℕ
    one p = cond (is_same_key (key_of p) key) 1 0

    by : (b : Bool) → is_same_key (key_of packet) key ≡ b → cond b 1 0 + times_of key more ≤ 1
    by true same = omega (arith, times-none key more (none same))
    by false apart = omega (arith, few)

module _ (old new : Relay) (work : IsSameWork old new) where
  -- the generations begun stay, and what the node can give
  pub begun_before : (generation : ℕ) → IsBegun new generation → IsBegun old generation
  begun_before generation is =
      record { from_first = omega (arith, work.first, is.from_first); to_last = omega (arith, work.first, work.count, is.to_last) }

  pub out_before : (key : Key) → IsOut new key → IsOut old key
  out_before key is =
      record {
        leaves = subst (λ (plan : Plan). Contains plan.outs key.link) work.plan is.leaves;
        begun = begun_before key.generation is.begun;
        of_piece = is.of_piece;
      }

-- the packet was given besides what was
pub shown_after : (packet : Packet) (old new : Relay) (sent : List Packet) → Gives packet old new → ShowsSent old sent → ShowsSent new (packet ∷ sent)
shown_after packet old new sent gives shown key is = by (is_same_key (key_of packet) key) refl
  where
    before : IsOut old key
    before = out_before old new gives.work key is

    by : (b : Bool) → is_same_key (key_of packet) key ≡ b → is_given new key ≡ (b || has_key key sent)
    by true same = ap (is_given new) (sym (same_key (key_of packet) key same)) ∙ gives.given
    by false apart =
        gives.others key before (λ equal. false≢true (sym apart ∙ ap (is_same_key (key_of packet)) equal ∙ itself (key_of packet)))
        ∙ shown key before

-- what another node sends is nothing that this one can give
pub sent-elsewhere : (code : Code) (pattern node other : ℕ) (window : Window) (relay : Relay) (sent more : List Packet) → WorksOn code pattern node window relay
    → other ≢ node → ((key : Key) → has_key key more ≡ true → tail_of code.net.links key.link ≡ other) → ShowsSent relay sent → ShowsSent relay (more ++ sent)
sent-elsewhere code pattern node other window relay sent more works apart from_other shown key is =
    let leaves = subst (λ (plan : Plan). Contains plan.outs key.link) works.plan is.leaves in
    let lacks : has_key key more ≡ false = false_from_ne_true (has_key key more) (λ has. apart (sym (from_other key has) ∙ (out code pattern node key.link leaves).1)) in
    shown key is ∙ sym (has_key-append key more sent ∙ ap (λ b. b || has_key key sent) lacks)
