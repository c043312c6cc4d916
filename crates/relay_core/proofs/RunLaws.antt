-- What holds in every run.
use Rattle.std.specs.Prelude.{◌≡◌, ◌≤◌, ◌<◌, ◌+◌, ◌||◌, ◌++◌, ◌∷◌, ℕ, zero, suc, true, not, cond, IsPermutation, List, [], All, count_by, length, map}
use Rattle.std.specs.List.{list_any}
use Rattle.std.proofs.Common.{arith, inl, inr, refl, sym, ap, subst, ◌∙◌}
use Rattle.std.proofs.lemmas.Bool.{cases_Bool}
use Rattle.std.proofs.lemmas.List.{length-map}
use Rattle.std.proofs.lemmas.List.Elements.{All-head, All-tail}
use Rattle.std.proofs.lemmas.List.Folds.{map_fixed}
use Rattle.std.proofs.lemmas.List.Sorted.{IsPermutation-map}
use Rattle.std.proofs.lemmas.List.Sums.{sum_by-cons}
use Rattle.std.proofs.lemmas.Simd.{map-map}
use Rattle.generation_frame.specs.declared.frame.Packet.{Packet}
use Rattle.net_model.specs.Walks.{leaves_source}
use Rattle.node_program.specs.declared.code.Code.{Code}
use Rattle.coded_traffic.proofs.KeyLaws.{key-once}
use Rattle.coded_traffic.specs.CodeBlocks.{IsBlockOf}
use Rattle.coded_traffic.specs.Traffic.{IsKey, Key, Window, is_same_key, key_of, keys_of, live_operands, packet_of}
use Rattle.relay_core.specs.Core.{Delivery, IsFaithful, IsRun, IsStep, RelayState, has_key, key_on, opening, packets_of}
use Rattle.relay_core.specs.Runs.{AreOfTraffic, IsOfTraffic, Reaches}
use Rattle.relay_core.proofs.FaithfulLaws.{step-faithful}
use Rattle.relay_core.proofs.Kept.{Kept}
use Rattle.relay_core.proofs.LinkLaws.{IsLiveInto, live_operands-into}
use Rattle.relay_core.proofs.ListLaws.{all_pass, count-none, length-fewer, same_counts}
use Rattle.relay_core.proofs.OpeningLaws.{opening-faithful, opening-kept}
use Rattle.relay_core.proofs.PacketLaws.{itself, same_key, times-has, times-none, times_of-map}
use Rattle.relay_core.proofs.StepLaws.{step-count, step-kept}
use Rattle.relay_core.proofs.TrafficLaws.{among-is}

module _ (code : Code) (pattern : ℕ) (window : Window) where
  -- what each step keeps holds after each run
  run-kept : (run : List Delivery) (old new : RelayState) → IsRun code pattern run old new → Kept code pattern window old → Kept code pattern window new
  run-kept [] old new is kept = subst (Kept code pattern window) (sym is) kept
  run-kept (delivery ∷ run) old new is kept = run-kept run is.0 new is.2 (step-kept code pattern window delivery old is.0 is.1 kept)

  run-faithful : All (IsBlockOf code) window.blocks → (run : List Delivery) (old new : RelayState) → IsRun code pattern run old new → IsFaithful run
      → Kept code pattern window old → IsOfTraffic code pattern window old → IsOfTraffic code pattern window new
  run-faithful blocks [] old new is given kept faithful = subst (IsOfTraffic code pattern window) (sym is) faithful
  run-faithful blocks (delivery ∷ run) old new is given kept faithful =
      let Given : Delivery → Type 0 = λ delivery. delivery.payload ≡ delivery.pair.payload in
      run-faithful blocks run is.0 new is.2 (All-tail Given delivery run given) (step-kept code pattern window delivery old is.0 is.1 kept)
      (step-faithful code pattern window blocks delivery old is.0 is.1 kept faithful (All-head Given delivery run given))

  -- a run takes as many pairs as it sends, but for those that fly
  run-count : (run : List Delivery) (old new : RelayState) → IsRun code pattern run old new
      → count_by (λ delivery. not delivery.stays) run + length new.flying + length old.sent ≡ length new.sent + length old.flying
  run-count [] old new is = rw is (omega arith)
  run-count (delivery ∷ run) old new is =
      omega (arith, sum_by-cons (λ delivery. cond (not delivery.stays) 1 0) delivery run, run-count run is.0 new is.2, step-count code pattern window delivery old is.0 is.1)

  module _ (state : RelayState) (kept : Kept code pattern window state) where
    -- where nothing flies each key of a link below a bound was sent
    sent-below : state.flying ≡ [] → (bound : ℕ) (key : Key) → key.link < bound → IsKey code pattern window key → has_key key state.sent ≡ true
    sent-below none zero key below is = absurd (omega arith)
    sent-below none (suc bound) key below is = elim (cases_Bool (leaves_source code.net key.link)) [
      | inl leaves ↦ kept.opened key is leaves
      | inr inner ↦ kept.saturated key is inner
          (all_pass (IsLiveInto code pattern key.link) (λ operand. has_key (key_on operand.from key) state.held) (live_operands code pattern key.link)
          (λ operand into.
          let earlier : IsKey code pattern window (key_on operand.from key) =
          record { begun = is.begun; numbered = is.numbered; of_link = omega (arith, into.earlier, is.of_link); live = into.live; of_piece = is.of_piece } in
          let sent = sent-below none bound (key_on operand.from key) (omega (arith, into.earlier, below)) earlier in
          sym (kept.sent_is (key_on operand.from key) ∙ ap (λ (flying : List Packet). has_key (key_on operand.from key) flying || has_key (key_on operand.from key) state.held) none) ∙ sent)
          (live_operands-into code pattern key.link is.of_link inner))
    ]

    all-sent : state.flying ≡ [] → (key : Key) → IsKey code pattern window key → has_key key state.sent ≡ true
    all-sent none key is = sent-below none (key.link + 1) key (omega arith) is

    -- a key was sent at most as often as it stands in the traffic
    few-sent : (key : Key) → count_by (λ other. is_same_key other key) (map key_of state.sent) ≤ count_by (λ other. is_same_key other key) (keys_of code pattern window)
    few-sent key = elim (cases_Bool (has_key key state.sent)) [
      | inl has ↦ omega (arith, times_of-map key state.sent, kept.sent_once key, key-once code pattern window key (kept.of_traffic key has))
      | inr none ↦ omega (arith, times_of-map key state.sent, times-none key state.sent none)
    ]

    -- and where nothing flies as often
    same-count : state.flying ≡ [] → (key : Key) → count_by (λ other. is_same_key other key) (map key_of state.sent) ≡ count_by (λ other. is_same_key other key) (keys_of code pattern window)
    same-count none key = elim (cases_Bool (list_any (λ other. is_same_key other key) (keys_of code pattern window))) [
      | inl among ↦
          let is = among-is code pattern window key among in
          omega (arith, few-sent key, times_of-map key state.sent, times-has key state.sent (all-sent none key is), key-once code pattern window key is)
      | inr not_among ↦ omega (arith, few-sent key, count-none (λ other. is_same_key other key) (keys_of code pattern window) not_among)
    ]

    length-sent : length state.sent ≤ length (keys_of code pattern window)
    length-sent = omega (arith, length-map state.sent key_of, length-fewer is_same_key same_key itself (map key_of state.sent) (keys_of code pattern window) few-sent)

    -- what was sent, where it is of the traffic and nothing flies, is the traffic
    whole : AreOfTraffic code pattern window state.sent → state.flying ≡ [] → IsPermutation (packets_of code pattern window) state.sent
    whole are none =
        let packet = packet_of code pattern window in
        let keys = keys_of code pattern window in
        let sent = map key_of state.sent in
        let counts : (key : Key) → count_by (λ other. is_same_key other key) sent ≡ count_by (λ other. is_same_key other key) keys =
        λ key. same-count none key in
        let same : IsPermutation keys sent = same_counts is_same_key same_key itself sent keys counts in
        let back : map packet sent ≡ state.sent = map-map packet key_of state.sent ∙ map_fixed (λ p. packet (key_of p)) state.sent (λ k d within. sym (are k d within)) in
        subst (λ (packets : List Packet). IsPermutation (packets_of code pattern window) packets) back (IsPermutation-map packet keys sent same)

  -- what each step keeps holds in every state that a run reaches
  pub reached-kept : (run : List Delivery) (state : RelayState) → IsRun code pattern run (opening code pattern window) state → Kept code pattern window state
  reached-kept run state is = run-kept run (opening code pattern window) state is (opening-kept code pattern window)

  -- what holds in every run
  pub run-reaches : (run : List Delivery) (state : RelayState) → All (IsBlockOf code) window.blocks
      → IsRun code pattern run (opening code pattern window) state → Reaches code pattern window run state
  run-reaches run state blocks is =
      let kept = reached-kept run state is in
      let faithful = λ (given : IsFaithful run).
      run-faithful blocks run (opening code pattern window) state is given (opening-kept code pattern window) (opening-faithful code pattern window) in
      record {
        flying_once = kept.flying_once;
        held_once = kept.held_once;
        sent_once = kept.sent_once;
        sent_is = kept.sent_is;
        of_traffic = kept.of_traffic;
        all_sent = all-sent state kept;
        steps = omega (arith, run-count run (opening code pattern window) state is, length-sent state kept);
        faithful = faithful;
        whole = λ given. whole state kept (faithful given).sent;
      }

-- a run and one more step are a run
pub run-more : (code : Code) (pattern : ℕ) (run : List Delivery) (delivery : Delivery) (old mid new : RelayState)
    → IsRun code pattern run old mid → IsStep code pattern delivery mid new → IsRun code pattern (run ++ delivery ∷ []) old new
run-more code pattern [] delivery old mid new is step = (new, subst (λ (start : RelayState). IsStep code pattern delivery start new) is step, refl)
run-more code pattern (first ∷ run) delivery old mid new is step = (is.0, is.1, run-more code pattern run delivery is.0 mid new is.2 step)
