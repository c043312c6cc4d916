-- What a step does.
use Rattle.std.specs.Prelude.{◌≡◌, ◌≤◌, ◌+◌, ◌||◌, ◌++◌, ◌∷◌, ℕ, Bool, true, false, not, cond, IsPermutation, List, if◌then◌else◌, length}
use Rattle.std.proofs.Common.{arith, inl, inr, refl, sym, ap, subst, ◌∙◌}
use Rattle.std.proofs.lemmas.Bool.{cases_Bool, cases_eq, or_cases, or_left, or_parts, or_right}
use Rattle.std.proofs.lemmas.List.{length-append}
use Rattle.std.proofs.lemmas.List.Folds.{list_any_at}
use Rattle.std.proofs.lemmas.List.Sorted.{length_permutation, sum_by-IsPermutation}
use Rattle.std.proofs.lemmas.List.Sums.{sum_by-cons}
use Rattle.generation_frame.specs.declared.frame.Packet.{Packet}
use Rattle.net_model.specs.Walks.{head_of, leaves_source, tail_of}
use Rattle.node_program.proofs.LiveLaws.{live-below, live-reads}
use Rattle.node_program.specs.CodeValue.{is_live_in, reads_live_in}
use Rattle.node_program.specs.Value.{operands_at}
use Rattle.node_program.specs.declared.Operand.{Operand}
use Rattle.node_program.specs.declared.code.Code.{Code}
use Rattle.coded_traffic.specs.Traffic.{IsKey, Key, Window, is_same_key, key_of, live_operands}
use Rattle.relay_core.specs.Core.{AreSent, Delivery, IsStep, MaySend, RelayState, has_key, has_operands, key_on, times_of}
use Rattle.relay_core.proofs.Kept.{Kept}
use Rattle.relay_core.proofs.LinkLaws.{IsLiveInto, live_operands-into}
use Rattle.relay_core.proofs.ListLaws.{all_pass, both, both_pass, one_if, or_turned}
use Rattle.relay_core.proofs.PacketLaws.{has_key-append, has_key-held_after, has_key-permutation, same_key, times-none, times_of-append}

-- how often a key stands among packets, after a permutation
times-permutation : (key : Key) (packets others : List Packet) → IsPermutation packets others → times_of key others ≡ times_of key packets
times-permutation key = sum_by-IsPermutation (λ packet. cond (is_same_key (key_of packet) key) 1 0)

-- tests of which one holds where the other does
absorbed : (one other : Bool) → (one ≡ true → other ≡ true) → other ≡ (one || other)
absorbed true other holds = holds refl
absorbed false other holds = refl

-- what is sent, flew or was held flies or is held, as tests
moved : (more flew pair flies held : Bool) → (more || flew) ≡ (pair || flies) → (more || (flew || held)) ≡ (flies || (pair || held))
moved more flew pair flies held e = joined more flew held ∙ ap (λ b. b || held) e ∙ sym (or_turned flies pair held)
  where
    joined : (a b c : Bool) → (a || (b || c)) ≡ ((a || b) || c)
    joined true b c = refl
    joined false b c = refl

-- a key of a live link whose operands are held is of the traffic where all that is held is
pub operands-are : (code : Code) (pattern : ℕ) (window : Window) (held : List Packet) → ((key : Key) → has_key key held ≡ true → IsKey code pattern window key)
    → (key : Key) → is_live_in code pattern key.link ≡ true → has_operands code pattern held key ≡ true → IsKey code pattern window key
operands-are code pattern window held are key live all =
    let found = both_pass (reads_live_in code pattern key.link) (λ operand. has_key (key_on operand.from key) held)
    (operands_at code.operands key.link) (live-reads code pattern key.link live) all in
    let is = are (key_on found.0.from key) found.2 in
    record { begun = is.begun; numbered = is.numbered; of_link = live-below code pattern key.link live; live = live; of_piece = is.of_piece }

-- no key of what is sent was sent before
pub sent-more : (code : Code) (pattern node : ℕ) (held sent more : List Packet) → AreSent code pattern node held sent more
    → (key : Key) → has_key key more ≡ true → has_key key sent ≡ false
sent-more code pattern node held sent more sends key has = ((sends.keys key).0 has).unsent

module _ (code : Code) (pattern : ℕ) (window : Window) (delivery : Delivery) (old new : RelayState) (step : IsStep code pattern delivery old new) where
  -- whether a key is that of the pair
  abbrev of_pair : Key → Bool
  of_pair key = is_same_key (key_of delivery.pair) key

  -- the keys of what was sent, of what is held and of what flies
  pub has-sent : (key : Key) → has_key key new.sent ≡ (has_key key step.more || has_key key old.sent)
  has-sent key = sym (has_key-permutation key (step.more ++ old.sent) new.sent step.sent) ∙ has_key-append key step.more old.sent

  -- the pair's key flew
  pair-flew : (key : Key) → of_pair key ≡ true → has_key key old.flying ≡ true
  pair-flew key same =
      list_any_at (λ packet. is_same_key (key_of packet) key) old.flying step.flew.0 delivery.pair step.flew.1
      (ap (λ packet. is_same_key (key_of packet) key) step.flew.2 ∙ same)

  has-held : (key : Key) → has_key key new.held ≡ (of_pair key || has_key key old.held)
  has-held key = ap (has_key key) step.held ∙ has_key-held_after key delivery old.held

  -- what flew or is sent, flies or is the pair
  has-flying : (key : Key) → (has_key key step.more || has_key key old.flying) ≡ (of_pair key || has_key key new.flying)
  has-flying key = by delivery.stays (sym (has_key-append key step.more old.flying) ∙ has_key-permutation key (step.more ++ old.flying) _ step.flying)
    where
      by : (stays : Bool) → (has_key key step.more || has_key key old.flying) ≡ has_key key (if stays then new.flying else delivery.pair ∷ new.flying)
          → (has_key key step.more || has_key key old.flying) ≡ (of_pair key || has_key key new.flying)
      by true e = e ∙ absorbed (of_pair key) (has_key key new.flying) (λ same. sym e ∙ or_right (has_key key step.more) (has_key key old.flying) (pair-flew key same))
      by false e = e

  -- so no more flies than flew and is sent
  times-flying : (key : Key) → times_of key new.flying ≤ times_of key step.more + times_of key old.flying
  times-flying key =
      by delivery.stays (sym (times_of-append key step.more old.flying) ∙ sym (times-permutation key (step.more ++ old.flying) _ step.flying))
    where
      by : (stays : Bool) → times_of key step.more + times_of key old.flying ≡ times_of key (if stays then new.flying else delivery.pair ∷ new.flying)
          → times_of key new.flying ≤ times_of key step.more + times_of key old.flying
      by true e = omega (arith, e)
      by false e = omega (arith, e, sum_by-cons (λ packet. cond (is_same_key (key_of packet) key) 1 0) delivery.pair new.flying)

  -- each step makes as many packets as it takes, counted by those that were sent
  pub step-count : cond (not delivery.stays) 1 0 + length new.flying + length old.sent ≡ length new.sent + length old.flying
  step-count =
      let sent = length_permutation (step.more ++ old.sent) new.sent step.sent in
      let flying = length_permutation (step.more ++ old.flying) _ step.flying in
      by delivery.stays (flying ∙ length-append step.more old.flying) (sent ∙ length-append step.more old.sent)
    where
      by : (stays : Bool) → length (if stays then new.flying else delivery.pair ∷ new.flying) ≡ length step.more + length old.flying
          → length new.sent ≡ length step.more + length old.sent
          → cond (not stays) 1 0 + length new.flying + length old.sent ≡ length new.sent + length old.flying
      by true flying sent = omega (arith, flying, sent)
      by false flying sent = omega (arith, flying, sent)

  module _ (kept : Kept code pattern window old) where
    -- what is sent didn't fly and wasn't held
    none-flew : (key : Key) → has_key key step.more ≡ true → times_of key old.flying ≡ 0
    none-flew key has =
        times-none key old.flying (or_parts (has_key key old.flying) (has_key key old.held) (sym (kept.sent_is key) ∙ sent-more code pattern _ new.held old.sent step.more step.sends key has)).0

    flying-once : (key : Key) → times_of key new.flying ≤ 1
    flying-once key = elim (cases_Bool (has_key key step.more)) [
      | inl has ↦ omega (arith, times-flying key, none-flew key has, step.sends.once key)
      | inr none ↦ omega (arith, times-flying key, times-none key step.more none, kept.flying_once key)
    ]

    sent-once : (key : Key) → times_of key new.sent ≤ 1
    sent-once key =
        let all : times_of key new.sent ≡ times_of key step.more + times_of key old.sent =
        times-permutation key (step.more ++ old.sent) new.sent step.sent ∙ times_of-append key step.more old.sent in
        elim (cases_Bool (has_key key step.more)) [
          | inl has ↦ omega (arith, all, times-none key old.sent (sent-more code pattern _ new.held old.sent step.more step.sends key has), step.sends.once key)
          | inr none ↦ omega (arith, all, times-none key step.more none, kept.sent_once key)
        ]

    held-once : (key : Key) → times_of key new.held ≤ 1
    held-once key = subst (λ (held : List Packet). times_of key held ≤ 1) (sym step.held) (elim (cases_Bool (has_key (key_of delivery.pair) old.held)) [
      | inl has ↦ rw has (kept.held_once key)
      | inr none ↦ rw none (one_more none)
    ])
      where
        one_more : has_key (key_of delivery.pair) old.held ≡ false → times_of key (record delivery.pair { payload = delivery.payload } ∷ old.held) ≤ 1
        one_more none =
            let more = sum_by-cons (λ packet. cond (is_same_key (key_of packet) key) 1 0) (record delivery.pair { payload = delivery.payload }) old.held in
            elim (cases_Bool (of_pair key)) [
              | inl same ↦
                  let no : times_of key old.held ≡ 0 = times-none key old.held (ap (λ other. has_key other old.held) (sym (same_key (key_of delivery.pair) key same)) ∙ none) in
                  let one : one_if (of_pair key) ≡ 1 = rw same refl in
                  omega (arith, more, one, no)
              | inr apart ↦
                  let none : one_if (of_pair key) ≡ 0 = rw apart refl in
                  omega (arith, more, none, kept.held_once key)
            ]

    sent-is : (key : Key) → has_key key new.sent ≡ (has_key key new.flying || has_key key new.held)
    sent-is key =
        has-sent key ∙ ap (λ b. has_key key step.more || b) (kept.sent_is key)
        ∙ moved (has_key key step.more) (has_key key old.flying) (of_pair key) (has_key key new.flying) (has_key key old.held) (has-flying key)
        ∙ ap (λ b. has_key key new.flying || b) (sym (has-held key))

    -- what is held was sent
    held-sent : (key : Key) → has_key key new.held ≡ true → has_key key old.sent ≡ true
    held-sent key has = elim (or_cases (of_pair key) (has_key key old.held) (sym (has-held key) ∙ has)) [
      | inl same ↦ kept.sent_is key ∙ or_left (has_key key old.flying) (has_key key old.held) (pair-flew key same)
      | inr held ↦ kept.sent_is key ∙ or_right (has_key key old.flying) (has_key key old.held) held
    ]

    -- what is sent is of the traffic
    pub more-is : (key : Key) → has_key key step.more ≡ true → IsKey code pattern window key
    more-is key has =
        let may = (step.sends.keys key).0 has in
        operands-are code pattern window new.held (λ other held. kept.of_traffic other (held-sent other held)) key may.live may.operands

    of-traffic : (key : Key) → has_key key new.sent ≡ true → IsKey code pattern window key
    of-traffic key has = elim (or_cases (has_key key step.more) (has_key key old.sent) (sym (has-sent key) ∙ has)) [
      | inl more ↦ more-is key more
      | inr sent ↦ kept.of_traffic key sent
    ]

    stays-sent : (key : Key) → has_key key old.sent ≡ true → has_key key new.sent ≡ true
    stays-sent key sent = has-sent key ∙ or_right (has_key key step.more) (has_key key old.sent) sent

    -- the operands of a link that doesn't leave the node were held before
    held-before : (key : Key) → IsKey code pattern window key → leaves_source code.net key.link ≡ false
        → (tail_of code.net.links key.link ≡ head_of code.net.links delivery.pair.link → ⊥)
        → has_operands code pattern new.held key ≡ true → has_operands code pattern old.held key ≡ true
    held-before key is inner elsewhere all =
        let live = live_operands code pattern key.link in
        let Into : Operand → Type 0 = IsLiveInto code pattern key.link in
        let now : Operand → Bool = λ operand. has_key (key_on operand.from key) new.held in
        all_pass (λ operand. Into operand × (now operand ≡ true)) (λ operand. has_key (key_on operand.from key) old.held) live (λ operand is_now.
        let other = key_on operand.from key in
        elim (or_cases (of_pair other) (has_key other old.held) (sym (has-held other) ∙ is_now.1)) [
          | inl same ↦
              let link : delivery.pair.link ≡ operand.from = ap (λ (k : Key). k.link) (same_key (key_of delivery.pair) other same) in
              absurd (elsewhere (sym is_now.0.into_tail ∙ ap (head_of code.net.links) (sym link)))
          | inr before ↦ before
        ]) (both Into now live (live_operands-into code pattern key.link is.of_link inner) all)

    saturated : (key : Key) → IsKey code pattern window key → leaves_source code.net key.link ≡ false
        → has_operands code pattern new.held key ≡ true → has_key key new.sent ≡ true
    saturated key is inner all = elim (cases_eq (tail_of code.net.links key.link) (head_of code.net.links delivery.pair.link)) [
      | inr elsewhere ↦ stays-sent key (kept.saturated key is inner (held-before key is inner elsewhere all))
      | inl here ↦ elim (cases_Bool (has_key key old.sent)) [
        | inl sent ↦ stays-sent key sent
        | inr unsent ↦
            let may : MaySend code pattern (head_of code.net.links delivery.pair.link) new.held old.sent key =
            record { live = is.live; from_node = here; not_source = inner; operands = all; unsent = unsent } in
            has-sent key ∙ or_left (has_key key step.more) (has_key key old.sent) ((step.sends.keys key).1 may)
      ]
    ]

    pub step-kept : Kept code pattern window new
    step-kept = record {
      flying_once = flying-once;
      held_once = held-once;
      sent_once = sent-once;
      sent_is = sent-is;
      of_traffic = of-traffic;
      opened = λ key is leaves. stays-sent key (kept.opened key is leaves);
      saturated = saturated;
    }
