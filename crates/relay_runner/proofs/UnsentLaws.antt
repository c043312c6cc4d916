-- What wasn't given yet of a window and what was sent are all of its keys.
use Rattle.std.specs.Prelude.{◌≡◌, ◌≤◌, ◌+◌, ◌++◌, ℕ, Bool, true, false, not, cond, All, Contains, IsPermutation, List, [], ◌∷◌, Option, Some, count_by, length, map, slice_get}
use Rattle.std.specs.Option.{option_map_or}
use Rattle.std.proofs.Common.{arith, ap, refl, inl, inr, sym, subst, ◌∙◌, get_or}
use Rattle.std.proofs.lemmas.Bool.{false_from_ne_true}
use Rattle.std.proofs.lemmas.List.{length-append, length-map, length-replicate}
use Rattle.std.proofs.lemmas.List.Elements.{All-head, All-map, All-tail}
use Rattle.std.proofs.lemmas.List.Folds.{list_any_at}
use Rattle.std.proofs.lemmas.List.Sorted.{All-permutation, length_permutation, sum_by-IsPermutation}
use Rattle.std.proofs.lemmas.List.Sums.{get_or-le-sum_by, sum_by-append, sum_by-cons}
use Rattle.std.proofs.lemmas.Option.{slice_get_cases}
use Rattle.coded_traffic.proofs.KeyLaws.{key-once, keys-are}
use Rattle.coded_traffic.specs.Traffic.{IsKey, Key, Window, is_same_key, key_of, keys_of}
use Rattle.item_list.proofs.Tests.{count_by-none}
use Rattle.net_model.proofs.EndLaws.{ends_below}
use Rattle.net_model.specs.Walks.{tail_of}
use Rattle.node_plans.proofs.PlanLaws.{outs-contains}
use Rattle.node_plans.specs.declared.plan.Plan.{Plan}
use Rattle.node_program.specs.declared.code.Code.{Code}
use Rattle.node_stations.specs.Shown.{Shows}
use Rattle.relay_core.proofs.Kept.{Kept}
use Rattle.relay_core.proofs.ListLaws.{rest_of}
use Rattle.relay_core.proofs.PacketLaws.{itself, same_key, times-has, times_of-map}
use Rattle.relay_core.proofs.RunLaws.{reached-kept}
use Rattle.relay_core.specs.Core.{Delivery, IsRun, RelayState, has_key, opening}
use Rattle.relay_node.specs.Relay.{IsOut, Relay, is_given}
use Rattle.relay_runner.proofs.CountLaws.{few-times}
use Rattle.relay_runner.specs.Unsent.{is_given_at, unsent}

-- where all items pass a test, all are counted
count-all : {X : Type 0} (test : X → Bool) (xs : List X) → All (λ x. test x ≡ true) xs → count_by test xs ≡ length xs
count-all test [] all = refl
count-all {X} test (x ∷ xs) all =
    let one : X → ℕ = λ y. cond (test y) 1 0 in
    let here : test x ≡ true = All-head (λ y. test y ≡ true) x xs all in
    let counted : one x ≡ 1 = rw here refl in
    omega (arith, counted, sum_by-cons one x xs, count-all test xs (All-tail (λ y. test y ≡ true) x xs all))

-- what holds of all items of two lists holds of those of the second
All-second : {X : Type 0} (P : X → Type 0) (xs ys : List X) → All P (xs ++ ys) → All P ys
All-second P [] ys all = all
All-second P (x ∷ xs) ys all = All-second P xs ys (All-tail P x (xs ++ ys) all)

module _ (code : Code) (pattern : ℕ) (window : Window) (run : List Delivery) (state : RelayState) (relays : List Relay)
    (is : IsRun code pattern run (opening code pattern window) state) (shows : Shows code pattern window relays state.held state.sent) where
  abbrev keys : List Key
  keys = keys_of code pattern window

  abbrev sent : List Key
  sent = map key_of state.sent

  abbrev not_given : Key → Bool
  not_given key = not (is_given_at code relays key)

  kept : Kept code pattern window state
  kept = reached-kept code pattern window run state is

  abbrev times : Key → List Key → ℕ
  times key others = count_by (λ other. is_same_key other key) others

  -- a key of the window is given at its link's tail where it was sent
  given-sent : (key : Key) → IsKey code pattern window key → is_given_at code relays key ≡ has_key key state.sent
  given-sent key is_key =
      let node = tail_of code.net.links key.link in
      let ends = ends_below code.net.links (length code.net.nodes) key.link code.net.network.link_ends is_key.of_link in
      elim (slice_get_cases relays node).1 [
        | inl found ↦
            let relay : Relay = found.0 in
            let at : slice_get relays node ≡ Some relay = found.2 in
            let works = (shows.shows node relay at).works in
            let out : IsOut relay key =
            record {
              leaves = subst (λ (plan : Plan). Contains plan.outs key.link) (sym works.plan) (outs-contains code pattern key.link is_key.live);
              begun = record { from_first = omega (arith, works.first, is_key.begun); to_last = omega (arith, works.first, works.count, is_key.numbered) };
              of_piece = is_key.of_piece;
            } in
            ap (λ (there : Option Relay). option_map_or (λ r. is_given r key) there false) at ∙ shows.shown node relay at key out
        | inr past ↦ absurd (omega (arith, past.0, ends.0, shows.count))
      ]

  -- each key that was sent stands once among those of the window, so those are the keys sent and the rest
  parted : (rest : List Key) × IsPermutation keys (sent ++ rest)
  parted = rest_of is_same_key same_key itself sent keys (few-times code pattern window state.sent kept.sent_once kept.of_traffic)

  -- the keys sent are given
  sent-given : All (λ key. not_given key ≡ false) sent
  sent-given = All-map (λ key. not_given key ≡ false) key_of state.sent (λ k d within.
      let key : Key = key_of (get_or state.sent k d) in
      let has : has_key key state.sent ≡ true = list_any_at (λ packet. is_same_key (key_of packet) key) state.sent k d within (itself key) in
      ap not (given-sent key (kept.of_traffic key has) ∙ has))

  -- and the rest aren't
  rest-not : All (λ key. not_given key ≡ true) parted.0
  rest-not k d within =
      let key : Key = get_or parted.0 k d in
      let is_key : IsKey code pattern window key =
      All-second (IsKey code pattern window) sent parted.0
      (All-permutation (IsKey code pattern window) keys (sent ++ parted.0) parted.1 (keys-are code pattern window)) k d within in
      let one : Key → ℕ = λ other. cond (is_same_key other key) 1 0 in
      let own : one key ≡ 1 = rw (itself key) refl in
      let here : one key ≤ times key parted.0 = get_or-le-sum_by one parted.0 k d within in
      let both : times key keys ≡ times key sent + times key parted.0 =
      sym (sum_by-IsPermutation one keys (sent ++ parted.0) parted.1) ∙ sum_by-append one sent parted.0 in
      let lacks : has_key key state.sent ≡ false = false_from_ne_true (has_key key state.sent) (λ has.
      absurd (omega (arith, own, here, both, key-once code pattern window key is_key, times_of-map key state.sent, times-has key state.sent has))) in
      ap not (given-sent key is_key ∙ lacks)

  -- what isn't given and what was sent are all keys of the window
  pub unsent-sent : unsent code pattern window.first (length window.blocks) relays + length state.sent ≡ length keys
  unsent-sent =
      let same : unsent code pattern window.first (length window.blocks) relays ≡ count_by not_given keys =
      rw (length-replicate {A = List ℕ} (length window.blocks) []) refl in
      let one : Key → ℕ = λ key. cond (not_given key) 1 0 in
      omega (
        arith,
        same,
        sum_by-IsPermutation one keys (sent ++ parted.0) parted.1,
        sum_by-append one sent parted.0,
        count_by-none not_given sent sent-given,
        count-all not_given parted.0 rest-not,
        length_permutation keys (sent ++ parted.0) parted.1,
        length-append sent parted.0,
        length-map state.sent key_of,
      )
