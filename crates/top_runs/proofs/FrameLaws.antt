-- How many frames are put: one for each key of the traffic.
use Rattle.std.specs.Prelude.{◌≡◌, ◌<◌, ◌≤◌, ◌+◌, ◌*◌, ℕ, suc, Bool, true, false, cond, count_by, filter, flat_map, IsPermutation, List, [], ◌∷◌, length, map, Some, slice_get}
use Rattle.std.specs.List.{list_any, range_with_len}
use Rattle.std.proofs.Common.{refl, sym, ap, ◌∙◌, arith, inl, inr}
use Rattle.std.proofs.lemmas.Bool.{cases_Bool}
use Rattle.std.proofs.lemmas.List.{length-append, length-map}
use Rattle.std.proofs.lemmas.List.FromFn.{length-range_with_len}
use Rattle.std.proofs.lemmas.List.Sorted.{length_permutation}
use Rattle.std.proofs.lemmas.List.Sums.{count_by-le-length, length-filter, sum_by-cons}
use Rattle.generation_frame.specs.Blocks.{pieces}
use Rattle.coded_traffic.proofs.KeyLaws.{key-once}
use Rattle.coded_traffic.specs.Traffic.{Key, Window, is_same_key, key_of, keys_of, live_links_of, pair_of, traffic_of}
use Rattle.lif_outside.specs.Moves.{Move, pairs_put}
use Rattle.node_program.specs.CodeValue.{is_live_in}
use Rattle.node_program.specs.declared.code.Code.{Code}
use Rattle.source_delivery.specs.Putting.{flight_of}
use Rattle.relay_core.proofs.ListLaws.{count-none, same_counts}
use Rattle.relay_core.proofs.PacketLaws.{itself, same_key, times-has, times-none, times_of-map}
use Rattle.relay_core.proofs.TrafficLaws.{among-is}
use Rattle.relay_core.specs.Core.{has_key}
use Rattle.source_delivery.specs.Carried.{IsCarried}

module _ {faithful : Bool} {code : Code} {pattern : ℕ} {window : Window} {moves : List Move} (is : IsCarried faithful code pattern window moves) where
  -- a key stands among the packets put as often as among those of the traffic
  as-often : (key : Key) → count_by (λ other. is_same_key other key) (map key_of is.packets) ≡ count_by (λ other. is_same_key other key) (keys_of code pattern window)
  as-often key = elim (cases_Bool (list_any (λ other. is_same_key other key) (keys_of code pattern window))) [
    | inl among ↦
        let is_key = among-is code pattern window key among in
        omega (arith, times_of-map key is.packets, is.once key, times-has key is.packets ((is.all key).1 is_key), key-once code pattern window key is_key)
    | inr none ↦
        let count = count-none (λ other. is_same_key other key) (keys_of code pattern window) none in
        elim (cases_Bool (has_key key is.packets)) [
          | inl has ↦ absurd (omega (arith, count, key-once code pattern window key ((is.all key).0 has)))
          | inr not_has ↦ omega (arith, count, times_of-map key is.packets, times-none key is.packets not_has)
        ]
  ]

  -- as many pairs were put as the traffic has
  pub length-put : length (pairs_put moves) ≡ length (traffic_of code pattern window)
  length-put =
      let keys = keys_of code pattern window in
      let put = map key_of is.packets in
      let same : IsPermutation keys put = same_counts is_same_key same_key itself put keys as-often in
      length_permutation (map flight_of is.packets) (pairs_put moves) is.puts
      ∙ length-map is.packets flight_of ∙ sym (length-map is.packets key_of) ∙ length_permutation keys put same
      ∙ sym (length-map keys (pair_of code pattern window))

-- lists of one length, one after another
length-all : {X Y : Type 0} (f : X → List Y) (size : ℕ) (xs : List X) → ((x : X) → length (f x) ≡ size) → length (flat_map f xs) ≡ length xs * size
length-all f size [] same = let none : 0 ≡ 0 * size = omega arith in none
length-all f size (x ∷ xs) same =
    let step : size + length xs * size ≡ (1 + length xs) * size = omega arith in
    let one : 1 + length xs ≡ length (x ∷ xs) = omega arith in
    length-append (f x) (flat_map f xs) ∙ ap (λ n. n + length (flat_map f xs)) (same x) ∙ ap (λ n. size + n) (length-all f size xs same)
    ∙ step ∙ ap (λ n. n * size) one

-- how many pairs the traffic has: one for each block, live link and piece
pub length-traffic : (code : Code) (pattern : ℕ) (window : Window) → length (traffic_of code pattern window) ≡ length window.blocks * (length (live_links_of code pattern) * pieces)
length-traffic code pattern window =
    let live = live_links_of code pattern in
    let links : ℕ → ℕ → List Key = λ generation link. map (λ piece. record { link = link; generation = generation; piece = piece }) (range_with_len 0 pieces) in
    length-map (keys_of code pattern window) (pair_of code pattern window)
    ∙ length-all (λ generation. flat_map (links generation) live) (length live * pieces) (range_with_len window.first (length window.blocks))
    (λ generation. length-all (links generation) pieces live (λ link. refl))
    ∙ ap (λ n. n * (length live * pieces)) (length-range_with_len window.first (length window.blocks))

-- a table of truth values has as many that are true as numbers pass
count-table : (test : ℕ → Bool) (first : ℕ) (table : List Bool) → ((e : ℕ) → e < length table → slice_get table e ≡ Some (test (first + e)))
    → count_by (λ is. is) table ≡ length (filter test (range_with_len first (length table)))
count-table test first [] entries = refl
count-table test first (is ∷ table) entries =
    let start : first + 0 ≡ first = omega arith in
    let here : is ≡ test first = some-same (entries 0 (omega arith) ∙ ap (λ n. Some (test n)) start) in
    sum_by-cons (λ is. cond is 1 0) is table
    ∙ ap (λ n. cond is 1 0 + n) (count-table test (first + 1) table (λ e within.
    let place : first + suc e ≡ first + 1 + e = omega arith in
    entries (suc e) (omega (arith, within)) ∙ ap (λ n. Some (test n)) place))
    ∙ by_test is (filter test (range_with_len (first + 1) (length table))) ∙ ap (λ b. length (cond b (first ∷ filter test (range_with_len (first + 1) (length table))) (filter test (range_with_len (first + 1) (length table))))) here
  where
    some-same : {one other : Bool} → Some one ≡ Some other → one ≡ other
    some-same same = cc

    by_test : (is : Bool) (rest : List ℕ) → cond is 1 0 + length rest ≡ length (cond is (first ∷ rest) rest)
    by_test true rest = let one : 1 + length rest ≡ length (first ∷ rest) = omega arith in one
    by_test false rest = let none : 0 + length rest ≡ length rest = omega arith in none

-- so the table of live links tells how many there are
pub count-live : (code : Code) (pattern : ℕ) (live : List Bool) → length live ≡ length code.net.links
    → ((e : ℕ) → e < length code.net.links → slice_get live e ≡ Some (is_live_in code pattern e)) → count_by (λ is. is) live ≡ length (live_links_of code pattern)
count-live code pattern live count entries =
    count-table (is_live_in code pattern) 0 live (λ e within. let place : e ≡ 0 + e = omega arith in entries e (omega (arith, within, count)) ∙ ap (λ n. Some (is_live_in code pattern n)) place)
    ∙ ap (λ n. length (filter (is_live_in code pattern) (range_with_len 0 n))) count

-- there are at most as many as links
pub few-live : (code : Code) (pattern : ℕ) → length (live_links_of code pattern) ≤ 8192
few-live code pattern =
    let links = range_with_len 0 (length code.net.links) in
    omega (arith, length-filter (is_live_in code pattern) links, count_by-le-length (is_live_in code pattern) links, length-range_with_len 0 (length code.net.links), code.net.network.few_links)
