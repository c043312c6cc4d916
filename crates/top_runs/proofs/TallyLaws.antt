-- Sinks of which only the sum of their bytes is kept: no call fails, and the sum is that of all that the sinks get.
use Rattle.std.specs.Prelude.{◌≡◌, ◌<◌, ◌+◌, ◌*◌, ℕ, zero, suc, Bool, true, false, cond, filter, flat_map, nat_lt, List, [], ◌∷◌, ◌++◌, length, map, sum, sum_by}
use Rattle.std.specs.List.{concat, range_with_len}
use Rattle.std.proofs.Common.{refl, sym, ap, ◌∙◌, arith}
use Rattle.std.proofs.lemmas.Bool.{ltb-false}
use Rattle.std.proofs.lemmas.Grind.{flat_map-append}
use Rattle.std.proofs.lemmas.List.{append-nil}
use Rattle.std.proofs.lemmas.List.Sums.{sum_by-append, sum_by-cons}
use Rattle.generation_frame.specs.Blocks.{piece_of, pieces_before}
use Rattle.generation_frame.proofs.PieceLaws.{pieces_before-more}
use Rattle.generation_frame.specs.declared.frame.Packet.{Packet}
use Rattle.lif_outside.proofs.TurnLaws.{appends-fault}
use Rattle.net_maker.proofs.SubsetLaws.{range-more}
use Rattle.lif_outside.specs.Events.{Event, appended}
use Rattle.lif_outside.specs.FileCalls.{AreAppendsTo, StopsWithin, Written, appends_of}
use Rattle.node_program.specs.declared.code.Code.{Code}
use Rattle.top_runs.specs.Demo.Runs.{received_before}
use Rattle.top_runs.specs.Demo.Tally.{Tallies, sum_of}
use Rattle.command_steps.specs.Filling.{has_bytes}
use Rattle.source_delivery.specs.Turns.{Outputs, one_each, part_at, received_at, turn_at, turns_before}
use Rattle.source_delivery.specs.declared.parts.Parts.TheVariants.{One}
use Rattle.top_runs.specs.declared.tally.Tally.{Tally}

-- no append fails
pub tallies-unstopped : (paths : List (List ℕ)) (these events : List Event) (old new : Tally) → AreAppendsTo paths these → StopsWithin these events → Tallies events old new → ⊥
tallies-unstopped paths these events old new are stop is =
    let fault = appends-fault paths these events are stop in
    absurd (omega (arith, is.accounts.failed_append fault.0 fault.1 fault.3))

-- ---- what the sinks get

-- no bytes have no sum
no_sum : (bytes : List ℕ) → nat_lt 0 (length bytes) ≡ false → sum bytes ≡ 0
no_sum [] none = refl
no_sum (byte ∷ bytes) none = absurd (omega (arith, ltb-false 0 (length (byte ∷ bytes)) none))

-- products of sums
more-times : (n a : ℕ) → n * a + a ≡ (n + 1) * a
more-times n a = omega arith

times-sum : (n a b : ℕ) → n * (a + b) ≡ n * a + n * b
times-sum n a b = omega arith

add-assoc : (a b c : ℕ) → a + (b + c) ≡ a + b + c
add-assoc a b c = omega arith

-- the sum of what is appended in one turn is that of what the sinks get
module _ (outputs : Outputs) (code : Code) (pattern : ℕ) (came : List Packet) (generation : ℕ) where
  abbrev calls_at : List ℕ → List Event
  calls_at places = map (λ (part : Written). appended part.0 part.1) (filter has_bytes (map (part_at outputs code pattern came generation) places))

  sum-turn : (places : List ℕ) → sum_by sum_of (calls_at places) ≡ sum (flat_map (received_at outputs.parts code pattern came generation) places)
  sum-turn [] = refl
  sum-turn (place ∷ places) =
      let bytes = received_at outputs.parts code pattern came generation place in
      let rest = flat_map (received_at outputs.parts code pattern came generation) places in
      by_test bytes (nat_lt 0 (length bytes)) refl ∙ ap (λ n. sum bytes + n) (sum-turn places) ∙ sym (sum_by-append (λ byte. byte) bytes rest)
    where
      part : Written
      part = part_at outputs code pattern came generation place

      parts : List Written
      parts = filter has_bytes (map (part_at outputs code pattern came generation) places)

      by_test : (bytes : List ℕ) (test : Bool) → nat_lt 0 (length bytes) ≡ test
          → sum_by sum_of (map (λ (part : Written). appended part.0 part.1) (cond test ((part.0, bytes) ∷ parts) parts)) ≡ sum bytes + sum_by sum_of (calls_at places)
      by_test bytes true is = sum_by-cons sum_of (appended part.0 bytes) (calls_at places)
      by_test bytes false none =
          let zero : sum_by sum_of (calls_at places) ≡ 0 + sum_by sum_of (calls_at places) = omega arith in
          zero ∙ sym (ap (λ n. n + sum_by sum_of (calls_at places)) (no_sum bytes none))

-- and so it is in all turns
module _ (paths : List (List ℕ)) (code : Code) (came : List Packet) (each : length paths ≡ length code.net.sinks) where
  sum-turns_at : (generations : List ℕ)
      → sum_by sum_of (appends_of (map (turn_at (one_each paths) code 0 came) generations))
      ≡ sum (flat_map (λ generation. flat_map (received_at One code 0 came generation) (range_with_len 0 (length code.net.sinks))) generations)
  sum-turns_at [] = refl
  sum-turns_at (generation ∷ generations) =
      let here = calls_at (one_each paths) code 0 came generation (range_with_len 0 (length paths)) in
      let bytes = flat_map (received_at One code 0 came generation) (range_with_len 0 (length code.net.sinks)) in
      let rest = flat_map (λ generation. flat_map (received_at One code 0 came generation) (range_with_len 0 (length code.net.sinks))) generations in
      sum_by-append sum_of here (appends_of (map (turn_at (one_each paths) code 0 came) generations))
      ∙ ap (λ n. n + sum_by sum_of (appends_of (map (turn_at (one_each paths) code 0 came) generations)))
      (sum-turn (one_each paths) code 0 came generation (range_with_len 0 (length paths)) ∙ ap (λ n. sum (flat_map (received_at One code 0 came generation) (range_with_len 0 n))) each)
      ∙ ap (λ n. sum bytes + n) (sum-turns_at generations)
      ∙ sym (sum_by-append (λ byte. byte) bytes rest)

  pub sum-turns : (generations : ℕ) → sum_by sum_of (appends_of (turns_before (one_each paths) code 0 came generations)) ≡ sum (received_before code came generations)
  sum-turns generations = sum-turns_at (range_with_len 0 generations)

-- ---- where each sink gets the pieces of a file

-- the bytes of one number more
flat_map-more : (f : ℕ → List ℕ) (count : ℕ) → sum (flat_map f (range_with_len 0 (count + 1))) ≡ sum (flat_map f (range_with_len 0 count)) + sum (f count)
flat_map-more f count =
    let those = flat_map f (range_with_len 0 count) in
    let place : 0 + count ≡ count = omega arith in
    ap (λ numbers. sum (flat_map f numbers)) (range-more 0 count)
    ∙ ap sum (flat_map-append f (range_with_len 0 count) ((0 + count) ∷ []))
    ∙ sum_by-append (λ byte. byte) those (f (0 + count) ++ [])
    ∙ ap (λ (bytes : List ℕ). sum those + sum bytes) (append-nil (f (0 + count)))
    ∙ ap (λ n. sum those + sum (f n)) place

-- so many times the same bytes
sum-each : (bytes : List ℕ) (f : ℕ → List ℕ) (count : ℕ) → ((place : ℕ) → place < count → f place ≡ bytes) → sum (flat_map f (range_with_len 0 count)) ≡ count * sum bytes
sum-each bytes f zero same = let none : 0 ≡ 0 * sum bytes = omega arith in none
sum-each bytes f (suc count) same =
    let one : suc count ≡ count + 1 = omega arith in
    let step : count * sum bytes + sum bytes ≡ (count + 1) * sum bytes = more-times count (sum bytes) in
    ap (λ n. sum (flat_map f (range_with_len 0 n))) one
    ∙ flat_map-more f count
    ∙ ap (λ n. n + sum (f count)) (sum-each bytes f count (λ place below. same place (omega (arith, below))))
    ∙ ap (λ (last : List ℕ). count * sum bytes + sum last) (same count (omega arith))
    ∙ step ∙ ap (λ n. n * sum bytes) (sym one)

module _ (code : Code) (came : List Packet) (file : List ℕ) (rate : ℕ) where
  sum-one : (piece : List ℕ) → sum (concat (cond (nat_lt 0 (length piece)) (piece ∷ []) [])) ≡ sum piece
  sum-one piece = by_test (nat_lt 0 (length piece)) refl
    where
      by_test : (test : Bool) → nat_lt 0 (length piece) ≡ test → sum (concat (cond test (piece ∷ []) [])) ≡ sum piece
      by_test true some = ap sum (append-nil piece)
      by_test false none = sym (no_sum piece none)

  concat-append : (xs ys : List (List ℕ)) → sum (concat (xs ++ ys)) ≡ sum (concat xs) + sum (concat ys)
  concat-append [] ys = let none : sum (concat ys) ≡ 0 + sum (concat ys) = omega arith in none
  concat-append (x ∷ xs) ys =
      sum_by-append (λ byte. byte) x (concat (xs ++ ys)) ∙ ap (λ n. sum x + n) (concat-append xs ys)
      ∙ add-assoc (sum x) (sum (concat xs)) (sum (concat ys)) ∙ ap (λ n. n + sum (concat ys)) (sym (sum_by-append (λ byte. byte) x (concat xs)))

  -- the sum is that of the pieces, for each sink
  pub sum-pieces : (generations : ℕ) → ((generation place : ℕ) → generation < generations → place < length code.net.sinks → received_at One code 0 came generation place ≡ piece_of file rate generation)
      → sum (received_before code came generations) ≡ length code.net.sinks * sum (concat (pieces_before file rate generations))
  sum-pieces zero pieces = let none : 0 ≡ length code.net.sinks * 0 = omega arith in none
  sum-pieces (suc generations) pieces =
      let one : suc generations ≡ generations + 1 = omega arith in
      let sinks = length code.net.sinks in
      let piece = piece_of file rate generations in
      let all : ℕ → List ℕ = λ generation. flat_map (received_at One code 0 came generation) (range_with_len 0 sinks) in
      ap (λ n. sum (received_before code came n)) one
      ∙ flat_map-more all generations
      ∙ ap (λ n. n + sum (all generations)) (sum-pieces generations (λ generation place below within. pieces generation place (omega (arith, below)) within))
      ∙ ap (λ n. sinks * sum (concat (pieces_before file rate generations)) + n) (sum-each piece (received_at One code 0 came generations) sinks (λ place within. pieces generations place (omega arith) within))
      ∙ sym (times-sum sinks (sum (concat (pieces_before file rate generations))) (sum piece))
      ∙ ap (λ n. sinks * (sum (concat (pieces_before file rate generations)) + n)) (sym (sum-one piece))
      ∙ ap (λ n. sinks * n) (sym (concat-append (pieces_before file rate generations) (cond (nat_lt 0 (length piece)) (piece ∷ []) [])))
      ∙ ap (λ pieces. sinks * sum (concat pieces)) (sym (pieces_before-more file rate generations))
      ∙ ap (λ n. sinks * sum (concat (pieces_before file rate n))) (sym one)
