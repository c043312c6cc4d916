-- Turns in which sinks' files get what came: turn by turn, sink by sink, and those of a source.
use Rattle.std.specs.Prelude.{◌≡◌, ◌<◌, ◌≤◌, ◌+◌, ◌-◌, ℕ, zero, suc, Bool, true, false, cond, nat_lt, List, [], ◌∷◌, ◌++◌, Contains, filter, length, map, slice_index_or, Result, Ok, Err, OnOk, OnErr}
use Rattle.std.specs.List.{range_with_len}
use Rattle.std.proofs.Common.{refl, sym, ap, ◌∙◌, subst, arith}
use Rattle.std.proofs.lemmas.List.{append-nil, append_assoc, map-append}
use Rattle.std.proofs.lemmas.List.Elements.{Contains-get_or}
use Rattle.std.proofs.lemmas.List.FromFn.{filter_of_map_range_with_len_more, map-range_with_len_more}
use Rattle.generation_frame.specs.Blocks.{counted_bytes}
use Rattle.generation_frame.specs.declared.frame.Packet.{Packet}
use Rattle.lif_outside.proofs.CallLaws.{calls_of}
use Rattle.lif_outside.proofs.FileCallLaws.{appends-append}
use Rattle.lif_outside.proofs.SequenceLaws.{stops_behind, stops_first, stops_here}
use Rattle.lif_outside.proofs.TurnLaws.{appends_of-append}
use Rattle.lif_outside.specs.Calls.{ByCalls}
use Rattle.lif_outside.specs.Events.{Event, append_event, append_failed, appended}
use Rattle.lif_outside.specs.FileCalls.{AreAppendsTo, StopsWithin, Written, appends_of}
use Rattle.lif_outside.specs.Moves.{Move}
use Rattle.lif_outside.specs.Sequences.{Are}
use Rattle.lif_outside.specs.declared.Failed.{Failed}
use Rattle.item_list.proofs.Maps.{same_made}
use Rattle.node_program.specs.declared.code.Code.{Code}
use Rattle.node_stations.specs.Decoded.{decoded_of}
use Rattle.node_stations.specs.Opening.{demand_of}
use Rattle.relay_runner.proofs.JoinLaws.{range-append}
use Rattle.command_steps.specs.Filling.{has_bytes}
use Rattle.source_delivery.specs.Parts.{rows_of, sink_of}
use Rattle.source_delivery.specs.Turns.{Outputs, part_at, parts_from, received_at, turn_at, turns_before, turns_from}

-- the append of a part, and those of the parts of one turn
abbrev part_call : Written → Event
part_call part = appended part.0 part.1

calls-alone : (parts : List Written) → appends_of (parts ∷ []) ≡ map part_call parts
calls-alone parts = append-nil (map part_call parts)

-- the appends of one turn, part by part
pub calls-append : (parts others : List Written) → appends_of ((parts ++ others) ∷ []) ≡ appends_of (parts ∷ []) ++ appends_of (others ∷ [])
calls-append parts others =
    calls-alone (parts ++ others) ∙ map-append part_call parts others
    ∙ ap (λ first. first ++ map part_call others) (sym (calls-alone parts))
    ∙ ap (λ later. appends_of (parts ∷ []) ++ later) (sym (calls-alone others))

module _ (outputs : Outputs) (code : Code) (pattern : ℕ) where
  abbrev Alike : List Packet → List Packet → ℕ → Type 0
  Alike one other generation =
      (sink : ℕ) → decoded_of code (demand_of code pattern sink) one generation ≡ decoded_of code (demand_of code pattern sink) other generation

  -- a turn is made of what each sink decodes, and so are the first turns
  pub turn-alike : (one other : List Packet) (generation : ℕ) → Alike one other generation
      → turn_at outputs code pattern one generation ≡ turn_at outputs code pattern other generation
  turn-alike one other generation alike =
      ap (filter has_bytes)
      (same_made (part_at outputs code pattern one generation) (part_at outputs code pattern other generation) (length outputs.paths) ([], [])
      (λ file within. ap (λ block. (slice_index_or outputs.paths file [], counted_bytes (rows_of outputs.parts file block))) (alike (sink_of outputs.parts file))))

  pub turns-alike : (one other : List Packet) (first count : ℕ) → ((generation : ℕ) → first ≤ generation → generation < first + count → Alike one other generation)
      → turns_from outputs code pattern one first count ≡ turns_from outputs code pattern other first count
  turns-alike one other first zero alike = refl
  turns-alike one other first (suc count) alike =
      ap (λ turn. turn ∷ turns_from outputs code pattern one (first + 1) count) (turn-alike one other first (alike first (omega arith) (omega arith)))
      ∙ ap (λ rest. turn_at outputs code pattern other first ∷ rest)
      (turns-alike one other (first + 1) count (λ generation begun below. alike generation (omega arith) (omega arith)))

  module _ (came : List Packet) where
    -- some turns, and then more
    pub turns-append : (first count more : ℕ)
        → appends_of (turns_from outputs code pattern came first (count + more))
        ≡ appends_of (turns_from outputs code pattern came first count) ++ appends_of (turns_from outputs code pattern came (first + count) more)
    turns-append first count more =
        ap appends_of (ap (map (turn_at outputs code pattern came)) (range-append first count more)
        ∙ map-append (turn_at outputs code pattern came) (range_with_len first count) (range_with_len (first + count) more))
        ∙ appends_of-append (turns_from outputs code pattern came first count) (turns_from outputs code pattern came (first + count) more)

    -- some turns, and then the next one
    pub turns-next : (first count : ℕ)
        → appends_of (turns_from outputs code pattern came first count) ++ appends_of (turn_at outputs code pattern came (first + count) ∷ [])
        ≡ appends_of (turns_from outputs code pattern came first (count + 1))
    turns-next first count = sym (turns-append first count 1)

    -- and where the appends of that one stop
    pub turns-stopped : (first count place : ℕ) → place < count → (events : List Event) → StopsWithin (appends_of (turn_at outputs code pattern came (first + place) ∷ [])) events
        → StopsWithin (appends_of (turns_from outputs code pattern came first count)) (appends_of (turns_from outputs code pattern came first place) ++ events)
    turns-stopped first count place within events stop =
        let rest = count - (place + 1) in
        let all : place + (1 + rest) ≡ count = omega arith in
        let front = appends_of (turns_from outputs code pattern came first place) in
        let here = appends_of (turn_at outputs code pattern came (first + place) ∷ []) in
        let behind = appends_of (turns_from outputs code pattern came (first + place + 1) rest) in
        let whole : appends_of (turns_from outputs code pattern came first count) ≡ front ++ (here ++ behind) =
        ap (λ n. appends_of (turns_from outputs code pattern came first n)) (sym all) ∙ turns-append first place (1 + rest)
        ∙ ap (λ later. front ++ later) (turns-append (first + place) 1 rest) in
        subst (λ these. StopsWithin these (front ++ events)) (sym whole) (stops_behind front _ events (stops_first here behind events stop))

    -- one turn more
    pub turns-more : (generations : ℕ)
        → appends_of (turns_before outputs code pattern came (generations + 1))
        ≡ appends_of (turns_before outputs code pattern came generations) ++ appends_of (turn_at outputs code pattern came generations ∷ [])
    turns-more generations =
        ap appends_of (map-range_with_len_more (turn_at outputs code pattern came) 0 generations generations (omega arith))
        ∙ appends_of-append (turns_before outputs code pattern came generations) (turn_at outputs code pattern came generations ∷ [])

    module _ (generation : ℕ) where
      -- one part more
      pub parts-more : (sinks : ℕ)
          → parts_from outputs code pattern came generation 0 (sinks + 1)
          ≡ parts_from outputs code pattern came generation 0 sinks ++ parts_from outputs code pattern came generation sinks 1
      parts-more sinks = filter_of_map_range_with_len_more has_bytes (part_at outputs code pattern came generation) 0 sinks sinks (omega arith)

      -- those of some sinks and of more
      parts-around : (sinks more : ℕ) → (rest : List Written) × (parts_from outputs code pattern came generation 0 (sinks + more)
          ≡ parts_from outputs code pattern came generation 0 sinks ++ rest)
      parts-around sinks zero =
          let none : sinks + 0 ≡ sinks = omega arith in
          ([], ap (parts_from outputs code pattern came generation 0) none ∙ sym (append-nil (parts_from outputs code pattern came generation 0 sinks)))
      parts-around sinks (suc more) =
          let one : sinks + suc more ≡ (sinks + more) + 1 = omega arith in
          let before = parts-around sinks more in
          let last = parts_from outputs code pattern came generation (sinks + more) 1 in (
            before.0 ++ last,
            ap (parts_from outputs code pattern came generation 0) one ∙ parts-more (sinks + more) ∙ ap (λ front. front ++ last) before.1
                ∙ append_assoc (parts_from outputs code pattern came generation 0 sinks) before.0 last,
          )

      -- appends for the first sinks, and then for the next
      pub parts-appended : (sinks : ℕ)
          → appends_of (parts_from outputs code pattern came generation 0 sinks ∷ []) ++ appends_of (parts_from outputs code pattern came generation sinks 1 ∷ [])
          ≡ appends_of (parts_from outputs code pattern came generation 0 (sinks + 1) ∷ [])
      parts-appended sinks =
          sym (ap (λ parts. appends_of (parts ∷ [])) (parts-more sinks)
          ∙ calls-append (parts_from outputs code pattern came generation 0 sinks) (parts_from outputs code pattern came generation sinks 1))

      -- and where they stop there
      pub parts-stopped : (sink : ℕ) → sink < length outputs.paths → (events : List Event)
          → StopsWithin (appends_of (parts_from outputs code pattern came generation sink 1 ∷ [])) events
          → StopsWithin (appends_of (turn_at outputs code pattern came generation ∷ [])) (appends_of (parts_from outputs code pattern came generation 0 sink ∷ []) ++ events)
      parts-stopped sink within events stop =
          let rest = parts-around (sink + 1) (length outputs.paths - (sink + 1)) in
          let all : sink + 1 + (length outputs.paths - (sink + 1)) ≡ length outputs.paths = omega arith in
          let first = appends_of (parts_from outputs code pattern came generation 0 sink ∷ []) in
          let here = appends_of (parts_from outputs code pattern came generation sink 1 ∷ []) in
          let whole : appends_of (turn_at outputs code pattern came generation ∷ []) ≡ first ++ (here ++ appends_of (rest.0 ∷ [])) =
          ap (λ n. appends_of (parts_from outputs code pattern came generation 0 n ∷ [])) (sym all) ∙ ap (λ parts. appends_of (parts ∷ [])) rest.1
          ∙ calls-append (parts_from outputs code pattern came generation 0 (sink + 1)) rest.0
          ∙ ap (λ front. front ++ appends_of (rest.0 ∷ [])) (sym (parts-appended sink)) ∙ append_assoc first here (appends_of (rest.0 ∷ [])) in
          subst (λ these. StopsWithin these (first ++ events)) (sym whole)
          (stops_behind first _ events (stops_first here (appends_of (rest.0 ∷ [])) events stop))

      -- what one sink's file gets, where the sink decodes nothing that counts, and where it does
      module _ (sink : ℕ) (bytes : List ℕ) (are : bytes ≡ received_at outputs.parts code pattern came generation sink) where
        counts : (test : Bool) → nat_lt 0 (length bytes) ≡ test → has_bytes (part_at outputs code pattern came generation sink) ≡ test
        counts test is = ap (λ (bytes : List ℕ). nat_lt 0 (length bytes)) (sym are) ∙ is

        abbrev calls_by : Bool → List Event
        calls_by test = appends_of (cond test (part_at outputs code pattern came generation sink ∷ []) [] ∷ [])

        pub part-none : nat_lt 0 (length bytes) ≡ false → [] ≡ appends_of (parts_from outputs code pattern came generation sink 1 ∷ [])
        part-none none = sym (ap calls_by (counts false none))

        pub part-some : (path : List ℕ) → path ≡ slice_index_or outputs.paths sink [] → nat_lt 0 (length bytes) ≡ true
            → appended path bytes ∷ [] ≡ appends_of (parts_from outputs code pattern came generation sink 1 ∷ [])
        part-some path is some =
            ap (λ path. appended path bytes ∷ []) is ∙ ap (λ bytes. appended (slice_index_or outputs.paths sink []) bytes ∷ []) are ∙ sym (ap calls_by (counts true some))

      -- the parts go to these paths
      parts-are : (sinks : ℕ) → sinks ≤ length outputs.paths → AreAppendsTo outputs.paths (map part_call (parts_from outputs code pattern came generation 0 sinks))
      parts-are zero few = tt
      parts-are (suc sinks) few =
          let one : suc sinks ≡ sinks + 1 = omega arith in
          let part = part_at outputs code pattern came generation sinks in
          let there : Contains outputs.paths (slice_index_or outputs.paths sinks []) = Contains-get_or outputs.paths sinks [] (omega arith) in
          subst (λ n. AreAppendsTo outputs.paths (map part_call (parts_from outputs code pattern came generation 0 n))) (sym one)
          (subst (λ parts. AreAppendsTo outputs.paths (map part_call parts)) (sym (parts-more sinks))
          (subst (AreAppendsTo outputs.paths) (sym (map-append part_call (parts_from outputs code pattern came generation 0 sinks) (parts_from outputs code pattern came generation sinks 1)))
          (appends-append outputs.paths _ _ (parts-are sinks (omega arith)) (by_test part there (has_bytes part)))))
        where
          by_test : (part : Written) → Contains outputs.paths part.0 → (test : Bool) → AreAppendsTo outputs.paths (map part_call (cond test (part ∷ []) []))
          by_test part there true = (there, tt)
          by_test part there false = tt

    -- and so do those of all turns
    pub turns-are : (generations : ℕ) → AreAppendsTo outputs.paths (appends_of (turns_before outputs code pattern came generations))
    turns-are zero = tt
    turns-are (suc generations) =
        let one : suc generations ≡ generations + 1 = omega arith in
        subst (λ n. AreAppendsTo outputs.paths (appends_of (turns_before outputs code pattern came n))) (sym one)
        (subst (AreAppendsTo outputs.paths) (sym (turns-more generations))
        (appends-append outputs.paths _ _ (turns-are generations)
        (subst (AreAppendsTo outputs.paths) (sym (calls-alone (turn_at outputs code pattern came generations))) (parts-are generations (length outputs.paths) (omega arith)))))

-- an append, by its answer: all that is due, or where it stops
module _ {S : Type 0} {H : List Move → Type 0} (calls : List Event → S → S → Type 0) (a b : S) (path bytes : List ℕ) (due : List Move → List Event)
    (these : (moves : List Move) → H moves → appended path bytes ∷ [] ≡ due moves) where
  pub appends-ok : (result : Result Unit Failed) → calls (append_event path bytes result ∷ []) a b
      → OnOk result ((moves : List Move) → H moves → ByCalls calls a b (Are (due moves)))
  appends-ok (Ok done) lead = λ moves is. calls_of (Are (due moves)) (appended path bytes ∷ []) lead (these moves is)
  appends-ok (Err why) lead = tt

  pub appends-err : (result : Result Unit Failed) → calls (append_event path bytes result ∷ []) a b
      → OnErr result ((moves : List Move) → H moves → ByCalls calls a b (StopsWithin (due moves)))
  appends-err (Ok done) lead = tt
  appends-err (Err why) lead = λ moves is.
      calls_of (StopsWithin (due moves)) (append_failed path bytes ∷ []) lead
      (subst (λ due. StopsWithin due (append_failed path bytes ∷ [])) (these moves is) (stops_here (appended path bytes) []))
