-- What each sink's file gets of turns: block by block, what the sink decodes of the packets that came.
use Rattle.std.specs.Prelude.{◌≡◌, ◌≢◌, ◌<◌, ◌≤◌, ◌+◌, ℕ, zero, suc, Bool, true, false, cond, if◌then◌else◌, nat_lt, List, [], ◌∷◌, ◌++◌, Contains, Some, filter, flat_map, length, map, slice_get, slice_index_or}
use Rattle.std.specs.List.{concat, range_with_len}
use Rattle.std.specs.Str.{bytes_eq}
use Rattle.std.proofs.Common.{refl, sym, ap, subst, ◌∙◌, inl, inr, arith}
use Rattle.std.proofs.lemmas.Bool.{cases_order, false_from_ne_true}
use Rattle.std.proofs.lemmas.List.{append-nil}
use Rattle.std.proofs.lemmas.List.Elements.{Contains-get_or}
use Rattle.std.proofs.lemmas.Option.{get_or_from_slice_get, slice_get_within}
use Rattle.std.proofs.lemmas.Slice.Eq.{bytes_eq-Decides}
use Rattle.generation_frame.specs.Blocks.{piece_of, pieces_before}
use Rattle.generation_frame.specs.declared.frame.Packet.{Packet}
use Rattle.lif_outside.proofs.FileCallLaws.{bytes_appended-append}
use Rattle.lif_outside.specs.Events.{Event, appended}
use Rattle.lif_outside.specs.FileCalls.{Written, appends_of, bytes_appended}
use Rattle.lif_outside.specs.Files.{AreDistinct}
use Rattle.item_list.proofs.Maps.{same_made}
use Rattle.node_program.specs.declared.code.Code.{Code}
use Rattle.top_runs.specs.Sending.{received_by}
use Rattle.command_steps.specs.Filling.{has_bytes}
use Rattle.source_delivery.specs.Turns.{Outputs, parts_from, received_at, turn_at, turns_before}
use Rattle.source_delivery.specs.declared.parts.Parts.{Parts}

-- of distinct paths, each stands at one place

one_place : (paths : List (List ℕ)) (i j : ℕ) → AreDistinct paths → i < length paths → j < length paths → slice_index_or paths i [] ≡ slice_index_or paths j [] → i ≡ j
one_place [] i j distinct first second same = absurd (omega (arith, first))
one_place (path ∷ paths) zero zero distinct first second same = refl
one_place (path ∷ paths) zero (suc j) distinct first second same = absurd (distinct.0 (subst (Contains paths) (sym same) (Contains-get_or paths j [] (omega arith))))
one_place (path ∷ paths) (suc i) zero distinct first second same = absurd (distinct.0 (subst (Contains paths) same (Contains-get_or paths i [] (omega arith))))
one_place (path ∷ paths) (suc i) (suc j) distinct first second same = ap suc (one_place paths i j distinct.1 (omega arith) (omega arith) same)

-- the append of a part, and what one part adds at a path, before more of them: one without bytes adds nothing
abbrev part_call : Written → Event
part_call part = appended part.0 part.1

part-adds : (path other bytes : List ℕ) (parts : List Written)
    → bytes_appended path (map part_call (cond (has_bytes (other, bytes)) ((other, bytes) ∷ parts) parts))
    ≡ (if bytes_eq other path then bytes else []) ++ bytes_appended path (map part_call parts)
part-adds path other [] parts = by_test (bytes_eq other path)
  where
    by_test : (test : Bool) → bytes_appended path (map part_call parts) ≡ (if test then [] else []) ++ bytes_appended path (map part_call parts)
    by_test true = refl
    by_test false = refl
part-adds path other (byte ∷ bytes) parts =
    let some : nat_lt 0 (length (byte ∷ bytes)) ≡ true = grind arith in
    ap (λ test. bytes_appended path (map part_call (cond test ((other, byte ∷ bytes) ∷ parts) parts))) some

module _ (outputs : Outputs) (code : Code) (pattern : ℕ) (came : List Packet) (path : List ℕ) (place : ℕ) (distinct : AreDistinct outputs.paths) (there : slice_get outputs.paths place ≡ Some path) where
  within : place < length outputs.paths
  within = slice_get_within outputs.paths place path there

  here : slice_index_or outputs.paths place [] ≡ path
  here = get_or_from_slice_get outputs.paths place path [] there

  module _ (generation : ℕ) where
    -- the appends for so many sinks, from one on
    abbrev calls_from : ℕ → ℕ → List Event
    calls_from sink count = map part_call (parts_from outputs code pattern came generation sink count)

    -- one sink's part, and those of the sinks behind it
    abbrev adds_by : ℕ → ℕ → Bool → List ℕ
    adds_by sink count test = (if test then received_at outputs.parts code pattern came generation sink else []) ++ bytes_appended path (calls_from (sink + 1) count)

    first-adds : (sink count : ℕ) → bytes_appended path (calls_from sink (suc count)) ≡ adds_by sink count (bytes_eq (slice_index_or outputs.paths sink []) path)
    first-adds sink count =
        part-adds path (slice_index_or outputs.paths sink []) (received_at outputs.parts code pattern came generation sink) (parts_from outputs code pattern came generation (sink + 1) count)

    apart : (sink : ℕ) → sink < length outputs.paths → sink ≢ place → bytes_eq (slice_index_or outputs.paths sink []) path ≡ false
    apart sink below other =
        false_from_ne_true _ (λ is. other (one_place outputs.paths sink place distinct below within ((bytes_eq-Decides (slice_index_or outputs.paths sink []) path).0 is ∙ sym here)))

    -- other sinks' parts add nothing
    others-add : (sink count : ℕ) → place < sink → sink + count ≤ length outputs.paths → bytes_appended path (calls_from sink count) ≡ []
    others-add sink zero past few = refl
    others-add sink (suc count) past few =
        first-adds sink count
        ∙ ap (adds_by sink count) (apart sink (omega arith) (λ same. absurd (omega (arith, same, past))))
        ∙ others-add (sink + 1) count (omega arith) (omega arith)

    -- the sink's own adds what it gets
    own-adds : (sink count : ℕ) → sink ≤ place → place < sink + count → sink + count ≤ length outputs.paths → bytes_appended path (calls_from sink count) ≡ received_at outputs.parts code pattern came generation place
    own-adds sink zero begun below few = absurd (omega arith)
    own-adds sink (suc count) begun below few = elim (cases_order sink place) [
      | inl is ↦
          let same : bytes_eq (slice_index_or outputs.paths sink []) path ≡ true = (bytes_eq-Decides (slice_index_or outputs.paths sink []) path).1 (ap (λ n. slice_index_or outputs.paths n []) is ∙ here) in
          first-adds sink count ∙ ap (adds_by sink count) same
          ∙ ap (λ rest. received_at outputs.parts code pattern came generation sink ++ rest) (others-add (sink + 1) count (omega (arith, is)) (omega arith))
          ∙ append-nil (received_at outputs.parts code pattern came generation sink)
          ∙ ap (received_at outputs.parts code pattern came generation) is
      | inr (inl before) ↦
          first-adds sink count ∙ ap (adds_by sink count) (apart sink (omega arith) (λ same. absurd (omega (arith, same, before))))
          ∙ own-adds (sink + 1) count (omega arith) (omega arith) (omega arith)
      | inr (inr after) ↦ absurd (omega arith)
    ]

  -- and so it is turn by turn
  turns-give : (generations : List ℕ)
      → bytes_appended path (appends_of (map (turn_at outputs code pattern came) generations)) ≡ flat_map (λ generation. received_at outputs.parts code pattern came generation place) generations
  turns-give [] = refl
  turns-give (generation ∷ generations) =
      let rest = appends_of (map (turn_at outputs code pattern came) generations) in
      bytes_appended-append path (calls_from generation 0 (length outputs.paths)) rest
      ∙ ap (λ first. first ++ bytes_appended path rest) (own-adds generation 0 (length outputs.paths) (omega arith) (omega (arith, within)) (omega arith))
      ∙ ap (λ later. received_at outputs.parts code pattern came generation place ++ later) (turns-give generations)

  -- what is appended to a sink's file is what the sink decodes of what came
  pub bytes-received : (generations : ℕ) → bytes_appended path (appends_of (turns_before outputs code pattern came generations)) ≡ received_by outputs.parts code pattern came generations place
  bytes-received generations = turns-give (range_with_len 0 generations)

-- ---- where a sink decodes the pieces of a file

-- lists without bytes may be left out
some-concat : (lists : List (List ℕ)) → concat (filter (λ bytes. nat_lt 0 (length bytes)) lists) ≡ concat lists
some-concat [] = refl
some-concat ([] ∷ lists) = some-concat lists
some-concat ((byte ∷ bytes) ∷ lists) =
    let some : nat_lt 0 (length (byte ∷ bytes)) ≡ true = grind arith in
    let rest = filter (λ bytes. nat_lt 0 (length bytes)) lists in
    ap (λ test. concat (cond test ((byte ∷ bytes) ∷ rest) rest)) some ∙ ap (λ later. (byte ∷ bytes) ++ later) (some-concat lists)

-- the lists that are made of numbers, joined
joined : (f : ℕ → List ℕ) (numbers : List ℕ) → flat_map f numbers ≡ concat (map f numbers)
joined f [] = refl
joined f (number ∷ numbers) = ap (λ rest. f number ++ rest) (joined f numbers)

pub pieces-received : (parts : Parts) (code : Code) (pattern : ℕ) (came : List Packet) (file : List ℕ) (rate place generations : ℕ)
    → ((generation : ℕ) → generation < generations → received_at parts code pattern came generation place ≡ piece_of file rate generation)
    → received_by parts code pattern came generations place ≡ concat (pieces_before file rate generations)
pieces-received parts code pattern came file rate place generations pieces =
    joined (λ generation. received_at parts code pattern came generation place) (range_with_len 0 generations)
    ∙ ap concat (same_made (λ generation. received_at parts code pattern came generation place) (piece_of file rate) generations [] pieces)
    ∙ sym (some-concat (map (piece_of file rate) (range_with_len 0 generations)))
