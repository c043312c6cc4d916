-- A piece of a source, as each of some files gets it.
use Rattle.std.specs.Prelude.{◌≡◌, ◌==◌, ◌<◌, ◌+◌, ◌-◌, ◌++◌, ◌∷◌, ℕ, Bool, true, false, if◌then◌else◌, nat_lt, List, [], Contains, drop, get_or, length, map, take}
use Rattle.std.specs.List.{range_with_len}
use Rattle.std.proofs.Common.{refl, sym, ap, subst, ◌∙◌, arith}
use Rattle.std.proofs.lemmas.Bool.{eqb-false, false≢true, lt-ltb}
use Rattle.std.proofs.lemmas.List.{append-nil, map-append, map-id, take-append-drop, take_more}
use Rattle.generation_frame.specs.Blocks.{block_count, piece_of}
use Rattle.lif_outside.proofs.SequenceLaws.{stops_behind, stops_first}
use Rattle.lif_outside.specs.Events.{Event, appended}
use Rattle.lif_outside.specs.FileCalls.{StopsWithin, Written, appends_of, bytes_appended}
use Rattle.lif_outside.specs.Files.{AreDistinct}
use Rattle.node_program.specs.declared.code.Code.{Code}
use Rattle.source_turns.proofs.AppendLaws.{TurnAppends, part-added, part_call, parts_append, turns-add}
use Rattle.source_turns.proofs.PieceLaws.{pieces-file}
use Rattle.source_turns.specs.Turns.{feed_turns}
use Rattle.top_blind.specs.Blind.{delivery, piece_turn}

module _ (piece : List ℕ) where
  -- the appends, by whether it has bytes
  abbrev part_to : List ℕ → Written
  part_to path = (path, piece)

  abbrev parts : Bool → List (List ℕ) → List Written
  parts some paths = if some then map part_to paths else []

  abbrev calls : List (List ℕ) → List Event
  calls paths = appends_of (piece_turn paths piece ∷ [])

  -- ---- one file

  pub calls-some : (path : List ℕ) → (length piece == 0) ≡ false → calls (path ∷ []) ≡ appended path piece ∷ []
  calls-some path some =
      let apart = eqb-false (length piece) 0 some in
      ap (λ some. appends_of (parts some (path ∷ []) ∷ [])) (lt-ltb 0 (length piece) (omega (arith, apart)))

  -- ---- file by file

  -- those of some files, and then of others
  calls-append : (front more : List (List ℕ)) → calls front ++ calls more ≡ calls (front ++ more)
  calls-append front more = by_some (nat_lt 0 (length piece))
    where
      by_some : (some : Bool) → appends_of (parts some front ∷ []) ++ appends_of (parts some more ∷ []) ≡ appends_of (parts some (front ++ more) ∷ [])
      by_some true =
          let here = map part_call (map part_to front) in
          let there = map part_call (map part_to more) in
          ap (λ first. first ++ (there ++ [])) (append-nil here) ∙ ap (λ last. here ++ last) (append-nil there)
          ∙ sym (append-nil (map part_call (map part_to (front ++ more))) ∙ ap (map part_call) (map-append part_to front more) ∙ map-append part_call (map part_to front) (map part_to more))
      by_some false = refl

  -- some files, and then the next one
  pub calls-more : (paths : List (List ℕ)) (n : ℕ) (path : List ℕ) → n < length paths → path ≡ get_or paths n [] → calls (take n paths) ++ calls (path ∷ []) ≡ calls (take (n + 1) paths)
  calls-more paths n path within is =
      calls-append (take n paths) (path ∷ []) ∙ ap calls (ap (λ last. take n paths ++ last ∷ []) is ∙ sym (take_more paths n [] within))

  -- and where that of the next one stops
  pub calls-stopped : (paths : List (List ℕ)) (n : ℕ) (path : List ℕ) (events : List Event) → n < length paths → path ≡ get_or paths n []
      → StopsWithin (calls (path ∷ [])) events → StopsWithin (calls paths) (calls (take n paths) ++ events)
  calls-stopped paths n path events within is stop =
      let front = calls (take n paths) in
      let rest = calls (drop (n + 1) paths) in
      let whole : calls paths ≡ (front ++ calls (path ∷ [])) ++ rest =
      ap calls (sym (take-append-drop (n + 1) paths)) ∙ sym (calls-append (take (n + 1) paths) (drop (n + 1) paths)) ∙ ap (λ these. these ++ rest) (sym (calls-more paths n path within is)) in
      subst (λ these. StopsWithin these (front ++ events)) (sym whole)
      (stops_first (front ++ calls (path ∷ [])) rest (front ++ events) (stops_behind front (calls (path ∷ [])) events stop))

  -- ---- what they bring

  -- they append to the files alone
  pub piece_appends : (paths : List (List ℕ)) → TurnAppends paths (piece_turn paths piece)
  piece_appends paths = by_some (nat_lt 0 (length piece))
    where
      by_some : (some : Bool) → TurnAppends paths (parts some paths)
      by_some true = parts_append paths (λ path. path) (λ path. piece) paths (λ place there. subst (λ paths. Contains paths place) (map-id paths) there)
      by_some false = tt

  no_bytes : (bytes : List ℕ) → nat_lt 0 (length bytes) ≡ false → [] ≡ bytes
  no_bytes [] none = refl
  no_bytes (byte ∷ bytes) none = let some : nat_lt 0 (length (byte ∷ bytes)) ≡ true = grind arith in absurd (false≢true (sym none ∙ some))

  -- and each file gets the piece
  pub piece-adds : (paths : List (List ℕ)) (path : List ℕ) → AreDistinct paths → Contains paths path → bytes_appended path (map part_call (piece_turn paths piece)) ≡ piece
  piece-adds paths path distinct there = by_some (nat_lt 0 (length piece)) refl
    where
      by_some : (some : Bool) → nat_lt 0 (length piece) ≡ some → bytes_appended path (map part_call (parts some paths)) ≡ piece
      by_some true is = part-added (λ path. path) (λ path. piece) paths (subst AreDistinct (sym (map-id paths)) distinct) path there
      by_some false is = no_bytes piece is

-- all pieces of a source add the source
pub source-added : (code : Code) (paths : List (List ℕ)) (source path : List ℕ) → AreDistinct paths → Contains paths path
    → bytes_appended path (appends_of (feed_turns (delivery code paths) true source)) ≡ source
source-added code paths source path distinct there =
    turns-add path (λ place. piece_turn paths (piece_of source code.rate place)) (piece_of source code.rate) (λ place. piece-adds (piece_of source code.rate place) paths path distinct there)
    (range_with_len 0 (block_count source code.rate)) ∙ pieces-file source code.rate code.code.draft.some_rate
