-- The files of the sinks that have the rank are among those of all sinks, so they are distinct, and no input's.
use Rattle.std.specs.Prelude.{◌≡◌, ◌==◌, ◌<◌, ◌+◌, ◌++◌, ◌∷◌, ℕ, Bool, true, false, List, [], Contains, None, Some, cond, filter, length, map, slice_get, take}
use Rattle.std.specs.List.{list_any}
use Rattle.std.specs.Str.{bytes_eq}
use Rattle.std.proofs.Common.{sym, ap, subst, ◌∙◌, ⊎_elim}
use Rattle.std.proofs.lemmas.List.{map-append, take_more}
use Rattle.std.proofs.lemmas.List.Elements.{filter-append}
use Rattle.std.proofs.lemmas.Option.{get_or_from_slice_get}
use Rattle.lif_outside.proofs.TurnLaws.{behind_there, first_there, there_cases}
use Rattle.lif_outside.specs.Files.{AreDistinct}
use Rattle.name_texts.specs.Names.{node_name}
use Rattle.node_program.specs.declared.code.Code.{Code}
use Rattle.top_base.proofs.PathLaws.{clear_apart, clear_distinct}
use Rattle.top_base.specs.Paths.{dotted_path, output_paths, shared_path}
use Rattle.top_blind.specs.Blind.{paths_among}
use Rattle.vector_headers.specs.Receiving.{rank_into}

module _ {X : Type 0} (path : X → List ℕ) (test : X → Bool) where
  -- what is made of items that pass stands where those of all do
  kept_there : (xs : List X) (place : List ℕ) → Contains (map path (filter test xs)) place → Contains (map path xs) place
  kept_there [] place there = there
  kept_there (x ∷ xs) place there = by_test (test x) (λ behind. behind_there (path x) (map path xs) place (kept_there xs place behind)) there
    where
      by_test : (passes : Bool) → (Contains (map path (filter test xs)) place → Contains (map path (x ∷ xs)) place)
          → Contains (map path (cond passes (x ∷ filter test xs) (filter test xs))) place → Contains (map path (x ∷ xs)) place
      by_test true behind there = ⊎_elim
          (λ same. subst (Contains (map path (x ∷ xs))) same (first_there (path x) (map path xs)))
          behind
          (there_cases (path x) (map path (filter test xs)) place there)
      by_test false behind there = behind there

  kept_distinct : (xs : List X) → AreDistinct (map path xs) → AreDistinct (map path (filter test xs))
  kept_distinct [] distinct = tt
  kept_distinct (x ∷ xs) distinct = by_test (test x) (kept_distinct xs distinct.1)
    where
      by_test : (passes : Bool) → AreDistinct (map path (filter test xs)) → AreDistinct (map path (cond passes (x ∷ filter test xs) (filter test xs)))
      by_test true rest = (λ there. distinct.0 (kept_there xs (path x) there), rest)
      by_test false rest = rest

module _ (inputs : List (List ℕ)) (prefix : List ℕ) (code : Code) (failed : List ℕ) (clear : shared_path inputs (output_paths prefix code.net) ≡ None) where
  abbrev path : ℕ → List ℕ
  path sink = dotted_path prefix (node_name code.net sink)

  abbrev is_whole : ℕ → Bool
  is_whole sink = rank_into code failed sink == code.rate

  pub whole_distinct : AreDistinct (paths_among prefix code failed code.net.sinks)
  whole_distinct = kept_distinct path is_whole code.net.sinks (clear_distinct inputs (output_paths prefix code.net) clear)

  pub whole_apart : (input : List ℕ) → list_any (bytes_eq input) inputs ≡ true → ¬ Contains (paths_among prefix code failed code.net.sinks) input
  whole_apart input among there =
      clear_apart inputs (output_paths prefix code.net) clear input among (kept_there path is_whole code.net.sinks input there)

-- ---- sink by sink

-- some sinks, and then the next one
pub take_sink : (sinks : List ℕ) (n sink : ℕ) → n < length sinks → slice_get sinks n ≡ Some sink → take (n + 1) sinks ≡ take n sinks ++ sink ∷ []
take_sink sinks n sink within is = take_more sinks n sink within ∙ ap (λ last. take n sinks ++ last ∷ []) (get_or_from_slice_get sinks n sink sink is)

-- the paths of some sinks, and then of others
pub paths-append : (prefix : List ℕ) (code : Code) (failed sinks others : List ℕ) → paths_among prefix code failed sinks ++ paths_among prefix code failed others ≡ paths_among prefix code failed (sinks ++ others)
paths-append prefix code failed sinks others =
    let path = λ (sink : ℕ). dotted_path prefix (node_name code.net sink) in
    let test = λ (sink : ℕ). rank_into code failed sink == code.rate in
    sym (ap (map path) (filter-append test sinks others) ∙ map-append path (filter test sinks) (filter test others))
