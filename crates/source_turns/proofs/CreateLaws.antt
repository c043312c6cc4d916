-- Files that are created in order.
use Rattle.std.specs.Prelude.{◌≡◌, ◌<◌, ◌+◌, ◌∷◌, ◌++◌, [], ℕ, suc, Contains, List, drop, get_or, length, take}
use Rattle.std.proofs.Common.{sym, ap, subst, ◌∙◌, drop-cons}
use Rattle.std.proofs.lemmas.List.{take_more, take-append-drop}
use Rattle.lif_outside.proofs.TurnLaws.{creates_of-append, creates_of-stops}
use Rattle.lif_outside.specs.Events.{create_failed, created}
use Rattle.lif_outside.specs.FileCalls.{StopsWithin, creates_of}
use Rattle.source_turns.proofs.AppendLaws.{made_there}

module _ (paths : List (List ℕ)) (n : ℕ) (within : n < length paths) where
  abbrev next : List ℕ
  next = get_or paths n []

  pub created_more : creates_of (take n paths) ++ created next ∷ [] ≡ creates_of (take (n + 1) paths)
  created_more = sym (ap creates_of (take_more paths n [] within) ∙ creates_of-append (take n paths) (next ∷ []))

  pub create_stops : StopsWithin (creates_of paths) (creates_of (take n paths) ++ create_failed next ∷ [])
  create_stops =
      let rest = drop (suc n) paths in
      let around : paths ≡ take n paths ++ next ∷ rest = sym (take-append-drop n paths) ∙ ap (λ behind. take n paths ++ behind) (drop-cons paths n [] within) in
      subst (λ all. StopsWithin (creates_of all) (creates_of (take n paths) ++ create_failed next ∷ [])) (sym around) (creates_of-stops (take n paths) next rest)

-- each of the paths is created
pub created_there : (paths : List (List ℕ)) (place : List ℕ) → Contains paths place → Contains (creates_of paths) (created place)
created_there paths place there = made_there created paths place there
