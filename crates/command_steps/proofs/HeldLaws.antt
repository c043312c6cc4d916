-- Where an input is held, a step is its rest: what it changes and what it owes are that of the rest.
use Rattle.std.specs.Prelude.{◌≡◌, ◌⊎◌, ◌≤◌, ◌-◌, ℕ, List, [], ◌∷◌, Contains, length, map, sum_by, None, Some, Ok, IsFalse}
use Rattle.std.proofs.Common.{refl, sym, subst, ◌∙◌, inl, inr, ⊎_elim, arith}
use Rattle.std.proofs.lemmas.Bool.{false≢true}
use Rattle.std.proofs.lemmas.List.Elements.{Contains-append_right}
use Rattle.std.proofs.lemmas.List.Sums.{sum_by-cons}
use Rattle.lif_outside.proofs.TurnLaws.{first_there}
use Rattle.lif_outside.specs.Calls.{Outside}
use Rattle.lif_outside.specs.Files.{Files, Holds}
use Rattle.lif_outside.specs.Told.{Told}
use Rattle.command_steps.specs.Listed.{IsTaken, RefusesBytes, Wanted, reads_each}
use Rattle.command_steps.specs.Steps.{ChangesNone, OwedBy, reads_then}
use Rattle.top_base.proofs.InputLaws.{same_held}
use Rattle.top_base.specs.Inputs.{HoldsInput, HoldsShort, is_lost}
use Rattle.top_base.specs.Performs.{Behaviour}
use Rattle.top_base.specs.declared.outcome.Outcome.{Outcome}
use Rattle.top_base.specs.declared.status.Status.{Status}

-- ---- one input

-- bytes are one input
abbrev pub IsOne : {X : Type 0} → (List ℕ → X → Type 0) → Type 0
IsOne {X = X} Is = (bytes : List ℕ) (one other : X) → Is bytes one → Is bytes other → one ≡ other

module _ {X : Type 0} (limit : ℕ) (Is : List ℕ → X → Type 0) (Refuses : List ℕ → Status → List ℕ → Type 0) (path : List ℕ) (rest : X → Behaviour)
    (files : Files) (x : X) (held : HoldsInput limit Is Refuses (files path) (Ok x)) where
  pub held_owed : (owed : Status) → OwedBy (rest x).due files owed → OwedBy (reads_then limit Is Refuses path rest).due files owed
  held_owed owed is = (Ok x, held, is)

  -- the rest of this input changes what is changed, or none could be had
  pub held_cases : IsOne Is → (outcome : Outcome) (before after : Outside) → before.files ≡ Some files → (reads_then limit Is Refuses path rest).changes outcome before after
      → (rest x).changes outcome before after ⊎ ChangesNone limit Is Refuses path rest outcome before after
  held_cases one outcome before after told changes = ⊎_elim
      (λ had.
      let there : HoldsInput limit Is Refuses (files path) (Ok had.input) = subst (λ o. Told o (λ files. HoldsInput limit Is Refuses (files path) (Ok had.input))) told had.held in
      let bytes = same_held (files path) there.0 held.0 there.1.held held.1.held in
      let same : had.input ≡ x = one held.0 had.input x (subst (λ bytes. Is bytes had.input) bytes there.2) held.2 in
      inl (subst (λ input. (rest input).changes outcome before after) same had.changed))
      inr
      changes

  pub held_changes : IsOne Is → (outcome : Outcome) (before after : Outside) → before.files ≡ Some files → IsFalse (is_lost outcome.status)
      → (reads_then limit Is Refuses path rest).changes outcome before after → (rest x).changes outcome before after
  held_changes one outcome before after told found changes =
      ⊎_elim (λ changed. changed) (λ none. absurd (false≢true (sym found ∙ none.lost))) (held_cases one outcome before after told changes)

-- ---- those of a list

-- The paths of what is wanted hold these bytes, within what is left of the limit, and none are refused.
abbrev pub AreHeld : ℕ → List Wanted → List (List ℕ) → Files → Type 0
AreHeld limit [] [] files = Unit {0}
AreHeld limit (one ∷ more) (bytes ∷ others) files = HoldsShort limit bytes (files one.path) × (one.refusal bytes ≡ None) × AreHeld (limit - length bytes) more others files
AreHeld limit wanted read files = ⊥

taken_one : (wanted : Wanted) → IsOne (IsTaken wanted)
taken_one wanted bytes one other is is_other = is.same ∙ sym is_other.same

-- bytes that are held are the input
taken_held : (limit : ℕ) (wanted : Wanted) (bytes : List ℕ) (files : Files) → HoldsShort limit bytes (files wanted.path) → wanted.refusal bytes ≡ None
    → HoldsInput limit (IsTaken wanted) (RefusesBytes wanted) (files wanted.path) (Ok bytes)
taken_held limit wanted bytes files short good = (bytes, short, record { same = refl; good = good })

pub each_owed : (limit : ℕ) (wanted : List Wanted) (rest : List (List ℕ) → Behaviour) (read : List (List ℕ)) (files : Files) (owed : Status) → AreHeld limit wanted read files → OwedBy (rest read).due files owed
    → OwedBy (reads_each limit wanted rest).due files owed
each_owed limit [] rest [] files owed held is = is
each_owed limit [] rest (bytes ∷ others) files owed held is = absurd held
each_owed limit (one ∷ more) rest [] files owed held is = absurd held
each_owed limit (one ∷ more) rest (bytes ∷ others) files owed held is =
    let goes = λ (bytes : List ℕ). reads_each (limit - length bytes) more (λ others. rest (bytes ∷ others)) in
    held_owed limit (IsTaken one) (RefusesBytes one) one.path goes files bytes (taken_held limit one bytes files held.0 held.1) owed
    (each_owed (limit - length bytes) more (λ others. rest (bytes ∷ others)) others files owed held.2 is)

pub each_changes : (limit : ℕ) (wanted : List Wanted) (rest : List (List ℕ) → Behaviour) (read : List (List ℕ)) (files : Files) (outcome : Outcome) (before after : Outside) → before.files ≡ Some files
    → AreHeld limit wanted read files → IsFalse (is_lost outcome.status) → (reads_each limit wanted rest).changes outcome before after → (rest read).changes outcome before after
each_changes limit [] rest [] files outcome before after told held found changes = changes
each_changes limit [] rest (bytes ∷ others) files outcome before after told held found changes = absurd held
each_changes limit (one ∷ more) rest [] files outcome before after told held found changes = absurd held
each_changes limit (one ∷ more) rest (bytes ∷ others) files outcome before after told held found changes =
    let goes = λ (bytes : List ℕ). reads_each (limit - length bytes) more (λ others. rest (bytes ∷ others)) in
    each_changes (limit - length bytes) more (λ others. rest (bytes ∷ others)) others files outcome before after told held.2 found
    (held_changes limit (IsTaken one) (RefusesBytes one) one.path goes files bytes (taken_held limit one bytes files held.0 held.1) (taken_one one) outcome before after told found changes)

-- Files that are wanted for items, each with its bytes, are held where all together are within the limit.
pub items_held : {X : Type 0} (limit : ℕ) (wanted : X → Wanted) (bytes : X → List ℕ) (xs : List X) (files : Files)
    → ((x : X) → Contains xs x → Holds (bytes x) (files (wanted x).path) × ((wanted x).refusal (bytes x) ≡ None))
    → sum_by (λ x. length (bytes x)) xs ≤ limit → AreHeld limit (map wanted xs) (map bytes xs) files
items_held limit wanted bytes [] files each short = tt
items_held limit wanted bytes (x ∷ xs) files each short =
    let here = each x (first_there x xs) in
    let parts = sum_by-cons (λ one. length (bytes one)) x xs in (
      record { held = here.0; short = omega arith },
      here.1,
      items_held (limit - length (bytes x)) wanted bytes xs files (λ one there. each one (Contains-append_right (x ∷ []) xs one there)) (omega arith),
    )
