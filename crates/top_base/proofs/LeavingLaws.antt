-- What the files held before calls and hold after them, where some calls come before others.
use Rattle.std.specs.Prelude.{◌≡◌, ◌++◌, ℕ, List, [], Option, None, Some, Contains}
use Rattle.std.specs.List.{AllByRecursion}
use Rattle.std.proofs.Common.{sym, subst}
use Rattle.std.proofs.lemmas.List.Elements.{Contains-append_right}
use Rattle.lif_outside.specs.Events.{Event, HappenAt, Follow}
use Rattle.lif_outside.specs.EventLaws.{KeepsPath, happen-split, happen_keeping}
use Rattle.lif_outside.specs.Files.{Files, SameFiles}
use Rattle.lif_outside.specs.Told.{Told, Becomes}
use Rattle.lif_outside.specs.ToldLaws.{becomes_weaker, told_before}

-- the calls keep every path
abbrev pub KeepAll : List Event → Type 0
KeepAll calls = (place : List ℕ) → AllByRecursion (KeepsPath place) calls

-- no call keeps every path
pub none_keep : (calls : List Event) → calls ≡ [] → KeepAll calls
none_keep calls none place = subst (AllByRecursion (KeepsPath place)) (sym none) tt

-- calls that keep every path change no file
pub keep_files : (before after : Option Files) (calls : List Event) → KeepAll calls → Becomes before after (Follow calls) → Becomes before after SameFiles
keep_files before after calls keeps change = becomes_weaker change (λ old new follow path. happen_keeping path calls (old path) (new path) (keeps path) (follow path))

-- what calls at a path say of what it held before
pub told_at : (before after : Option Files) (calls : List Event) (path : List ℕ) (R : Option (List ℕ) → Type 0) → ((a b : Option (List ℕ)) → HappenAt path calls a b → R a) → Becomes before after (Follow calls)
    → Told before (λ files. R (files path))
told_at before after calls path R held change = told_before before after (Follow calls) (λ files. R (files path)) change (λ old new follow. held (old path) (new path) (follow path))

-- what holds whatever is told
pub told_any : {A : Type 0} (o : Option A) (P : A → Type 0) → ((x : A) → P x) → Told o P
told_any None P all = tt
told_any (Some x) P all = all x

-- what is told of the same twice
pub told_both : {A : Type 0} (o : Option A) (P Q R : A → Type 0) → ((x : A) → P x → Q x → R x) → Told o P → Told o Q → Told o R
told_both None P Q R join one other = tt
told_both (Some x) P Q R join one other = join x one other

-- calls in two parts
module _ (first later calls : List Event) (are : calls ≡ first ++ later) where
  -- a call of the later part is among the calls
  pub later_among : (event : Event) → Contains later event → Contains calls event
  later_among event there = subst (λ es. Contains es event) (sym are) (Contains-append_right first later event there)

  -- what happens at a path by the first calls, and then by the others
  pub happen_parts : (path : List ℕ) (a b : Option (List ℕ)) → HappenAt path calls a b → (mid : Option (List ℕ)) × HappenAt path first a mid × HappenAt path later mid b
  happen_parts path a b happen = happen-split path first later a b (subst (λ es. HappenAt path es a b) are happen)

  -- where the first calls keep the path
  pub happen_later : (path : List ℕ) (a b : Option (List ℕ)) → AllByRecursion (KeepsPath path) first → HappenAt path calls a b → HappenAt path later a b
  happen_later path a b keeps happen =
      let halves = happen_parts path a b happen in
      subst (λ file. HappenAt path later file b) (happen_keeping path first a halves.0 keeps halves.1) halves.2

  -- after calls that keep every path, the files follow the later ones
  pub follow_later : (before after : Option Files) → KeepAll first → Becomes before after (Follow calls) → Becomes before after (Follow later)
  follow_later before after keeps change = becomes_weaker change (λ old new follow path. happen_later path (old path) (new path) (keeps path) (follow path))
