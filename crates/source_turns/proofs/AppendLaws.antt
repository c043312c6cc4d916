-- Turns that append to some paths alone, and turns of which the first are others.
use Rattle.std.specs.Prelude.{◌≡◌, ◌<◌, ◌≤◌, ◌+◌, ℕ, false, if◌then◌else◌, List, [], ◌∷◌, ◌++◌, Contains, drop, map, take, OnErr, OnOk, Result, Ok, Err}
use Rattle.std.specs.List.{concat, range_with_len}
use Rattle.std.specs.Str.{bytes_eq}
use Rattle.std.proofs.Common.{refl, sym, ap, subst, ◌∙◌, arith, ⊎_elim}
use Rattle.std.proofs.lemmas.Bool.{false_from_ne_true}
use Rattle.std.proofs.lemmas.List.{append-nil, get_or-map, length-map, take-append-drop}
use Rattle.std.proofs.lemmas.List.FromFn.{map-range_with_len_more, take-map-range_with_len}
use Rattle.std.proofs.lemmas.Slice.Eq.{bytes_eq-Decides}
use Rattle.item_list.proofs.Maps.{same_made}
use Rattle.lif_outside.proofs.FileCallLaws.{appends-append, bytes_appended-append}
use Rattle.lif_outside.proofs.SequenceLaws.{stops_behind, stops_first, stops_here}
use Rattle.lif_outside.proofs.TurnLaws.{appends_of-append, behind_there, first_there, there_cases}
use Rattle.lif_outside.specs.AccountLaws.{contains_none}
use Rattle.lif_outside.specs.Events.{Event, appended, append_event, append_failed}
use Rattle.lif_outside.specs.FileCalls.{AreAppendsTo, StopsWithin, Written, appends_of, bytes_appended}
use Rattle.lif_outside.specs.Files.{AreDistinct, Files, Holds}
use Rattle.lif_outside.specs.Sequences.{IsFrontOf, Are}
use Rattle.std.proofs.lemmas.List.Elements.{All-contains}
use Rattle.lif_outside.proofs.CallLaws.{calls_of}
use Rattle.lif_outside.specs.Calls.{ByCalls}
use Rattle.lif_outside.specs.Writes.{WritesFiles}
use Rattle.lif_outside.specs.declared.Failed.{Failed}
use Rattle.command_steps.specs.Filling.{files_by}

-- the append of a part, and those of the parts of one turn
abbrev pub part_call : Written → Event
part_call part = appended part.0 part.1

abbrev pub TurnAppends : List (List ℕ) → List Written → Type 0
TurnAppends paths turn = AreAppendsTo paths (map part_call turn)

-- parts that are made of items, each for the item's own path
pub parts_append : {X : Type 0} (paths : List (List ℕ)) (path bytes : X → List ℕ) (xs : List X) → ((place : List ℕ) → Contains (map path xs) place → Contains paths place)
    → TurnAppends paths (map (λ x. (path x, bytes x)) xs)
parts_append paths path bytes [] within = tt
parts_append paths path bytes (x ∷ xs) within = (
  within (path x) (first_there (path x) (map path xs)),
  parts_append paths path bytes xs (λ place there. within place (behind_there (path x) (map path xs) place there)),
)

-- turns of which each appends to the paths alone
pub turns_append : {X : Type 0} (paths : List (List ℕ)) (turn : X → List Written) (xs : List X) → ((x : X) → TurnAppends paths (turn x)) → AreAppendsTo paths (appends_of (map turn xs))
turns_append paths turn [] each = tt
turns_append paths turn (x ∷ xs) each = appends-append paths (map part_call (turn x)) (appends_of (map turn xs)) (each x) (turns_append paths turn xs each)

-- few turns are the first of all where they agree
pub turns_front : (turn other : ℕ → List Written) (few all : ℕ) → few ≤ all → ((j : ℕ) → j < few → turn j ≡ other j)
    → IsFrontOf (appends_of (map turn (range_with_len 0 all))) (appends_of (map other (range_with_len 0 few)))
turns_front turn other few all within agree =
    let turns = map turn (range_with_len 0 all) in
    let rest = appends_of (drop few turns) in (
      rest,
      ap appends_of (sym (take-append-drop few turns)) ∙ appends_of-append (take few turns) (drop few turns)
          ∙ ap (λ front. appends_of front ++ rest) (take-map-range_with_len turn 0 all few within ∙ same_made turn other few [] agree),
    )

-- ---- what they bring

-- what is made of an item stands where those of all do
pub made_there : {X Y : Type 0} (f : X → Y) (xs : List X) (x : X) → Contains xs x → Contains (map f xs) (f x)
made_there f xs x there = (there.0, omega (arith, there.1, length-map xs f), get_or-map f xs there.0 x (f x) there.1 ∙ ap f there.2)

module _ {X : Type 0} (path bytes : X → List ℕ) where
  -- what parts made of items add at a path
  abbrev added : List ℕ → List X → List ℕ
  added place xs = bytes_appended place (map part_call (map (λ x. (path x, bytes x)) xs))

  -- a path of none of them gets nothing
  none-added : (place : List ℕ) (xs : List X) → ¬ Contains (map path xs) place → added place xs ≡ []
  none-added place [] apart = refl
  none-added place (x ∷ xs) apart =
      let other : bytes_eq (path x) place ≡ false =
      false_from_ne_true _ (λ is. apart (subst (Contains (map path (x ∷ xs))) ((bytes_eq-Decides (path x) place).0 is) (first_there (path x) (map path xs)))) in
      ap (λ test. (if test then bytes x else []) ++ added place xs) other ∙ none-added place xs (λ there. apart (behind_there (path x) (map path xs) place there))

  -- of distinct paths, each gets the bytes of its item
  pub part-added : (xs : List X) → AreDistinct (map path xs) → (x : X) → Contains xs x → added (path x) xs ≡ bytes x
  part-added [] distinct x there = absurd (contains_none x there)
  part-added (first ∷ xs) distinct x there = ⊎_elim
      (λ same. subst (λ x. added (path x) (first ∷ xs) ≡ bytes x) same here)
      (λ behind.
      let other : bytes_eq (path first) (path x) ≡ false =
      false_from_ne_true _ (λ is. distinct.0 (subst (Contains (map path xs)) (sym ((bytes_eq-Decides (path first) (path x)).0 is)) (made_there path xs x behind))) in
      ap (λ test. (if test then bytes first else []) ++ added (path x) xs) other ∙ part-added xs distinct.1 x behind)
      (there_cases first xs x there)
    where
      here : added (path first) (first ∷ xs) ≡ bytes first
      here =
          ap (λ test. (if test then bytes first else []) ++ added (path first) xs) ((bytes_eq-Decides (path first) (path first)).1 refl)
          ∙ ap (λ rest. bytes first ++ rest) (none-added (path first) xs distinct.0) ∙ append-nil (bytes first)

-- turn by turn, what turns add at a path
pub turns-add : {X : Type 0} (place : List ℕ) (turn : X → List Written) (bytes : X → List ℕ) → ((x : X) → bytes_appended place (map part_call (turn x)) ≡ bytes x)
    → (xs : List X) → bytes_appended place (appends_of (map turn xs)) ≡ concat (map bytes xs)
turns-add place turn bytes each [] = refl
turns-add place turn bytes each (x ∷ xs) =
    let rest = appends_of (map turn xs) in
    bytes_appended-append place (map part_call (turn x)) rest ∙ ap (λ first. first ++ bytes_appended place rest) (each x) ∙ ap (λ later. bytes x ++ later) (turns-add place turn bytes each xs)

-- each path holds what turns add there
pub held_by : (paths : List (List ℕ)) (turns : List (List Written)) (old new : Files) → WritesFiles (files_by paths turns) old new → (path : List ℕ) → Contains paths path
    → Holds (bytes_appended path (appends_of turns)) (new path)
held_by paths turns old new written path there =
    let file : List ℕ → Written = λ path. (path, bytes_appended path (appends_of turns)) in
    All-contains (λ (file : Written). Holds file.1 (new file.0)) (map file paths) (file path) written.these (made_there file paths path there)

-- ---- turns one by one

module _ (turn : ℕ → List Written) where
  abbrev turns : ℕ → List (List Written)
  turns count = map turn (range_with_len 0 count)

  -- some turns, and then the next one
  pub turns_more : (count : ℕ) → appends_of (turns count) ++ appends_of (turn count ∷ []) ≡ appends_of (turns (count + 1))
  turns_more count = sym (ap appends_of (map-range_with_len_more turn 0 count count (omega arith)) ∙ appends_of-append (turns count) (turn count ∷ []))

  -- and where the appends of that one stop
  pub turns_stopped : (all count : ℕ) (events : List Event) → count < all → StopsWithin (appends_of (turn count ∷ [])) events
      → StopsWithin (appends_of (turns all)) (appends_of (turns count) ++ events)
  turns_stopped all count events within stop =
      let front = appends_of (turns count) in
      let next = turns_front turn turn (count + 1) all (omega (arith, within)) (λ j below. refl) in
      let whole : appends_of (turns all) ≡ (front ++ appends_of (turn count ∷ [])) ++ next.0 = next.1 ∙ ap (λ these. these ++ next.0) (sym (turns_more count)) in
      subst (λ these. StopsWithin these (front ++ events)) (sym whole)
      (stops_first (front ++ appends_of (turn count ∷ [])) next.0 (front ++ events) (stops_behind front (appends_of (turn count ∷ [])) events stop))

-- ---- what a call of one append makes of a turn

-- an append, by its answer: all that is due, or where it stops
module _ {S : Type 0} (calls : List Event → S → S → Type 0) (a b : S) (path bytes : List ℕ) (due : List Event) (is : due ≡ appended path bytes ∷ []) where
  pub append_done : (result : Result Unit Failed) → calls (append_event path bytes result ∷ []) a b → OnOk result (ByCalls calls a b (Are due))
  append_done (Ok done) lead = calls_of (Are due) (appended path bytes ∷ []) lead (sym is)
  append_done (Err why) lead = tt

  pub append_stopped : (result : Result Unit Failed) → calls (append_event path bytes result ∷ []) a b → OnErr result (ByCalls calls a b (StopsWithin due))
  append_stopped (Ok done) lead = tt
  append_stopped (Err why) lead =
      calls_of (StopsWithin due) (append_failed path bytes ∷ []) lead
      (subst (λ due. StopsWithin due (append_failed path bytes ∷ [])) (sym is) (stops_here (appended path bytes) []))
