-- What follows of creates and appends at several paths in turn, and of calls that stop within them.
use Rattle.std.specs.Prelude.{◌≡◌, ◌≢◌, ◌⊎◌, ◌+◌, ℕ, List, [], ◌∷◌, ◌++◌, Option, Some, unwrap_or, min, length, map, take, true, false, if◌then◌else◌, Contains}
use Rattle.std.specs.List.{AllByRecursion}
use Rattle.std.proofs.Common.{refl, sym, ap, ◌∙◌, subst, arith, inl, inr, ⊎_elim}
use Rattle.std.proofs.Math.Seq.{take-append_seam}
use Rattle.std.proofs.lemmas.List.{map-append}
use Rattle.std.proofs.lemmas.List.Concat.{flat_map-append}
use Rattle.std.proofs.lemmas.List.Elements.{Contains-append_right, Contains-append_cases}
use Rattle.std.proofs.lemmas.Slice.Eq.{bytes_eq-Decides}
use Rattle.lif_outside.specs.AccountLaws.{contains_none, contains_one}
use Rattle.lif_outside.specs.Events.{Event, read, created, create_failed, appended, append_failed, HappensAt, HappenAt}
use Rattle.lif_outside.specs.EventLaws.{KeepsPath, happen-split, happens_here, happens_elsewhere, path_cases}
use Rattle.lif_outside.proofs.FaultLaws.{HaveFailed, failed-append, appends_unfailed}
use Rattle.lif_outside.specs.Files.{HoldsPrefix, IsSameOrEmpty}
use Rattle.lif_outside.proofs.PutLaws.{take-behind}
use Rattle.lif_outside.specs.FileCalls.{StopsWithin, Written, failed_of, creates_of, appends_of, AreAppendsTo, bytes_appended}
use Rattle.lif_outside.specs.Sequences.{IsFrontOf}
use Rattle.lif_outside.proofs.SequenceLaws.{all_split, stops_all, stops_there}
use Rattle.lif_outside.proofs.FileCallLaws.{appends_held, bytes_appended-append}

-- creates of paths, and then of others: also of one more
pub creates_of-append : (paths others : List (List ℕ)) → creates_of (paths ++ others) ≡ creates_of paths ++ creates_of others
creates_of-append paths others = map-append created paths others

-- appends of some turns, and then of others
pub appends_of-append : (turns others : List (List Written)) → appends_of (turns ++ others) ≡ appends_of turns ++ appends_of others
appends_of-append turns others = flat_map-append (λ turn. map (λ (part : Written). appended part.0 part.1) turn) turns others

-- creates that stop at a path
pub creates_of-stops : (front : List (List ℕ)) (path : List ℕ) (rest : List (List ℕ)) → StopsWithin (creates_of (front ++ path ∷ rest)) (creates_of front ++ create_failed path ∷ [])
creates_of-stops front path rest = record { front = creates_of front; next = created path; rest = creates_of rest; these_are = creates_of-append front (path ∷ rest); events_are = refl }

-- of a path and more paths, the first, those behind it, and no other
pub first_there : {X : Type 0} (first : X) (rest : List X) → Contains (first ∷ rest) first
first_there first rest = (0, omega arith, refl)

pub behind_there : (path : List ℕ) (paths : List (List ℕ)) (place : List ℕ) → Contains paths place → Contains (path ∷ paths) place
behind_there path paths place there = Contains-append_right (path ∷ []) paths place there

pub there_cases : {X : Type 0} (first : X) (rest : List X) (x : X) → Contains (first ∷ rest) x → (first ≡ x) ⊎ Contains rest x
there_cases first rest x there = ⊎_elim (λ one. inl (contains_one first x one)) inr (Contains-append_cases (first ∷ []) rest x there)

-- a path that is none of these isn't the first, and none of those behind it
pub apart_first : (path : List ℕ) (paths : List (List ℕ)) (place : List ℕ) → ¬ Contains (path ∷ paths) place → path ≢ place
apart_first path paths place apart same = apart (subst (Contains (path ∷ paths)) same (first_there path paths))

pub apart_behind : (path : List ℕ) (paths : List (List ℕ)) (place : List ℕ) → ¬ Contains (path ∷ paths) place → ¬ Contains paths place
apart_behind path paths place apart there = apart (behind_there path paths place there)

-- creates keep every other path
pub creates_of-keep : (paths : List (List ℕ)) (place : List ℕ) → ¬ Contains paths place → AllByRecursion (KeepsPath place) (creates_of paths)
creates_of-keep [] place apart = tt
creates_of-keep (path ∷ paths) place apart = (apart_first path paths place apart, creates_of-keep paths place (apart_behind path paths place apart))

-- a call that keeps a path keeps it also where it fails
failed_keeps : (place : List ℕ) (event : Event) → KeepsPath place event → KeepsPath place (failed_of event)
failed_keeps place (read other at room bytes) keeps = tt
failed_keeps place event keeps = keeps

-- calls that stop within others keep what those keep
pub stops_keep : (place : List ℕ) (these events : List Event) → StopsWithin these events → AllByRecursion (KeepsPath place) these → AllByRecursion (KeepsPath place) events
stops_keep place = stops_all (KeepsPath place) (failed_keeps place)

-- an empty file stays empty
creates_stay : (paths : List (List ℕ)) (place : List ℕ) (b : Option (List ℕ)) → HappenAt place (creates_of paths) (Some []) b → b ≡ Some []
creates_stay [] place b h = h
creates_stay (path ∷ paths) place b h =
    creates_stay paths place b (subst (λ file. HappenAt place (creates_of paths) file b) (⊎_elim h.1.here h.1.elsewhere (path_cases path place)) h.2)

-- each of the paths that were created has an empty file
pub creates_of-empty : (paths : List (List ℕ)) (place : List ℕ) (a b : Option (List ℕ)) → Contains paths place → HappenAt place (creates_of paths) a b → b ≡ Some []
creates_of-empty [] place a b there h = absurd (contains_none place there)
creates_of-empty (path ∷ paths) place a b there h = ⊎_elim
    (λ same. creates_stay paths place b (subst (λ file. HappenAt place (creates_of paths) file b) (h.1.here same) h.2))
    (λ behind. creates_of-empty paths place h.0 b behind h.2)
    (there_cases path paths place there)

-- a create, done or failed
abbrev IsCreate : Event → Type 0
IsCreate (created path) = Unit {0}
IsCreate (create_failed path) = Unit {0}
IsCreate event = ⊥

failed_create : (event : Event) → IsCreate event → IsCreate (failed_of event)
failed_create (created path) is = tt
failed_create event is = is

creates_all : (paths : List (List ℕ)) → AllByRecursion IsCreate (creates_of paths)
creates_all [] = tt
creates_all (path ∷ paths) = (tt, creates_all paths)

-- one create leaves what stood there or an empty file, and so do more
create_leaves : (place : List ℕ) (event : Event) (a b : Option (List ℕ)) → IsCreate event → HappensAt place event a b → IsSameOrEmpty a b
create_leaves place (created path) a b is h = ⊎_elim (λ same. inr (h.here same)) (λ apart. inl (h.elsewhere apart)) (path_cases path place)
create_leaves place (create_failed path) a b is h = ⊎_elim h.here (λ apart. inl (h.elsewhere apart)) (path_cases path place)
create_leaves place event a b is h = absurd is

leaves_then : (a mid b : Option (List ℕ)) → IsSameOrEmpty a mid → IsSameOrEmpty mid b → IsSameOrEmpty a b
leaves_then a mid b one other = ⊎_elim (λ same. subst (IsSameOrEmpty a) (sym same) one) inr other

creates_leave : (place : List ℕ) (events : List Event) (a b : Option (List ℕ)) → AllByRecursion IsCreate events → HappenAt place events a b → IsSameOrEmpty a b
creates_leave place [] a b all h = inl h
creates_leave place (event ∷ events) a b all h = leaves_then a h.0 b (create_leaves place event a h.0 all.0 h.1) (creates_leave place events h.0 b all.1 h.2)

-- creates that stopped leave each path as it was or empty
pub creates_of-stopped : (paths : List (List ℕ)) (place : List ℕ) (events : List Event) (a b : Option (List ℕ)) → StopsWithin (creates_of paths) events → HappenAt place events a b → IsSameOrEmpty a b
creates_of-stopped paths place events a b stop h = creates_leave place events a b (stops_all IsCreate failed_create (creates_of paths) events stop (creates_all paths)) h

-- appends in two parts
pub appends-split : (paths : List (List ℕ)) (first later : List Event) → AreAppendsTo paths (first ++ later) → AreAppendsTo paths first × AreAppendsTo paths later
appends-split paths [] later are = (tt, are)
appends-split paths (appended path bytes ∷ first) later are = let rest = appends-split paths first later are.1 in ((are.0, rest.0), rest.1)
appends-split paths (event ∷ first) later are = absurd are

-- the appends before the one that failed, and that one
first_append : (paths : List (List ℕ)) (next : Event) (rest : List Event) → AreAppendsTo paths (next ∷ rest) → (path bytes : List ℕ) × Contains paths path × (next ≡ appended path bytes)
first_append paths (appended path bytes) rest are = (path, bytes, are.0, refl)
first_append paths event rest are = absurd are

record AppendStops (paths : List (List ℕ)) (front : List Event) (next : Event) : Type 0 where
  before : AreAppendsTo paths front
  path : List ℕ
  bytes : List ℕ
  among : Contains paths path
  next_is : next ≡ appended path bytes

append_stops : (paths : List (List ℕ)) (these events : List Event) → AreAppendsTo paths these → (stop : StopsWithin these events) → AppendStops paths stop.front stop.next
append_stops paths these events are stop =
    let parts = appends-split paths stop.front (stop.next ∷ stop.rest) (subst (AreAppendsTo paths) stop.these_are are) in
    let next = first_append paths stop.next stop.rest parts.1 in
    record { before = parts.0; path = next.0; bytes = next.1; among = next.2; next_is = next.3 }

-- what was appended up to a place is a prefix
front_held : (sent more all : List ℕ) (b : Option (List ℕ)) → sent ++ more ≡ all → b ≡ Some sent → HoldsPrefix all b
front_held sent more all b whole is = (length sent, is ∙ ap Some (sym (take-append_seam sent more) ∙ ap (take (length sent)) whole))

-- and so is that with what a failed append has added
failed_held : (place path bytes sent all : List ℕ) (rest : List Event) (a b : Option (List ℕ)) → sent ++ bytes_appended place (appended path bytes ∷ rest) ≡ all → a ≡ Some sent
    → HappenAt place (append_failed path bytes ∷ []) a b → HoldsPrefix all b
failed_held place path bytes sent all rest a b whole held h = ⊎_elim
    (λ same. ⊎_elim
    (λ kept. front_held sent _ all b whole (kept ∙ held))
    (λ part. let more = bytes_appended place rest in
    let together : sent ++ (bytes ++ more) ≡ all = ap (λ test. sent ++ ((if test then bytes else []) ++ more)) (sym ((bytes_eq-Decides path place).1 same)) ∙ whole in
    let n = length sent + min part.0 (length bytes) in
    (n, part.1 ∙ ap (λ file. Some (unwrap_or file [] ++ take part.0 bytes)) held ∙ ap Some (take-behind sent bytes more part.0 ∙ ap (take n) together)))
    (happens_here place (append_failed path bytes) a b same h))
    (λ apart. front_held sent _ all b whole (happens_elsewhere place (append_failed path bytes) a b apart h ∙ held))
    (path_cases path place)

-- the first of some appends leave a prefix of what all of them bring in a file that was empty
pub appends-front : (paths : List (List ℕ)) (these events : List Event) (place : List ℕ) (b : Option (List ℕ)) → AreAppendsTo paths these → IsFrontOf these events → HappenAt place events (Some []) b
    → HoldsPrefix (bytes_appended place these) b
appends-front paths these events place b are front h =
    let parts = appends-split paths events front.0 (subst (AreAppendsTo paths) front.1 are) in
    front_held (bytes_appended place events) (bytes_appended place front.0) (bytes_appended place these) b
    (sym (bytes_appended-append place events front.0) ∙ ap (bytes_appended place) (sym front.1))
    (appends_held paths place events [] (Some []) b parts.0 refl h)

-- the first of some appends keep what all of them keep
pub front_keeps : (place : List ℕ) (these events : List Event) → IsFrontOf these events → AllByRecursion (KeepsPath place) these → AllByRecursion (KeepsPath place) events
front_keeps place these events front keeps = (all_split (KeepsPath place) events front.0 (subst (AllByRecursion (KeepsPath place)) front.1 keeps)).0

-- and none has failed
pub front_unfailed : (paths : List (List ℕ)) (these events : List Event) → AreAppendsTo paths these → IsFrontOf these events → HaveFailed false false events
front_unfailed paths these events are front = appends_unfailed paths events (appends-split paths events front.0 (subst (AreAppendsTo paths) front.1 are)).0

-- and so do appends that stopped
pub appends-stopped : (paths : List (List ℕ)) (these events : List Event) (place : List ℕ) (b : Option (List ℕ)) → AreAppendsTo paths these → StopsWithin these events → HappenAt place events (Some []) b
    → HoldsPrefix (bytes_appended place these) b
appends-stopped paths these events place b are stop h =
    let stops = append_stops paths these events are stop in
    let sent = bytes_appended place stop.front in
    let all = bytes_appended place these in
    let whole : sent ++ bytes_appended place (stop.next ∷ stop.rest) ≡ all =
    sym (bytes_appended-append place stop.front (stop.next ∷ stop.rest)) ∙ ap (bytes_appended place) (sym stop.these_are) in
    let halves = happen-split place stop.front (failed_of stop.next ∷ []) (Some []) b (subst (λ es. HappenAt place es (Some []) b) stop.events_are h) in
    failed_held place stops.path stops.bytes sent all stop.rest halves.0 b
    (subst (λ event. sent ++ bytes_appended place (event ∷ stop.rest) ≡ all) stops.next_is whole)
    (appends_held paths place stop.front [] (Some []) halves.0 stops.before refl halves.1)
    (subst (λ event. HappenAt place (failed_of event ∷ []) halves.0 b) stops.next_is halves.2)

-- creates of these paths: the ones before the one that failed, and that one
abbrev IsCreateOf : List (List ℕ) → Event → Type 0
IsCreateOf paths (created path) = Contains paths path
IsCreateOf paths event = ⊥

creates_are : (all paths : List (List ℕ)) → ((path : List ℕ) → Contains paths path → Contains all path) → AllByRecursion (IsCreateOf all) (creates_of paths)
creates_are all [] within = tt
creates_are all (path ∷ paths) within = (within path (first_there path paths), creates_are all paths (λ place there. within place (behind_there path paths place there)))

first_create : (paths : List (List ℕ)) (next : Event) → IsCreateOf paths next → (path : List ℕ) × Contains paths path × (next ≡ created path)
first_create paths (created path) is = (path, is, refl)
first_create paths event is = absurd is

record CreateStops (paths : List (List ℕ)) (front : List Event) (next : Event) : Type 0 where
  before : AllByRecursion (IsCreateOf paths) front
  path : List ℕ
  among : Contains paths path
  next_is : next ≡ created path

create_stops : (paths : List (List ℕ)) (events : List Event) → (stop : StopsWithin (creates_of paths) events) → CreateStops paths stop.front stop.next
create_stops paths events stop =
    let parts = all_split (IsCreateOf paths) stop.front (stop.next ∷ stop.rest) (subst (AllByRecursion (IsCreateOf paths)) stop.these_are (creates_are paths paths (λ path there. there))) in
    let next = first_create paths stop.next parts.1.0 in
    record { before = parts.0; path = next.0; among = next.1; next_is = next.2 }

-- the create that failed, and the append that failed, is among the calls
pub creates_of-fault : (paths : List (List ℕ)) (events : List Event) → StopsWithin (creates_of paths) events → (path : List ℕ) × Contains paths path × Contains events (create_failed path)
creates_of-fault paths events stop =
    let stops = create_stops paths events stop in
    (stops.path, stops.among, subst (λ event. Contains events (failed_of event)) stops.next_is (stops_there (creates_of paths) events stop))

pub appends-fault : (paths : List (List ℕ)) (these events : List Event) → AreAppendsTo paths these → StopsWithin these events → (path bytes : List ℕ) × Contains paths path × Contains events (append_failed path bytes)
appends-fault paths these events are stop =
    let stops = append_stops paths these events are stop in
    (stops.path, stops.bytes, stops.among, subst (λ event. Contains events (failed_of event)) stops.next_is (stops_there these events stop))

-- creates that were all done have no failed call
creates_unfailed : (paths : List (List ℕ)) (events : List Event) → AllByRecursion (IsCreateOf paths) events → HaveFailed false false events
creates_unfailed paths [] are = record { failed_read = refl; failed_write = refl }
creates_unfailed paths (created path ∷ events) are = let rest = creates_unfailed paths events are.1 in record { failed_read = rest.failed_read; failed_write = rest.failed_write }
creates_unfailed paths (event ∷ events) are = absurd are.0

pub creates_of-unfailed : (paths : List (List ℕ)) → HaveFailed false false (creates_of paths)
creates_of-unfailed paths = creates_unfailed paths (creates_of paths) (creates_are paths paths (λ path there. there))

-- those that stopped have a failed write, and no failed read
last_failed : (these events : List Event) (done : Event) → (stop : StopsWithin these events) → HaveFailed false false stop.front → stop.next ≡ done → HaveFailed false true (failed_of done ∷ []) → HaveFailed false true events
last_failed these events done stop before is last =
    subst (HaveFailed false true) (sym stop.events_are) (failed-append false false false true stop.front _ before (subst (λ event. HaveFailed false true (failed_of event ∷ [])) (sym is) last))

pub creates_of-failed : (paths : List (List ℕ)) (events : List Event) → StopsWithin (creates_of paths) events → HaveFailed false true events
creates_of-failed paths events stop =
    let stops = create_stops paths events stop in
    last_failed (creates_of paths) events (created stops.path) stop (creates_unfailed paths stop.front stops.before) stops.next_is (record { failed_read = refl; failed_write = refl })

pub appends-failed : (paths : List (List ℕ)) (these events : List Event) → AreAppendsTo paths these → StopsWithin these events → HaveFailed false true events
appends-failed paths these events are stop =
    let stops = append_stops paths these events are stop in
    last_failed these events (appended stops.path stops.bytes) stop (appends_unfailed paths stop.front stops.before) stops.next_is (record { failed_read = refl; failed_write = refl })
