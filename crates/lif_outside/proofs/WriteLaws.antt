-- What follows of files that are written whole, one after another, and of calls that stop within them.
use Rattle.std.specs.Prelude.{◌≡◌, ◌≢◌, ◌⊎◌, ℕ, List, [], ◌∷◌, ◌++◌, Option, Some, unwrap_or, length, take, false, true, All, Contains}
use Rattle.std.specs.List.{AllByRecursion}
use Rattle.std.proofs.Common.{refl, sym, ap, ◌∙◌, subst, arith, inl, inr, ⊎_elim}
use Rattle.std.proofs.lemmas.List.{get_or-map, length-map, take_all}
use Rattle.std.proofs.lemmas.List.Elements.{All-contains_itself, All-weaker, Contains-append_right}
use Rattle.lif_outside.specs.AccountLaws.{contains_none}
use Rattle.lif_outside.specs.Calls.{Deeds, Outside}
use Rattle.lif_outside.specs.Counts.{Rose}
use Rattle.lif_outside.proofs.DeedLaws.{Accounted}
use Rattle.lif_outside.specs.Events.{Event, created, create_failed, appended, append_failed, HappensAt, HappenAt, Follow}
use Rattle.lif_outside.specs.EventLaws.{KeepsPath, happens_here, happens_elsewhere, happen_keeping, path_cases}
use Rattle.lif_outside.proofs.FaultLaws.{HaveFailed}
use Rattle.lif_outside.specs.Files.{Files, AreDistinct, Holds, HoldsPrefix}
use Rattle.lif_outside.specs.FileCalls.{StopsWithin, Written, failed_of}
use Rattle.lif_outside.proofs.SequenceLaws.{stops_none}
use Rattle.lif_outside.proofs.TurnLaws.{first_there, behind_there, apart_first, apart_behind, stops_keep, there_cases}
use Rattle.lif_outside.specs.Writes.{WritesFiles, WritesPart, paths_written, writes_of}

-- its path is one of theirs
path_there : (files : List Written) (file : Written) → Contains files file → Contains (paths_written files) file.0
path_there files file there =
    let path = λ (one : Written). one.0 in
    (there.0, omega (arith, there.1, length-map files path), get_or-map path files there.0 file file.0 there.1 ∙ ap path there.2)

-- the calls keep every other path
pub writes_of-keep : (files : List Written) (place : List ℕ) → ¬ Contains (paths_written files) place → AllByRecursion (KeepsPath place) (writes_of files)
writes_of-keep [] place apart = tt
writes_of-keep (file ∷ files) place apart =
    let other = apart_first file.0 (paths_written files) place apart in
    (other, (other, writes_of-keep files place (apart_behind file.0 (paths_written files) place apart)))

-- a file that is created and appended to, and whose path is kept then
whole : (place bytes : List ℕ) (a mid last b : Option (List ℕ)) → HappensAt place (created place) a mid → HappensAt place (appended place bytes) mid last → b ≡ last → b ≡ Some bytes
whole place bytes a mid last b makes adds kept = kept ∙ adds.here refl ∙ ap (λ file. Some (unwrap_or file [] ++ bytes)) (makes.here refl)

-- each file holds its bytes
held_at : (files : List Written) → AreDistinct (paths_written files) → (file : Written) → Contains files file → (a b : Option (List ℕ)) → HappenAt file.0 (writes_of files) a b → Holds file.1 b
held_at [] distinct file there a b h = absurd (contains_none file there)
held_at (first ∷ files) distinct file there a b h = ⊎_elim
    (λ same. subst (λ (one : Written). (a b : Option (List ℕ)) → HappenAt one.0 (writes_of (first ∷ files)) a b → Holds one.1 b) same
    (λ a b h. whole first.0 first.1 a h.0 h.2.0 b h.1 h.2.1 (happen_keeping first.0 (writes_of files) h.2.0 b (writes_of-keep files first.0 distinct.0) h.2.2))
    a b h)
    (λ behind. held_at files distinct.1 file behind h.2.0 b h.2.2)
    (there_cases first files file there)

-- what holds of each file of a list
of_each : (files : List Written) (P : Written → Type 0) → ((file : Written) → Contains files file → P file) → All P files
of_each files P holds = All-weaker (Contains files) P holds files (All-contains_itself files)

-- files at distinct paths are written
pub writes_of-done : (files : List Written) (old new : Files) → AreDistinct (paths_written files) → Follow (writes_of files) old new → WritesFiles files old new
writes_of-done files old new distinct follow = record {
  others = λ path apart. happen_keeping path (writes_of files) (old path) (new path) (writes_of-keep files path apart) (follow path);
  these = of_each files (λ file. Holds file.1 (new file.0)) (λ file there. held_at files distinct file there (old file.0) (new file.0) (follow file.0));
}

-- calls that stop at the first of some, or behind it
stop_cases : (first : Event) (these events : List Event) → StopsWithin (first ∷ these) events
    → (events ≡ failed_of first ∷ []) ⊎ ((rest : List Event) × (events ≡ first ∷ rest) × StopsWithin these rest)
stop_cases first these events stop = by_front stop.front stop.these_are stop.events_are
  where
    by_front : (front : List Event) → first ∷ these ≡ front ++ stop.next ∷ stop.rest → events ≡ front ++ failed_of stop.next ∷ []
        → (events ≡ failed_of first ∷ []) ⊎ ((rest : List Event) × (events ≡ first ∷ rest) × StopsWithin these rest)
    by_front [] are events_are =
        let same : stop.next ≡ first = cc in
        inl (events_are ∙ ap (λ event. failed_of event ∷ []) same)
    by_front (event ∷ front) are events_are =
        let same : event ≡ first = cc in
        let behind : these ≡ front ++ stop.next ∷ stop.rest = cc in
        let rest = front ++ failed_of stop.next ∷ [] in
        inr (rest, events_are ∙ ap (λ one. one ∷ rest) same, record { front = front; next = stop.next; rest = stop.rest; these_are = behind; events_are = refl })

-- Calls that stop within the writes of files: at a create, at an append, or within those of the later files.
data Stopped (file : Written) (files : List Written) (events : List Event) : Type 0 where
  at_create : events ≡ create_failed file.0 ∷ [] → Stopped file files events
  at_append : events ≡ created file.0 ∷ append_failed file.0 file.1 ∷ [] → Stopped file files events
  later : (rest : List Event) → events ≡ created file.0 ∷ appended file.0 file.1 ∷ rest → StopsWithin (writes_of files) rest → Stopped file files events

stopped : (file : Written) (files : List Written) (events : List Event) → StopsWithin (writes_of (file ∷ files)) events → Stopped file files events
stopped file files events stop = ⊎_elim
    at_create
    (λ behind. ⊎_elim
    (λ failed. at_append (behind.1 ∙ ap (λ rest. created file.0 ∷ rest) failed))
    (λ more. later more.0 (behind.1 ∙ ap (λ rest. created file.0 ∷ rest) more.1) more.2)
    (stop_cases (appended file.0 file.1) (writes_of files) behind.0 behind.2))
    (stop_cases (created file.0) (appended file.0 file.1 ∷ writes_of files) events stop)

-- what stands at the path of a file: what stood there, or a prefix of its bytes
abbrev IsPartOf : List ℕ → Option (List ℕ) → Option (List ℕ) → Type 0
IsPartOf bytes old new = (new ≡ old) ⊎ HoldsPrefix bytes new

-- one failed create
uncreated : (place path bytes : List ℕ) (a b : Option (List ℕ)) → HappenAt place (create_failed path ∷ []) a b → IsPartOf bytes a b
uncreated place path bytes a b h = ⊎_elim
    (λ same. ⊎_elim inl (λ empty. inr (0, empty)) (happens_here place (create_failed path) a b same h))
    (λ apart. inl (happens_elsewhere place (create_failed path) a b apart h))
    (path_cases path place)

-- one failed append behind a create
unappended : (place bytes : List ℕ) (a mid b : Option (List ℕ)) → HappensAt place (created place) a mid → HappenAt place (append_failed place bytes ∷ []) mid b → HoldsPrefix bytes b
unappended place bytes a mid b makes h = ⊎_elim
    (λ kept. (0, kept ∙ makes.here refl))
    (λ part. (part.0, part.1 ∙ ap (λ file. Some (unwrap_or file [] ++ take part.0 bytes)) (makes.here refl)))
    (happens_here place (append_failed place bytes) mid b refl h)

-- all of a file is a prefix
all_held : (bytes : List ℕ) (b : Option (List ℕ)) → b ≡ Some bytes → HoldsPrefix bytes b
all_held bytes b is = (length bytes, is ∙ ap Some (sym (take_all (length bytes) bytes (omega arith))))

-- each file is as before, or holds a prefix of its bytes
part_at : (files : List Written) (events : List Event) → AreDistinct (paths_written files) → StopsWithin (writes_of files) events → (file : Written) → Contains files file
    → (a b : Option (List ℕ)) → HappenAt file.0 events a b → IsPartOf file.1 a b
part_at [] events distinct stop file there a b h = absurd (contains_none file there)
part_at (first ∷ files) events distinct stop file there a b h = ⊎_elim
    (λ same. subst (λ (one : Written). (a b : Option (List ℕ)) → HappenAt one.0 events a b → IsPartOf one.1 a b) same (here (stopped first files events stop)) a b h)
    (λ behind. elsewhere behind (λ rest within mid. part_at files rest distinct.1 within file behind mid b) (stopped first files events stop) a h)
    (there_cases first files file there)
  where
    here : Stopped first files events → (a b : Option (List ℕ)) → HappenAt first.0 events a b → IsPartOf first.1 a b
    here (at_create is) a b h = uncreated first.0 first.0 first.1 a b (subst (λ es. HappenAt first.0 es a b) is h)
    here (at_append is) a b h =
        let steps = subst (λ es. HappenAt first.0 es a b) is h in
        inr (unappended first.0 first.1 a steps.0 b steps.1 steps.2)
    here (later rest is within) a b h =
        let steps = subst (λ es. HappenAt first.0 es a b) is h in
        let keeps = stops_keep first.0 (writes_of files) rest within (writes_of-keep files first.0 distinct.0) in
        inr (all_held first.1 b (whole first.0 first.1 a steps.0 steps.2.0 b steps.1 steps.2.1 (happen_keeping first.0 rest steps.2.0 b keeps steps.2.2)))

    elsewhere : Contains files file → ((rest : List Event) → StopsWithin (writes_of files) rest → (mid : Option (List ℕ)) → HappenAt file.0 rest mid b → IsPartOf file.1 mid b)
        → Stopped first files events → (a : Option (List ℕ)) → HappenAt file.0 events a b → IsPartOf file.1 a b
    elsewhere behind others (at_create is) a h = uncreated file.0 first.0 file.1 a b (subst (λ es. HappenAt file.0 es a b) is h)
    elsewhere behind others (at_append is) a h =
        let steps = subst (λ es. HappenAt file.0 es a b) is h in
        let apart : first.0 ≢ file.0 = λ same. distinct.0 (subst (Contains (paths_written files)) (sym same) (path_there files file behind)) in
        inl (happens_elsewhere file.0 (append_failed first.0 first.1) steps.0 b apart steps.2 ∙ steps.1.elsewhere apart)
    elsewhere behind others (later rest is within) a h =
        let steps = subst (λ es. HappenAt file.0 es a b) is h in
        let apart : first.0 ≢ file.0 = λ same. distinct.0 (subst (Contains (paths_written files)) (sym same) (path_there files file behind)) in
        let kept : steps.2.0 ≡ a = steps.2.1.elsewhere apart ∙ steps.1.elsewhere apart in
        subst (λ old. IsPartOf file.1 old b) kept (others rest within steps.2.0 steps.2.2)

-- files at distinct paths are written in part by calls that stop
pub writes_of-stopped : (files : List Written) (events : List Event) (old new : Files) → AreDistinct (paths_written files) → StopsWithin (writes_of files) events → Follow events old new
    → WritesPart files old new
writes_of-stopped files events old new distinct stop follow = record {
  others = λ path apart. happen_keeping path events (old path) (new path) (stops_keep path (writes_of files) events stop (writes_of-keep files path apart)) (follow path);
  these = of_each files (λ file. IsPartOf file.1 (old file.0) (new file.0)) (λ file there. part_at files events distinct stop file there (old file.0) (new file.0) (follow file.0));
}

-- A path whose create or append failed, among calls.
data FailedAt (path : List ℕ) (events : List Event) : Type 0 where
  of_create : Contains events (create_failed path) → FailedAt path events
  of_append : (bytes : List ℕ) → Contains events (append_failed path bytes) → FailedAt path events

-- and among more calls
failed_among : (path : List ℕ) (first events : List Event) → FailedAt path events → FailedAt path (first ++ events)
failed_among path first events (of_create there) = of_create (Contains-append_right first events (create_failed path) there)
failed_among path first events (of_append bytes there) = of_append bytes (Contains-append_right first events (append_failed path bytes) there)

-- the path of one of the files is such, where the calls stop
failed_path : (files : List Written) (events : List Event) → StopsWithin (writes_of files) events → (path : List ℕ) × Contains (paths_written files) path × FailedAt path events
failed_path [] events stop = absurd (stops_none events stop)
failed_path (file ∷ files) events stop = by_case (λ rest within. failed_path files rest within) (stopped file files events stop)
  where
    by_case : ((rest : List Event) → StopsWithin (writes_of files) rest → (path : List ℕ) × Contains (paths_written files) path × FailedAt path rest)
        → Stopped file files events → (path : List ℕ) × Contains (paths_written (file ∷ files)) path × FailedAt path events
    by_case others (at_create is) = (file.0, first_there file.0 (paths_written files), subst (FailedAt file.0) (sym is) (of_create (first_there (create_failed file.0) [])))
    by_case others (at_append is) =
        let failed = append_failed file.0 file.1 in
        (file.0, first_there file.0 (paths_written files), subst (FailedAt file.0) (sym is) (failed_among file.0 (created file.0 ∷ []) (failed ∷ []) (of_append file.1 (first_there failed []))))
    by_case others (later rest is within) =
        let behind = others rest within in
        (behind.0, behind_there file.0 (paths_written files) behind.0 behind.1, subst (FailedAt behind.0) (sym is) (failed_among behind.0 (created file.0 ∷ appended file.0 file.1 ∷ []) rest behind.2))

-- where calls stop, the count of one of the paths rose
pub writes_of-rose : (files : List Written) (events : List Event) (deeds : Deeds) (before after : Outside) → Accounted deeds before after
    → ((event : Event) → Contains events event → Contains deeds.calls.on_store event) → StopsWithin (writes_of files) events
    → (path : List ℕ) × Contains (paths_written files) path × Rose (before.write_faults path) (after.write_faults path)
writes_of-rose files events deeds before after accounted among stop =
    let failed = failed_path files events stop in
    (failed.0, failed.1, rose failed.0 failed.2)
  where
    rose : (path : List ℕ) → FailedAt path events → Rose (before.write_faults path) (after.write_faults path)
    rose path (of_create there) = accounted.failed_create path (among _ there)
    rose path (of_append bytes there) = accounted.failed_append path bytes (among _ there)

-- calls that were all done have no failed call
pub writes_of-unfailed : (files : List Written) → HaveFailed false false (writes_of files)
writes_of-unfailed [] = record { failed_read = refl; failed_write = refl }
writes_of-unfailed (file ∷ files) = let rest = writes_of-unfailed files in record { failed_read = rest.failed_read; failed_write = rest.failed_write }

-- those that stopped have a failed write, and no failed read
pub writes_of-failed : (files : List Written) (events : List Event) → StopsWithin (writes_of files) events → HaveFailed false true events
writes_of-failed [] events stop = absurd (stops_none events stop)
writes_of-failed (file ∷ files) events stop = by_case (λ rest within. writes_of-failed files rest within) (stopped file files events stop)
  where
    by_case : ((rest : List Event) → StopsWithin (writes_of files) rest → HaveFailed false true rest) → Stopped file files events → HaveFailed false true events
    by_case others (at_create is) = subst (HaveFailed false true) (sym is) (record { failed_read = refl; failed_write = refl })
    by_case others (at_append is) = subst (HaveFailed false true) (sym is) (record { failed_read = refl; failed_write = refl })
    by_case others (later rest is within) =
        let behind = others rest within in
        subst (HaveFailed false true) (sym is) (record { failed_read = behind.failed_read; failed_write = behind.failed_write })
