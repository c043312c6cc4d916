-- What follows of reads of a whole file, and of appends.
use Rattle.std.specs.Prelude.{◌≡◌, ◌⊎◌, ◌<◌, ◌≤◌, ◌+◌, ℕ, List, [], ◌∷◌, ◌++◌, Option, Some, unwrap_or, length, take, drop, Bool, true, false, if◌then◌else◌, Contains}
use Rattle.std.specs.Str.{bytes_eq}
use Rattle.std.specs.List.{AllByRecursion}
use Rattle.std.proofs.Common.{refl, sym, ap, ◌∙◌, subst, arith, inl, inr, ⊎_elim}
use Rattle.std.proofs.Math.Seq.{take-add}
use Rattle.std.proofs.lemmas.Bool.{false≢true}
use Rattle.std.proofs.lemmas.List.{append-nil, append_assoc, length-append, length-take, drop-drop, take-append-drop, take_all}
use Rattle.std.proofs.lemmas.List.Elements.{Contains-push}
use Rattle.std.proofs.lemmas.Slice.Eq.{bytes_eq-Decides}
use Rattle.item_list.proofs.Tests.{AllByRecursion-append}
use Rattle.lif_outside.specs.Events.{Event, read, read_failed, created, create_failed, appended, append_failed, HappensAt, HappenAt}
use Rattle.lif_outside.specs.EventLaws.{KeepsPath, happen-split, happens_here, happen_keeping}
use Rattle.lif_outside.specs.Sequences.{IsFrontOf}
use Rattle.lif_outside.proofs.SequenceLaws.{front_none}
use Rattle.lif_outside.specs.FileCalls.{AreReadsFrom, bytes_read, ReadsWhole, ReadsToFault, ReadsPastLimit, AreAppendsTo, bytes_appended}

-- one read more
pub reads_more : (at : ℕ) (path : List ℕ) (events : List Event) (room : ℕ) (bytes : List ℕ) → AreReadsFrom at path events → 0 < length bytes
    → AreReadsFrom at path (events ++ read path (at + length (bytes_read events)) room bytes ∷ [])
reads_more at path [] room bytes reads some = (refl, omega arith, some, tt)
reads_more at path (read other place more came ∷ events) room bytes reads some =
    let next : at + length came + length (bytes_read events) ≡ at + length (came ++ bytes_read events) = omega (arith, length-append came (bytes_read events)) in
    (reads.0, reads.1, reads.2, subst (λ n. AreReadsFrom (at + length came) path (events ++ read path n room bytes ∷ [])) next (reads_more (at + length came) path events room bytes reads.3 some))
reads_more at path (read_failed other place more ∷ events) room bytes reads some = absurd reads
reads_more at path (created other ∷ events) room bytes reads some = absurd reads
reads_more at path (create_failed other ∷ events) room bytes reads some = absurd reads
reads_more at path (appended other came ∷ events) room bytes reads some = absurd reads
reads_more at path (append_failed other came ∷ events) room bytes reads some = absurd reads

pub bytes_read-append : (first later : List Event) → bytes_read (first ++ later) ≡ bytes_read first ++ bytes_read later
bytes_read-append [] later = refl
bytes_read-append (read other place more came ∷ first) later = ap (λ bytes. came ++ bytes) (bytes_read-append first later) ∙ sym (append_assoc came (bytes_read first) (bytes_read later))
bytes_read-append (read_failed other place more ∷ first) later = bytes_read-append first later
bytes_read-append (created other ∷ first) later = bytes_read-append first later
bytes_read-append (create_failed other ∷ first) later = bytes_read-append first later
bytes_read-append (appended other came ∷ first) later = bytes_read-append first later
bytes_read-append (append_failed other came ∷ first) later = bytes_read-append first later

-- reads keep every path
pub reads_keep : (at : ℕ) (path place : List ℕ) (events : List Event) → AreReadsFrom at path events → AllByRecursion (KeepsPath place) events
reads_keep at path place [] reads = tt
reads_keep at path place (read other where_at more came ∷ events) reads = (tt, reads_keep (at + length came) path place events reads.3)
reads_keep at path place (read_failed other where_at more ∷ events) reads = absurd reads
reads_keep at path place (created other ∷ events) reads = absurd reads
reads_keep at path place (create_failed other ∷ events) reads = absurd reads
reads_keep at path place (appended other came ∷ events) reads = absurd reads
reads_keep at path place (append_failed other came ∷ events) reads = absurd reads

-- A file from a place on, and the bytes that reads from there gave: they are a part of it.
record IsPart (file : Option (List ℕ)) (at : ℕ) (bytes : List ℕ) : Type 0 where
  content : List ℕ
  found : file ≡ Some content
  part : bytes ≡ take (length bytes) (drop at content)

same_content : {a b : List ℕ} {file : Option (List ℕ)} → file ≡ Some a → file ≡ Some b → a ≡ b
same_content e f = cc

-- two parts, one behind the other
part_then : (file : Option (List ℕ)) (at : ℕ) (bytes more : List ℕ) → IsPart file at bytes → IsPart file (at + length bytes) more → IsPart file at (bytes ++ more)
part_then file at bytes more one other =
    let same : other.content ≡ one.content = same_content other.found one.found in
    let second : more ≡ take (length more) (drop (length bytes) (drop at one.content)) =
    other.part ∙ ap (λ c. take (length more) (drop (at + length bytes) c)) same ∙ ap (take (length more)) (sym (drop-drop (length bytes) at one.content)) in
    let sum : bytes ++ more ≡ take (length bytes) (drop at one.content) ++ take (length more) (drop (length bytes) (drop at one.content)) =
    ap (λ front. front ++ more) one.part ∙ ap (λ rest. take (length bytes) (drop at one.content) ++ rest) second in
    record {
      content = one.content;
      found = one.found;
      part = sum ∙ sym (take-add (length bytes) (length more) (drop at one.content)) ∙ ap (λ n. take n (drop at one.content)) (sym (length-append bytes more));
    }

-- what reads gave, with the file that they gave it of
reads_part : (at : ℕ) (path : List ℕ) (events : List Event) (a b : Option (List ℕ)) → AreReadsFrom at path events → HappenAt path events a b
    → (events ≡ []) ⊎ IsPart a at (bytes_read events)
reads_part at path [] a b reads h = inl refl
reads_part at path (read other place more came ∷ events) a b reads h =
    let here = h.1.here reads.0 in
    let first : IsPart a at came = record {
      content = here.0.content;
      found = here.0.found;
      part = here.0.part ∙ ap (λ n. take (length came) (drop n here.0.content)) reads.1;
    } in
    let kept : h.0 ≡ a = here.1 in
    inr (⊎_elim
    (λ none. subst (λ rest. IsPart a at (came ++ bytes_read rest)) (sym none) (subst (IsPart a at) (sym (append-nil came)) first))
    (λ part. part_then a at came (bytes_read events) first (subst (λ file. IsPart file (at + length came) (bytes_read events)) kept part))
    (reads_part (at + length came) path events h.0 b reads.3 h.2))
reads_part at path (read_failed other place more ∷ events) a b reads h = absurd reads
reads_part at path (created other ∷ events) a b reads h = absurd reads
reads_part at path (create_failed other ∷ events) a b reads h = absurd reads
reads_part at path (appended other came ∷ events) a b reads h = absurd reads
reads_part at path (append_failed other came ∷ events) a b reads h = absurd reads

-- what came by reads of a file is its front
pub reads_begin : (path : List ℕ) (events : List Event) (a b : Option (List ℕ)) → AreReadsFrom 0 path events → HappenAt path events a b → IsFrontOf (unwrap_or a []) (bytes_read events)
reads_begin path events a b reads h = ⊎_elim
    (λ none. subst (λ es. IsFrontOf (unwrap_or a []) (bytes_read es)) (sym none) (front_none (unwrap_or a [])))
    (λ part.
    let n = length (bytes_read events) in
    let rest = drop n part.content in
    (rest, ap (λ file. unwrap_or file []) part.found ∙ sym (take-append-drop n part.content) ∙ ap (λ front. front ++ rest) (sym part.part)))
    (reads_part 0 path events a b reads h)

-- a file that was read to its end holds the bytes that came
pub whole_held : (path : List ℕ) (limit : ℕ) (bytes : List ℕ) (events : List Event) (a b : Option (List ℕ)) → ReadsWhole path limit bytes events → HappenAt path events a b → a ≡ Some bytes
whole_held path limit bytes events a b whole h =
    let parts = happen-split path whole.front (read path (length bytes) whole.room [] ∷ []) a b (subst (λ es. HappenAt path es a b) whole.ended h) in
    let mid : parts.0 ≡ a = happen_keeping path whole.front a parts.0 (reads_keep 0 path path whole.front whole.reads) parts.1 in
    let last = (happens_here path (read path (length bytes) whole.room []) parts.0 b refl parts.2).0 in
    let found : a ≡ Some last.content = sym mid ∙ last.found in
    let ended : length last.content ≤ length bytes = last.ended refl whole.some_room in
    let all : bytes ≡ last.content = ⊎_elim
    (λ none. let empty : bytes ≡ [] = sym whole.gave ∙ ap bytes_read none in
    let nothing : length last.content ≤ 0 = subst (λ bs. length last.content ≤ length bs) empty ended in
    ◌∙◌ {b = []} empty (sym (empty_list last.content nothing)))
    (λ part. let same : part.content ≡ last.content = same_content part.found found in
    let front : bytes ≡ take (length bytes) last.content = subst (λ bs. bs ≡ take (length bs) part.content) whole.gave part.part ∙ ap (take (length bytes)) same in
    front ∙ take_all (length bytes) last.content ended)
    (reads_part 0 path whole.front a parts.0 whole.reads parts.1) in
    found ∙ ap Some (sym all)
  where
    empty_list : (xs : List ℕ) → length xs ≤ 0 → xs ≡ []
    empty_list [] h = refl
    empty_list (x ∷ xs) h = absurd (omega arith)

-- a file that was read to the byte past a limit is longer than it
pub long_held : (path : List ℕ) (limit : ℕ) (events : List Event) (a b : Option (List ℕ)) → ReadsPastLimit path limit events → HappenAt path events a b
    → (bytes : List ℕ) × (a ≡ Some bytes) × (limit < length bytes)
long_held path limit events a b past h = ⊎_elim
    (λ none. absurd (let nothing : length (bytes_read events) ≡ 0 = ap (λ es. length (bytes_read es)) none in omega (arith, past.long, nothing)))
    (λ part. (part.content, part.found, omega (arith, past.long, ap length part.part ∙ length-take (length (bytes_read events)) (drop 0 part.content))))
    (reads_part 0 path events a b past.reads h)

-- appends keep every path but those that they go to
pub appends_keep : (paths : List (List ℕ)) (place : List ℕ) (events : List Event) → ¬ Contains paths place → AreAppendsTo paths events → AllByRecursion (KeepsPath place) events
appends_keep paths place [] apart appends = tt
appends_keep paths place (appended other bytes ∷ events) apart appends =
    ((λ same. apart (subst (Contains paths) same appends.0)), appends_keep paths place events apart appends.1)
appends_keep paths place (read other where_at more came ∷ events) apart appends = absurd appends
appends_keep paths place (read_failed other where_at more ∷ events) apart appends = absurd appends
appends_keep paths place (created other ∷ events) apart appends = absurd appends
appends_keep paths place (create_failed other ∷ events) apart appends = absurd appends
appends_keep paths place (append_failed other came ∷ events) apart appends = absurd appends

-- one append, seen at a path, before more of them
append_then : (test : Bool) (path other bytes more held : List ℕ) (a mid b : Option (List ℕ)) → bytes_eq other path ≡ test → a ≡ Some held → HappensAt path (appended other bytes) a mid
    → ((now : List ℕ) → mid ≡ Some now → b ≡ Some (now ++ more)) → b ≡ Some (held ++ ((if test then bytes else []) ++ more))
append_then true path other bytes more held a mid b e there h rest =
    rest (held ++ bytes) (h.here ((bytes_eq-Decides other path).0 e) ∙ ap (λ file. Some (unwrap_or file [] ++ bytes)) there) ∙ ap Some (append_assoc held bytes more)
append_then false path other bytes more held a mid b e there h rest =
    rest held (h.elsewhere (λ same. false≢true (sym e ∙ (bytes_eq-Decides other path).1 same)) ∙ there)

-- a file that was there holds what was appended to it behind what it held
pub appends_held : (paths : List (List ℕ)) (path : List ℕ) (events : List Event) (held : List ℕ) (a b : Option (List ℕ)) → AreAppendsTo paths events → a ≡ Some held → HappenAt path events a b
    → b ≡ Some (held ++ bytes_appended path events)
appends_held paths path [] held a b appends there h = h ∙ there ∙ ap Some (sym (append-nil held))
appends_held paths path (appended other bytes ∷ events) held a b appends there h =
    append_then (bytes_eq other path) path other bytes (bytes_appended path events) held a h.0 b refl there h.1
    (λ now is. appends_held paths path events now h.0 b appends.1 is h.2)
appends_held paths path (read other where_at more came ∷ events) held a b appends there h = absurd appends
appends_held paths path (read_failed other where_at more ∷ events) held a b appends there h = absurd appends
appends_held paths path (created other ∷ events) held a b appends there h = absurd appends
appends_held paths path (create_failed other ∷ events) held a b appends there h = absurd appends
appends_held paths path (append_failed other came ∷ events) held a b appends there h = absurd appends

-- appends, and then more
pub appends-append : (paths : List (List ℕ)) (first later : List Event) → AreAppendsTo paths first → AreAppendsTo paths later → AreAppendsTo paths (first ++ later)
appends-append paths [] later one other = other
appends-append paths (appended path bytes ∷ first) later one other = (one.0, appends-append paths first later one.1 other)
appends-append paths (read path where_at more came ∷ first) later one other = absurd one
appends-append paths (read_failed path where_at more ∷ first) later one other = absurd one
appends-append paths (created path ∷ first) later one other = absurd one
appends-append paths (create_failed path ∷ first) later one other = absurd one
appends-append paths (append_failed path came ∷ first) later one other = absurd one

-- what was appended by calls, and then by more
pub bytes_appended-append : (path : List ℕ) (first later : List Event) → bytes_appended path (first ++ later) ≡ bytes_appended path first ++ bytes_appended path later
bytes_appended-append path [] later = refl
bytes_appended-append path (appended other bytes ∷ first) later =
    let these = if bytes_eq other path then bytes else [] in
    ap (λ rest. these ++ rest) (bytes_appended-append path first later) ∙ sym (append_assoc these (bytes_appended path first) (bytes_appended path later))
bytes_appended-append path (read other where_at more came ∷ first) later = bytes_appended-append path first later
bytes_appended-append path (read_failed other where_at more ∷ first) later = bytes_appended-append path first later
bytes_appended-append path (created other ∷ first) later = bytes_appended-append path first later
bytes_appended-append path (create_failed other ∷ first) later = bytes_appended-append path first later
bytes_appended-append path (append_failed other came ∷ first) later = bytes_appended-append path first later

-- a file that was read keeps every path
pub whole_keeps : (path place : List ℕ) (limit : ℕ) (bytes : List ℕ) (events : List Event) → ReadsWhole path limit bytes events → AllByRecursion (KeepsPath place) events
whole_keeps path place limit bytes events whole =
    subst (AllByRecursion (KeepsPath place)) (sym whole.ended) (AllByRecursion-append (KeepsPath place) whole.front _ (reads_keep 0 path place whole.front whole.reads) (tt, tt))

pub fault_keeps : (path place : List ℕ) (limit : ℕ) (events : List Event) → ReadsToFault path limit events → AllByRecursion (KeepsPath place) events
fault_keeps path place limit events fault =
    subst (AllByRecursion (KeepsPath place)) (sym fault.failed) (AllByRecursion-append (KeepsPath place) fault.front _ (reads_keep 0 path place fault.front fault.reads) (tt, tt))

-- a read that failed is among the calls
pub fault_there : (path : List ℕ) (limit : ℕ) (events : List Event) → (fault : ReadsToFault path limit events) → Contains events (read_failed path (length (bytes_read fault.front)) fault.room)
fault_there path limit events fault = subst (λ es. Contains es (read_failed path (length (bytes_read fault.front)) fault.room)) (sym fault.failed) (Contains-push fault.front _)
