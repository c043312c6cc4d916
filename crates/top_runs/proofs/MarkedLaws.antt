-- Reads of two sources in one list, told by marks: what happens at a path, which of them failed, and which are among all.
use Rattle.std.specs.Prelude.{◌≡◌, ◌||◌, ℕ, Bool, true, false, List, [], ◌∷◌, Contains, Option, length}
use Rattle.std.specs.List.{AllByRecursion, list_any}
use Rattle.std.proofs.Common.{refl, sym, ap, subst, ◌∙◌, arith, ⊎_elim}
use Rattle.std.proofs.Math.Bool.{or_assoc}
use Rattle.lif_outside.proofs.FaultLaws.{HaveFailed}
use Rattle.std.proofs.lemmas.List.Elements.{Contains-append_cases, Contains-append_left, Contains-append_right}
use Rattle.lif_outside.specs.AccountLaws.{contains_none}
use Rattle.lif_outside.specs.EventLaws.{KeepsPath, happen_keeping, happens_keeping}
use Rattle.lif_outside.specs.Events.{Event, HappenAt, read, read_failed, created, create_failed, appended, append_failed, is_failed_read, is_failed_write}
use Rattle.lif_outside.specs.Streams.{reads_in}
use Rattle.source_delivery.specs.Twin.{marked, unmarked}

-- reads keep each path
pub reads-keep : (place : List ℕ) (events : List Event) → AllByRecursion (KeepsPath place) (reads_in events)
reads-keep place [] = tt
reads-keep place (read path at room bytes ∷ events) = (tt, reads-keep place events)
reads-keep place (read_failed path at room ∷ events) = (tt, reads-keep place events)
reads-keep place (created path ∷ events) = reads-keep place events
reads-keep place (create_failed path ∷ events) = reads-keep place events
reads-keep place (appended path bytes ∷ events) = reads-keep place events
reads-keep place (append_failed path bytes ∷ events) = reads-keep place events

-- what happens at a path by all of them happens by those with a mark
pub marked-happen : (place : List ℕ) (marks : List Bool) (reads : List Event) (a b : Option (List ℕ)) → AllByRecursion (KeepsPath place) reads → HappenAt place reads a b → HappenAt place (marked marks reads) a b
marked-happen place [] reads a b keeps happen = happen_keeping place reads a b keeps happen
marked-happen place (mark ∷ marks) [] a b keeps happen = happen
marked-happen place (true ∷ marks) (event ∷ reads) a b keeps happen = (happen.0, happen.1, marked-happen place marks reads happen.0 b keeps.1 happen.2)
marked-happen place (false ∷ marks) (event ∷ reads) a b keeps happen =
    subst (λ file. HappenAt place (marked marks reads) file b) (happens_keeping place event a happen.0 keeps.0 happen.1) (marked-happen place marks reads happen.0 b keeps.1 happen.2)

-- those with a mark are among all
pub marked-among : (marks : List Bool) (reads : List Event) (event : Event) → Contains (marked marks reads) event → Contains reads event
marked-among [] reads event there = absurd (contains_none event there)
marked-among (mark ∷ marks) [] event there = there
marked-among (true ∷ marks) (first ∷ reads) event there = ⊎_elim
    (Contains-append_left (first ∷ []) reads event)
    (λ rest. Contains-append_right (first ∷ []) reads event (marked-among marks reads event rest))
    (Contains-append_cases (first ∷ []) (marked marks reads) event there)
marked-among (false ∷ marks) (first ∷ reads) event there = Contains-append_right (first ∷ []) reads event (marked-among marks reads event there)

-- what holds of one of all holds of one with a mark or of one without
swapped : (x a b : Bool) → (x || (a || b)) ≡ (a || (x || b))
swapped true true b = refl
swapped true false b = refl
swapped false true b = refl
swapped false false b = refl

any-marked : (test : Event → Bool) (marks : List Bool) (reads : List Event) → length marks ≡ length reads → list_any test reads ≡ (list_any test (marked marks reads) || list_any test (unmarked marks reads))
any-marked test [] [] same = refl
any-marked test [] (event ∷ reads) same = absurd (omega (arith, same))
any-marked test (mark ∷ marks) [] same = absurd (omega (arith, same))
any-marked test (true ∷ marks) (event ∷ reads) same =
    ap (λ rest. test event || rest) (any-marked test marks reads (omega (arith, same)))
    ∙ sym (or_assoc (test event) (list_any test (marked marks reads)) (list_any test (unmarked marks reads)))
any-marked test (false ∷ marks) (event ∷ reads) same =
    ap (λ rest. test event || rest) (any-marked test marks reads (omega (arith, same)))
    ∙ swapped (test event) (list_any test (marked marks reads)) (list_any test (unmarked marks reads))

pub marked-failed : (marks : List Bool) (reads : List Event) (a b c d : Bool) → length marks ≡ length reads → HaveFailed a b (marked marks reads) → HaveFailed c d (unmarked marks reads) → HaveFailed (a || c) (b || d) reads
marked-failed marks reads a b c d same one other = record {
  failed_read = any-marked is_failed_read marks reads same ∙ ap (λ x. x || list_any is_failed_read (unmarked marks reads)) one.failed_read ∙ ap (λ x. a || x) other.failed_read;
  failed_write = any-marked is_failed_write marks reads same ∙ ap (λ x. x || list_any is_failed_write (unmarked marks reads)) one.failed_write ∙ ap (λ x. b || x) other.failed_write;
}
