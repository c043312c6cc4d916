-- What follows of calls on a store, one after another.
use Rattle.std.specs.Prelude.{◌≡◌, ◌≢◌, ◌⊎◌, ℕ, Bool, true, false, List, [], ◌∷◌, ◌++◌, Option}
use Rattle.std.specs.List.{AllByRecursion}
use Rattle.std.specs.Str.{bytes_eq}
use Rattle.std.proofs.Common.{refl, sym, ◌∙◌, subst, inl, inr, ⊎_elim}
use Rattle.std.proofs.lemmas.Bool.{false≢true}
use Rattle.std.proofs.lemmas.Slice.Eq.{bytes_eq-Decides}
use Rattle.lif_outside.specs.Events.{Event, read, read_failed, created, create_failed, appended, append_failed, path_of, Changes, HappensAt, HappenAt, Follow}
use Rattle.lif_outside.specs.Files.{Files}

-- calls and then more calls are the calls of both lists
pub happen-append : (path : List ℕ) (first later : List Event) (a b c : Option (List ℕ)) → HappenAt path first a b → HappenAt path later b c → HappenAt path (first ++ later) a c
happen-append path [] later a b c e h = subst (λ o. HappenAt path later o c) e h
happen-append path (event ∷ first) later a b c g h = (g.0, g.1, happen-append path first later g.0 b c g.2 h)

-- the calls of two lists are those of the first, and then those of the other
pub happen-split : (path : List ℕ) (first later : List Event) (a c : Option (List ℕ)) → HappenAt path (first ++ later) a c → (b : Option (List ℕ)) × HappenAt path first a b × HappenAt path later b c
happen-split path [] later a c h = (a, refl, h)
happen-split path (event ∷ first) later a c h =
    let rest = happen-split path first later h.0 c h.2 in (rest.0, (h.0, h.1, rest.1), rest.2)

pub follow-append : (first later : List Event) (a b c : Files) → Follow first a b → Follow later b c → Follow (first ++ later) a c
follow-append first later a b c g h = λ path. happen-append path first later (a path) (b path) (c path) (g path) (h path)

-- one call, seen at its own path
pub happens_here : (path : List ℕ) (event : Event) (old new : Option (List ℕ)) → path_of event ≡ path → HappenAt path (event ∷ []) old new → Changes event old new
happens_here path event old new here h = subst (λ o. Changes event old o) (sym h.2) (h.1.here here)

-- one call, seen at another path
pub happens_elsewhere : (path : List ℕ) (event : Event) (old new : Option (List ℕ)) → path_of event ≢ path → HappenAt path (event ∷ []) old new → new ≡ old
happens_elsewhere path event old new apart h = h.2 ∙ h.1.elsewhere apart

-- one call
pub happen_once : (path : List ℕ) (event : Event) (old new : Option (List ℕ)) → HappensAt path event old new → HappenAt path (event ∷ []) old new
happen_once path event old new h = (new, h, refl)

-- one call, by what it does at its own path and that it leaves the others
pub follow_once : (event : Event) (old new : Files) → Changes event (old (path_of event)) (new (path_of event)) → ((path : List ℕ) → path_of event ≢ path → new path ≡ old path) → Follow (event ∷ []) old new
follow_once event old new change others = λ path. happen_once path event (old path) (new path) (record {
  here = λ e. subst (λ p. Changes event (old p) (new p)) e change;
  elsewhere = others path;
})

-- A call that leaves a path as it is: a read of any path, or a call on another one.
abbrev pub KeepsPath : List ℕ → Event → Type 0
KeepsPath path (read other at room bytes) = Unit {0}
KeepsPath path (read_failed other at room) = Unit {0}
KeepsPath path (created other) = other ≢ path
KeepsPath path (create_failed other) = other ≢ path
KeepsPath path (appended other bytes) = other ≢ path
KeepsPath path (append_failed other bytes) = other ≢ path

-- two paths are one or not
pub path_cases : (one other : List ℕ) → (one ≡ other) ⊎ (one ≢ other)
path_cases one other = by_test (bytes_eq one other) refl
  where
    by_test : (test : Bool) → bytes_eq one other ≡ test → (one ≡ other) ⊎ (one ≢ other)
    by_test true e = inl ((bytes_eq-Decides one other).0 e)
    by_test false e = inr (λ same. false≢true (sym e ∙ (bytes_eq-Decides one other).1 same))

-- a call that keeps a path
pub happens_keeping : (path : List ℕ) (event : Event) (old new : Option (List ℕ)) → KeepsPath path event → HappensAt path event old new → new ≡ old
happens_keeping path (read other at room bytes) old new keeps h = ⊎_elim (λ same. (h.here same).1) h.elsewhere (path_cases other path)
happens_keeping path (read_failed other at room) old new keeps h = ⊎_elim h.here h.elsewhere (path_cases other path)
happens_keeping path (created other) old new keeps h = h.elsewhere keeps
happens_keeping path (create_failed other) old new keeps h = h.elsewhere keeps
happens_keeping path (appended other bytes) old new keeps h = h.elsewhere keeps
happens_keeping path (append_failed other bytes) old new keeps h = h.elsewhere keeps

-- calls that keep a path
pub happen_keeping : (path : List ℕ) (events : List Event) (old new : Option (List ℕ)) → AllByRecursion (KeepsPath path) events → HappenAt path events old new → new ≡ old
happen_keeping path [] old new keeps h = h
happen_keeping path (event ∷ events) old new keeps h = happen_keeping path events h.0 new keeps.1 h.2 ∙ happens_keeping path event old h.0 keeps.0 h.1
