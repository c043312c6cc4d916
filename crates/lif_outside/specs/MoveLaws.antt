-- What calls on links account for: none, one, and one after another.
use Rattle.std.specs.Prelude.{◌≡◌, ◌≤◌, ℕ, Bool, true, false, List, [], ◌∷◌, ◌++◌, ◌<◌, Option, IsPermutation, length, slice_index_or}
use Rattle.std.proofs.Common.{refl, sym, ◌∙◌, ap, subst, ⊎_elim, inl}
use Rattle.std.proofs.Math.Bool.{or-false}
use Rattle.std.proofs.Math.Nat.{le_refl, le_trans}
use Rattle.std.proofs.lemmas.Bool.{or_cases, or_parts, false≢true}
use Rattle.std.proofs.lemmas.List.{append-nil, append_assoc}
use Rattle.std.proofs.lemmas.List.Folds.{list_any-append}
use Rattle.std.proofs.lemmas.List.Sorted.{IsPermutation-sym, IsPermutation-to_front}
use Rattle.lif_outside.specs.declared.links.Flight.{Flight}
use Rattle.lif_outside.specs.Counts.{Rose}
use Rattle.lif_outside.specs.CountLaws.{rose_then, then_rose}
use Rattle.lif_outside.specs.LinksAccounts.{LinksAccounts, Adds}
use Rattle.lif_outside.specs.Moves.{Move, InFlight, IsOpenAsBefore, IsPut, IsTaken, Moves, FollowMoves, pairs_put, flights_given, is_fault, opened, open_refused, put, put_failed, took, took_none, take_failed}
use Rattle.lif_outside.specs.Told.{Becomes}
use Rattle.lif_outside.specs.ToldLaws.{becomes_then, becomes_same}

-- calls, and then more
follow_moves-append : (faithful : Bool) (first later : List Move) (a b c : InFlight) → FollowMoves faithful first a b → FollowMoves faithful later b c → FollowMoves faithful (first ++ later) a c
follow_moves-append faithful [] later a b c e h = subst (λ x. FollowMoves faithful later x c) e h
follow_moves-append faithful (move ∷ first) later a b c g h = (g.0, g.1, follow_moves-append faithful first later g.0 b c g.2 h)

pub pairs_put-append : (first later : List Move) → pairs_put (first ++ later) ≡ pairs_put first ++ pairs_put later
pairs_put-append [] later = refl
pairs_put-append (opened seed most ∷ first) later = pairs_put-append first later
pairs_put-append (open_refused seed most ∷ first) later = pairs_put-append first later
pairs_put-append (put pair ∷ first) later = ap (λ rest. pair ∷ rest) (pairs_put-append first later)
pairs_put-append (put_failed pair ∷ first) later = pairs_put-append first later
pairs_put-append (took flight ∷ first) later = pairs_put-append first later
pairs_put-append (took_none ∷ first) later = pairs_put-append first later
pairs_put-append (take_failed ∷ first) later = pairs_put-append first later

pub flights_given-append : (first later : List Move) → flights_given (first ++ later) ≡ flights_given first ++ flights_given later
flights_given-append [] later = refl
flights_given-append (opened seed most ∷ first) later = flights_given-append first later
flights_given-append (open_refused seed most ∷ first) later = flights_given-append first later
flights_given-append (put pair ∷ first) later = flights_given-append first later
flights_given-append (put_failed pair ∷ first) later = flights_given-append first later
flights_given-append (took flight ∷ first) later = ap (λ rest. flight ∷ rest) (flights_given-append first later)
flights_given-append (took_none ∷ first) later = flights_given-append first later
flights_given-append (take_failed ∷ first) later = flights_given-append first later

-- pairs added, and then more
adds_then : (one other both : List Flight) → both ≡ one ++ other → (a b c : List Flight) → Adds one a b → Adds other b c → Adds both a c
adds_then one other both joined a b c e f =
    f ∙ ap (λ x. x ++ other) e ∙ append_assoc a one other ∙ ap (λ x. a ++ x) (sym joined)

module _ {L : Type 0} (holds : L → InFlight) (faithful : L → Bool) (faults : L → ℕ) (sent given : L → Option (List Flight)) where
  pub links_none : (at : L) → LinksAccounts holds faithful faults sent given [] at at
  links_none at = record {
    follows = refl;
    same_faithful = refl;
    sends = becomes_same (λ held. sym (append-nil held));
    gives = becomes_same (λ held. sym (append-nil held));
    count = le_refl (faults at);
    failed = λ is. absurd (false≢true is);
    steady = λ is. refl;
  }

  pub links_then : (first later : List Move) (a b c : L) → LinksAccounts holds faithful faults sent given first a b → LinksAccounts holds faithful faults sent given later b c
      → LinksAccounts holds faithful faults sent given (first ++ later) a c
  links_then first later a b c one other = record {
    follows = follow_moves-append (faithful a) first later (holds a) (holds b) (holds c) one.follows
        (subst (λ is. FollowMoves is later (holds b) (holds c)) one.same_faithful other.follows);
    same_faithful = other.same_faithful ∙ one.same_faithful;
    sends = becomes_then one.sends other.sends (adds_then (pairs_put first) (pairs_put later) _ (pairs_put-append first later));
    gives = becomes_then one.gives other.gives (adds_then (flights_given first) (flights_given later) _ (flights_given-append first later));
    count = le_trans one.count other.count;
    failed = λ is. ⊎_elim
        (λ before. rose_then _ _ _ (one.failed before) other.count)
        (λ after. then_rose _ _ _ one.count (other.failed after))
        (or_cases _ _ (sym (list_any-append is_fault first later) ∙ is));
    steady = λ is.
        let none = or_parts _ _ (sym (list_any-append is_fault first later) ∙ is) in
        other.steady none.1 ∙ one.steady none.0;
  }

  -- one call
  pub one_move : (move : Move) (old new : L) → Moves (faithful old) move (holds old) (holds new) → faithful new ≡ faithful old
      → Becomes (sent old) (sent new) (Adds (pairs_put (move ∷ []))) → Becomes (given old) (given new) (Adds (flights_given (move ∷ [])))
      → faults old ≤ faults new → (is_fault move ≡ true → Rose (faults old) (faults new)) → (is_fault move ≡ false → faults new ≡ faults old)
      → LinksAccounts holds faithful faults sent given (move ∷ []) old new
  one_move move old new does same sends gives count failed steady = record {
    follows = (holds new, does, refl);
    same_faithful = same;
    sends = sends;
    gives = gives;
    count = count;
    failed = λ is. failed (sym (or-false (is_fault move)) ∙ is);
    steady = λ is. steady (sym (or-false (is_fault move)) ∙ is);
  }

-- the last pair that flies was put there
pub is_put : (pair : Flight) (old new : InFlight) → new.flying ≡ old.flying ++ pair ∷ [] → new.repeats ≡ old.repeats → IsOpenAsBefore old new → IsPut pair old new
is_put pair old new flying repeats open_as = record {
  flying = IsPermutation-sym _ _ (subst (λ all. IsPermutation all (pair ∷ old.flying)) (sym flying) (IsPermutation-to_front old.flying pair));
  same_repeats = repeats;
  as_opened = open_as;
}

-- the pair at a place was given as it was put, and left
pub is_taken : (faithful : Bool) (flight : Flight) (place : ℕ) (old new : InFlight) → place < length old.flying → flight ≡ slice_index_or old.flying place flight
    → IsPermutation old.flying (flight ∷ new.flying) → new.repeats ≤ old.repeats → IsOpenAsBefore old new → IsTaken faithful flight old new
is_taken faithful flight place old new within flew leaves repeats open_as = record {
  pair = flight;
  flew = (place, within, sym flew);
  same_link = refl;
  same_address = refl;
  as_put = λ is. refl;
  after = inl (record { flying = leaves; repeats = repeats });
  as_opened = open_as;
}
