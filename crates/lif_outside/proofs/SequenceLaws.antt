-- What follows of lists of calls, whatever the calls are.
use Rattle.std.specs.Prelude.{◌≡◌, List, [], ◌∷◌, ◌++◌, Contains}
use Rattle.std.specs.List.{AllByRecursion}
use Rattle.std.proofs.Common.{refl, sym, ap, ◌∙◌, subst}
use Rattle.std.proofs.lemmas.List.{append-nil, append_assoc}
use Rattle.std.proofs.lemmas.List.Elements.{Contains-push}
use Rattle.item_list.proofs.Tests.{AllByRecursion-append}
use Rattle.lif_outside.specs.Sequences.{IsFrontOf, Stops}

pub all_split : {E : Type 0} (P : E → Type 0) (first later : List E) → AllByRecursion P (first ++ later) → AllByRecursion P first × AllByRecursion P later
all_split P [] later h = (tt, h)
all_split P (event ∷ first) later h = let rest = all_split P first later h.1 in ((h.0, rest.0), rest.1)

-- no calls, and all calls, are the first of these
pub front_none : {E : Type 0} (these : List E) → IsFrontOf these []
front_none these = (these, refl)

pub front_all : {E : Type 0} (these : List E) → IsFrontOf these these
front_all these = ([], sym (append-nil these))

-- calls that stop at their first, in their first part, or behind it
module _ {E : Type 0} {failed : E → E} where
  pub stops_here : (event : E) (rest : List E) → Stops failed (event ∷ rest) (failed event ∷ [])
  stops_here event rest = record { front = []; next = event; rest = rest; these_are = refl; events_are = refl }

  pub stops_first : (first later events : List E) → Stops failed first events → Stops failed (first ++ later) events
  stops_first first later events stop = record {
    front = stop.front;
    next = stop.next;
    rest = stop.rest ++ later;
    these_are = ap (λ these. these ++ later) stop.these_are ∙ append_assoc stop.front (stop.next ∷ stop.rest) later;
    events_are = stop.events_are;
  }

  pub stops_behind : (first later events : List E) → Stops failed later events → Stops failed (first ++ later) (first ++ events)
  stops_behind first later events stop = record {
    front = first ++ stop.front;
    next = stop.next;
    rest = stop.rest;
    these_are = ap (λ these. first ++ these) stop.these_are ∙ sym (append_assoc first stop.front (stop.next ∷ stop.rest));
    events_are = ap (λ these. first ++ these) stop.events_are ∙ sym (append_assoc first stop.front (failed stop.next ∷ []));
  }

  -- the call that failed is among the calls
  pub stops_there : (these events : List E) → (stop : Stops failed these events) → Contains events (failed stop.next)
  stops_there these events stop = subst (λ es. Contains es (failed stop.next)) (sym stop.events_are) (Contains-push stop.front (failed stop.next))

  -- what holds of calls, and of each where it fails, holds of calls that stop within them
  pub stops_all : (P : E → Type 0) → ((event : E) → P event → P (failed event)) → (these events : List E) → Stops failed these events → AllByRecursion P these → AllByRecursion P events
  stops_all P fails these events stop all =
      let parts = all_split P stop.front (stop.next ∷ stop.rest) (subst (AllByRecursion P) stop.these_are all) in
      subst (AllByRecursion P) (sym stop.events_are) (AllByRecursion-append P stop.front _ parts.0 (fails stop.next parts.1.0, tt))

  -- calls that stop within none
  pub stops_none : (events : List E) → Stops failed [] events → ⊥
  stops_none events stop = none stop.front stop.these_are
    where
      none : (front : List E) → [] ≡ front ++ stop.next ∷ stop.rest → ⊥
      none [] e = cc
      none (event ∷ front) e = cc
