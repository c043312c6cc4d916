-- Laws of the places of links among those of a decoder.
use Rattle.std.specs.Prelude.{◌≡◌, ◌<◌, ◌==◌, ℕ, Bool, true, false, cond, Option, Some, None, nat_lt, List, length, position}
use Rattle.std.specs.List.{position_or_len}
use Rattle.std.specs.Option.{unwrap_or}
use Rattle.std.proofs.Common.{arith, refl, sym, ap, ◌∙◌, get_or, inl, inr}
use Rattle.std.proofs.lemmas.Bool.{cases_lt, eq-eqb, eqb-true, false≢true, lt-ltb, ne_eqb}
use Rattle.std.proofs.lemmas.List.{get_or_past}
use Rattle.std.proofs.lemmas.List.Quantifiers.{position-Some}
use Rattle.std.proofs.lemmas.List.Sums.{position_or_len_is}
use Rattle.net_model.proofs.RisingLaws.{rising-below}
use Rattle.net_model.specs.Lists.{is_rising}
use Rattle.sink_decoder.specs.Receiving.{SinkPlan, place_of, wants}

-- the place of the link at a place is that place
pub place_of-at : (plan : SinkPlan) (place : ℕ) → is_rising plan.links ≡ true → place < length plan.links → place_of plan (get_or plan.links place 0) ≡ place
place_of-at plan place rising within =
    let links = plan.links in
    let link = get_or links place 0 in
    let here : position_or_len (λ one. one == link) links ≡ place =
    position_or_len_is (λ one. one == link) links place 0 (omega (arith, within))
    (λ before earlier. ne_eqb (get_or links before 0) link (λ same. let below = rising-below links before place rising earlier within in omega (arith, below, same)))
    (λ _. eq-eqb link link refl) in
    ap (λ (n : ℕ). unwrap_or (cond (nat_lt n (length links)) (Some n) None) (length links)) here
    ∙ ap (λ (b : Bool). unwrap_or (cond b (Some place) None) (length links)) (lt-ltb place (length links) within)

-- a link that has a place stands there
pub at-place_of : (plan : SinkPlan) (link : ℕ) → place_of plan link < length plan.links → get_or plan.links (place_of plan link) 0 ≡ link
at-place_of plan link within = by (position (λ one. one == link) plan.links) refl within
  where
    by : (found : Option ℕ) → position (λ one. one == link) plan.links ≡ found
        → unwrap_or found (length plan.links) < length plan.links
        → get_or plan.links (unwrap_or found (length plan.links)) 0 ≡ link
    by None is inside = absurd (omega (arith, inside))
    by (Some place) is inside = eqb-true _ _ (position-Some (λ one. one == link) plan.links place 0 is).1

-- a link that is wanted has a place
pub wanted-place : (plan : SinkPlan) (link : ℕ) → wants plan link ≡ true → place_of plan link < length plan.live
wanted-place plan link wanted = elim (cases_lt (place_of plan link) (length plan.live)) [
  | inl within ↦ within
  | inr past ↦ absurd (false≢true (sym (get_or_past plan.live (place_of plan link) false past) ∙ wanted))
]

-- a place that was looked up is that of the plan
pub place_of-found : (plan : SinkPlan) (link place count : ℕ) (found : Option ℕ) (links : List ℕ) → place ≡ unwrap_or found count
    → found ≡ position (λ one. one == link) links → links ≡ plan.links → count ≡ length plan.links → place ≡ place_of plan link
place_of-found plan link place count found links is looked_up same all =
    is
    ∙ ap (λ (o : Option ℕ). unwrap_or o count) (looked_up ∙ ap (position (λ one. one == link)) same)
    ∙ ap (unwrap_or (position (λ one. one == link) plan.links)) all
