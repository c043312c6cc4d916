-- What a search has reached.
use Rattle.std.specs.Prelude.{◌≡◌, ◌<◌, ◌≤◌, ◌*◌, ◌&&◌, nat_lt, ℕ, true, false, List, Bool, count_by, length, slice_index, Some}
use Rattle.std.specs.List.{range_with_len}
use Rattle.std.proofs.Common.{subst, arith, inl, inr}
use Rattle.std.proofs.lemmas.Bool.{and_from, and_parts, lt-ltb, ltb-true}
use Rattle.counted_steps.specs.Steps.{RoseBy, RoseByAtMost}
use Rattle.net_model.specs.Flows.{FlowNetwork, is_on}
use Rattle.net_model.specs.Walks.{head_of, tail_of}
use Rattle.net_model.specs.declared.Link.{Link}
use Rattle.unit_flow.proofs.CountLaws.{All-range, count_by-alike}
use Rattle.unit_flow.proofs.PassageLaws.{passage_cases}
use Rattle.unit_flow.proofs.PassingSteps.{marked_ends-le, passed_ends-le}
use Rattle.unit_flow.specs.Reaching.{IsReached}
use Rattle.unit_flow.specs.Residual.{passage}
use Rattle.unit_flow.specs.Searching.{ArePassed, IsLeft, IsSearching, looks, looks_from, marked_ends, passed_ends}
use Rattle.unit_flow.specs.declared.residual.LinkState.{LinkState}
use Rattle.unit_flow.specs.declared.search.Search.{Search}

-- what a loop keeps that searches for the sink
pub record IsOnTheWay (network : FlowNetwork) (states : List LinkState) (entered : List Bool) (search : Search) (before after : ℕ) : Type 0 where
  pub searching : IsSearching network states search
  pub away : is_on search.reached.items network.sink ≡ false
  pub steps : RoseBy (looks network.links entered search) before after

-- each link is looked at twice at most
pub looks-le : (links : List Link) (entered : List Bool) (search : Search) → looks links entered search ≤ 2 * length links
looks-le links entered search =
    omega (
      arith,
      passed_ends-le (tail_of links) (length links) (slice_index search.from.items),
      passed_ends-le (head_of links) (length links) (slice_index search.into.items),
      marked_ends-le (head_of links) (length links) entered (slice_index search.into.items),
    )

pub few_looks : (links : List Link) (entered : List Bool) (search : Search) (before after : ℕ) → RoseBy (looks links entered search) before after → RoseByAtMost (2 * length links) before after
few_looks links entered search before after is = let most = looks-le links entered search in record { not_below = omega (arith, is); not_above = omega (arith, is, most) }

-- where all links at the nodes that were reached were passed, and no others, they are those with an end there
module _ (links : List Link) (states : List LinkState) (end : ℕ → ℕ) (nodes : ℕ) (cursors : ℕ → ℕ) (reached : List Bool) (are : ArePassed links states end nodes cursors reached)
    (all : (node : ℕ) → is_on reached node ≡ true → length links ≤ cursors node) where
  before : (link : ℕ) → link < length links → is_on reached (end link) ≡ true → nat_lt link (cursors (end link)) ≡ true
  before link within on = lt-ltb link (cursors (end link)) (omega (arith, all (end link) on))

  passed_ends-reached : passed_ends end (length links) cursors ≡ count_by (λ link. is_on reached (end link)) (range_with_len 0 (length links))
  passed_ends-reached =
      count_by-alike (λ link. nat_lt link (cursors (end link))) (λ link. is_on reached (end link)) (range_with_len 0 (length links))
      (All-range (λ link. nat_lt link (cursors (end link)) ≡ true → is_on reached (end link) ≡ true) (length links) (λ link within early. are.at_reached link within (ltb-true _ _ early)))
      (All-range (λ link. is_on reached (end link) ≡ true → nat_lt link (cursors (end link)) ≡ true) (length links) before)

  marked_ends-reached : (marks : List Bool) → marked_ends end (length links) marks cursors ≡ count_by (λ link. is_on marks (end link) && is_on reached (end link)) (range_with_len 0 (length links))
  marked_ends-reached marks =
      let looked : ℕ → Bool = λ link. is_on marks (end link) && nat_lt link (cursors (end link)) in
      let there : ℕ → Bool = λ link. is_on marks (end link) && is_on reached (end link) in
      count_by-alike looked there (range_with_len 0 (length links))
      (All-range (λ link. looked link ≡ true → there link ≡ true) (length links) (λ link within early.
      let parts = and_parts _ _ early in
      and_from _ _ parts.0 (are.at_reached link within (ltb-true _ _ parts.1))))
      (All-range (λ link. there link ≡ true → looked link ≡ true) (length links) (λ link within on. let parts = and_parts _ _ on in and_from _ _ parts.0 (before link within parts.1)))

-- where the way is at its end, all links at the nodes that were reached were passed
left_all : (network : FlowNetwork) (states : List LinkState) (search : Search) → IsSearching network states search → search.depth ≡ 0 → (node : ℕ) → is_on search.reached.items node ≡ true
    → IsLeft (length network.links) search node
left_all network states search is none node on = elim (is.left node on) [ inl there ↦ absurd (omega (arith, there.1)) | inr gone ↦ gone ]

-- so each was looked at once
pub looks-reached : (network : FlowNetwork) (states : List LinkState) (entered : List Bool) (search : Search) → IsSearching network states search → search.depth ≡ 0
    → looks network.links entered search ≡ looks_from network.links entered search.reached.items
looks-reached network states entered search is none =
    omega (
      arith,
      passed_ends-reached network.links states (tail_of network.links) network.nodes (slice_index search.from.items) search.reached.items is.from (λ node on. (left_all network states search is none node on).from),
      marked_ends-reached network.links states (head_of network.links) network.nodes (slice_index search.into.items) search.reached.items is.into (λ node on. (left_all network states search is none node on).into) entered,
    )

-- and the nodes that were reached are those that the source reaches
pub IsReached-searched : (network : FlowNetwork) (states : List LinkState) (search : Search) → IsSearching network states search → search.depth ≡ 0 → IsReached network states search.reached.items
IsReached-searched network states search is none = record {
  whole = is.way.places.reached;
  source = is.source;
  closed = λ link node next within on leads. from_left link node next within (left_all network states search is none node on) leads;
  least = is.least;
}
  where
    from_left : (link node next : ℕ) → link < length network.links → IsLeft (length network.links) search node → passage network.links states link node ≡ Some next → is_on search.reached.items next ≡ true
    from_left link node next within gone leads =
        let From : ℕ → Type 0 = λ n. passage network.links states link n ≡ Some next in
        elim (passage_cases network.links states link node next leads) [
          | inl forward ↦
              let Before : ℕ → Type 0 = λ n. link < slice_index search.from.items n in
              is.from.led link next within (subst Before forward.1 (omega (arith, gone.from))) (subst From forward.1 leads)
          | inr back ↦
              let Before : ℕ → Type 0 = λ n. link < slice_index search.into.items n in
              is.into.led link next within (subst Before back.1 (omega (arith, gone.into))) (subst From back.1 leads)
        ]
