-- Laws of ways from the source of a network to a link.
use Rattle.std.specs.Prelude.{◌≡◌, ℕ, ◌+◌, ◌-◌, ◌<◌, false, List, [], ◌∷◌, ◌++◌, All, length, slice_index}
use Rattle.std.proofs.Common.{arith, refl, ap, ◌∙◌}
use Rattle.std.proofs.lemmas.List.{length-append, get_or-append-add}
use Rattle.std.proofs.lemmas.List.Elements.{All-nil, All-cons, All-append}
use Rattle.net_model.specs.Flows.{FlowNetwork, IsPath}
use Rattle.net_model.specs.Lists.{is_among}
use Rattle.net_model.specs.Walks.{IsWalk, head_of, tail_of}
use Rattle.net_model.specs.declared.Link.{Link}

-- links that follow one another from the source on, then the link, none of which failed
pub record IsWay (network : FlowNetwork) (before : List ℕ) (link : ℕ) : Type 0 where
  pub walk : IsWalk network.links (before ++ link ∷ [])
  pub start : tail_of network.links (slice_index (before ++ link ∷ []) 0) ≡ network.source
  pub working : All (λ one. is_among network.failed one ≡ false) (before ++ link ∷ [])

-- a walk and a link that goes on from its end
IsWalk-more : (links : List Link) (before : List ℕ) (from link : ℕ) → IsWalk links (before ++ from ∷ []) → link < length links → tail_of links link ≡ head_of links from
    → IsWalk links ((before ++ from ∷ []) ++ link ∷ [])
IsWalk-more links [] from link walk within on = (walk, on, within)
IsWalk-more links (one ∷ []) from link walk within on = (walk.0, walk.1, IsWalk-more links [] from link walk.2 within on)
IsWalk-more links (one ∷ next ∷ before) from link walk within on = (walk.0, walk.1, IsWalk-more links (next ∷ before) from link walk.2 within on)

-- the first of links and one more
first_of_more : (before : List ℕ) (from link : ℕ) → slice_index ((before ++ from ∷ []) ++ link ∷ []) 0 ≡ slice_index (before ++ from ∷ []) 0
first_of_more [] from link = refl
first_of_more (one ∷ before) from link = refl

-- the last of links
last_of : (before : List ℕ) (link : ℕ) → slice_index (before ++ link ∷ []) (length (before ++ link ∷ []) - 1) ≡ link
last_of before link =
    let last : length (before ++ link ∷ []) - 1 ≡ length before + 0 = omega (arith, length-append before (link ∷ [])) in
    rw last (get_or-append-add before (link ∷ []) 0 0)

-- a link that leaves the source and works
pub IsWay-first : (network : FlowNetwork) (link : ℕ) → link < length network.links → tail_of network.links link ≡ network.source → is_among network.failed link ≡ false
    → IsWay network [] link
IsWay-first network link within start whole = record {
  walk = within;
  start = start;
  working = All-cons (λ link. is_among network.failed link ≡ false) link [] whole (All-nil (λ link. is_among network.failed link ≡ false));
}

-- a way to a link, and one that goes on from there and works
pub IsWay-more : (network : FlowNetwork) (before : List ℕ) (from link : ℕ) → IsWay network before from → link < length network.links
    → tail_of network.links link ≡ head_of network.links from → is_among network.failed link ≡ false → IsWay network (before ++ from ∷ []) link
IsWay-more network before from link way within on whole =
    let Works : ℕ → Type 0 = λ link. is_among network.failed link ≡ false in
    record {
      walk = IsWalk-more network.links before from link way.walk within on;
      start = ap (tail_of network.links) (first_of_more before from link) ∙ way.start;
      working = All-append Works (before ++ from ∷ []) (link ∷ []) way.working (All-cons Works link [] whole (All-nil Works));
    }

-- a way to a link into the sink is a path
pub IsPath-way : (network : FlowNetwork) (before : List ℕ) (link : ℕ) → IsWay network before link → head_of network.links link ≡ network.sink
    → IsPath network (before ++ link ∷ [])
IsPath-way network before link way into = record {
  some = omega (arith, length-append before (link ∷ []));
  walk = way.walk;
  start = way.start;
  end = ap (head_of network.links) (last_of before link) ∙ into;
  working = way.working;
}
