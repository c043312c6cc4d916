-- Laws of walks.
use Rattle.std.specs.Prelude.{◌<◌, ℕ, List, [], ◌∷◌, All, length}
use Rattle.std.proofs.lemmas.List.Elements.{All-cons, All-nil}
use Rattle.net_model.specs.Walks.{IsWalk}
use Rattle.net_model.specs.declared.Link.{Link}

-- the links of a walk are links
pub IsWalk-below : (links : List Link) (walk : List ℕ) → IsWalk links walk → All (λ link. link < length links) walk
IsWalk-below links [] is = All-nil (λ link. link < length links)
IsWalk-below links (one ∷ []) is = All-cons (λ link. link < length links) one [] is (All-nil (λ link. link < length links))
IsWalk-below links (one ∷ next ∷ walk) is = All-cons (λ link. link < length links) one (next ∷ walk) is.0 (IsWalk-below links (next ∷ walk) is.2)
