-- A push that succeeded.
use Rattle.std.specs.Prelude.{◌≡◌, Bool, true, if◌then◌else◌, List, [], ◌∷◌, ◌++◌}
use Rattle.std.proofs.Common.{ap, ◌∙◌}

-- a push that was done has added its value
pub pushed : {X : Type 0} (old new : List X) (x : X) (done : Bool) → new ≡ (if done then old ++ x ∷ [] else old) → done ≡ true → new ≡ old ++ x ∷ []
pushed old new x done items is = items ∙ ap (λ (b : Bool). if b then old ++ x ∷ [] else old) is
