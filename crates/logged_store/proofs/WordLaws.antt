-- Words that are cloned are the same.
use Rattle.std.proofs.Common.{◌≡◌, List, [], ◌∷◌, map, refl, ap, ◌∙◌}
use Rattle.std.specs.List.{AllZip}

pub same_views : {X Y : Type 0} (view : X → Y) (old new : List X) → AllZip (λ x y. view y ≡ view x) old new → map view new ≡ map view old
same_views view [] [] same = refl
same_views view [] (y ∷ ys) same = elim same [ ]
same_views view (x ∷ xs) [] same = elim same [ ]
same_views view (x ∷ xs) (y ∷ ys) same = ap (λ v. v ∷ map view ys) same.0 ∙ ap (λ vs. view x ∷ vs) (same_views view xs ys same.1)
