-- Functions that agree give one list.
use Rattle.std.specs.Prelude.{◌≡◌, ℕ, ◌<◌, List, [], ◌∷◌, map}
use Rattle.std.specs.List.{range_with_len, All}
use Rattle.std.proofs.Common.{refl, ◌∙◌, arith}
use Rattle.std.proofs.lemmas.List.Elements.{All-head, All-tail}
use Rattle.std.proofs.lemmas.List.FromFn.{fill_by_all, length-map-range_with_len, get_or-map-range_with_len}

-- two functions that agree on each item give one list
pub map-agree : {X Y : Type 0} (f g : X → Y) (P : X → Type 0) → ((x : X) → P x → f x ≡ g x) → (xs : List X) → All P xs → map f xs ≡ map g xs
map-agree f g P agree [] all = refl
map-agree f g P agree (x ∷ xs) all =
    rw (agree x (All-head P x xs all), map-agree f g P agree xs (All-tail P x xs all)) refl

-- two lists made from functions of the place that agree below the length
pub same_made : {X : Type 0} (f g : ℕ → X) (n : ℕ) (d : X) → ((j : ℕ) → j < n → f j ≡ g j) → map f (range_with_len 0 n) ≡ map g (range_with_len 0 n)
same_made f g n d agree =
    fill_by_all g (map f (range_with_len 0 n)) n d (length-map-range_with_len f 0 n)
    (λ k below. get_or-map-range_with_len f 0 n k k d below (omega arith) ∙ agree k below)
