-- Lists whose items each stand several times in a row.
use Rattle.std.specs.Prelude.{◌≡◌, ℕ, ◌+◌, ◌*◌, ◌/◌, ◌%◌, ◌<◌, List, [], ◌∷◌, length, take, replicate}
use Rattle.std.specs.List.{flat_map}
use Rattle.std.proofs.Common.{sym, ◌∙◌, ap, get_or, arith}
use Rattle.std.proofs.Math.Nat.{div-lt_iff_lt-mul, mod-lt}
use Rattle.std.proofs.lemmas.List.{length-append, length-replicate, length-take-le, get_or-replicate}
use Rattle.std.proofs.lemmas.List.Concat.{get_or-flat_map}

-- a list whose items each stand so often in a row is so often as long
pub length-repeated : {X : Type 0} (count : ℕ) (xs : List X) → length (flat_map (λ x. replicate count x) xs) ≡ length xs * count
length-repeated count [] = omega arith
length-repeated count (x ∷ xs) =
    length-append (replicate count x) (flat_map (λ y. replicate count y) xs)
    ∙ grind (arith, length-replicate count x, length-repeated count xs)

-- and at each place stands the item of the place divided by that count
pub get_or-repeated : {X : Type 0} (count : ℕ) (xs : List X) (place : ℕ) (d : X) → place < length xs * count
    → get_or (flat_map (λ x. replicate count x) xs) place d ≡ get_or xs (place / count) d
get_or-repeated {X} count xs place d within =
    let repeat : X → List X = λ x. replicate count x in
    let some : 0 < count = grind arith in
    let row = place / count in
    let inside : row < length xs = (div-lt_iff_lt-mul some).1 within in
    let before : length (flat_map repeat (take row xs)) ≡ row * count =
    length-repeated count (take row xs) ∙ ap (λ n. n * count) (length-take-le row xs (omega arith)) in
    let at : length (flat_map repeat (take row xs)) + place % count ≡ place = grind (arith, before) in
    let rest : place % count < length (repeat (get_or xs row d)) = rw (length-replicate count (get_or xs row d)) (mod-lt place some) in
    ap (λ n. get_or (flat_map repeat xs) n d) (sym at)
    ∙ get_or-flat_map repeat xs row (place % count) d d inside rest
    ∙ get_or-replicate count (place % count) (get_or xs row d) d (mod-lt place some)
