-- The steps of loops over rows.
use Rattle.std.proofs.Common.{◌≡◌, ℕ, zero, suc, ◌+◌, ◌<◌, ◌≤◌, List, [], ◌∷◌, length, get_or, set, drop, refl, sym, ap, ◌∙◌, arith, add-one}
use Rattle.std.specs.Simd.Lanes.{zip2}
use Rattle.std.proofs.lemmas.List.{drop_more}
use Rattle.field_vectors.specs.Elements.{dot_of}

-- the places below k of two rows joined, and the first row's places behind
abbrev pub joined_below : {X Y : Type 0} → (X → Y → X) → ℕ → List X → List Y → List X
joined_below f zero xs ys = xs
joined_below f (suc k) [] ys = []
joined_below f (suc k) (x ∷ xs) [] = x ∷ xs
joined_below f (suc k) (x ∷ xs) (y ∷ ys) = f x y ∷ joined_below f k xs ys

-- place k is not joined yet
pub joined_below-at : {X Y : Type 0} (f : X → Y → X) (k : ℕ) (xs : List X) (ys : List Y) (d : X) → get_or (joined_below f k xs ys) k d ≡ get_or xs k d
joined_below-at f zero xs ys d = refl
joined_below-at f (suc k) [] ys d = refl
joined_below-at f (suc k) (x ∷ xs) [] d = refl
joined_below-at f (suc k) (x ∷ xs) (y ∷ ys) d = joined_below-at f k xs ys d

-- one place more
joined_below-suc : {X Y : Type 0} (f : X → Y → X) (k : ℕ) (xs : List X) (ys : List Y) (d : X) (e : Y) → k < length xs → k < length ys
    → set (joined_below f k xs ys) k (f (get_or xs k d) (get_or ys k e)) ≡ joined_below f (suc k) xs ys
joined_below-suc f k [] ys d e within inside = absurd (omega arith)
joined_below-suc f k (x ∷ xs) [] d e within inside = absurd (omega arith)
joined_below-suc f zero (x ∷ xs) (y ∷ ys) d e within inside = refl
joined_below-suc f (suc k) (x ∷ xs) (y ∷ ys) d e within inside = ap (λ zs. f x y ∷ zs) (joined_below-suc f k xs ys d e (omega arith) (omega arith))

pub joined_below-more : {X Y : Type 0} (f : X → Y → X) (k : ℕ) (xs : List X) (ys : List Y) (d : X) (e : Y) → k < length xs → k < length ys
    → set (joined_below f k xs ys) k (f (get_or xs k d) (get_or ys k e)) ≡ joined_below f (k + 1) xs ys
joined_below-more f k xs ys d e within inside = joined_below-suc f k xs ys d e within inside ∙ ap (λ n. joined_below f n xs ys) (sym (add-one k))

-- all places
pub joined_below-all : {X Y : Type 0} (f : X → Y → X) (k : ℕ) (xs : List X) (ys : List Y) → length xs ≡ length ys → length xs ≤ k → joined_below f k xs ys ≡ zip2 f xs ys
joined_below-all f zero [] ys same all = refl
joined_below-all f zero (x ∷ xs) ys same all = absurd (omega arith)
joined_below-all f (suc k) [] ys same all = refl
joined_below-all f (suc k) (x ∷ xs) [] same all = absurd (omega arith)
joined_below-all f (suc k) (x ∷ xs) (y ∷ ys) same all = ap (λ zs. f x y ∷ zs) (joined_below-all f k xs ys (omega arith) (omega arith))

-- the product of the rows from a place on, from that of the places behind it
pub dot_of-before : {A : Type 0} (nought : A) (add mul : A → A → A) (k : ℕ) (xs ys : List A) (d e : A) → k < length xs → k < length ys
    → dot_of nought add mul (drop k xs) (drop k ys) ≡ add (mul (get_or xs k d) (get_or ys k e)) (dot_of nought add mul (drop (k + 1) xs) (drop (k + 1) ys))
dot_of-before nought add mul k xs ys d e within inside = rw (drop_more xs k d within, drop_more ys k e inside) refl

-- one place more, from what the loop reads and writes
pub joined_below-written : {X Y : Type 0} (f : X → Y → X) (k : ℕ) (xs : List X) (ys : List Y) (now : List X) (x : X) (y : Y) (z : X) → k < length xs → k < length ys
    → now ≡ joined_below f k xs ys → x ≡ get_or now k x → y ≡ get_or ys k y → z ≡ f x y → set now k z ≡ joined_below f (k + 1) xs ys
joined_below-written f k xs ys now x y z within inside before read_x read_y written =
    let at = joined_below-at f k xs ys x in
    let more = joined_below-more f k xs ys x y within inside in
    cc

-- the second rows of pairs of one length
pub zip2-second : {X Y : Type 0} (xs : List X) (ys : List Y) → length xs ≡ length ys → zip2 (λ x y. y) xs ys ≡ ys
zip2-second [] [] same = refl
zip2-second [] (y ∷ ys) same = absurd (omega arith)
zip2-second (x ∷ xs) [] same = absurd (omega arith)
zip2-second (x ∷ xs) (y ∷ ys) same = ap (λ zs. y ∷ zs) (zip2-second xs ys (omega arith))
