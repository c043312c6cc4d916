-- Laws of sums and multiples of rows: their lengths, places and elements.
use Rattle.std.specs.Prelude.{◌≡◌, ℕ, ◌<◌, List, [], ◌∷◌, All, length, get_or}
use Rattle.std.specs.Simd.Lanes.{zip2}
use Rattle.std.proofs.lemmas.List.{length-map, get_or-map}
use Rattle.std.proofs.lemmas.List.Elements.{All-nil, All-cons, All-head, All-tail}
use Rattle.std.proofs.lemmas.Simd.{length-zip2, get_or-zip2}
use Rattle.field_vectors.specs.Elements.{plus_multiple, multiple_of}

-- the length of a row plus a multiple of another
pub length-plus_multiple : {A : Type 0} (add mul : A → A → A) (row : List A) (by : A) (other : List A) → length row ≡ length other → length (plus_multiple add mul row by other) ≡ length row
length-plus_multiple add mul row by other same = length-zip2 (λ x y. add x (mul by y)) row other same

-- the length of a multiple
pub length-multiple_of : {A : Type 0} (mul : A → A → A) (by : A) (row : List A) → length (multiple_of mul by row) ≡ length row
length-multiple_of mul by row = length-map row (mul by)

-- a place of a row plus a multiple of another
pub get_or-plus_multiple : {A : Type 0} (add mul : A → A → A) (row : List A) (by : A) (other : List A) (j : ℕ) (d : A) → j < length row → j < length other
    → get_or (plus_multiple add mul row by other) j d ≡ add (get_or row j d) (mul by (get_or other j d))
get_or-plus_multiple add mul row by other j d within inside = get_or-zip2 (λ x y. add x (mul by y)) row other j d d d within inside

-- a place of a multiple
pub get_or-multiple_of : {A : Type 0} (mul : A → A → A) (by : A) (row : List A) (j : ℕ) (d : A) → j < length row → get_or (multiple_of mul by row) j d ≡ mul by (get_or row j d)
get_or-multiple_of mul by row j d within = get_or-map (mul by) row j d d within

-- pairs of elements joined
zip2-elements : {A : Type 0} (P : A → Type 0) (f : A → A → A) → ((x y : A) → P x → P y → P (f x y)) → (xs ys : List A) → All P xs → All P ys → All P (zip2 f xs ys)
zip2-elements P f closed [] ys h k = All-nil P
zip2-elements P f closed (x ∷ xs) [] h k = All-nil P
zip2-elements P f closed (x ∷ xs) (y ∷ ys) h k =
    All-cons P (f x y) (zip2 f xs ys) (closed x y (All-head P x xs h) (All-head P y ys k)) (zip2-elements P f closed xs ys (All-tail P x xs h) (All-tail P y ys k))

-- a row of elements plus a multiple of another has elements
pub plus_multiple-elements : {A : Type 0} (P : A → Type 0) (add mul : A → A → A) → ((x y : A) → P x → P y → P (add x y)) → ((x y : A) → P x → P y → P (mul x y))
    → (row : List A) (by : A) (other : List A) → All P row → P by → All P other → All P (plus_multiple add mul row by other)
plus_multiple-elements P add mul sums products row by other h element k =
    zip2-elements P (λ x y. add x (mul by y)) (λ x y p q. sums x (mul by y) p (products by y element q)) row other h k

-- a multiple of a row of elements has elements
pub multiple_of-elements : {A : Type 0} (P : A → Type 0) (mul : A → A → A) → ((x y : A) → P x → P y → P (mul x y)) → (by : A) (row : List A) → P by → All P row → All P (multiple_of mul by row)
multiple_of-elements P mul products by [] element h = All-nil P
multiple_of-elements P mul products by (x ∷ row) element h =
    All-cons P (mul by x) (multiple_of mul by row) (products by x element (All-head P x row h)) (multiple_of-elements P mul products by row element (All-tail P x row h))
