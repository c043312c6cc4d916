-- Look-ups in the lanes of tables that stand twice in each half.
use Rattle.std.proofs.Common.{◌≡◌, ℕ, ◌+◌, ◌*◌, ◌/◌, ◌%◌, ◌<◌, List, ◌++◌, map, length, get_or, replicate, refl, ap, ◌∙◌, arith, w8}
use Rattle.std.proofs.lemmas.List.{get_or-map, get_or_append_left}
use Rattle.std.proofs.lemmas.List.FromFn.{get_or-map-range_with_len}
use Rattle.std.specs.List.{range_with_len}
use Rattle.std.proofs.lemmas.Simd.{Each1-get_or, Each1-zip2, Each2-splat, SwzOk, SwzOk-from_below, swz_l, length-swz_l, get_or-swz_l_below, length-zip2, zip2_splat}
use Rattle.std.specs.Simd.Lanes.{zip2, Each1}
use Rattle.field_rows.specs.Halves.{RepeatsInHalves}

-- lanes picked from those of v
pub picked : (place : ℕ → ℕ) (v : List ℕ) → length v ≡ 64 → ((i : ℕ) → i < 64 → place i < 64) → (i : ℕ) → i < 64
    → get_or (map (λ j. get_or (v ++ v) (place j) 0) (range_with_len 0 64)) i 0 ≡ get_or v (place i) 0
picked place v long within i l =
    get_or-map-range_with_len (λ j. get_or (v ++ v) (place j) 0) 0 64 i i 0 l (omega arith) ∙ get_or_append_left v v 0 (place i) (omega (arith, within i l))

-- places that f makes of the lanes of v and of one number, each of them below 16
module _ (f : ℕ → ℕ → ℕ) (y : ℕ) (v : List ℕ) (long : length v ≡ 64) (small : Each1 (λ x. f x y < 16) v) where
  -- such places are within a block
  pub places_fit : SwzOk w8 16 64 0 (zip2 f v (replicate 64 y))
  places_fit =
      SwzOk-from_below w8 16 4 64 0 (zip2 f v (replicate 64 y)) refl (omega (arith, length-zip2 f v (replicate 64 y) long))
      (Each1-zip2 f (λ j. j < 16) v (replicate 64 y) (Each2-splat (λ x z. f x z < 16) v 64 y small))

  -- there is a place for each lane
  pub length-looked_up : (lanes : List ℕ) → length (swz_l w8 16 lanes 0 (zip2 f v (replicate 64 y))) ≡ 64
  length-looked_up lanes = length-swz_l w8 16 lanes 0 (zip2 f v (replicate 64 y)) ∙ length-zip2 f v (replicate 64 y) long ∙ long

  -- the look-up reads the first block of the lane's half
  pub looked_up : (lanes : List ℕ) → RepeatsInHalves lanes → (i : ℕ) → i < 64 → get_or (swz_l w8 16 lanes 0 (zip2 f v (replicate 64 y))) i 0 ≡ get_or lanes (32 * (i / 32) + f (get_or v i 0) y) 0
  looked_up lanes h i l =
      let js = zip2 f v (replicate 64 y) in
      let count : length js ≡ 64 = length-zip2 f v (replicate 64 y) long ∙ long in
      let within : i < length v = omega arith in
      let is : get_or js i 0 ≡ f (get_or v i 0) y = ap (λ l. get_or l i 0) (zip2_splat f v 64 y long) ∙ get_or-map (λ x. f x y) v i 0 0 within in
      let below : f (get_or v i 0) y < 16 = Each1-get_or (λ x. f x y < 16) v i 0 within small in
      let k = 16 * (i / 16 % 2) + f (get_or v i 0) y in
      let there : 16 * ((0 + i) / 16) + get_or js i 0 ≡ 32 * (i / 32) + k = omega arith in
      let here : k % 16 ≡ f (get_or v i 0) y = omega arith in
      get_or-swz_l_below w8 16 lanes 0 js i (omega arith) (omega arith)
      ∙ ap (λ p. get_or lanes p 0) there
      ∙ h.at (i / 32) k (omega arith) (omega arith)
      ∙ ap (λ p. get_or lanes (32 * (i / 32) + p) 0) here
