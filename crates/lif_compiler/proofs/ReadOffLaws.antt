-- Laws of decoders that are read off a basis: sorted frontier links, and entries that stand row by row.
use Rattle.std.specs.Prelude.{◌≡◌, ◌<◌, ◌+◌, ◌-◌, ◌*◌, ℕ, zero, suc, true, List, [], ◌∷◌, ◌++◌, All, Option, None, Some, is_some, length, map, nat_eq, slice_get, slice_index, slice_index_or, take, unwrap_or}
use Rattle.std.specs.List.{IsDistinct, concat, range_with_len}
use Rattle.std.specs.List.Sorted.{IsNonDecreasing, IsNonDecreasingBy, IsPermutation}
use Rattle.std.proofs.Common.{arith, refl, sym, ap, subst, ◌∙◌, get_or, inl, inr, suc-mul}
use Rattle.std.proofs.Math.Path.{ap₂}
use Rattle.std.proofs.lemmas.Bool.{cases_lt, ne_eqb}
use Rattle.std.proofs.lemmas.Cmp.{nat_eq_equiv}
use Rattle.std.proofs.lemmas.List.{append-nil, get_or_append_left, get_or-append-add, get_or-append_right, get_or-map, length-append, length-map, map-append, take_more}
use Rattle.std.proofs.lemmas.List.Folds.{concat-append}
use Rattle.std.proofs.lemmas.List.Elements.{All-head, All-tail, All-map}
use Rattle.std.proofs.lemmas.List.FromFn.{get_or-map-range_with_len, get_or-range_with_len, length-map-range_with_len, length-range_with_len, map-range_with_len_more}
use Rattle.std.proofs.lemmas.Option.{get_or_from_slice_get, slice_get-get_or, slice_get_within}
use Rattle.std.proofs.lemmas.List.Sorted.{All-permutation, IsPermutation-map, length_permutation}
use Rattle.std.proofs.lemmas.Map.Keys.{IsDistinct-from_apart, IsDistinct-IsPermutation, IsStrictlyIncreasing-from_distinct}
use Rattle.linear_algebra.specs.Elements.{numbers}
use Rattle.net_model.specs.Lists.{is_rising}
use Rattle.lif_compiler.specs.Decoders.{IsReadOff}
use Rattle.lif_compiler.specs.ReadOff.{AreApart, AreReached, AreSorted, entries_of_paths, placed_link, placed_links, row_of_entries}
use Rattle.net_model.proofs.RisingLaws.{is_rising-from_increasing}
use Rattle.lif_compiler.specs.declared.decoding.PlacedLink.{PlacedLink}

-- lists of one length, joined: how long they are
pub length-joined : (width : ℕ) (f : ℕ → List ℕ) (a n : ℕ) → ((k : ℕ) → length (f k) ≡ width) → length (concat (map f (range_with_len a n))) ≡ n * width
length-joined width f a zero wide = omega arith
length-joined width f a (suc n) wide =
    let rest = length-joined width f (a + 1) n wide in
    omega (arith, length-append (f a) (concat (map f (range_with_len (a + 1) n))), wide a, rest)

-- and what stands where
pub get_or-joined : (width : ℕ) (f : ℕ → List ℕ) (a n i j : ℕ) → ((k : ℕ) → length (f k) ≡ width) → i < n → j < width
    → get_or (concat (map f (range_with_len a n))) (i * width + j) 0 ≡ get_or (f (a + i)) j 0
get_or-joined width f a zero i j wide below within = absurd (omega arith)
get_or-joined width f a (suc n) zero j wide below within =
    let rest = concat (map f (range_with_len (a + 1) n)) in
    let place : 0 * width + j ≡ j = omega arith in
    let inside : j < length (f a) = omega (arith, wide a) in
    let first : a ≡ a + 0 = omega arith in
    ap (λ k. get_or (f a ++ rest) k 0) place ∙ get_or_append_left (f a) rest 0 j inside ∙ ap (λ k. get_or (f k) j 0) first
get_or-joined width f a (suc n) (suc i) j wide below within =
    let rest = concat (map f (range_with_len (a + 1) n)) in
    let place : suc i * width + j ≡ length (f a) + (i * width + j) = omega (arith, wide a, suc-mul i width) in
    let next : a + 1 + i ≡ a + suc i = omega arith in
    ap (λ k. get_or (f a ++ rest) k 0) place ∙ get_or-append-add (f a) rest (i * width + j) 0
    ∙ get_or-joined width f (a + 1) n i j wide (omega arith) within ∙ ap (λ k. get_or (f k) j 0) next

-- a frontier link that is there
link_there : (link : Option ℕ) → is_some link ≡ true → link ≡ Some (unwrap_or link 0)
link_there None there = cc
link_there (Some link) there = refl

-- the paths of frontier links that were placed
placed_paths : (frontier : List (Option ℕ)) (paths : List ℕ) → map (λ (one : PlacedLink). one.path) (map (placed_link frontier) paths) ≡ paths
placed_paths frontier [] = refl
placed_paths frontier (path ∷ paths) = ap (λ (rest : List ℕ). path ∷ rest) (placed_paths frontier paths)

-- and their links
links_placed : (frontier : List (Option ℕ)) (paths : List ℕ)
    → map (λ (one : PlacedLink). one.link) (map (placed_link frontier) paths) ≡ map (λ path. unwrap_or (slice_index_or frontier path None) 0) paths
links_placed frontier [] = refl
links_placed frontier (path ∷ paths) = ap (λ (rest : List ℕ). unwrap_or (slice_index_or frontier path None) 0 ∷ rest) (links_placed frontier paths)

-- links that don't fall, of placed links
links_rise : (sorted : List PlacedLink) → IsNonDecreasingBy (λ (one : PlacedLink). one.link) sorted → IsNonDecreasing (map (λ (one : PlacedLink). one.link) sorted)
links_rise sorted rise i j d before within =
    let none : PlacedLink = record { link = d; path = 0 } in
    let inside : j < length sorted = omega (arith, length-map sorted (λ (one : PlacedLink). one.link)) in
    let below : i < length sorted = omega arith in
    let at_i = get_or-map (λ (one : PlacedLink). one.link) sorted i none d below in
    let at_j = get_or-map (λ (one : PlacedLink). one.link) sorted j none d inside in
    let order = rise i j none before inside in
    omega (arith, at_i, at_j, order)

module _ (frontier : List (Option ℕ)) (reached : AreReached frontier) where
  -- each path has its frontier link
  reached_at : (path : ℕ) → path < length frontier → slice_index_or frontier path None ≡ Some (unwrap_or (slice_index_or frontier path None) 0)
  reached_at path within = link_there (slice_index_or frontier path None) (reached path None within)

  -- the frontier links differ
  links_differ : AreApart frontier → IsDistinct nat_eq (map (λ (one : PlacedLink). one.link) (placed_links frontier))
  links_differ apart =
      let n = length frontier in
      let f : ℕ → ℕ = λ path. unwrap_or (slice_index_or frontier path None) 0 in
      subst (IsDistinct nat_eq) (sym (links_placed frontier (range_with_len 0 n)))
      (IsDistinct-from_apart nat_eq (map f (range_with_len 0 n)) (λ i j d before within.
      let inside : j < n = omega (arith, length-map-range_with_len f 0 n) in
      let below : i < n = omega arith in
      let at_i = get_or-map-range_with_len f 0 n i i d below (omega arith) in
      let at_j = get_or-map-range_with_len f 0 n j j d inside (omega arith) in
      ne_eqb _ _ (λ same. apart i j before inside (reached_at i below ∙ ap Some (sym at_i ∙ same ∙ at_j) ∙ sym (reached_at j inside)))))

  -- placed links, sorted by links, rise
  pub AreSorted-made : (sorted : List PlacedLink) → AreApart frontier → IsPermutation (placed_links frontier) sorted → IsNonDecreasingBy (λ (one : PlacedLink). one.link) sorted
      → AreSorted frontier sorted
  AreSorted-made sorted apart permuted rise =
      let links = map (λ (one : PlacedLink). one.link) sorted in
      let differ = IsDistinct-IsPermutation nat_eq nat_eq_equiv.symm (map (λ (one : PlacedLink). one.link) (placed_links frontier)) links
      (IsPermutation-map (λ (one : PlacedLink). one.link) (placed_links frontier) sorted permuted) (links_differ apart) in
      record {
        each = permuted;
        rising = is_rising-from_increasing links (IsStrictlyIncreasing-from_distinct links (links_rise sorted rise) differ);
      }

  module _ (sorted : List PlacedLink) (is : AreSorted frontier sorted) where
    -- the paths are those of the frontier
    pub paths_below : All (λ (one : PlacedLink). one.path < length frontier) sorted
    paths_below =
        let n = length frontier in
        let P : PlacedLink → Type 0 = λ one. one.path < n in
        All-permutation P (placed_links frontier) sorted is.each
        (All-map P (placed_link frontier) (range_with_len 0 n) (λ k d within.
        let below : k < n = omega (arith, length-range_with_len 0 n) in
        omega (arith, get_or-range_with_len 0 n k d below)))

    -- each path once
    paths_each : IsPermutation (range_with_len 0 (length frontier)) (map (λ (one : PlacedLink). one.path) sorted)
    paths_each =
        subst (λ paths. IsPermutation paths (map (λ (one : PlacedLink). one.path) sorted)) (placed_paths frontier (range_with_len 0 (length frontier)))
        (IsPermutation-map (λ (one : PlacedLink). one.path) (placed_links frontier) sorted is.each)

    -- the link of each is that of its path
    each_there : All (λ (one : PlacedLink). Some one.link ≡ slice_index_or frontier one.path None) sorted
    each_there =
        let n = length frontier in
        let P : PlacedLink → Type 0 = λ one. Some one.link ≡ slice_index_or frontier one.path None in
        All-permutation P (placed_links frontier) sorted is.each
        (All-map P (placed_link frontier) (range_with_len 0 n) (λ k d within.
        let below : k < n = omega (arith, length-range_with_len 0 n) in
        let inside : get_or (range_with_len 0 n) k d < n = omega (arith, get_or-range_with_len 0 n k d below) in
        sym (reached_at (get_or (range_with_len 0 n) k d) inside)))

    -- all paths have a link in the sorted list
    pub sorted_count : length sorted ≡ length frontier
    sorted_count = length_permutation (placed_links frontier) sorted is.each ∙ length-map-range_with_len (placed_link frontier) 0 (length frontier)

    -- the decoder of the sorted links and of the entries of their paths
    pub IsReadOff-made : (size : ℕ) (inverses : List (List ℕ)) (links entries : List ℕ) → links ≡ map (λ (one : PlacedLink). one.link) sorted
        → entries ≡ entries_of_paths (length frontier) inverses (map (λ (one : PlacedLink). one.path) sorted) → All (λ entry. entry < size) entries
        → IsReadOff size (length frontier) frontier inverses (record { links = links; entries = entries })
    IsReadOff-made size inverses links entries links_are entries_are below =
        let rate = length frontier in
        let paths = map (λ (one : PlacedLink). one.path) sorted in
        let rows = row_of_entries inverses paths in
        let count : length paths ≡ rate = length-map sorted (λ (one : PlacedLink). one.path) ∙ sorted_count in
        let wide : (k : ℕ) → length (rows k) ≡ rate = λ k. length-map paths (λ path. slice_index (slice_index_or inverses path []) k) ∙ count in
        record {
          paths = paths;
          links_are = ap (map Some) links_are ∙ links_of_paths sorted each_there;
          rising = ap is_rising links_are ∙ is.rising;
          entries = record {
            each_path = paths_each;
            entry = λ i j within inside.
                let there : j < length paths = omega (arith, count) in
                let same : 0 + i ≡ i = omega arith in
                ap (λ (all : List ℕ). slice_index all (i * rate + j)) entries_are ∙ get_or-joined rate rows 0 rate i j wide within inside
                ∙ ap (λ k. get_or (rows k) j 0) same ∙ get_or-map (λ path. slice_index (slice_index_or inverses path []) i) paths j 0 0 there;
          };
          entry_count = ap length entries_are ∙ length-joined rate rows 0 rate wide;
          below = below;
        }
      where
        links_of_paths : (some : List PlacedLink) → All (λ (one : PlacedLink). Some one.link ≡ slice_index_or frontier one.path None) some
            → map Some (map (λ (one : PlacedLink). one.link) some) ≡ map (λ path. slice_index_or frontier path None) (map (λ (one : PlacedLink). one.path) some)
        links_of_paths [] there = refl
        links_of_paths (one ∷ some) there =
            let P : PlacedLink → Type 0 = λ one. Some one.link ≡ slice_index_or frontier one.path None in
            ap₂ (λ (link : Option ℕ) (rest : List (Option ℕ)). link ∷ rest) (All-head P one some there) (links_of_paths some (All-tail P one some there))

-- an entry of rows of numbers
pub entry_number : {A : Type 0} (number : A → ℕ) (rows : List (List A)) (path row : ℕ) (x : A) → path < length rows → row < length (get_or rows path []) → x ≡ get_or (get_or rows path []) row x
    → slice_index (slice_index_or (map (numbers number) rows) path []) row ≡ number x
entry_number number rows path row x below within here =
    ap (λ (numbers : List ℕ). slice_index numbers row) (get_or-map (numbers number) rows path [] [] below)
    ∙ get_or-map number (get_or rows path []) row x 0 within ∙ ap number (sym here)

-- a row of entries with that of one more link
pub row_of_entries-more : (inverses : List (List ℕ)) (sorted : List PlacedLink) (k row : ℕ) (none : PlacedLink) → k < length sorted
    → row_of_entries inverses (map (λ (one : PlacedLink). one.path) (take (k + 1) sorted)) row
    ≡ row_of_entries inverses (map (λ (one : PlacedLink). one.path) (take k sorted)) row ++ slice_index (slice_index_or inverses (get_or sorted k none).path []) row ∷ []
row_of_entries-more inverses sorted k row none within =
    ap (λ (some : List PlacedLink). row_of_entries inverses (map (λ (one : PlacedLink). one.path) some) row) (take_more sorted k none within) ∙ simp map-append

-- the entries with those of one more row
pub entries_of_paths-more : (inverses : List (List ℕ)) (paths : List ℕ) (row : ℕ)
    → entries_of_paths (row + 1) inverses paths ≡ entries_of_paths row inverses paths ++ row_of_entries inverses paths row
entries_of_paths-more inverses paths row =
    let rows = row_of_entries inverses paths in
    ap concat (map-range_with_len_more rows 0 row row (omega arith)) ∙ concat-append (map rows (range_with_len 0 row)) (rows row ∷ [])
    ∙ ap (◌++◌ (entries_of_paths row inverses paths)) (append-nil (rows row))

-- what holds of the items of two lists, place by place, with one more of each
pub pairs_more : {X Y : Type 0} (R : X → Y → Type 0) (xs : List X) (ys : List Y) (n : ℕ) (x : X) (y : Y) → length ys ≡ n → n < length xs → x ≡ get_or xs n x → R x y
    → ((k : ℕ) (a : X) (b : Y) → slice_get xs k ≡ Some a → slice_get ys k ≡ Some b → R a b)
    → (k : ℕ) (a : X) (b : Y) → slice_get xs k ≡ Some a → slice_get (ys ++ y ∷ []) k ≡ Some b → R a b
pairs_more {X} {Y} R xs ys n x y count within here now before k a b first second =
    let last : List Y = y ∷ [] in
    let inside : k < length (ys ++ last) = slice_get_within (ys ++ last) k b second in
    let read : get_or (ys ++ last) k b ≡ b = get_or_from_slice_get (ys ++ last) k b b second in
    elim (cases_lt k n) [
      | inl earlier ↦
          (let there : k < length ys = omega (arith, count) in
          before k a b first (slice_get-get_or ys k b there ∙ ap Some (sym (get_or_append_left ys last b k there) ∙ read)))
      | inr later ↦
          (let same : k ≡ n = omega (arith, length-append ys last, count, inside) in
          let front : k - n ≡ 0 = omega (arith, same) in
          let a_is : x ≡ a = here ∙ ap (λ i. get_or xs i x) (sym same) ∙ get_or_from_slice_get xs k a x first in
          let b_is : y ≡ b = ap (λ i. get_or last i b) (sym front) ∙ sym (get_or-append_right ys last n k b count later) ∙ read in
          subst (λ c. R c b) a_is (subst (λ c. R x c) b_is now))
    ]
