-- Steps of the routes: the table of new numbers, and paths that it leads to new ones.
use Rattle.std.specs.Prelude.{◌≡◌, ◌≢◌, ◌<◌, ◌+◌, ◌-◌, ℕ, List, [], ◌∷◌, length, map, slice_index, slice_set, All}
use Rattle.std.proofs.Common.{refl, sym, ◌∙◌, ap, arith, below_more, get_or}
use Rattle.std.proofs.lemmas.List.{get_or-set_same, get_or-set_other, get_or_default}
use Rattle.std.proofs.lemmas.List.Elements.{All-head, All-tail}
use Rattle.net_model.specs.Renumbering.{HasEachOnce, new_number}
use Rattle.net_model.proofs.RenumberingLaws.{new_number-below, new-old, old-new, old_number-below}
use Rattle.lif_compiler.specs.Routes.{IsInverse}

-- one more new number at its old link
pub inverse_more : (order table : List ℕ) (new : ℕ) → HasEachOnce (length order) order → length table ≡ length order → ((k : ℕ) → k < new → slice_index table (slice_index order k) ≡ k) → new < length order
    → (k : ℕ) → k < new + 1 → slice_index (slice_set table (slice_index order new) new) (slice_index order k) ≡ k
inverse_more order table new once whole each within =
    let old = slice_index order new in
    let inside : old < length table = omega (arith, old_number-below once new within, whole) in
    below_more (λ k. slice_index (slice_set table old new) (slice_index order k) ≡ k) new
    (λ k before.
    let apart : slice_index order k ≢ old = λ same. absurd (omega (arith, sym (new-old once k (omega arith)) ∙ ap (new_number order) same ∙ new-old once new within)) in
    get_or-set_other table old (slice_index order k) new 0 apart ∙ each k before)
    (get_or-set_same table old new 0 inside)

-- all new numbers at their old links
pub inverse_all : (order table : List ℕ) → HasEachOnce (length order) order → length table ≡ length order → ((k : ℕ) → k < length order → slice_index table (slice_index order k) ≡ k) → IsInverse order table
inverse_all order table once whole each = record {
  whole = whole;
  each = λ link within. ap (slice_index table) (sym (old-new once link within)) ∙ each (new_number order link) (new_number-below once link within);
}

-- each of the new numbers is one
pub inverse_below : (order table : List ℕ) → HasEachOnce (length order) order → IsInverse order table → All (λ link. link < length order) table
inverse_below order table once inverse = λ old none within.
    let here : get_or table old none ≡ new_number order old = get_or_default table old none 0 within ∙ inverse.each old (omega (arith, inverse.whole)) in
    omega (arith, here, new_number-below once old (omega (arith, inverse.whole)))

-- numbers that stand in an order leave room for its places
pub places_fit : (order : List ℕ) (bound new : ℕ) → HasEachOnce (length order) order → ((k : ℕ) → slice_index order k < bound) → new < length order → new < bound
places_fit order bound new once fits within =
    let last = length order - 1 in
    omega (arith, fits (new_number order last), old-new once last (omega arith))

-- a path that the table leads to new numbers
new_path : (order table : List ℕ) → IsInverse order table → (path : List ℕ) → All (λ link. link < length order) path → map (slice_index table) path ≡ map (new_number order) path
new_path order table inverse [] below = refl
new_path order table inverse (link ∷ path) below =
    let here = inverse.each link (All-head (λ link. link < length order) link path below) in
    let later = new_path order table inverse path (All-tail (λ link. link < length order) link path below) in
    cc

-- paths that the table leads to new numbers
pub new_paths : (order table : List ℕ) → IsInverse order table → (paths : List (List ℕ)) → All (All (λ link. link < length order)) paths → map (map (slice_index table)) paths ≡ map (map (new_number order)) paths
new_paths order table inverse [] below = refl
new_paths order table inverse (path ∷ paths) below =
    let here = new_path order table inverse path (All-head (All (λ link. link < length order)) path paths below) in
    let later = new_paths order table inverse paths (All-tail (All (λ link. link < length order)) path paths below) in
    cc
