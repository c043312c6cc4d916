-- Laws of made names: by which parts one is told, which ones are names, and that those of the two bundles differ.
use Rattle.std.specs.Prelude.{◌≡◌, ℕ, zero, suc, ◌+◌, ◌≤◌, Bool, true, false, ◌&&◌, nat_eq}
use Rattle.std.specs.Prelude.{List, [], ◌∷◌, ◌++◌, decimal, drop, length, map, take}
use Rattle.std.specs.List.{list_any, range_with_len}
use Rattle.std.specs.Str.{bytes_eq}
use Rattle.std.proofs.Common.{refl, ap, ◌∙◌, arith}
use Rattle.std.proofs.lemmas.Bool.{and_from, and_parts, le-leb, not_from_false, or_from}
use Rattle.std.proofs.lemmas.Fmt.{length-decimal-le}
use Rattle.net_model.specs.Limits.{highest_rate}
use Rattle.net_model.specs.Name.{is_name}
use Rattle.net_model.specs.Network.{are_names}
use Rattle.net_reader.proofs.Distinct.{names_added}
use Rattle.net_reader.proofs.MadeNames.{made_names-are_names, made_names-distinct}
use Rattle.net_reader.specs.Bundles.{made_name, made_names}
use Rattle.net_reader.specs.Fresh.{are_new}
use Rattle.two_sources.specs.Joined.{first_bundle, second_bundle, super_links}

-- ---- one made name

all_three : (x y z : Bool) → (x && (y && z)) ≡ ((x && y) && z)
all_three true y z = refl
all_three false y z = refl

-- a text is two others in a row where it begins with the first and goes on with the second
pub bytes_eq-append : (text front rest : List ℕ)
    → bytes_eq text (front ++ rest) ≡ (bytes_eq (take (length front) text) front && bytes_eq (drop (length front) text) rest)
bytes_eq-append text [] rest = refl
bytes_eq-append [] (x ∷ front) rest = refl
bytes_eq-append (y ∷ text) (x ∷ front) rest =
    ap (λ (b : Bool). nat_eq y x && b) (bytes_eq-append text front rest) ∙ all_three (nat_eq y x) _ _

-- a made name is told by the bundle's name, a point, and digits
pub made_name-told : (text bundle : List ℕ) (number : ℕ)
    → bytes_eq text (made_name bundle number)
    ≡ (bytes_eq (take (length bundle) text) bundle
    && (bytes_eq (take 1 (drop (length bundle) text)) (46 ∷ []) && bytes_eq (drop 1 (drop (length bundle) text)) (decimal number)))
made_name-told text bundle number =
    bytes_eq-append text bundle (46 ∷ decimal number)
    ∙ ap (λ (b : Bool). bytes_eq (take (length bundle) text) bundle && b)
    (bytes_eq-append (drop (length bundle) text) (46 ∷ []) (decimal number))

-- ---- the names of a bundle

-- those of a short bundle are names, and distinct
pub made_names-good : (bundle : List ℕ) (count : ℕ) → is_name bundle ≡ true → length bundle ≡ 7 → count ≤ highest_rate
    → are_names (made_names bundle count) ≡ true
made_names-good bundle zero is short few = refl
made_names-good bundle (suc count) is short few =
    let digits : length (decimal (suc count)) ≤ 2 =
    length-decimal-le 2 (suc count) (omega arith) (omega arith) (omega arith) in
    and_from _ _
    (made_names-are_names bundle (suc count) is (omega arith) (omega arith) ∙ le-leb _ _ (omega arith))
    (made_names-distinct bundle (suc count) (omega arith))

-- ---- the names of both bundles

-- one of the second is none of the first
second-new : (number start count : ℕ)
    → list_any (bytes_eq (made_name second_bundle number)) (map (made_name first_bundle) (range_with_len start count)) ≡ false
second-new number start zero = refl
second-new number start (suc count) = or_from _ _ refl (second-new number (start + 1) count)

seconds-new : (count start more : ℕ)
    → are_new (made_names first_bundle count) (map (made_name second_bundle) (range_with_len start more)) ≡ true
seconds-new count start zero = refl
seconds-new count start (suc more) = and_from _ _ (not_from_false _ (second-new start 1 count)) (seconds-new count (start + 1) more)

-- they are names
pub super_links-are_names : (r1 r2 : ℕ) → r1 + r2 ≤ highest_rate → are_names (super_links r1 r2) ≡ true
super_links-are_names r1 r2 few =
    let first = made_names-good first_bundle r1 refl refl (omega arith) in
    let second = and_parts _ _ (made_names-good second_bundle r2 refl refl (omega arith)) in
    names_added (made_names first_bundle r1) (made_names second_bundle r2) first second.0
    (and_from _ _ (seconds-new r1 1 r2) second.1)
