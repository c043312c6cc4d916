-- Takes that keep what they give, and takes that change it.
use Rattle.std.specs.Prelude.{◌≡◌, ◌⊎◌, ◌≤◌, ◌<◌, ◌+◌, ◌-◌, ◌^◌, ◌++◌, ◌&&◌, ◌==◌, ℕ, suc, nat_lt, bit_xor, Bool, true, false, cond, List, [], ◌∷◌, take, length, remove, IsPermutation, slice_index, slice_index_or, slice_set, if◌then◌else◌}
use Rattle.std.specs.List.{list_any}
use Rattle.std.proofs.Common.{refl, sym, ◌∙◌, ap, subst, inl, inr, ⊎_elim, arith}
use Rattle.std.proofs.lemmas.Bool.{and_parts, eqb-true, ltb-true, or_cases}
use Rattle.std.proofs.lemmas.Bool.Decides.{nat_tests}
use Rattle.std.proofs.lemmas.List.{append-nil, take-set-le}
use Rattle.std.proofs.lemmas.List.Sorted.{IsPermutation-remove}
use Rattle.std.proofs.lemmas.List.Sums.{sum_by-cons}
use Rattle.lif_outside.specs.declared.links.Flight.{Flight}
use Rattle.lif_outside.specs.declared.listed.spoils.Spoil.{Spoil}
use Rattle.lif_outside.specs.Counts.{one_more}
use Rattle.lif_outside.specs.Listed.{count_above}
use Rattle.lif_outside.specs.Moves.{InFlight, IsOpenAsBefore, IsTaken, IsUntaken, Leaves, Stays, address_bytes}
use Rattle.lif_outside.specs.Spoils.{spoiled, spoil_one, place_in_frame}

-- a number above the greater of two is above both
above_one : (m n x : ℕ) → m ≤ n → cond (nat_lt n x) 1 0 ≤ cond (nat_lt m x) 1 0
above_one m n x le = grind (arith, nat_tests)

pub count_above-le : (m n : ℕ) → m ≤ n → (numbers : List ℕ) → count_above n numbers ≤ count_above m numbers
count_above-le m n le [] = omega arith
count_above-le m n le (x ∷ xs) =
    let tail = count_above-le m n le xs in
    let head = above_one m n x le in
    omega (arith, sum_by-cons (λ y. cond (nat_lt n y) 1 0) x xs, sum_by-cons (λ y. cond (nat_lt m y) 1 0) x xs)

-- a listed number isn't above itself, and above the one before
above_listed : (n x : ℕ) → (x == n + 1) ≡ true → cond (nat_lt (n + 1) x) 1 0 < cond (nat_lt n x) 1 0
above_listed n x is = grind (arith, nat_tests)

pub count_above-falls : (n : ℕ) (numbers : List ℕ) → list_any (λ x. x == n + 1) numbers ≡ true → count_above (n + 1) numbers < count_above n numbers
count_above-falls n [] is = absurd cc
count_above-falls n (x ∷ xs) is =
    let counts = sum_by-cons (λ y. cond (nat_lt (n + 1) y) 1 0) x xs in
    let counts_before = sum_by-cons (λ y. cond (nat_lt n y) 1 0) x xs in
    ⊎_elim
    (λ (here : (x == n + 1) ≡ true). omega (arith, counts, counts_before, above_listed n x here, count_above-le n (n + 1) (omega arith) xs))
    (λ (later : list_any (λ y. y == n + 1) xs ≡ true). omega (arith, counts, counts_before, above_one n (n + 1) x (omega arith), count_above-falls n xs later))
    (or_cases _ _ is)

-- a take that keeps its pair is one of those that are still to come, until it is counted
pub falls_at_kept : (takes after : ℕ) (keeps : List ℕ) → (nat_lt takes (2 ^ 64 - 1) && list_any (λ nth. nth == takes + 1) keeps) ≡ true → after ≡ one_more takes
    → count_above after keeps < count_above takes keeps
falls_at_kept takes after keeps is counted =
    let both = and_parts _ _ is in
    let below : takes < 2 ^ 64 - 1 = ltb-true _ _ both.0 in
    let next : after ≡ takes + 1 = omega arith in
    subst (λ n. count_above n keeps < count_above takes keeps) (sym next) (count_above-falls takes keeps both.1)

-- a push that failed has added nothing
pub unpushed : {X : Type 0} (old new : List X) (x : X) (done : Bool) → new ≡ (if done then old ++ x ∷ [] else old) → done ≡ false → new ≡ old ++ []
unpushed old new x done items is = items ∙ ap (λ (b : Bool). if b then old ++ x ∷ [] else old) is ∙ sym (append-nil old)

-- what flies, where so many takes were made
abbrev at_take : List Flight → ℕ → ℕ → List ℕ → ℕ → InFlight
at_take flying room seed keeps takes = record { flying = flying; room = room; seed = seed; repeats = count_above takes keeps }

-- nothing was taken, and the take was counted
pub is_untaken : (flying : List Flight) (room seed : ℕ) (keeps : List ℕ) (takes after : ℕ) → takes ≤ after
    → IsUntaken (at_take flying room seed keeps takes) (at_take flying room seed keeps after)
is_untaken flying room seed keeps takes after le =
    record { same_flying = refl; repeats = count_above-le takes after le keeps; as_opened = record { same_room = refl; same_seed = refl } }

-- the pair at a place left, or stayed where the take is listed for that
pub goes_or_stays : (is_kept : Bool) (flying left : List Flight) (room seed : ℕ) (keeps : List ℕ) (takes after place : ℕ) (pair : Flight)
    → is_kept ≡ (nat_lt takes (2 ^ 64 - 1) && list_any (λ nth. nth == takes + 1) keeps) → left ≡ (if is_kept then flying else remove flying place)
    → takes ≤ after → after ≡ one_more takes → place < length flying → pair ≡ slice_index_or flying place pair
    → Leaves pair (at_take flying room seed keeps takes) (at_take left room seed keeps after) ⊎ Stays (at_take flying room seed keeps takes) (at_take left room seed keeps after)
goes_or_stays true flying left room seed keeps takes after place pair is items le counted within flew =
    inr (record { same_flying = items; repeats = falls_at_kept takes after keeps (sym is) counted })
goes_or_stays false flying left room seed keeps takes after place pair is items le counted within flew =
    inl (record {
      flying = subst (λ rest. IsPermutation flying (pair ∷ rest)) (sym items) (IsPermutation-remove _ _ _ within flew);
      repeats = count_above-le takes after le keeps;
    })

-- a change of a byte of the payload leaves the front of the frame
front_one : (nth : ℕ) (frame : List ℕ) (spoil : Spoil) → take address_bytes (spoil_one nth frame spoil) ≡ take address_bytes frame
front_one nth frame spoil =
    elim (spoil.nth == nth) as (λ b. take address_bytes (if b then slice_set frame (place_in_frame spoil) (bit_xor (slice_index frame (place_in_frame spoil)) spoil.mask) else frame) ≡ take address_bytes frame) [
      | true ↦ take-set-le address_bytes frame (place_in_frame spoil) _ (omega arith)
      | false ↦ refl
    ]

front_spoiled : (spoils : List Spoil) (nth : ℕ) (frame : List ℕ) → take address_bytes (spoiled spoils nth frame) ≡ take address_bytes frame
front_spoiled [] nth frame = refl
front_spoiled (spoil ∷ spoils) nth frame = front_spoiled spoils nth (spoil_one nth frame spoil) ∙ front_one nth frame spoil

unspoiled : (spoils : List Spoil) (nth : ℕ) (pair : Flight) → (length spoils == 0) ≡ true → record { link = pair.link; frame = spoiled spoils nth pair.frame } ≡ pair
unspoiled [] nth pair is = refl
unspoiled (spoil ∷ spoils) nth pair is = absurd (let none : suc (length spoils) ≡ 0 = eqb-true _ _ is in omega arith)

-- the pair at a place was given, changed as the take of a number changes it
pub is_given : (spoils : List Spoil) (nth place : ℕ) (pair : Flight) (frame : List ℕ) (old new : InFlight) → place < length old.flying → pair ≡ slice_index_or old.flying place pair
    → frame ≡ spoiled spoils nth pair.frame → Leaves pair old new ⊎ Stays old new → IsOpenAsBefore old new
    → IsTaken (length spoils == 0) (record { link = pair.link; frame = frame }) old new
is_given spoils nth place pair frame old new within flew is after open_as = record {
  pair = pair;
  flew = (place, within, sym flew);
  same_link = refl;
  same_address = ap (take address_bytes) is ∙ front_spoiled spoils nth pair.frame;
  as_put = λ none. ap (λ bytes. record { link = pair.link; frame = bytes }) is ∙ unspoiled spoils nth pair none;
  after = after;
  as_opened = open_as;
}
