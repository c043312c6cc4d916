-- Laws of decoders that demands share.
use Rattle.std.specs.Prelude.{◌≡◌, ℕ, zero, suc, ◌+◌, ◌<◌, ◌≤◌, Bool, true, false, not, ◌||◌, nat_lt, List, [], ◌∷◌, length, take, if◌then◌else◌}
use Rattle.std.specs.Bool.{Decides}
use Rattle.std.specs.List.{list_any, position_or_len}
use Rattle.std.proofs.Common.{refl, sym, subst, ap, ◌∙◌, get_or, arith, inl, inr}
use Rattle.std.proofs.lemmas.Bool.{and_parts, and_from, cases_lt, false_from_ne_true, true_from_ne_false, lt-ltb, le-ltb, ltb-true, false≢true}
use Rattle.std.proofs.lemmas.List.{get_or-take, length-take}
use Rattle.std.proofs.lemmas.List.Folds.{list_any_at}
use Rattle.std.proofs.lemmas.List.Quantifiers.{position-Some}
use Rattle.std.proofs.lemmas.List.Sums.{position_or_len_is}
use Rattle.std.proofs.lemmas.Slice.Eq.{bytes_eq-Decides}
use Rattle.node_program.specs.declared.Decoder.{Decoder}
use Rattle.code_items.specs.Sharing.{is_same_decoder, is_shared, same_of, decoder_of, no_decoder, shares}

-- two decoders of the same links and the same entries are one
pub decoders_same : (one other : Decoder) → one.links ≡ other.links → one.entries ≡ other.entries → one ≡ other
decoders_same one other links entries = λ i. record { links = links i; entries = entries i }

-- the test tells whether two decoders are one
pub is_same_decoder-Decides : (one other : Decoder) → Decides (is_same_decoder one other) (one ≡ other)
is_same_decoder-Decides one other = (
  λ same.
      let both = and_parts _ _ same in
      decoders_same one other ((bytes_eq-Decides one.links other.links).0 both.0) ((bytes_eq-Decides one.entries other.entries).0 both.1),
  λ is. and_from _ _ ((bytes_eq-Decides one.links other.links).1 (ap (λ (d : Decoder). d.links) is)) ((bytes_eq-Decides one.entries other.entries).1 (ap (λ (d : Decoder). d.entries) is)),
)

-- ---- the first place of a list at which a test passes

-- some item passes exactly where the first that does stands in the list
any_position : {X : Type 0} (p : X → Bool) (xs : List X) → list_any p xs ≡ nat_lt (position_or_len p xs) (length xs)
any_position p [] = refl
any_position p (x ∷ xs) = ap (λ (b : Bool). p x || b) (any_position p xs) ∙ one_more (p x) (position_or_len p xs) (length xs)
  where
    one_more : (b : Bool) (n m : ℕ) → (b || nat_lt n m) ≡ nat_lt (if not b then 1 + n else 0) (suc m)
    one_more true n m = sym (lt-ltb 0 (suc m) (omega arith))
    one_more false n m = elim (cases_lt n m) [
      | inl lt ↦ lt-ltb _ _ lt ∙ sym (lt-ltb _ _ (omega arith))
      | inr le ↦ le-ltb _ _ le ∙ sym (le-ltb _ _ (omega arith))
    ]

-- where none passes, no item passes at a place
none_at : {X : Type 0} (p : X → Bool) (xs : List X) (i : ℕ) (d : X) → list_any p xs ≡ false → i < length xs → p (get_or xs i d) ≡ false
none_at p xs i d none below = false_from_ne_true (p (get_or xs i d)) (λ passes. false≢true (sym none ∙ list_any_at p xs i d below passes))

-- before the first that passes none does
none_before : {X : Type 0} (p : X → Bool) (xs : List X) → list_any p (take (position_or_len p xs) xs) ≡ false
none_before p [] = refl
none_before p (x ∷ xs) = one_more (p x) (position_or_len p xs) refl (none_before p xs)
  where
    one_more : (b : Bool) (n : ℕ) → p x ≡ b → list_any p (take n xs) ≡ false → list_any p (take (if not b then 1 + n else 0) (x ∷ xs)) ≡ false
    one_more true n is none = refl
    one_more false n is none =
        let e : suc n ≡ 1 + n = omega arith in
        let others : list_any p (take (suc n) (x ∷ xs)) ≡ false = rw is none in
        subst (λ (k : ℕ). list_any p (take k (x ∷ xs)) ≡ false) e others

-- the first that passes passes
first_passes : {X : Type 0} (p : X → Bool) (xs : List X) (d : X) → position_or_len p xs < length xs → p (get_or xs (position_or_len p xs) d) ≡ true
first_passes p xs d stands = (position-Some p xs (position_or_len p xs) d (rw (lt-ltb _ _ stands) refl)).1

-- ---- whose decoder a demand has

-- the same of a decoder is one more than the first place of its like, where there is one
same_of-first : (earlier : List Decoder) (decoder : Decoder) → is_shared earlier decoder ≡ true → same_of earlier decoder ≡ suc (position_or_len (is_same_decoder decoder) earlier)
same_of-first earlier decoder shared =
    let stands : nat_lt (position_or_len (is_same_decoder decoder) earlier) (length earlier) ≡ true = sym (any_position (is_same_decoder decoder) earlier) ∙ shared in
    rw stands refl

-- a decoder that none before has, has no same
pub same_of-none : (earlier : List Decoder) (decoder : Decoder) → is_shared earlier decoder ≡ false → same_of earlier decoder ≡ 0
same_of-none earlier decoder new =
    let ends : nat_lt (position_or_len (is_same_decoder decoder) earlier) (length earlier) ≡ false = sym (any_position (is_same_decoder decoder) earlier) ∙ new in
    rw ends refl

-- and the other way round
pub is_shared-from_none : (earlier : List Decoder) (decoder : Decoder) → same_of earlier decoder ≡ 0 → is_shared earlier decoder ≡ false
is_shared-from_none earlier decoder none = false_from_ne_true (is_shared earlier decoder) (λ shared. absurd (omega (arith, same_of-first earlier decoder shared)))

-- the demand is an earlier one that has the decoder, and the first that has it
pub record IsFirst (earlier : List Decoder) (decoder : Decoder) (demand : ℕ) : Type 0 where
  pub below : demand < length earlier
  pub is : decoder_of earlier demand ≡ decoder
  pub first : shares earlier demand ≡ false

-- a same names the first demand that has the decoder
pub IsFirst-from_same : (earlier : List Decoder) (decoder : Decoder) (demand : ℕ) → same_of earlier decoder ≡ suc demand → IsFirst earlier decoder demand
IsFirst-from_same earlier decoder demand same =
    let test = is_same_decoder decoder in
    let shared : is_shared earlier decoder ≡ true = true_from_ne_false (is_shared earlier decoder) (λ new. absurd (omega (arith, same_of-none earlier decoder new))) in
    let place : position_or_len test earlier ≡ demand = omega (arith, same_of-first earlier decoder shared) in
    let stands : position_or_len test earlier < length earlier = ltb-true _ _ (sym (any_position test earlier) ∙ shared) in
    let below : demand < length earlier = omega arith in
    let passes : test (decoder_of earlier demand) ≡ true = subst (λ (n : ℕ). test (decoder_of earlier n) ≡ true) place (first_passes test earlier no_decoder stands) in
    let is : decoder ≡ decoder_of earlier demand = (is_same_decoder-Decides decoder (decoder_of earlier demand)).0 passes in
    record {
      below = below;
      is = sym is;
      first = subst (λ (d : Decoder). list_any (is_same_decoder d) (take demand earlier) ≡ false) is (subst (λ (n : ℕ). list_any test (take n earlier) ≡ false) place (none_before test earlier));
    }

-- and that demand is named
pub same_of-first_demand : (earlier : List Decoder) (decoder : Decoder) (demand : ℕ) → IsFirst earlier decoder demand → same_of earlier decoder ≡ suc demand
same_of-first_demand earlier decoder demand first =
    let test = is_same_decoder decoder in
    let here : test (decoder_of earlier demand) ≡ true = (is_same_decoder-Decides decoder (decoder_of earlier demand)).1 (sym first.is) in
    let none : list_any test (take demand earlier) ≡ false = subst (λ (d : Decoder). list_any (is_same_decoder d) (take demand earlier) ≡ false) first.is first.first in
    let below : demand < length earlier = first.below in
    let before : (k : ℕ) → k < demand → test (get_or earlier k no_decoder) ≡ false = λ k lt.
    sym (ap test (get_or-take demand earlier k no_decoder lt)) ∙ none_at test (take demand earlier) k no_decoder none (omega (arith, length-take demand earlier)) in
    let place : position_or_len test earlier ≡ demand = position_or_len_is test earlier demand no_decoder (omega arith) before (λ within. here) in
    same_of-first earlier decoder (list_any_at test earlier demand no_decoder below here) ∙ ap suc place

-- no same is greater than the number of the demands before
pub same_of-within : (earlier : List Decoder) (decoder : Decoder) → same_of earlier decoder ≤ length earlier
same_of-within earlier decoder = go (same_of earlier decoder) refl
  where
    go : (same : ℕ) → same_of earlier decoder ≡ same → same ≤ length earlier
    go zero is = omega arith
    go (suc demand) is = omega (arith, (IsFirst-from_same earlier decoder demand is).below)
