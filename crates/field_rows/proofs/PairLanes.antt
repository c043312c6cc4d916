-- Products of pairs of octets in lanes.
use Rattle.std.proofs.Common.{◌≡◌, ℕ, ◌+◌, ◌-◌, ◌*◌, ◌/◌, ◌%◌, ◌<◌, ◌≤◌, List, get_or, refl, ap, ◌∙◌, arith, inl, inr, bit_xor}
use Rattle.std.proofs.lemmas.Bool.{cases_lt}
use Rattle.field_rows.specs.PairSums.{pair_sum}
use Rattle.field_rows.specs.Parted.{exchange_eights, place_of_lane, lane_of_place}

-- numbers exchanged twice are as they were
exchange_eights-twice : (m : ℕ) → m < 32 → exchange_eights (exchange_eights m) ≡ m
exchange_eights-twice m l = omega arith

-- half a place, exchanged
exchange_eights-below : (m : ℕ) → m < 32 → exchange_eights m < 32
exchange_eights-below m l = omega arith

-- what the number of a lane is made of, and that of the lane in the other half
record AreLaneParts (half rest lane : ℕ) : Type 0 where
  is_rest : lane % 32 ≡ rest
  is_half : lane / 32 ≡ half
  other_rest : (lane + 32) % 64 % 32 ≡ rest
  other_half : (lane + 32) % 64 / 32 ≡ 1 - half

lane_parts : (half rest : ℕ) → half < 2 → rest < 32 → AreLaneParts half rest (32 * half + rest)
lane_parts half rest h l = record { is_rest = omega arith; is_half = omega arith; other_rest = omega arith; other_half = omega arith }

module _ (j : ℕ) (l : j < 64) where
  below : exchange_eights (j / 2) < 32
  below = exchange_eights-below (j / 2) (omega arith)

  back : exchange_eights (exchange_eights (j / 2)) ≡ j / 2
  back = exchange_eights-twice (j / 2) (omega arith)

  parts : AreLaneParts (j % 2) (exchange_eights (j / 2)) (lane_of_place j)
  parts = lane_parts (j % 2) (exchange_eights (j / 2)) (omega arith) below

  pub lane_below : lane_of_place j < 64
  lane_below = omega (arith, below)

  -- the lane of a place has the place's byte
  place_of_lane-own : place_of_lane (lane_of_place j) ≡ j
  place_of_lane-own = rw (parts.is_rest, parts.is_half, back) (omega arith)

  -- and the lane in the other half the pair's other byte
  place_of_lane-other : place_of_lane ((lane_of_place j + 32) % 64) ≡ 2 * (j / 2) + (1 - j % 2)
  place_of_lane-other = rw (parts.other_rest, parts.other_half, back) (omega arith)

-- tables that give for bytes what four functions do, two in each half
pub record AreTables (low high both wrapped : ℕ → ℕ) (straight crosswise : ℕ → ℕ → ℕ) : Type 0 where
  pub both_lower : (i byte : ℕ) → i < 32 → byte < 256 → straight i byte ≡ both byte
  pub low_upper : (i byte : ℕ) → 32 ≤ i → i < 64 → byte < 256 → straight i byte ≡ low byte
  pub high_lower : (i byte : ℕ) → i < 32 → byte < 256 → crosswise i byte ≡ high byte
  pub wrapped_upper : (i byte : ℕ) → 32 ≤ i → i < 64 → byte < 256 → crosswise i byte ≡ wrapped byte

-- the sums of what the tables give for the bytes from a place on, and for the bytes of the other half
module _ (low high both wrapped : ℕ → ℕ) (straight crosswise : ℕ → ℕ → ℕ) (tables : AreTables low high both wrapped straight crosswise)
    (from bytes : List ℕ) (at : ℕ) (even : at % 2 ≡ 0) (fits : (k : ℕ) → get_or from k 0 < 256)
    (parted : (i : ℕ) → i < 64 → get_or bytes i 0 ≡ get_or from (at + place_of_lane i) 0) where
  -- what the tables give for the byte of a place and for the other one of the pair
  abbrev pub given : ℕ → ℕ
  given lane = bit_xor (straight lane (get_or bytes lane 0)) (crosswise lane (get_or bytes ((lane + 32) % 64) 0))

  -- they are what the pair's product has there
  pub given_at : (j : ℕ) → j < 64 → given (lane_of_place j) ≡ pair_sum low high both wrapped from (at + j)
  given_at j l =
      let lane = lane_of_place j in
      let below : lane < 64 = lane_below j l in
      let rest = exchange_eights-below (j / 2) (omega arith) in
      let own : get_or bytes lane 0 ≡ get_or from (at + j) 0 = parted lane (omega arith) ∙ ap (λ k. get_or from (at + k) 0) (place_of_lane-own j l) in
      let other : get_or bytes ((lane + 32) % 64) 0 ≡ get_or from (at + (2 * (j / 2) + (1 - j % 2))) 0 =
      parted ((lane + 32) % 64) (omega arith) ∙ ap (λ k. get_or from (at + k) 0) (place_of_lane-other j l)
      in
      elim (cases_lt (j % 2) 1) [
        | inl h ↦
            let first : (at + j) % 2 ≡ 0 = omega arith in
            let next : at + (2 * (j / 2) + (1 - j % 2)) ≡ at + j + 1 = omega arith in
            rw (own, other, next, first, tables.both_lower lane (get_or from (at + j) 0) (omega arith) (fits (at + j)), tables.high_lower lane (get_or from (at + j + 1) 0) (omega arith) (fits (at + j + 1))) refl
        | inr h ↦
            let second : (at + j) % 2 ≡ 1 = omega arith in
            let before : at + (2 * (j / 2) + (1 - j % 2)) ≡ at + j - 1 = omega arith in
            rw (own, other, before, second, tables.low_upper lane (get_or from (at + j) 0) (omega arith) (omega arith) (fits (at + j)), tables.wrapped_upper lane (get_or from (at + j - 1) 0) (omega arith) (omega arith) (fits (at + j - 1))) refl
      ]
