-- A packet that was read gives back its frame.
use Rattle.std.specs.Prelude.{◌≡◌, ◌<◌, ◌≤◌, ◌==◌, ◌&&◌, ℕ, zero, suc, true, List, [], ◌∷◌, ◌++◌, length, slice_index_or}
use Rattle.std.specs.Int.{to_be_bytes, from_be_bytes, w32}
use Rattle.std.proofs.Common.{refl, sym, ap, subst, ◌∙◌, arith}
use Rattle.std.proofs.lemmas.Bool.{and_parts, eqb-true}
use Rattle.std.proofs.lemmas.Nat.{be_bytes_4}
use Rattle.generation_frame.specs.Frames.{frame_of, is_marked, packet_in}

-- the first four of a list, and the rest
four : (xs : List ℕ) → 4 ≤ length xs → (a b c d : ℕ) × (rest : List ℕ) × (xs ≡ a ∷ b ∷ c ∷ d ∷ rest)
four [] long = absurd (omega arith)
four (a ∷ []) long = absurd (omega arith)
four (a ∷ b ∷ []) long = absurd (omega arith)
four (a ∷ b ∷ c ∷ []) long = absurd (omega arith)
four (a ∷ b ∷ c ∷ d ∷ rest) long = (a, b, c, d, rest, refl)

-- four bytes give back their number's
again : (a b c d : ℕ) → a < 256 → b < 256 → c < 256 → d < 256 → to_be_bytes w32 (from_be_bytes w32 (a ∷ b ∷ c ∷ d ∷ [])) ≡ a ∷ b ∷ c ∷ d ∷ []
again a b c d p q r s = be_bytes_4 (a ∷ b ∷ c ∷ d ∷ []) _ refl small refl
  where
    small : (i : ℕ) → slice_index_or (a ∷ b ∷ c ∷ d ∷ []) i 0 < 256
    small zero = p
    small (suc zero) = q
    small (suc (suc zero)) = r
    small (suc (suc (suc zero))) = s
    small (suc (suc (suc (suc i)))) = omega arith

-- a packet that was read gives back its frame
pub frame_of-packet_in : (frame : List ℕ) → 12 ≤ length frame → ((i : ℕ) → slice_index_or frame i 0 < 256) → is_marked frame ≡ true → frame_of (packet_in frame) ≡ frame
frame_of-packet_in frame long bytes marked =
    let x = four frame (omega (arith, long)) in
    let y = four x.4 (omega (arith, long, ap length x.5)) in
    let z = four y.4 (omega (arith, long, ap length x.5, ap length y.5)) in
    let whole : frame ≡ x.0 ∷ x.1 ∷ x.2 ∷ x.3 ∷ y.0 ∷ y.1 ∷ y.2 ∷ y.3 ∷ z.0 ∷ z.1 ∷ z.2 ∷ z.3 ∷ z.4 =
    x.5 ∙ ap (λ rest. x.0 ∷ x.1 ∷ x.2 ∷ x.3 ∷ rest) (y.5 ∙ ap (λ rest. y.0 ∷ y.1 ∷ y.2 ∷ y.3 ∷ rest) z.5) in
    subst (λ f. ((i : ℕ) → slice_index_or f i 0 < 256) → is_marked f ≡ true → frame_of (packet_in f) ≡ f) (sym whole) (at x.0 x.1 x.2 x.3 y.0 y.1 y.2 y.3 z.0 z.1 z.2 z.3 z.4) bytes marked
  where
    at : (a b c p l0 l1 l2 l3 g0 g1 g2 g3 : ℕ) (rest : List ℕ)
        → ((i : ℕ) → slice_index_or (a ∷ b ∷ c ∷ p ∷ l0 ∷ l1 ∷ l2 ∷ l3 ∷ g0 ∷ g1 ∷ g2 ∷ g3 ∷ rest) i 0 < 256)
        → is_marked (a ∷ b ∷ c ∷ p ∷ l0 ∷ l1 ∷ l2 ∷ l3 ∷ g0 ∷ g1 ∷ g2 ∷ g3 ∷ rest) ≡ true
        → frame_of (packet_in (a ∷ b ∷ c ∷ p ∷ l0 ∷ l1 ∷ l2 ∷ l3 ∷ g0 ∷ g1 ∷ g2 ∷ g3 ∷ rest)) ≡ a ∷ b ∷ c ∷ p ∷ l0 ∷ l1 ∷ l2 ∷ l3 ∷ g0 ∷ g1 ∷ g2 ∷ g3 ∷ rest
    at a b c p l0 l1 l2 l3 g0 g1 g2 g3 rest bytes marked =
        let first = and_parts ((a == 0x4c) && (b == 0x46)) (c == 0x01) marked in
        let both = and_parts (a == 0x4c) (b == 0x46) first.0 in
        ap (λ (text : List ℕ). 0x4c ∷ 0x46 ∷ 0x01 ∷ p ∷ (text ++ to_be_bytes w32 (from_be_bytes w32 (g0 ∷ g1 ∷ g2 ∷ g3 ∷ []))) ++ rest) (again l0 l1 l2 l3 (bytes 4) (bytes 5) (bytes 6) (bytes 7))
        ∙ ap (λ (text : List ℕ). 0x4c ∷ 0x46 ∷ 0x01 ∷ p ∷ ((l0 ∷ l1 ∷ l2 ∷ l3 ∷ []) ++ text) ++ rest) (again g0 g1 g2 g3 (bytes 8) (bytes 9) (bytes 10) (bytes 11))
        ∙ ap (λ x. x ∷ 0x46 ∷ 0x01 ∷ p ∷ l0 ∷ l1 ∷ l2 ∷ l3 ∷ g0 ∷ g1 ∷ g2 ∷ g3 ∷ rest) (sym (eqb-true a 0x4c both.0))
        ∙ ap (λ x. a ∷ x ∷ 0x01 ∷ p ∷ l0 ∷ l1 ∷ l2 ∷ l3 ∷ g0 ∷ g1 ∷ g2 ∷ g3 ∷ rest) (sym (eqb-true b 0x46 both.1))
        ∙ ap (λ x. a ∷ b ∷ x ∷ p ∷ l0 ∷ l1 ∷ l2 ∷ l3 ∷ g0 ∷ g1 ∷ g2 ∷ g3 ∷ rest) (sym (eqb-true c 0x01 first.1))
