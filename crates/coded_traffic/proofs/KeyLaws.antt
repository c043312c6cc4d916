-- Each key of the traffic stands once among its keys, and no other does.
use Rattle.std.specs.Prelude.{◌≡◌, ◌≢◌, ◌<◌, ◌≤◌, ◌+◌, ◌==◌, ◌&&◌, ℕ, zero, suc, Bool, true, false, cond, List, [], ◌∷◌, length, map, filter, flat_map, count_by, sum_by, All}
use Rattle.std.specs.List.{range_with_len}
use Rattle.std.proofs.Common.{refl, sym, ap, subst, ◌∙◌, arith, inl, inr, zero-add}
use Rattle.std.proofs.lemmas.Bool.{cases_Bool, eq-eqb, eqb-false, eqb-true, ne_eqb}
use Rattle.std.proofs.lemmas.List.Concat.{flat_map-cons}
use Rattle.std.proofs.lemmas.List.Elements.{All-append, All-cons, All-head, All-map, All-nil, All-tail}
use Rattle.std.proofs.lemmas.List.Sums.{sum_by-append, sum_by-cons}
use Rattle.node_program.specs.CodeValue.{is_live_in}
use Rattle.node_program.specs.declared.code.Code.{Code}
use Rattle.generation_frame.specs.Blocks.{pieces}
use Rattle.coded_traffic.specs.Traffic.{IsKey, Key, Window, is_same_key, keys_of, live_links_of}

-- a sum over lists that are made of items
sum_by-flat_map : {X Y : Type 0} (f : Y → ℕ) (g : X → List Y) (xs : List X) → sum_by f (flat_map g xs) ≡ sum_by (λ x. sum_by f (g x)) xs
sum_by-flat_map f g [] = refl
sum_by-flat_map f g (x ∷ xs) =
    ap (sum_by f) (flat_map-cons g x xs) ∙ sum_by-append f (g x) (flat_map g xs)
    ∙ ap (λ n. sum_by f (g x) + n) (sum_by-flat_map f g xs) ∙ sym (sum_by-cons (λ y. sum_by f (g y)) x xs)

-- a sum over those that pass a test
sum_by-passing : {X : Type 0} (f : X → ℕ) (test : X → Bool) (xs : List X) → sum_by f (filter test xs) ≡ sum_by (λ x. cond (test x) (f x) 0) xs
sum_by-passing f test [] = refl
sum_by-passing f test (x ∷ xs) = by (test x) (sum_by-passing f test xs) ∙ sym (sum_by-cons (λ y. cond (test y) (f y) 0) x xs)
  where
    by : (b : Bool) → sum_by f (filter test xs) ≡ sum_by (λ y. cond (test y) (f y) 0) xs
        → sum_by f (cond b (x ∷ filter test xs) (filter test xs)) ≡ cond b (f x) 0 + sum_by (λ y. cond (test y) (f y) 0) xs
    by true rest = sum_by-cons f x (filter test xs) ∙ ap (λ n. f x + n) rest
    by false rest = rest ∙ sym (zero-add (sum_by (λ y. cond (test y) (f y) 0) xs))

-- a sum over a range of which one term at most isn't 0
module _ (term : ℕ → ℕ) (at : ℕ) (others : (k : ℕ) → k ≢ at → term k ≡ 0) where
  none_from : (a n : ℕ) → at < a → sum_by term (range_with_len a n) ≡ 0
  none_from a zero above = refl
  none_from a (suc n) above =
      let here : term a ≡ 0 = others a (omega (arith, above)) in
      let rest = none_from (a + 1) n (omega (arith, above)) in
      omega (arith, here, rest, sum_by-cons term a (range_with_len (a + 1) n))

  sum_by-one : (a n : ℕ) → a ≤ at → at < a + n → sum_by term (range_with_len a n) ≡ term at
  sum_by-one a zero from below = absurd (omega (arith, from, below))
  sum_by-one a (suc n) from below = elim (cases_Bool (a == at)) [
    | inl here ↦
        let same : a ≡ at = eqb-true a at here in
        let rest = none_from (a + 1) n (omega (arith, same)) in
        let first : term a ≡ term at = ap term same in
        omega (arith, first, rest, sum_by-cons term a (range_with_len (a + 1) n))
    | inr later ↦
        let apart : a ≢ at = eqb-false a at later in
        let none : term a ≡ 0 = others a apart in
        let rest = sum_by-one (a + 1) n (omega (arith, from, apart)) (omega (arith, below)) in
        omega (arith, none, rest, sum_by-cons term a (range_with_len (a + 1) n))
  ]

-- a sum of zeros
sum_by-zeros : {X : Type 0} (f : X → ℕ) (xs : List X) → ((x : X) → f x ≡ 0) → sum_by f xs ≡ 0
sum_by-zeros f [] zeros = refl
sum_by-zeros f (x ∷ xs) zeros = omega (arith, sum_by-cons f x xs, zeros x, sum_by-zeros f xs zeros)

-- one where a test passes
abbrev one_if : Bool → ℕ
one_if test = cond test 1 0

-- three tests of which one fails, and of which all pass
fails_first : (a b c : Bool) → a ≡ false → one_if ((a && b) && c) ≡ 0
fails_first a b c e = ap (λ t. one_if ((t && b) && c)) e

fails_second : (a b c : Bool) → b ≡ false → one_if ((a && b) && c) ≡ 0
fails_second true b c e = ap (λ t. one_if (t && c)) e
fails_second false b c e = refl

fails_third : (a b c : Bool) → c ≡ false → one_if ((a && b) && c) ≡ 0
fails_third true true c e = ap one_if e
fails_third true false c e = refl
fails_third false b c e = refl

passes_all : (a b c : Bool) → a ≡ true → b ≡ true → c ≡ true → one_if ((a && b) && c) ≡ 1
passes_all a b c d e f = ap (λ t. one_if ((t && b) && c)) d ∙ ap (λ t. one_if (t && c)) e ∙ ap one_if f

module _ (code : Code) (pattern : ℕ) (window : Window) (key : Key) where
  -- whether the key is that of a piece; how often it stands among those of a link, and of a generation
  abbrev at_piece : ℕ → ℕ → ℕ → ℕ
  at_piece generation link piece = one_if (is_same_key (record { link = link; generation = generation; piece = piece }) key)

  abbrev at_link : ℕ → ℕ → ℕ
  at_link generation link = sum_by (at_piece generation link) (range_with_len 0 pieces)

  abbrev at_live : ℕ → ℕ → ℕ
  at_live generation link = cond (is_live_in code pattern link) (at_link generation link) 0

  abbrev at_generation : ℕ → ℕ
  at_generation generation = sum_by (at_live generation) (range_with_len 0 (length code.net.links))

  -- the count, sum by sum
  counted : count_by (λ other. is_same_key other key) (keys_of code pattern window) ≡ sum_by at_generation (range_with_len window.first (length window.blocks))
  counted =
      sum_by-flat_map (λ other. one_if (is_same_key other key)) (λ generation. flat_map (λ link. map (λ piece. record { link = link; generation = generation; piece = piece }) (range_with_len 0 pieces)) (live_links_of code pattern)) (range_with_len window.first (length window.blocks))
      ∙ ap (λ term. sum_by term (range_with_len window.first (length window.blocks))) (λ i generation. of_generation generation i)
    where
      of_generation : (generation : ℕ)
          → sum_by (λ other. one_if (is_same_key other key)) (flat_map (λ link. map (λ piece. record { link = link; generation = generation; piece = piece }) (range_with_len 0 pieces)) (live_links_of code pattern))
          ≡ at_generation generation
      of_generation generation =
          sum_by-flat_map (λ other. one_if (is_same_key other key)) (λ link. map (λ piece. record { link = link; generation = generation; piece = piece }) (range_with_len 0 pieces)) (live_links_of code pattern)
          ∙ sum_by-passing (at_link generation) (is_live_in code pattern) (range_with_len 0 (length code.net.links))

  other_piece : (generation link piece : ℕ) → piece ≢ key.piece → at_piece generation link piece ≡ 0
  other_piece generation link piece apart = fails_third (link == key.link) (generation == key.generation) (piece == key.piece) (ne_eqb piece key.piece apart)

  other_link : (generation link : ℕ) → link ≢ key.link → at_live generation link ≡ 0
  other_link generation link apart = by (is_live_in code pattern link)
    where
      by : (live : Bool) → cond live (at_link generation link) 0 ≡ 0
      by true = sum_by-zeros (at_piece generation link) (range_with_len 0 pieces)
          (λ piece. fails_first (link == key.link) (generation == key.generation) (piece == key.piece) (ne_eqb link key.link apart))
      by false = refl

  other_generation : (generation : ℕ) → generation ≢ key.generation → at_generation generation ≡ 0
  other_generation generation apart = sum_by-zeros (at_live generation) (range_with_len 0 (length code.net.links)) (λ link. by link (is_live_in code pattern link))
    where
      by : (link : ℕ) (live : Bool) → cond live (at_link generation link) 0 ≡ 0
      by link true = sum_by-zeros (at_piece generation link) (range_with_len 0 pieces)
          (λ piece. fails_second (link == key.link) (generation == key.generation) (piece == key.piece) (ne_eqb generation key.generation apart))
      by link false = refl

  -- a key of the traffic stands among its keys once
  pub key-once : IsKey code pattern window key → count_by (λ other. is_same_key other key) (keys_of code pattern window) ≡ 1
  key-once is =
      counted
      ∙ sum_by-one at_generation key.generation other_generation window.first (length window.blocks) is.begun is.numbered
      ∙ sum_by-one (at_live key.generation) key.link (other_link key.generation) 0 (length code.net.links) (omega arith) (omega (arith, is.of_link))
      ∙ ap (λ live. cond live (at_link key.generation key.link) 0) is.live
      ∙ sum_by-one (at_piece key.generation key.link) key.piece (other_piece key.generation key.link) 0 pieces (omega arith) (omega (arith, is.of_piece))
      ∙ passes_all (key.link == key.link) (key.generation == key.generation) (key.piece == key.piece)
      (eq-eqb key.link key.link refl) (eq-eqb key.generation key.generation refl) (eq-eqb key.piece key.piece refl)

-- what holds of all items of lists that are made of items, of a range, and of those that pass a test
All-flat_map : {X Y : Type 0} (P : Y → Type 0) (Q : X → Type 0) (g : X → List Y) (xs : List X) → All Q xs → ((x : X) → Q x → All P (g x)) → All P (flat_map g xs)
All-flat_map P Q g [] all each = All-nil P
All-flat_map P Q g (x ∷ xs) all each =
    subst (All P) (sym (flat_map-cons g x xs))
    (All-append P (g x) (flat_map g xs) (each x (All-head Q x xs all)) (All-flat_map P Q g xs (All-tail Q x xs all) each))

All-range : (P : ℕ → Type 0) (a n : ℕ) → ((k : ℕ) → a ≤ k → k < a + n → P k) → All P (range_with_len a n)
All-range P a zero each = All-nil P
All-range P a (suc n) each =
    All-cons P a (range_with_len (a + 1) n) (each a (omega arith) (omega arith)) (All-range P (a + 1) n (λ k from below. each k (omega (arith, from)) (omega (arith, below))))

All-passing : {X : Type 0} (test : X → Bool) (P : X → Type 0) (xs : List X) → All P xs → All (λ x. P x × (test x ≡ true)) (filter test xs)
All-passing test P [] all = All-nil (λ x. P x × (test x ≡ true))
All-passing test P (x ∷ xs) all = by (test x) refl (All-passing test P xs (All-tail P x xs all))
  where
    by : (b : Bool) → test x ≡ b → All (λ y. P y × (test y ≡ true)) (filter test xs) → All (λ y. P y × (test y ≡ true)) (cond b (x ∷ filter test xs) (filter test xs))
    by true passes rest = All-cons (λ y. P y × (test y ≡ true)) x (filter test xs) (All-head P x xs all, passes) rest
    by false fails rest = rest

-- the keys of the traffic are keys of it
pub keys-are : (code : Code) (pattern : ℕ) (window : Window) → All (IsKey code pattern window) (keys_of code pattern window)
keys-are code pattern window =
    let count = length code.net.links in
    let generations = λ (generation : ℕ). (window.first ≤ generation) × (generation < window.first + length window.blocks) in
    All-flat_map (IsKey code pattern window) generations
    (λ generation. flat_map (λ link. map (λ piece. record { link = link; generation = generation; piece = piece }) (range_with_len 0 pieces)) (live_links_of code pattern))
    (range_with_len window.first (length window.blocks)) (All-range generations window.first (length window.blocks) (λ generation from below. (from, below)))
    (λ generation is. All-flat_map (IsKey code pattern window) (λ link. (link < count) × (is_live_in code pattern link ≡ true))
    (λ link. map (λ piece. record { link = link; generation = generation; piece = piece }) (range_with_len 0 pieces)) (live_links_of code pattern)
    (All-passing (is_live_in code pattern) (λ link. link < count) (range_with_len 0 count) (All-range (λ link. link < count) 0 count (λ link from below. omega (arith, below))))
    (λ link of_link. All-map (IsKey code pattern window) (λ piece. record { link = link; generation = generation; piece = piece }) (range_with_len 0 pieces)
    (All-range (λ piece. IsKey code pattern window (record { link = link; generation = generation; piece = piece })) 0 pieces
    (λ piece from below. record { begun = is.0; numbered = is.1; of_link = of_link.0; live = of_link.1; of_piece = omega (arith, below) }))))
