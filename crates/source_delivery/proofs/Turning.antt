-- Files that are created in turn, and what stands at places.
use Rattle.std.proofs.Common.{◌≡◌, ◌<◌, ◌+◌, ◌++◌, ◌∷◌, ℕ, zero, suc, List, [], length, map, take, drop, refl, sym, ap, subst, ◌∙◌, arith, true, false, nat_lt, slice_index_or}
use Rattle.std.specs.Prelude.{◌==◌, Contains}
use Rattle.std.proofs.lemmas.Bool.{false≢true, lt-ltb, ne_eqb}
use Rattle.std.proofs.Math.Seq.{take-suc, split_at}
use Rattle.std.proofs.lemmas.List.{get_or-map, length-map}
use Rattle.lif_outside.specs.Events.{created, create_failed}
use Rattle.lif_outside.specs.FileCalls.{StopsWithin, creates_of}
use Rattle.lif_outside.proofs.TurnLaws.{creates_of-append, creates_of-stops}

module _ (paths : List (List ℕ)) (n : ℕ) (within : n < length paths) where
  abbrev path : List ℕ
  path = slice_index_or paths n []

  -- one path more
  taken_more : take (n + 1) paths ≡ take n paths ++ path ∷ []
  taken_more =
      let next : n + 1 ≡ suc n = omega arith in
      ap (λ k. take k paths) next ∙ take-suc paths n [] within

  -- the paths, around one of them
  around : paths ≡ take n paths ++ (path ∷ [] ++ drop (suc n) paths)
  around = split_at paths n [] within

  pub created_more : creates_of (take n paths) ++ created path ∷ [] ≡ creates_of (take (n + 1) paths)
  created_more = sym (ap creates_of taken_more ∙ creates_of-append (take n paths) (path ∷ []))

  pub create_stops : StopsWithin (creates_of paths) (creates_of (take n paths) ++ create_failed path ∷ [])
  create_stops = subst (λ all. StopsWithin (creates_of all) (creates_of (take n paths) ++ create_failed path ∷ [])) (sym around) (creates_of-stops (take n paths) path (drop (suc n) paths))

-- an item of a list at its place, mapped
pub mapped_at : {X Y : Type 0} (f : X → Y) (xs : List X) (n : ℕ) (x : X) (d : Y) → n < length xs → x ≡ slice_index_or xs n x → f x ≡ slice_index_or (map f xs) n d
mapped_at f xs n x d within is = ap f is ∙ sym (get_or-map f xs n x d within)

-- a length that is zero, and one that isn't
pub no_length : (n : ℕ) → (n == 0) ≡ true → nat_lt 0 n ≡ false
no_length zero test = refl
no_length (suc n) test =
    let some : suc n ≡ 0 → ⊥ = λ e. absurd (omega (arith, e)) in
    absurd (false≢true (sym (ne_eqb (suc n) 0 some) ∙ test))

pub some_length : (n : ℕ) → (n == 0) ≡ false → nat_lt 0 n ≡ true
some_length zero test = absurd (false≢true (sym test))
some_length (suc n) test = lt-ltb 0 (suc n) (omega arith)

-- each of the paths is created
pub created_there : (paths : List (List ℕ)) (place : List ℕ) → Contains paths place → Contains (creates_of paths) (created place)
created_there paths place (k, within, is) = (k, omega (arith, length-map paths created), get_or-map created paths k place (created place) within ∙ ap created is)
