-- The steps of putting texts together.
use Rattle.std.specs.Prelude.{◌≡◌, ℕ, ◌+◌, List, [], ◌∷◌, ◌++◌, IsOk, Ok, Result, Vec, flat_map, length}
use Rattle.std.specs.Global.{Global}
use Rattle.std.specs.declared.alloc.AllocError.{AllocError}
use Rattle.std.proofs.Common.{refl, sym, ◌∙◌, ap, subst, append-nil, append_assoc, arith}
use Rattle.std.proofs.lemmas.List.{flat_map_more}
use Rattle.std.proofs.lemmas.List.Elements.{All-push}
use Rattle.report_text.specs.Batches.{AreJoined, made_text}

-- the texts so far, which were made, and the rest, of which so many are left
pub record AreJoinedSoFar (before : List ℕ) (texts front rest : List (Result (Vec ℕ Global) AllocError)) (left : ℕ) (whole : List ℕ) : Type 0 where
  pub parts : texts ≡ front ++ rest
  pub count : length rest ≡ left
  pub joined : AreJoined before front whole

-- none yet
pub joined_none : (before : List ℕ) (texts rest : List (Result (Vec ℕ Global) AllocError)) (left : ℕ) → rest ≡ texts → left ≡ length texts → AreJoinedSoFar before texts [] rest left before
joined_none before texts rest left same all = record {
  parts = sym same;
  count = ap length same ∙ sym all;
  joined = record { made = λ k d within. absurd (omega arith); in_order = sym (append-nil before) };
}

-- one more
pub joined_more : (before : List ℕ) (texts front rest further : List (Result (Vec ℕ Global) AllocError)) (left fewer : ℕ) (one : Result (Vec ℕ Global) AllocError) (text : Vec ℕ Global) (whole more : List ℕ)
    → AreJoinedSoFar before texts front rest left whole → rest ≡ one ∷ further → fewer + 1 ≡ left → one ≡ Ok text → more ≡ whole ++ text.items → AreJoinedSoFar before texts (front ++ one ∷ []) further fewer more
joined_more before texts front rest further left fewer one text whole more are next less good added = record {
  parts = are.parts ∙ ap (λ (list : List (Result (Vec ℕ Global) AllocError)). front ++ list) next ∙ sym (append_assoc front (one ∷ []) further);
  count = omega (arith, are.count, less, ap length next);
  joined = record {
    made = All-push IsOk front one are.joined.made (subst IsOk (sym good) refl);
    in_order =
        added ∙ ap (λ list. list ++ text.items) are.joined.in_order ∙ append_assoc before (flat_map made_text front) text.items
        ∙ ap (λ list. before ++ list) (ap (λ list. flat_map made_text front ++ list) (sym (ap made_text good)) ∙ flat_map_more made_text [] front one);
  };
}

-- all
pub joined_all : (before : List ℕ) (texts front rest : List (Result (Vec ℕ Global) AllocError)) (left : ℕ) (whole : List ℕ) → AreJoinedSoFar before texts front rest left whole → left ≡ 0 → AreJoined before texts whole
joined_all before texts front [] left whole are none = subst (λ list. AreJoined before list whole) (sym (are.parts ∙ append-nil front)) are.joined
joined_all before texts front (one ∷ rest) left whole are none = absurd (omega (arith, are.count))
