-- A residual network in which only failed links are marked.
use Rattle.std.specs.Prelude.{◌≡◌, ◌<◌, ℕ, zero, suc, Bool, false, ◌||◌, ◌==◌, List, [], ◌∷◌, ◌++◌, length, replicate, slice_get, slice_set, Option, Some, None}
use Rattle.std.specs.Option.{option_map_or}
use Rattle.std.proofs.Common.{refl, sym, ◌∙◌, ap, arith, inl, inr}
use Rattle.std.proofs.lemmas.Bool.{cases_eq, eq-eqb, ne_eqb, or_left, or_right}
use Rattle.std.proofs.lemmas.List.{length-replicate, length-set}
use Rattle.std.proofs.lemmas.List.Folds.{list_any-append}
use Rattle.std.proofs.Math.Bool.{or-false}
use Rattle.net_model.specs.Lists.{is_among}
use Rattle.unit_flow.proofs.ConservationLaws.{is_failed-set_other, is_failed-set_same, is_used-set_other, is_used-set_same}
use Rattle.unit_flow.specs.Residual.{is_failed_state, is_used_state, is_failed, is_used}
use Rattle.unit_flow.specs.declared.residual.LinkState.{LinkState}
use Rattle.unit_flow.specs.declared.residual.LinkState.TheVariants.{Free, Failed}

-- of so many links those of a list failed, and none is used
pub record AreMarked (count : ℕ) (marked : List ℕ) (states : List LinkState) : Type 0 where
  pub each_link : length states ≡ count
  pub unused : (link : ℕ) → is_used states link ≡ false
  pub failed : (link : ℕ) → link < count → is_failed states link ≡ is_among marked link

-- none failed
pub marked_none : (count : ℕ) → AreMarked count [] (replicate count Free)
marked_none count = record { each_link = length-replicate count Free; unused = λ link. none count link (λ state. option_map_or is_used_state state false) refl refl; failed = λ link within. none count link (λ state. option_map_or is_failed_state state false) refl refl }
  where
    none : (count link : ℕ) (test : Option LinkState → Bool) → test None ≡ false → test (Some Free) ≡ false → test (slice_get (replicate count Free) link) ≡ false
    none zero link test past free = past
    none (suc count) zero test past free = free
    none (suc count) (suc link) test past free = none count link test past free

-- one more failed
pub marked_more : (count : ℕ) (marked : List ℕ) (states : List LinkState) (link : ℕ) → AreMarked count marked states → link < count → AreMarked count (marked ++ link ∷ []) (slice_set states link Failed)
marked_more count marked states link are within =
    let inside : link < length states = omega (arith, are.each_link) in
    record {
      each_link = length-set states link Failed ∙ are.each_link;
      unused = λ other. elim (cases_eq other link) [
        | inl same ↦ ap (is_used (slice_set states link Failed)) same ∙ is_used-set_same states link Failed inside
        | inr apart ↦ is_used-set_other states link other Failed apart ∙ are.unused other
      ];
      failed = λ other below. elim (cases_eq other link) [
        | inl same ↦
            ap (is_failed (slice_set states link Failed)) same ∙ is_failed-set_same states link Failed inside
            ∙ sym (list_any-append (λ one. one == other) marked (link ∷ []) ∙ or_right _ _ (or_left _ _ (eq-eqb link other (sym same))))
        | inr apart ↦
            is_failed-set_other states link other Failed apart ∙ are.failed other below
            ∙ sym (list_any-append (λ one. one == other) marked (link ∷ []) ∙ ap (λ b. is_among marked other || (b || false)) (ne_eqb link other (λ same. apart (sym same)))
            ∙ or-false (is_among marked other))
      ];
    }
