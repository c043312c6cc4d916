-- The machine value of a `Slot`, and what it owns. Assumes `Logic`.
use Rattle.std.proofs.Common.{◌≡◌, List, [], ◌∷◌, ◌++◌, refl, subst}
use Rattle.std.specs.Prelude.{Bool, Option, Some, None, is_some, not, true}
use lib.Dec.{T}
use seplogic.Ra.Ura.{Ura}
use mir.Val.{Val, vstruct, vcons, vnil, of_list}
use types.Logic.{Logic}
use types.Kit.{Item, Goal, Seq, Step, step, ‵, ◌$◌, drop, fsplit, fjoin, fpick, fpack, feq_i, feq_l}
use denote.RattleType.{RattleType, Valss}
use denote.Builtin.{RawPtr}
use denote.RawPtr.{Ptr, ptr_val}
use denote.Steps.{nothing}
use denote.Struct.Struct.{within}
use denote.Struct.Owning.{shape}
use Rattle.lif_c.specs.Slots.{slot_owns}
use Rattle.lif_c.specs.declared.opened.Opened.{Opened}
use Rattle.lif_c.specs.contracts.slot.Slot as slot

abbrev pub Slot : RattleType
Slot = slot.the_row

-- a struct of one field
abbrev pub one : Val → Val
one v = vstruct (vcons v vnil)

-- what is there
pub some_of : {X : Type 0} (o : Option X) → is_some o ≡ true → (x : X) × (o ≡ Some x)
some_of (Some x) is = (x, refl)
some_of None is = absurd (subst (λ (b : Bool). T (not b)) is tt)

module _ {M : Type 1} {𝓤 : Ura M} {𝓛 : Logic 𝓤} {K : Type 0} {Γ : List (Item 𝓤)} {G : Goal 𝓤 𝓛.H} where
  pub slot_in : K → (at : Ptr) (x : Option Opened)
      → Step K 𝓛 (‵ (Slot.own_val (record { at = at; value = x }) (one (ptr_val at) ∷ [])) ∷ Γ) G (‵ (slot_owns at x) ∷ Γ) G
  slot_in t at x = step (λ s.
      nothing t $ feq_i t (List Val) (ptr_val at ∷ []) (ptr_val at ∷ []) refl $ fjoin t $ feq_i t (List Val) (one (ptr_val at) ∷ []) (one (ptr_val at) ∷ []) refl $ fjoin t $
      fpack t (Valss (RawPtr ∷ [])) (within (shape slot.the_type) (at, tt) (one (ptr_val at) ∷ [])) (ptr_val at ∷ [], tt) $ fjoin t $ s)

  pub slot_out : K → (d : Slot.Denot) (vs : List Val)
      → (vs ≡ one (ptr_val d.at) ∷ [] → Seq K 𝓛 (‵ (slot_owns d.at d.value) ∷ Γ) G)
      → Seq K 𝓛 (‵ (Slot.own_val d vs) ∷ Γ) G
  slot_out t d vs k =
      fsplit t $ fpick t (λ vss. fsplit t $ feq_l t (λ ev. fsplit t $ feq_l t (λ ep. drop t $ k
      (subst (λ (ps : List Val). vs ≡ vstruct (of_list (ps ++ [])) ∷ []) ep ev))))
