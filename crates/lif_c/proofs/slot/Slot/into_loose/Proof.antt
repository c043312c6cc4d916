-- `into_loose` gives the pointer back, with a handle to the heap.
use Rattle.std.proofs.Common.{◌≡◌, List, [], ◌∷◌, ◌++◌, refl, sym, ap, ◌∙◌, subst}
use Rattle.std.specs.Prelude.{Option, Some, is_some, true}
use mir.Raw.{raw as bare}
use mir.Val.{Val, vptr}
use base.Logic.{SProp, ent, emp, never, id⊢, fst∗}
use base.Fml.{ftrue}
use prog.Wp.{WpFn}
use types.Logic.{sem}
use types.Kit.{‵, raw, ◌⊛◌, ◌$◌, ◌∵◌, !, qed, by, move, keep, split, fsplit, fjoin, suffices, use0, rewrite}
use types.Run.{stop, fld, of_opd, no_more, and_then, returns, enter}
use types.ByLocal.{alloc_all, pass_all, free_all, look_at, get, get_in, sets}
use types.Part.{agg, sub, whole}
use contract.Monad.{fact, fact_i}
use contract.Running.{tables}
use denote.Exit.{yes}
use denote.RattleType.{owns}
use denote.Signature.{types_at, plain}
use denote.RawPtr.{block_ptr, null_ptr, ptr_val, in_a_block}
use denote.Memory.{lone}
use denote.Steps.{nothing, heard}
use denote.Triple.Walked.{Stays, stay_dropped, walk_of, Goes-dropped}
use Rattle.std.proofs.alloc.Calls.{handle_tells}
use Rattle.std.specs.Box.Ownership.{box_owns}
use Rattle.std.specs.contracts.alloc.Global as heap
use Rattle.std.proofs.alloc.Global.TheLaws as heap_laws
use Rattle.std.specs.contracts.impls.GlobalAllocator.TheImpl.{ghosts}
use Rattle.std.proofs.raw_atomic.Walks.{proved_at, leaves}
use Rattle.lif_c.proofs.LooseSteps.{al, both, loose_good, loose_in}
use Rattle.lif_c.proofs.SlotSteps.{Slot, one, slot_out, some_of}
use Rattle.lif_c.specs.Slots.{slot_owns}
use Rattle.lif_c.specs.contracts.opened.Opened as opened
use Rattle.lif_c.specs.declared.opened.Opened.{Opened}
use Rattle.lif_c.specs.contracts.slot.Slot.into_loose as f
use Rattle.lif_c.proofs.slot.Slot.into_loose.Statement.{statement}
use Rattle.lif_c.proofs.slot.Slot.into_loose.Code as code

pub into_loose_spec : {M : Type 1} → statement M
into_loose_spec 𝓤 𝓛 𝓜 𝓡 wired =
    let H = 𝓛.H in let 𝓣 = tables 𝓤 H 𝓜 𝓡 𝓡.env in let c = f.clauses 𝓛 𝓜.mem 𝓡.returns in
    let R = opened.the_row in let Z = heap.the_row in let LZ = heap_laws.the_row_laws in
    let hs : Stays f.ended.signature.params f.ended.kept = (stay_dropped (plain (λ _. Slot)) yes, (stay_dropped (plain (λ _. Z)) yes, tt)) in
    proved_at 𝓛 f.ended hs c 𝓜 𝓡 (Goes-dropped 𝓛 0 (plain (λ _. Slot)) yes (λ κs x w. refl), (Goes-dropped 𝓛 0 (plain (λ _. Z)) yes (λ κs x w. refl), tt)) f.Key.name code.function (code.unfolded 𝓤 H 𝓜 𝓡 wired) (λ z are.
    let κs = z.0.0 in let v = z.0.3.0 in let a = z.0.3.1.0 in let token = ghosts.dealloc_token a in
    let Post : Val → SProp 𝓤 = (walk_of 𝓛 f.ended hs c).post z in let Run : List Val → SProp 𝓤 = λ ws. WpFn 𝓤 H 𝓣.C 𝓣.Λ code.function ws Post in
    qed 𝓛 ((‵ ftrue ⊛ ‵ (owns (types_at f.ended.signature.params κs) z.0.3 z.0.4)) ∷ raw ((c κs z.0.3).requires z.1) ∷ []) ∵ move ! (1 ∷ []) $ heard ! (is_some v.value ≡ true) (λ is. let there = some_of v.value is in let x : Opened = there.0 in split ! $ move ! (1 ∷ []) $ fsplit ! $ slot_out ! v z.0.4.0 (λ ws.
    rewrite ! 0 (λ (held : Option Opened). ‵ (slot_owns v.at held)) there.1 refl $
    in_a_block ! v.at (λ p. box_owns token R p x) (fst∗ 𝓤 (never 𝓤) (sem 𝓛 (token (bare (lone R.mir)) null_ptr))) (λ b o e.
    move ! (1 ∷ []) $ fsplit ! $ handle_tells (al R Z LZ ghosts) ! a z.0.4.1.0 (λ h ea fits.
    let w : Val = one (vptr b o) in let typed = loose_good R Z LZ ghosts b o h fits in
    let told : z.0.4.0 ++ (z.0.4.1.0 ++ []) ≡ w ∷ h ∷ [] = λ i. (ws ∙ ap (λ (p : denote.RawPtr.Ptr). one (ptr_val p) ∷ []) e) i ++ (ea i ++ []) in
    suffices ! (Run (w ∷ h ∷ [])) (subst (λ (us : List Val). ent 𝓤 (Run (w ∷ h ∷ [])) (Run us)) (sym told) (id⊢ 𝓤 (Run (w ∷ h ∷ [])))) $
    enter ! 𝓣.C 𝓣.Λ code.function (w ∷ h ∷ []) Post $ alloc_all ! (λ l. pass_all ! refl ((tt, (tt, tt)), (fits, tt)) $
    sets ! (of_opd ! (get_in ! (fld ! refl (stop !)) (sub ! 0 refl (whole !)))) refl (tt, tt) $ sets ! (of_opd ! (get ! refl)) refl (tt, tt) $
    sets ! (agg ! (and_then ! (get ! refl) (and_then ! (get ! refl) (no_more !)))) refl typed $
    move ! (2 ∷ 0 ∷ []) $ loose_in R Z LZ ghosts ! b o h a x $ use0 𝓛 (raw (fact 𝓤 (Some x ≡ v.value))) (fact_i 𝓤 (Some x ≡ v.value) (emp 𝓤) (sym there.1)) $ nothing ! $ nothing ! $ fjoin ! $ nothing ! $ fjoin ! $
    returns ! (look_at ! 0 refl) $ free_all ! refl $ keep ! (4 ∷ 0 ∷ 2 ∷ 1 ∷ []) $ by ! (leaves 𝓛 f.ended hs c z (both (vptr b o) h) (record { at = block_ptr b o; alloc = a; value = x }) (tt, (tt, tt)) (tt, (tt, tt)))))))))
