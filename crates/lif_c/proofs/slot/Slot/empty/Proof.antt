-- `empty` makes a null pointer, which owns nothing.
use Rattle.std.proofs.Common.{[], ◌∷◌, refl, lit<}
use Rattle.std.proofs.raw_atomic.Walks.{proved}
use Rattle.std.specs.Prelude.{None}
use types.Kit.{raw, ◌$◌, ◌∵◌, !, qed, done, drop, suffices}
use types.Run.{lit, no_more, and_then, returns, enter}
use types.ByLocal.{alloc_all, pass_all, free_all, look_at, sets}
use types.Part.{agg}
use denote.RawPtr.{null_ptr, ptr_val}
use denote.Steps.{nothing}
use denote.Triple.Entry.{on_entry}
use denote.Triple.Walked.{walk_of, says, ends_at}
use Rattle.lif_c.proofs.SlotSteps.{slot_in, one}
use Rattle.lif_c.specs.contracts.slot.Slot.empty as f
use Rattle.lif_c.proofs.slot.Slot.empty.Statement.{statement}
use Rattle.lif_c.proofs.slot.Slot.empty.Code as code

pub empty_spec : {M : Type 1} → statement M
empty_spec 𝓤 𝓛 𝓜 𝓡 wired =
    let c = f.clauses 𝓛 𝓜.mem 𝓡.returns in let W = walk_of 𝓛 f.ended tt c in
    proved 𝓛 f.ended tt c 𝓜 𝓡 tt f.Key.name code.function (code.unfolded 𝓤 𝓛.H 𝓜 𝓡 wired) (λ κs. tt) (λ κs. tt) (λ κs qs bounds a g are.
    let y : W.Ghost = ((κs, qs, bounds, a, tt), g) in
    qed 𝓛 (raw (on_entry 𝓛 f.signature κs qs a tt) ∷ raw ((c κs a).requires g) ∷ []) ∵ drop ! $ drop ! $
    enter ! _ _ _ _ _ $ alloc_all ! (λ l. pass_all ! refl tt $
    sets ! (agg ! (and_then ! (lit ! tt) (no_more !))) refl ((tt, (record { fits = lit< tt }, tt))) $
    returns ! (look_at ! 0 refl) $ free_all ! refl $
    suffices ! _ (ends_at 𝓛 f.ended tt c y (one (ptr_val null_ptr)) (record { at = null_ptr; value = None }) tt tt) $ says ! refl $
    nothing ! $ slot_in ! null_ptr None $ nothing ! $ nothing ! $ done !))
