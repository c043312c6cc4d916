-- Lists that are filled or written part by part.
use Rattle.std.proofs.Common.{◌≡◌, ℕ, ◌+◌, ◌-◌, ◌≤◌, List, ◌++◌, length, take, drop, sym, ap, subst, ◌∙◌, arith, append-nil, drop_at, length-take-le, le_refl, length-drop, take_all}
use Rattle.std.proofs.Math.Seq.{take-add, drop-drop}
use Rattle.std.proofs.lemmas.List.{drop_all}
use Rattle.std.proofs.lemmas.Slice.{take-put_mid_below}
use Rattle.std.specs.Prelude.{Option}
use Rattle.std.specs.Io.KnownBytes.{Appends, Consumes}
use Rattle.std.proofs.KnownBytes.{Appends-trans, Consumes-trans}
use borrow.Rule.Slice.PartMut.{mid_of, put_mid}

-- what stands from a place on, after a write to all that stood there
from_place : (at : ℕ) (mid part : List ℕ) → at ≤ length mid → drop at (put_mid at (length mid - at) mid part) ≡ part
from_place at mid part within =
    let long = length-drop at mid in
    drop_at (take at mid) _ at (length-take-le at mid within)
    ∙ ap (λ l. part ++ l) (drop_all (length mid - at) (drop at mid) (omega arith))
    ∙ append-nil part

whole_rest : (at : ℕ) (mid : List ℕ) → mid_of at (length mid - at) mid ≡ drop at mid
whole_rest at mid = let long = length-drop at mid in take_all (length mid - at) (drop at mid) (omega arith)

-- what stands behind the part that was filled
pub rest_kept : (at n : ℕ) (first mid part : List ℕ) → at ≤ length mid → drop at mid ≡ drop at first → drop n part ≡ drop n (mid_of at (length mid - at) mid)
    → drop (at + n) (put_mid at (length mid - at) mid part) ≡ drop (at + n) first
rest_kept at n first mid part within before kept =
    sym (drop-drop n at _) ∙ ap (drop n) (from_place at mid part within) ∙ kept ∙ ap (drop n) (whole_rest at mid ∙ before) ∙ drop-drop n at first

-- a reader that filled a part, and then a part behind it
pub filled_more : (a b c : Option (List ℕ)) (at n : ℕ) (mid part : List ℕ) → at ≤ length mid → Consumes a b (take at mid) → Consumes b c (take n part)
    → Consumes a c (take (at + n) (put_mid at (length mid - at) mid part))
filled_more a b c at n mid part within before more =
    let all : List ℕ = put_mid at (length mid - at) mid part in
    let joined : take at mid ++ take n part ≡ take (at + n) all =
    sym (take-add at n all ∙ ap (λ l. l ++ take n (drop at all)) (take-put_mid_below at (length mid - at) mid part at (le_refl at) within) ∙ ap (λ l. take at mid ++ take n l) (from_place at mid part within)) in
    subst (Consumes a c) joined (Consumes-trans a b c _ _ before more)

-- a writer that took a front of the bytes, and then a front of the rest
pub written_more : (a b c : Option (List ℕ)) (at n : ℕ) (bytes : List ℕ) → Appends a b (take at bytes) → Appends b c (take n (mid_of at (length bytes - at) bytes))
    → Appends a c (take (at + n) bytes)
written_more a b c at n bytes before more =
    let joined : take at bytes ++ take n (mid_of at (length bytes - at) bytes) ≡ take (at + n) bytes =
    ap (λ l. take at bytes ++ take n l) (whole_rest at bytes) ∙ sym (take-add at n bytes) in
    subst (Appends a c) joined (Appends-trans a b c _ _ before more)
