-- A sum begins a group, or belongs to that of the one before it.
use Rattle.std.specs.Global.{Global}
use Rattle.std.proofs.Common.{◌≡◌, ◌+◌, ◌-◌, ◌++◌, ◌∙◌, ◌∷◌, List, Vec, [], ℕ, ap, slice_index_or, subst, sym}
use Rattle.std.specs.Cmp.Lexicographic.{same_text}
use Rattle.std.proofs.lemmas.Bool.{not-false}
use Rattle.std.proofs.lemmas.List.{get_or_read}
use Rattle.std.proofs.lemmas.Option.{get_or_from_slice_get}
use Rattle.due_sums.specs.Groups.{AreFirstGroups}
use Rattle.due_sums.proofs.GroupLaws.{groups-begun, groups-grown}
use Rattle.due_sums.proofs.groups.groups_of.Goals.{else-sum-eq0+else-ne, then-sum-eq0+in_ok-copy_of+in_ok-push+in_ok-push-2}
use Rattle.due_sums.proofs.groups.groups_of.Goals as goal

pub loop-sum-preserved : goal.loop-sum-preserved
loop-sum-preserved c =
    let sums = c.args.sums.now in
    let sum = c.loop-sum.sum in
    let all = c.as_slice-list-items.result.now in
    let list : c.list-item.result ≡ slice_index_or sums sum [] =
    get_or_read all sum c.list-item.result c.loop-sum-test.true c.list-item.is [] ∙ ap (λ (sums : List (List ℕ)). slice_index_or sums sum []) c.as_slice-list-items.ensures in
    elim c.if-sum-eq0.branch [
      | then-sum-eq0+in_ok-copy_of+in_ok-push+in_ok-push-2 w ↦
          let inputs : c.if-sum-eq0.inputs.items ≡ c.loop-sum.inputs.items ++ slice_index_or sums sum [] ∷ [] =
          ap (λ (v : Vec (List ℕ) Global). v.items) w.inputs-is ∙ w.in_ok-push.ensures.items ∙ ap (λ (one : List ℕ). c.loop-sum.inputs.items ++ one ∷ []) (w.in_ok-copy_of.ensures ∙ list) in
          let starts : c.if-sum-eq0.starts.items ≡ c.loop-sum.starts.items ++ sum ∷ [] =
          ap (λ (v : Vec ℕ Global). v.items) w.starts-is ∙ w.in_ok-push-2.ensures.items in
          subst (λ groups. AreFirstGroups (sum + 1) sums groups (c.if-sum-eq0.starts.items ++ (sum + 1) ∷ [])) (sym inputs)
          (subst (λ starts. AreFirstGroups (sum + 1) sums (c.loop-sum.inputs.items ++ slice_index_or sums sum [] ∷ []) (starts ++ (sum + 1) ∷ [])) (sym starts)
          (groups-begun sum sums c.loop-sum.inputs.items (c.loop-sum.starts.items ++ sum ∷ []) c.loop-sum.invariant))
      | else-sum-eq0+else-ne w ↦
          let before : w.at.result.now ≡ slice_index_or sums (sum - 1) [] = sym (get_or_from_slice_get sums (sum - 1) w.at.result.now [] w.at.ensures) in
          let same : w.as_slice.result.now ≡ w.as_slice-else-sum-eq0.result.now = same_text _ _ (sym (not-false _ (sym w.ne.ensures ∙ w.if-ne.false))) in
          let alike : slice_index_or sums sum [] ≡ slice_index_or sums (sum - 1) [] = sym list ∙ sym w.as_slice.ensures ∙ same ∙ w.as_slice-else-sum-eq0.ensures ∙ before in
          subst (λ (v : Vec (List ℕ) Global). AreFirstGroups (sum + 1) sums v.items (c.if-sum-eq0.starts.items ++ (sum + 1) ∷ [])) (sym w.inputs-is)
          (subst (λ (v : Vec ℕ Global). AreFirstGroups (sum + 1) sums c.loop-sum.inputs.items (v.items ++ (sum + 1) ∷ [])) (sym w.starts-is)
          (groups-grown sum sums c.loop-sum.inputs.items c.loop-sum.starts.items c.loop-sum.invariant w.if-sum-eq0.false alike))
    ]
