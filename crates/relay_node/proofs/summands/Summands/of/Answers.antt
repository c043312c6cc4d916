-- The summands of one more sum.
use Rattle.std.proofs.Common.{◌≡◌, ◌++◌, ◌+◌, ◌∷◌, ◌∙◌, [], List, ap, arith, length, map, refl, rules, subst, sym, ℕ}
use Rattle.std.proofs.lemmas.List.{length-map}
use Rattle.relay_node.specs.Summands.{summands_at}
use Rattle.relay_node.specs.declared.summands.Summand.{Summand}
use Rattle.node_program.specs.declared.Operand.{Operand}
use Rattle.node_plans.specs.Plans.{input_place}
use Rattle.relay_node.proofs.SummandLaws.{HasSums, sums-all, sums-next}
use Rattle.relay_node.proofs.summands.Summands.of.Goals as goal

pub loop-sum-preserved : goal.loop-sum-preserved
loop-sum-preserved c =
    let plan = c.args.plan.now in
    let sum = c.loop-sum.sum in
    let all = c.loop-sum.all.items in
    let more = summands_at plan sum in
    let starts = c.loop-sum.starts.items in
    let now : c.add_sum.new.all.items ≡ all ++ more = c.in_ok-add_sum.ensures in
    let len : c.len.result ≡ length c.add_sum.new.all.items = search rules in
    let ends : c.push-in-loop-sum.new.self.items ≡ starts ++ length (all ++ more) ∷ [] =
    c.in_ok-push-2.ensures.items ∙ ap (λ (n : ℕ). starts ++ n ∷ []) (len ∙ ap length now) in
    subst (λ (items : List Summand). HasSums plan (sum + 1) items c.push-in-loop-sum.new.self.items) (sym now)
    (subst (HasSums plan (sum + 1) (all ++ more)) (sym ends) (sums-next plan sum all more starts c.loop-sum.invariant refl))

pub returns : goal.returns
returns c =
    let plan = c.args.plan.now in
    let all = c.loop-sum.all.items in
    let starts = c.loop-sum.starts.items in
    let count : c.loop-sum.sum ≡ length plan.operands =
    omega (arith, ap length c.requires, length-map plan.operands (map (λ (operand : Operand). input_place plan operand.from))) in
    sums-all plan all starts (subst (λ (n : ℕ). HasSums plan n all starts) count c.loop-sum.invariant)
