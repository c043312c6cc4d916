use Rattle.std.proofs.Common.{◌≡◌, ◌∷◌, ◌++◌, [], ℕ, List, Bool, codes, length, map, if◌then◌else◌, append-nil, append_assoc, ap, sym, ◌∙◌, arith}
use Rattle.net_model.specs.declared.Pattern.{Pattern}
use Rattle.net_reader.specs.Text.{each_alone}
use Rattle.net_reader.proofs.parts.pattern_list.Goals as goal
use Rattle.net_reader.proofs.parts.pattern_list.Goals.{then-fails_each+in_ok-add_each_alone, else-fails_each}

abbrev none : Pattern
none = record { name = codes "none"; links = [] }

-- where none is left, those so far are all
all_front : (all front rest : List Pattern) (left : ℕ) → all ≡ front ++ rest → length rest ≡ left → left ≡ 0 → none ∷ front ≡ none ∷ all
all_front all front [] left parts count over = ap (λ (list : List Pattern). none ∷ list) (sym (parts ∙ append-nil front))
all_front all front (one ∷ rest) left parts count over = absurd (omega (arith, count))

pub loop-pattern-init : goal.loop-pattern-init
loop-pattern-init c =
    let from = c.into_iter-pattern-iterator.ensures.into_iter_gives in
    record {
      parts = sym from.0;
      count = ap length from.0 ∙ sym (from.1 ∙ c.args.listed.ok.0);
      pushed = ◌∙◌ {A = List Pattern} c.in_ok-push.ensures.items (λ i. c.new-patterns.ensures.items i ++ c.in_ok-pattern_of_none.ensures.gives i ∷ []);
    }

pub loop-pattern-preserved : goal.loop-pattern-preserved
loop-pattern-preserved c =
    let so_far = c.loop-pattern.yielded in
    let one = c.in-Some.pattern in
    let here = c.loop-pattern.invariant in
    let steps = c.in-Some.ensures.steps in
    record {
      parts = here.parts ∙ ap (λ (list : List Pattern). so_far ++ list) steps.0 ∙ sym (append_assoc so_far (one ∷ []) _);
      count = omega (arith, here.count, steps.1, ap length steps.0);
      pushed = c.in_ok-push-2.ensures.items ∙ ap (λ (list : List Pattern). list ++ one ∷ []) here.pushed;
    }

pub returns-clause-gives : goal.returns-clause-gives
returns-clause-gives c =
    let here = c.loop-pattern.invariant in
    let listed : c.loop-pattern.patterns.items ≡ none ∷ c.args.listed.items = here.pushed ∙ all_front c.args.listed.items c.loop-pattern.yielded _ _ here.parts here.count c.in-None.ensures.steps.0 in
    let each : List Pattern = each_alone (map (λ name. name.items) c.args.link_names.now) 0 in
    let with_each : Bool → List Pattern = λ b. none ∷ c.args.listed.items ++ (if b then each else []) in
    c.of.ensures ∙ elim c.if-fails_each.branch [
      | then-fails_each+in_ok-add_each_alone w ↦
          ap (λ vec. vec.items) w.patterns-is ∙ w.in_ok-add_each_alone.ensures.gives ∙ ap (λ (list : List Pattern). list ++ each) listed ∙ ap with_each (sym w.if-fails_each.true)
      | else-fails_each w ↦
          ap (λ vec. vec.items) w.patterns-is ∙ listed ∙ sym (append-nil (none ∷ c.args.listed.items)) ∙ ap with_each (sym w.if-fails_each.false)
    ]
