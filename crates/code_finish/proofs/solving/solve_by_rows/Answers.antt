use Rattle.std.proofs.Common.{◌≡◌, ◌≤◌, ℕ, Option, Some, length, subst, ◌∙◌, arith}
use Rattle.code_finish.specs.Solved.{AreSolved, DecodesIn, HasDecoder, IsFirstBefore, Shows}
use Rattle.code_finish.specs.declared.solving.Confusion.{Confusion}
use Rattle.failure_patterns.proofs.FirstLaws.{first_last, first_none}
use Rattle.net_model.specs.Demands.{demand_count}
use Rattle.code_finish.proofs.solving.solve_by_rows.Goals as goal

abbrev number : Confusion → ℕ
number one = one.demand

pub loop-pattern-init : goal.loop-pattern-init
loop-pattern-init g c =
    let draft = c.args.draft.now in
    record {
      field = c.in_ok-taken.ensures.field;
      rate = c.in_ok-taken.ensures.rate;
      count = c.in_ok-decoders.ensures ∙ c.demands.ensures;
      first = first_none draft.net (DecodesIn draft) number (Shows draft) 0 (demand_count draft.net);
      solved = λ none. first_none draft.net (HasDecoder draft c.in_ok-decoders.decoders.items) number (Shows draft) 0 (demand_count draft.net);
    }

pub solve_pattern-requires : goal.solve_pattern-requires
solve_pattern-requires g c = (
  omega arith,
  (
    omega (arith, c.loop-pattern-test.true, c.len-pattern-end.ensures),
    (
      c.loop-pattern.invariant.first,
      (c.loop-pattern.invariant.field, (c.loop-pattern.invariant.rate, (c.loop-pattern.invariant.count, c.loop-pattern.invariant.solved))),
    ),
  ),
)

pub loop-pattern-preserved : goal.loop-pattern-preserved
loop-pattern-preserved g c = record {
  field = c.solve_pattern.ensures.field ∙ c.loop-pattern.invariant.field;
  rate = c.solve_pattern.ensures.rate ∙ c.loop-pattern.invariant.rate;
  count = c.solve_pattern.ensures.count;
  first = c.in_ok-first.ensures.first;
  solved = c.in_ok-first.ensures.solved;
}

pub returns-in-Some-clause-first : goal.returns-in-Some-clause-first
returns-in-Some-clause-first g c =
    let draft = c.args.draft.now in
    let all = demand_count draft.net in
    let Of : Option Confusion → Type 0 = IsFirstBefore draft c.loop-pattern.pattern in
    let gone : length draft.net.patterns ≤ c.loop-pattern.pattern = omega (arith, c.loop-pattern-test.false, c.len-pattern-end.ensures) in
    first_last draft.net (DecodesIn draft) number (Shows draft) 0 all c.loop-pattern.pattern (Some c.in-Some.confusion) (omega arith) gone (subst Of c.in-Some.is c.loop-pattern.invariant.first)

pub returns-clause-count : goal.returns-clause-count
returns-clause-count g c = c.loop-pattern.invariant.count

pub returns-clause-solved : goal.returns-clause-solved
returns-clause-solved g c =
    let draft = c.args.draft.now in
    let decoders = c.loop-pattern.decoders.items in
    let gone : c.loop-pattern.pattern ≡ length draft.net.patterns = omega (arith, c.loop-pattern-test.false, c.len-pattern-end.ensures, c.loop-pattern.auto.pattern-end) in
    subst (λ n. AreSolved draft n decoders) gone (c.loop-pattern.invariant.solved c.in-None.is)
