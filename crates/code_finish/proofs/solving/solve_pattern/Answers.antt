use Rattle.std.proofs.Common.{◌≡◌, ◌<◌, ◌-◌, ◌+◌, ◌*◌, ◌/◌, ℕ, Option, None, length, ap, sym, subst, ◌∙◌, arith}
use Rattle.std.proofs.lemmas.Nat.{div-mul-add}
use Rattle.code_file.specs.declared.draft.Draft.{Draft}
use Rattle.code_finish.specs.Solved.{AreSolvedAt, DecodesIn, HasDecoder, IsFirstOf, Shows}
use Rattle.code_finish.specs.declared.solving.Confusion.{Confusion}
use Rattle.failure_patterns.proofs.FirstLaws.{first_found, first_kept, first_of, limit_within}
use Rattle.failure_patterns.specs.First.{limit_of, sinks_below}
use Rattle.net_model.specs.Demands.{demand_count}
use Rattle.code_finish.proofs.solving.solve_pattern.Goals as goal
use Rattle.code_finish.proofs.solving.solve_pattern.Goals.{In_ok-confusion}

abbrev number : Confusion → ℕ
number one = one.demand

-- no sink is below the first demand
none_below : (patterns pattern : ℕ) → pattern < patterns → 0 ≡ sinks_below patterns pattern 0
none_below patterns pattern below =
    let rest = patterns - 1 - pattern in
    let same : 0 + patterns - 1 - pattern ≡ 0 * patterns + rest = omega arith in
    sym (ap (λ n. n / patterns) same ∙ div-mul-add 0 patterns rest (omega (arith, below)))

module _ (g : _) (c : In_ok-confusion g) where
  abbrev draft : Draft
  draft = c.args.draft.now

  abbrev patterns : ℕ
  patterns = length draft.net.patterns

  abbrev all : ℕ
  all = demand_count draft.net

  -- the sinks that were gone through are those below the limit
  end : c.sinks_below-end.result ≡ sinks_below patterns c.args.pattern (limit_of number all c.args.first)
  end = c.sinks_below-end.ensures ∙ ap (sinks_below patterns c.args.pattern) (c.limit_of.ensures ∙ ap (λ n. limit_of number n c.args.first) c.demands.ensures)

  -- so the first of them is that of the demands below it
  found : IsFirstOf draft c.args.pattern (sinks_below patterns c.args.pattern 0) (sinks_below patterns c.args.pattern (limit_of number all c.args.first)) c.in_ok-confusion.field-0
  found =
      first_of draft.net (DecodesIn draft) number (Shows draft) c.args.pattern 0 c.sinks_below-end.result 0 (limit_of number all c.args.first) c.in_ok-confusion.field-0
      (none_below patterns c.args.pattern c.requires.pattern) end c.in_ok-confusion.ensures.first

pub returns-in-Some-clause-first : goal.returns-in-Some-clause-first
returns-in-Some-clause-first g c =
    let at = (goal.at.returns-in-Some-clause-first g c).In_ok-confusion in
    let draft = c.args.draft.now in
    let all = demand_count draft.net in
    let patterns = length draft.net.patterns in
    let Of : Option Confusion → Type 0 = IsFirstOf draft c.args.pattern (sinks_below patterns c.args.pattern 0) (sinks_below patterns c.args.pattern (limit_of number all c.args.first)) in
    let first = subst Of c.in-Some.is (found g at) in
    first_found draft.net (DecodesIn draft) number (Shows draft) c.args.pattern c.requires.pattern 0 all c.args.first first.0 c.in-Some.confusion
    (limit_within draft.net (DecodesIn draft) number (Shows draft) 0 all c.args.pattern c.args.first c.requires.before) c.requires.before first.1

pub returns-in-None-clause-first : goal.returns-in-None-clause-first
returns-in-None-clause-first g c =
    let at = (goal.at.returns-in-None-clause-first g c).In_ok-confusion in
    let draft = c.args.draft.now in
    let all = demand_count draft.net in
    let patterns = length draft.net.patterns in
    let Of : Option Confusion → Type 0 = IsFirstOf draft c.args.pattern (sinks_below patterns c.args.pattern 0) (sinks_below patterns c.args.pattern (limit_of number all c.args.first)) in
    first_kept draft.net (DecodesIn draft) number (Shows draft) c.args.pattern c.requires.pattern 0 all c.args.first c.requires.before (subst Of c.in-None.is (found g at))

pub returns-in-None-clause-solved : goal.returns-in-None-clause-solved
returns-in-None-clause-solved g c = λ none.
    let at = (goal.at.returns-in-None-clause-solved g c).In_ok-confusion in
    let draft = c.args.draft.now in
    let all = demand_count draft.net in
    let decoders = c.solve_sinks.new.decoders.items in
    let none_first : Option Confusion = None in
    let patterns = length draft.net.patterns in
    let here : AreSolvedAt draft c.args.pattern (sinks_below patterns c.args.pattern 0) (sinks_below patterns c.args.pattern all) decoders =
    subst (λ n. AreSolvedAt draft c.args.pattern n (sinks_below patterns c.args.pattern all) decoders) (none_below patterns c.args.pattern c.requires.pattern)
    (subst (λ n. AreSolvedAt draft c.args.pattern 0 n decoders) (end g at ∙ ap (λ first. sinks_below patterns c.args.pattern (limit_of number all first)) none) (c.in_ok-confusion.ensures.solved c.in-None.is)) in
    first_kept draft.net (HasDecoder draft decoders) number (Shows draft) c.args.pattern c.requires.pattern 0 all none_first
    (λ demand on lower which.
    let old = c.requires.solved none demand on lower which in
    (old.0, c.in_ok-confusion.ensures.others demand (λ is. absurd (omega (arith, is, which))) ∙ old.1, old.2))
    here
