-- How the first failure is found while demands are gone through pattern by pattern.
use Rattle.std.specs.Prelude.{◌≡◌, ℕ, ◌+◌, ◌-◌, ◌*◌, ◌/◌, ◌%◌, ◌<◌, ◌≤◌, Option, Some, None, length}
use Rattle.std.proofs.Common.{arith, ap, subst, ◌∙◌, inl, inr}
use Rattle.std.proofs.Math.Nat.{mul-le-mul_right}
use Rattle.std.proofs.lemmas.Bool.{cases_lt}
use Rattle.std.proofs.lemmas.Nat.{div-add-mod', mod-mul-add}
use Rattle.item_list.proofs.Places.{row_end}
use Rattle.net_model.specs.Demands.{demand_count, pattern_of_demand}
use Rattle.net_model.specs.declared.net.Net.{Net}
use Rattle.failure_patterns.proofs.DemandLaws.{pattern_place_within}
use Rattle.failure_patterns.specs.First.{AreClear, AreGoodBefore, IsFirst, IsFirstAt, IsFirstBefore, IsFirstIn, IsFirstOf, limit_of, sinks_below}

module _ (patterns pattern : ℕ) (below : pattern < patterns) where
  -- a sink is among so many where its demand is below the number
  pub sink_before : (number sink : ℕ) → sink < sinks_below patterns pattern number → sink * patterns + pattern < number
  sink_before number sink before =
      let rest = number + patterns - 1 - pattern in
      omega (arith, row_end sink (rest / patterns) patterns before, div-add-mod' rest patterns, below)

  -- and its demand is from the number on where it isn't
  pub sink_behind : (number sink : ℕ) → sinks_below patterns pattern number ≤ sink → number ≤ sink * patterns + pattern
  sink_behind number sink behind =
      let rest = number + patterns - 1 - pattern in
      let most : rest / patterns * patterns ≤ sink * patterns = mul-le-mul_right patterns behind in
      let left : rest % patterns < patterns = omega (arith, below) in
      omega (arith, most, div-add-mod' rest patterns, left, below)

module _ (net : Net) (pattern : ℕ) (below : pattern < length net.patterns) where
  -- the pattern of the demand of a sink's place and a pattern
  pub pattern_here : (sink : ℕ) → pattern_of_demand net (sink * length net.patterns + pattern) ≡ pattern
  pattern_here sink = mod-mul-add sink (length net.patterns) pattern below

  -- the sinks of the demands below a number of demands are sinks
  pub sinks_within : (number : ℕ) → number ≤ demand_count net → sinks_below (length net.patterns) pattern number ≤ length net.sinks
  sinks_within number few = elim (cases_lt (length net.sinks) (sinks_below (length net.patterns) pattern number)) [
    | inl more ↦
        let one = sink_before (length net.patterns) pattern below number (length net.sinks) more in
        absurd (omega (arith, one, few))
    | inr none ↦ none
  ]

-- one more demand is good
pub clear_more : (net : Net) (Good : ℕ → Type 0) (pattern begin sink number : ℕ) → number ≡ sink * length net.patterns + pattern → Good number
    → AreClear net Good pattern begin sink → AreClear net Good pattern begin (sink + 1)
clear_more net Good pattern begin sink number this good clear other begun inside = elim (cases_lt other sink) [
  | inl before ↦ clear other begun before
  | inr last ↦
      let here : number ≡ other * length net.patterns + pattern =
      this ∙ ap (λ n. n * length net.patterns + pattern) (omega (arith, inside, last)) in
      subst Good here good
]

-- the demands of the patterns before the next are good, where those of this one are
good_more : (net : Net) (Good : ℕ → Type 0) (pattern : ℕ) → pattern < length net.patterns → (from to : ℕ) → AreGoodBefore net Good from to pattern
    → AreClear net Good pattern (sinks_below (length net.patterns) pattern from) (sinks_below (length net.patterns) pattern to)
    → AreGoodBefore net Good from to (pattern + 1)
good_more net Good pattern below from to are clear demand on lower which = elim (cases_lt (pattern_of_demand net demand) pattern) [
  | inl first ↦ are demand on lower first
  | inr last ↦
      let count = length net.patterns in
      let sink = demand / count in
      let same : pattern ≡ pattern_of_demand net demand = omega (arith, which, last) in
      let this : sink * count + pattern ≡ demand = ap (λ n. sink * count + n) same ∙ div-add-mod' demand count in
      let begun : sinks_below count pattern from ≤ sink = elim (cases_lt sink (sinks_below count pattern from)) [
        | inl before ↦ absurd (omega (arith, sink_before count pattern below from sink before, this, on))
        | inr behind ↦ behind
      ] in
      let inside : sink < sinks_below count pattern to = elim (cases_lt sink (sinks_below count pattern to)) [
        | inl before ↦ before
        | inr behind ↦ absurd (omega (arith, sink_behind count pattern below to sink behind, this, lower))
      ] in
      subst Good this (clear sink begun inside)
]

module _ {X : Type 0} (net : Net) (Good : ℕ → Type 0) (number : X → ℕ) (Shows : X → Type 0) where
  -- what is known of sinks that are given by the numbers of demands
  pub first_of : (pattern begin end from limit : ℕ) (found : Option X) → begin ≡ sinks_below (length net.patterns) pattern from
      → end ≡ sinks_below (length net.patterns) pattern limit → IsFirstOf net Good number Shows pattern begin end found
      → IsFirstOf net Good number Shows pattern (sinks_below (length net.patterns) pattern from) (sinks_below (length net.patterns) pattern limit) found
  first_of pattern begin end from limit found begun ended is =
      let Begun : ℕ → Type 0 = λ n. IsFirstOf net Good number Shows pattern n end found in
      let Ended : ℕ → Type 0 = λ n. IsFirstOf net Good number Shows pattern (sinks_below (length net.patterns) pattern from) n found in
      subst Ended ended (subst Begun begun is)

  module _ (pattern : ℕ) (below : pattern < length net.patterns) (from to : ℕ) where
    -- the first failure stays, where no demand of this pattern below it fails
    pub first_kept : (first : Option X) → IsFirstBefore net Good number Shows from to pattern first
        → AreClear net Good pattern (sinks_below (length net.patterns) pattern from) (sinks_below (length net.patterns) pattern (limit_of number to first))
        → IsFirstBefore net Good number Shows from to (pattern + 1) first
    first_kept None is clear = good_more net Good pattern below from to is clear
    first_kept (Some failure) is clear = record {
      from_on = is.from_on;
      within = is.within;
      before = good_more net Good pattern below from (number failure) is.before clear;
      shown = is.shown;
    }

    -- the demands below a limit were gone through
    good_below : (first : Option X) (limit : ℕ) → limit ≤ limit_of number to first → IsFirstBefore net Good number Shows from to pattern first
        → AreGoodBefore net Good from limit pattern
    good_below None limit few is = λ demand on lower which. is demand on (omega (arith, lower, few)) which
    good_below (Some failure) limit few is = λ demand on lower which. is.before demand on (omega (arith, lower, few)) which

    -- so a failure with this pattern below it is the first
    pub first_found : (first : Option X) (sink : ℕ) (failure : X) → limit_of number to first ≤ to → IsFirstBefore net Good number Shows from to pattern first
        → IsFirstAt net Good number Shows pattern (sinks_below (length net.patterns) pattern from)
        (sinks_below (length net.patterns) pattern (limit_of number to first)) sink failure
        → IsFirst net Good number Shows from to (pattern + 1) failure
    first_found first sink failure few is at =
        let count = length net.patterns in
        let lower : number failure < limit_of number to first = omega (arith, sink_before count pattern below (limit_of number to first) sink at.within, at.demand) in
        let clear : AreClear net Good pattern (sinks_below count pattern from) (sinks_below count pattern (number failure)) =
        λ other on before.
        let earlier = sink_before count pattern below (number failure) other before in
        at.before other on (elim (cases_lt other sink) [
          | inl first ↦ first
          | inr behind ↦
              let most : sink * count ≤ other * count = mul-le-mul_right count behind in
              absurd (omega (arith, earlier, at.demand, most))
        ]) in
        record {
          from_on = omega (arith, sink_behind count pattern below from sink at.from_on, at.demand);
          within = omega (arith, lower, few);
          before = good_more net Good pattern below from (number failure) (good_below first (number failure) (omega (arith, lower)) is) clear;
          shown = at.shown;
        }

  -- no failure that is known is behind the last demand
  pub limit_within : (from to pattern : ℕ) (first : Option X) → IsFirstBefore net Good number Shows from to pattern first → limit_of number to first ≤ to
  limit_within from to pattern None is = omega arith
  limit_within from to pattern (Some failure) is = omega (arith, is.within)

  -- no pattern was gone through yet
  pub first_none : (from to : ℕ) → IsFirstBefore net Good number Shows from to 0 None
  first_none from to = λ demand on lower which. absurd (omega (arith, which))

  -- after the last pattern the first failure is that of all the demands
  pub first_last : (from to pattern : ℕ) (first : Option X) → to ≤ demand_count net → length net.patterns ≤ pattern
      → IsFirstBefore net Good number Shows from to pattern first → IsFirstIn Good number Shows from to first
  first_last from to pattern None few all is =
      λ demand on lower. is demand on lower (omega (arith, pattern_place_within net demand (omega (arith, lower, few)), all))
  first_last from to pattern (Some failure) few all is = record {
    from_on = is.from_on;
    within = is.within;
    before = λ earlier on lower. is.before earlier on lower
        (omega (arith, pattern_place_within net earlier (omega (arith, lower, is.within, few)), all));
    shown = is.shown;
  }
