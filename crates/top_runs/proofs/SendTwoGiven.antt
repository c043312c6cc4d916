-- What `sendtwo` is given, by what its functions are given.
use Rattle.std.proofs.Common.{◌≡◌, ℕ, Bool, true, false, List, None, Option, Some, cond, length, nat_lt, arith, inl, inr, refl, sym, ap, subst, ◌∙◌}
use Rattle.std.proofs.lemmas.Bool.{ltb-true}
use Rattle.std.proofs.lemmas.Option.{none-some, same_Some}
use Rattle.std.specs.List.{position_or_len}
use Rattle.std.specs.Prelude.{◌⊎◌, ◌≤◌, ◌<◌, unwrap_or}
use Rattle.std.specs.Str.{bytes_eq}
use Rattle.node_program.specs.declared.code.Code.{Code}
use Rattle.source_delivery.proofs.Triples.{subst-three}
use Rattle.source_delivery.specs.Delivery.{outputs_in}
use Rattle.source_delivery.specs.Reading.{Source, source_of}
use Rattle.source_delivery.specs.Turns.{Outputs}
use Rattle.source_delivery.specs.declared.twin.TwinDelivery.{TwinDelivery}
use Rattle.top_base.specs.Given.{send_two_given_in}
use Rattle.top_base.specs.Named.{pattern_named}
use Rattle.top_base.specs.Paths.{both_paths}
use Rattle.top_base.specs.Words.{SendTwo}
use Rattle.top_base.specs.declared.send_two_words.SendTwoWords.{SendTwoWords}
use Rattle.top_runs.specs.SendTwo.Given.{IsFit, first_of, outputs_of, pattern_in, pattern_of, second_of, sending_of}
use Rattle.top_runs.specs.SendTwo.Ready.{IsReady}

module _ (words : SendTwoWords) (code at_hand : Code) where
  -- the pattern of a name, by that of the code at hand
  pub named_in : (name : List ℕ) (found : Option ℕ) → at_hand ≡ code → name ≡ words.pattern.now → found ≡ pattern_named at_hand.net name
      → pattern_of (send_two_given_in words) code ≡ found
  named_in name found is same finds =
      sym (finds ∙ ap (pattern_named at_hand.net) same
      ∙ ap (λ code. pattern_named code.net words.pattern.now) is)

  -- the paths of the sinks' files, by the code at hand
  pub paths_in : (paths : List (List ℕ)) → at_hand ≡ code → paths ≡ both_paths words.prefix.now at_hand.net → paths ≡ outputs_of (send_two_given_in words) code
  paths_in paths is are = are ∙ ap (λ code. both_paths words.prefix.now code.net) is

-- the pattern of a code at work, where it is the one that is named
pub pattern-at_work : (send : SendTwo) (code : Code) (pattern : ℕ) → pattern_of send code ≡ Some pattern → pattern ≡ pattern_in send code
pattern-at_work send code pattern named = sym (ap (λ (found : Option ℕ). unwrap_or found 0) named)

-- and it is one of the code's
pub pattern-within : (send : SendTwo) (code : Code) (pattern : ℕ) → pattern_of send code ≡ Some pattern → pattern < length code.net.patterns
pattern-within send code pattern named = by_test _ refl named
  where
    first : ℕ
    first = position_or_len (λ pattern. bytes_eq pattern.name send.pattern) code.net.patterns

    by_test : (within : Bool) → nat_lt first (length code.net.patterns) ≡ within → cond within (Some first) None ≡ Some pattern
        → pattern < length code.net.patterns
    by_test true within same = subst (λ n. n < length code.net.patterns) (same_Some first pattern same) (ltb-true _ _ within)
    by_test false beyond none = absurd (none-some pattern none)

-- an R1 that leaves a source no rows isn't fit
pub unfit_at : (send : SendTwo) (code : Code) (rate : ℕ) → rate ≡ code.rate → (send.first_rate ≡ 0) ⊎ (rate ≤ send.first_rate) → ¬ IsFit send code
unfit_at send code rate same (inl none) fit = absurd (omega (arith, fit.some, none))
unfit_at send code rate same (inr beyond) fit = absurd (omega (arith, fit.less, beyond, same))

-- what holds of a delivery's code, pattern, files and sources holds of those that are given, once it is ready
pub as_ready : {F : Type 0} (send : SendTwo) (code : Code) (twin : TwinDelivery F) → IsReady send code twin → (D : Code → ℕ → Outputs → Source → Source → Type 0)
    → D twin.delivery.runner.code twin.delivery.runner.pattern (outputs_in twin.delivery) (source_of twin.first) (source_of twin.second)
    → D code (pattern_in send code) (sending_of send code).outputs (first_of send) (second_of send code)
as_ready send code twin ready D holds =
    let work = twin.delivery.runner in
    subst (λ two. D code (pattern_in send code) (sending_of send code).outputs (first_of send) two) ready.second_is
    (subst (λ one. D code (pattern_in send code) (sending_of send code).outputs one (source_of twin.second)) ready.first_is
    (subst-three (λ code pattern outputs. D code pattern outputs (source_of twin.first) (source_of twin.second))
    ready.at_work (pattern-at_work send code work.pattern ready.pattern) ready.outputs holds))
