-- What `send` is given, by what its functions are given.
use Rattle.std.proofs.Common.{◌≡◌, ℕ, Bool, true, false, List, None, Option, Some, cond, length, nat_lt, refl, sym, ap, subst, ◌∙◌}
use Rattle.std.proofs.lemmas.Bool.{ltb-true}
use Rattle.std.proofs.lemmas.Option.{none-some, same_Some}
use Rattle.std.specs.List.{position_or_len}
use Rattle.std.specs.Prelude.{◌<◌, unwrap_or}
use Rattle.std.specs.Str.{bytes_eq}
use Rattle.node_program.specs.declared.code.Code.{Code}
use Rattle.top_base.specs.Given.{given_in}
use Rattle.top_base.specs.Named.{pattern_named}
use Rattle.top_base.specs.Words.{Send}
use Rattle.top_base.specs.Paths.{output_paths}
use Rattle.top_runs.specs.Send.Given.{outputs_of, pattern_in, pattern_of}
use Rattle.top_base.specs.declared.words.SendWords.{SendWords}

module _ (words : SendWords) (code at_hand : Code) where
  -- the pattern of a name, by that of the code at hand
  pub named_in : (name : List ℕ) (found : Option ℕ) → at_hand ≡ code → name ≡ words.pattern.now → found ≡ pattern_named at_hand.net name
      → pattern_of (given_in words) code ≡ found
  named_in name found is same finds =
      sym (finds ∙ ap (pattern_named at_hand.net) same
      ∙ ap (λ code. pattern_named code.net words.pattern.now) is)

  -- the paths of the sinks' files, by the code at hand
  pub paths_in : (paths : List (List ℕ)) → at_hand ≡ code → paths ≡ output_paths words.prefix.now at_hand.net → paths ≡ outputs_of (given_in words) code
  paths_in paths is are = are ∙ ap (λ code. output_paths words.prefix.now code.net) is

-- the pattern of a code at work, where it is the one that is named
pub pattern-at_work : (send : Send) (code : Code) (pattern : ℕ) → pattern_of send code ≡ Some pattern → pattern ≡ pattern_in send code
pattern-at_work send code pattern named = sym (ap (λ (found : Option ℕ). unwrap_or found 0) named)

-- and it is one of the code's
pub pattern-within : (send : Send) (code : Code) (pattern : ℕ) → pattern_of send code ≡ Some pattern → pattern < length code.net.patterns
pattern-within send code pattern named = by_test _ refl named
  where
    first : ℕ
    first = position_or_len (λ pattern. bytes_eq pattern.name send.pattern) code.net.patterns

    by_test : (within : Bool) → nat_lt first (length code.net.patterns) ≡ within → cond within (Some first) None ≡ Some pattern
        → pattern < length code.net.patterns
    by_test true within same = subst (λ n. n < length code.net.patterns) (same_Some first pattern same) (ltb-true _ _ within)
    by_test false beyond none = absurd (none-some pattern none)
