use Rattle.std.proofs.Common.{◌≡◌, ◌+◌, ℕ, Bool, List, Option, None, Some, length, nat_lt, sym, ap, ◌∙◌}
use Rattle.std.specs.Prelude.{if◌then◌else◌}
use Rattle.std.proofs.lemmas.Bool.{le-ltb, lt-ltb}
use Rattle.std.proofs.lemmas.List.{length-map}
use Rattle.net_model.specs.Limits.{most_listed}
use Rattle.net_model.specs.declared.Pattern.{Pattern}
use Rattle.net_reader.specs.State.{AreTables}
use Rattle.net_reader.specs.Statements.{Statement, link_names, pattern_names, patterns_of}
use Rattle.net_reader.specs.Text.{alone_fault}
use Rattle.net_reader.specs.declared.refusal.ReadRefusal.{ReadRefusal}
use Rattle.net_reader.specs.declared.refusal.ReadRefusal.TheVariants.{PatternNamed, TooManyPatterns}
use Rattle.net_reader.proofs.LinkLines.{next_link}
use Rattle.net_reader.proofs.TextLaws.{pattern_names-patterns_of}
use Rattle.net_reader.proofs.whole.alone_fault.Goals as goal
use Rattle.net_reader.proofs.whole.alone_fault.Goals.{After-len-2}

-- what is wrong with so many patterns
abbrev where_many : ℕ → Bool → Option ReadRefusal
where_many count many = if many then Some (TooManyPatterns count) else None

module _ (c : After-len-2) (statements : List Statement) (tables : AreTables statements c.args.state.now) where
  -- no link is named as a pattern, so what is wrong is a matter of how many there are
  counted : alone_fault statements ≡ where_many (c.len.result + c.len-2.result) (nat_lt most_listed (c.len.result + c.len-2.result))
  counted =
      let count : ℕ = length (pattern_names statements) + length (link_names statements) in
      let patterns : c.len.result ≡ length (pattern_names statements) =
      c.len.ensures ∙ c.args.state.now.patterns.ok.0 ∙ ap length tables.patterns ∙ sym (length-map (patterns_of statements) (λ (pattern : Pattern). pattern.name)) ∙ ap length (pattern_names-patterns_of statements) in
      let links : c.len-2.result ≡ length (link_names statements) = c.len-2.ensures ∙ c.args.state.now.links.ok.0 ∙ next_link statements c.args.state.now tables in
      ap (λ (found : Option ℕ). elim found as (λ x. Option ReadRefusal) [ Some link ↦ Some (PatternNamed link) | None ↦ where_many count (nat_lt most_listed count) ]) (sym (c.first_named.ensures statements tables) ∙ c.in_default.is)
      ∙ (λ i. where_many (sym patterns i + sym links i) (nat_lt most_listed (sym patterns i + sym links i)))

pub returns-then-count-gt-MOST_LISTED : goal.returns-then-count-gt-MOST_LISTED
returns-then-count-gt-MOST_LISTED c = λ statements tables.
    sym (counted (goal.at.returns-then-count-gt-MOST_LISTED c).After-len-2 statements tables ∙ ap (where_many (c.len.result + c.len-2.result)) (lt-ltb _ _ c.if-count-gt-MOST_LISTED.true))

pub returns : goal.returns
returns c = λ statements tables.
    sym (counted (goal.at.returns c).After-len-2 statements tables ∙ ap (where_many (c.len.result + c.len-2.result)) (le-ltb _ _ c.if-count-gt-MOST_LISTED.false))
