use Rattle.std.proofs.Common.{◌≡◌, Option, Some, IfSome, ap, sym, subst, ◌∙◌}
use Rattle.std.specs.Option.{option_map}
use Rattle.net_reader.specs.Said.{statement_in}
use Rattle.net_reader.specs.Statements.{Statement, statement_of}
use Rattle.net_reader.specs.Words.{texts_of}
use Rattle.net_reader.proofs.WordsSaid.{IsCounted-within_limits, IsWithinLimits, IsWithinLimits-statement_of}
use Rattle.net_reader.proofs.reading.read_words.Goals as goal

pub note-requires-clause-counted : goal.note-requires-clause-counted
note-requires-clause-counted c =
    let first = c.in-Some.first.now.now in
    let rest = texts_of c.in-Some.rest.now in
    let said : Some (statement_in c.in-Some-statement_of.said) ≡ statement_of first rest = ap (option_map statement_in) (sym c.in-Some-statement_of.is) ∙ c.statement_of.ensures in
    IsCounted-within_limits (statement_in c.in-Some-statement_of.said) (subst (λ (found : Option Statement). IfSome found IsWithinLimits) (sym said) (IsWithinLimits-statement_of first rest))
