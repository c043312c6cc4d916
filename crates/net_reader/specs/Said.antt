-- The statement that a value of the reader is.
use Rattle.std.specs.Prelude.{◌≡◌, Option, option_map}
use Rattle.net_reader.specs.declared.statements.Said.{Said}
use Rattle.net_reader.specs.declared.statements.Said.TheVariants.{Field, Rate, Source, Sink, Link, Pattern, FailEach}
use Rattle.net_reader.specs.Words.{texts_of}
use Rattle.net_reader.specs.Statements.{Statement, field_is, rate_is, source_is, sink_is, link_is, pattern_is, fail_each_is}

abbrev pub statement_in : Said → Statement
statement_in (Field bits) = field_is bits
statement_in (Rate rate) = rate_is rate
statement_in (Source node) = source_is node.now
statement_in (Sink node) = sink_is node.now
statement_in (Link name tail head bundle) = link_is name.now tail.now head.now bundle
statement_in (Pattern name links) = pattern_is name.now (texts_of links.now)
statement_in FailEach = fail_each_is

-- a value of the reader is this statement, if there is one
abbrev pub Says : Option Statement → Option Said → Type 0
Says statement said = option_map statement_in said ≡ statement
