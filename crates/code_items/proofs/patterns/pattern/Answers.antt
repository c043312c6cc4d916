use Rattle.std.proofs.Common.{refl}
use Rattle.std.proofs.lemmas.Result.{err_from_is_err_and}
use Rattle.code_items.specs.Reading.{pattern_at}
use Rattle.code_items.specs.Gives.{left_of}
use Rattle.code_items.proofs.Named.{named_pattern}
use Rattle.code_items.proofs.patterns.pattern.Goals as goal

pub returns-in_err-name-clause-gives : goal.returns-in_err-name-clause-gives
unfolding pattern_at
returns-in_err-name-clause-gives c = λ earlier same.
    let p = err_from_is_err_and c.from_residual.result c.from_residual.ensures.1 in
    rw (p.1, p.2) (λ other. rw (named_pattern (left_of c.args.rest) earlier c.args.names.now same, c.in_err-name.ensures.gives other) refl)

pub returns-in_err-count-clause-gives : goal.returns-in_err-count-clause-gives
unfolding pattern_at
returns-in_err-count-clause-gives c = λ earlier same.
    let p = err_from_is_err_and c.from_residual-in_err-count.result c.from_residual-in_err-count.ensures.1 in
    rw (p.1, p.2) (λ other. rw (named_pattern (left_of c.args.rest) earlier c.args.names.now same, c.in_ok-name.ensures.gives, c.in_err-count.ensures.gives other) refl)

pub returns-in_err-failed-clause-gives : goal.returns-in_err-failed-clause-gives
unfolding pattern_at
returns-in_err-failed-clause-gives c = λ earlier same.
    let p = err_from_is_err_and c.from_residual-in_err-failed.result c.from_residual-in_err-failed.ensures.1 in
    rw (p.1, p.2) (λ other. rw (named_pattern (left_of c.args.rest) earlier c.args.names.now same, c.in_ok-name.ensures.gives, c.in_ok-count.ensures.gives, c.in_err-failed.ensures other) refl)

pub returns-clause-gives : goal.returns-clause-gives
unfolding pattern_at
returns-clause-gives c = λ earlier same. rw (named_pattern (left_of c.args.rest) earlier c.args.names.now same, c.in_ok-name.ensures.gives, c.in_ok-count.ensures.gives, c.in_ok-failed.ensures, c.of-links.ensures) refl
