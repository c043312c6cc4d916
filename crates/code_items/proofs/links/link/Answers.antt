use Rattle.std.proofs.Common.{map, refl}
use Rattle.std.proofs.lemmas.List.{map_push}
use Rattle.std.proofs.lemmas.Result.{err_from_is_err_and}
use Rattle.code_items.specs.Reading.{link_at}
use Rattle.code_items.specs.Gives.{left_of}
use Rattle.code_items.proofs.Named.{named_link}
use Rattle.code_items.proofs.links.link.Goals as goal

pub returns-in_err-name-clause-gives : goal.returns-in_err-name-clause-gives
unfolding link_at
returns-in_err-name-clause-gives c =
    let p = err_from_is_err_and c.from_residual.result c.from_residual.ensures.1 in
    rw (p.1, p.2) (λ other. rw (named_link (left_of c.args.rest) c.args.earlier.now c.args.names.now c.requires.names, c.in_err-name.ensures.gives other) refl)

pub returns-in_err-tail-clause-gives : goal.returns-in_err-tail-clause-gives
unfolding link_at
returns-in_err-tail-clause-gives c =
    let p = err_from_is_err_and c.from_residual-in_err-tail.result c.from_residual-in_err-tail.ensures.1 in
    rw (p.1, p.2) (λ other. rw (named_link (left_of c.args.rest) c.args.earlier.now c.args.names.now c.requires.names, c.in_ok-name.ensures.gives, c.in_err-tail.ensures.gives other) refl)

pub returns-in_err-head-clause-gives : goal.returns-in_err-head-clause-gives
unfolding link_at
returns-in_err-head-clause-gives c =
    let p = err_from_is_err_and c.from_residual-in_err-head.result c.from_residual-in_err-head.ensures.1 in
    rw (p.1, p.2) (λ other. rw (named_link (left_of c.args.rest) c.args.earlier.now c.args.names.now c.requires.names, c.in_ok-name.ensures.gives, c.in_ok-tail.ensures.gives, c.in_err-head.ensures other) refl)

pub returns-clause-gives : goal.returns-clause-gives
unfolding link_at
returns-clause-gives c =
    rw (named_link (left_of c.args.rest) c.args.earlier.now c.args.names.now c.requires.names, c.in_ok-name.ensures.gives, c.in_ok-tail.ensures.gives, c.in_ok-head.ensures) refl

pub returns-clause-marked : goal.returns-clause-marked
returns-clause-marked c =
    rw (map_push (λ link. link.tail) c.args.earlier.now (record { name = c.in_ok-name.name; tail = c.in_ok-tail.tail; head = c.in_ok-head.head })) (c.mark.ensures c.args.nodes (map (λ link. link.tail) c.args.earlier.now) c.requires.tails)
