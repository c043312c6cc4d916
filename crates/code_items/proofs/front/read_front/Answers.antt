use Rattle.std.proofs.Common.{◌≡◌, length, Ok, refl}
use Rattle.std.proofs.lemmas.Result.{err_from_is_err_and}
use Rattle.code_items.specs.Reading.{front_at, links_at, source_at, sinks_at, patterns_at}
use Rattle.code_items.specs.Gives.{Fails, left_of}
use Rattle.code_items.proofs.front.read_front.Goals as goal

pub returns-in_err-source : goal.returns-in_err-source
unfolding front_at
returns-in_err-source c =
    let p = err_from_is_err_and c.from_residual-in_err-source.result c.from_residual-in_err-source.ensures.1 in
    let links : links_at (length c.in_ok-nodes.nodes) (left_of c.in_ok-nodes.rest) ≡ Ok (c.in_ok-links.links, left_of c.in_ok-links.rest) = rw (← c.len.ensures) c.in_ok-links.ensures in
    let fails : Fails c.in_err-source.field-0.0 (source_at (length c.in_ok-nodes.nodes) (left_of c.in_ok-links.rest)) = rw (← c.len-2.ensures) c.in_err-source.ensures.gives in
    rw (p.1, p.2) (λ other. rw (c.in_ok-field.ensures, c.in_ok-rate.ensures.gives, c.in_ok-nodes.ensures, links, fails other) refl)

pub returns-in_err-sinks : goal.returns-in_err-sinks
unfolding front_at
returns-in_err-sinks c =
    let p = err_from_is_err_and c.from_residual-in_err-sinks.result c.from_residual-in_err-sinks.ensures.1 in
    let links : links_at (length c.in_ok-nodes.nodes) (left_of c.in_ok-nodes.rest) ≡ Ok (c.in_ok-links.links, left_of c.in_ok-links.rest) = rw (← c.len.ensures) c.in_ok-links.ensures in
    let source : source_at (length c.in_ok-nodes.nodes) (left_of c.in_ok-links.rest) ≡ Ok (c.in_ok-source.source, left_of c.in_ok-source.rest) = rw (← c.len-2.ensures) c.in_ok-source.ensures.gives in
    let fails : Fails c.in_err-sinks.field-0.0 (sinks_at (length c.in_ok-nodes.nodes) c.in_ok-source.source (left_of c.in_ok-source.rest)) = rw (← c.len-3.ensures) c.in_err-sinks.ensures.gives in
    rw (p.1, p.2) (λ other. rw (c.in_ok-field.ensures, c.in_ok-rate.ensures.gives, c.in_ok-nodes.ensures, links, source, fails other) refl)

pub returns-in_err-patterns : goal.returns-in_err-patterns
unfolding front_at
returns-in_err-patterns c =
    let p = err_from_is_err_and c.from_residual-in_err-patterns.result c.from_residual-in_err-patterns.ensures.1 in
    let links : links_at (length c.in_ok-nodes.nodes) (left_of c.in_ok-nodes.rest) ≡ Ok (c.in_ok-links.links, left_of c.in_ok-links.rest) = rw (← c.len.ensures) c.in_ok-links.ensures in
    let source : source_at (length c.in_ok-nodes.nodes) (left_of c.in_ok-links.rest) ≡ Ok (c.in_ok-source.source, left_of c.in_ok-source.rest) = rw (← c.len-2.ensures) c.in_ok-source.ensures.gives in
    let sinks : sinks_at (length c.in_ok-nodes.nodes) c.in_ok-source.source (left_of c.in_ok-source.rest) ≡ Ok (c.in_ok-sinks.sinks, left_of c.in_ok-sinks.rest) = rw (← c.len-3.ensures) c.in_ok-sinks.ensures.gives in
    let fails : Fails c.in_err-patterns.field-0.0 (patterns_at (length c.in_ok-links.links) (length c.in_ok-sinks.sinks) (left_of c.in_ok-sinks.rest)) = rw (← c.len-4.ensures, ← c.len-5.ensures) c.in_err-patterns.ensures.gives in
    rw (p.1, p.2) (λ other. rw (c.in_ok-field.ensures, c.in_ok-rate.ensures.gives, c.in_ok-nodes.ensures, links, source, sinks, fails other) refl)

pub returns : goal.returns
unfolding front_at
returns c =
    let links : links_at (length c.in_ok-nodes.nodes) (left_of c.in_ok-nodes.rest) ≡ Ok (c.in_ok-links.links, left_of c.in_ok-links.rest) = rw (← c.len.ensures) c.in_ok-links.ensures in
    let source : source_at (length c.in_ok-nodes.nodes) (left_of c.in_ok-links.rest) ≡ Ok (c.in_ok-source.source, left_of c.in_ok-source.rest) = rw (← c.len-2.ensures) c.in_ok-source.ensures.gives in
    let sinks : sinks_at (length c.in_ok-nodes.nodes) c.in_ok-source.source (left_of c.in_ok-source.rest) ≡ Ok (c.in_ok-sinks.sinks, left_of c.in_ok-sinks.rest) = rw (← c.len-3.ensures) c.in_ok-sinks.ensures.gives in
    let patterns : patterns_at (length c.in_ok-links.links) (length c.in_ok-sinks.sinks) (left_of c.in_ok-sinks.rest) ≡ Ok (c.in_ok-patterns.patterns, left_of c.in_ok-patterns.rest) = rw (← c.len-4.ensures, ← c.len-5.ensures) c.in_ok-patterns.ensures.gives in
    rw (c.in_ok-field.ensures, c.in_ok-rate.ensures.gives, c.in_ok-nodes.ensures, links, source, sinks, patterns) refl
