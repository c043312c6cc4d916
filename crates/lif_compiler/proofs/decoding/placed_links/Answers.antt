use Rattle.std.specs.Prelude.{Option, unwrap_or, ◌++◌, ◌∷◌, [], List, ℕ}
use Rattle.std.proofs.Common.{arith, ap, sym, ◌∙◌}
use Rattle.std.proofs.Math.Path.{ap₂}
use Rattle.std.proofs.lemmas.List.FromFn.{map-range_with_len_more}
use Rattle.lif_compiler.specs.ReadOff.{placed_link}
use Rattle.lif_compiler.specs.declared.decoding.PlacedLink.{PlacedLink}
use Rattle.lif_compiler.proofs.decoding.placed_links.Goals as goal

pub loop-path-preserved : goal.loop-path-preserved
loop-path-preserved c =
    let path = c.loop-path.path in
    let one : Option ℕ → PlacedLink = λ reached. record { link = unwrap_or reached 0; path = path } in
    c.in_ok-push-in-Some.ensures.items
    ∙ ap₂ (λ (l : List PlacedLink) x. l ++ x ∷ []) c.loop-path.invariant (ap one (sym c.in-Some.is))
    ∙ sym (map-range_with_len_more (placed_link c.args.frontier.now) 0 path path (omega arith))
