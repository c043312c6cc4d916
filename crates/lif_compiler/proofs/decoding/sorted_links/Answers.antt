use Rattle.std.specs.Prelude.{List}
use Rattle.std.specs.List.Sorted.{IsPermutation}
use Rattle.std.proofs.Common.{rules, subst}
use Rattle.std.proofs.lemmas.List.Sorted.{IsNonDecreasingBy-from_sort_by_key}
use Rattle.lif_compiler.proofs.ReadOffLaws.{AreSorted-made}
use Rattle.lif_compiler.specs.declared.decoding.PlacedLink.{PlacedLink}
use Rattle.lif_compiler.proofs.decoding.sorted_links.Goals as goal

pub returns : goal.returns
returns c =
    let sorted = c.sort_unstable_by_key.new.self.items in
    AreSorted-made c.args.frontier.now c.requires.reached sorted c.requires.apart
    (subst (λ (placed : List PlacedLink). IsPermutation placed sorted) c.in_ok-placed.ensures c.sort_unstable_by_key.ensures.permutation)
    (IsNonDecreasingBy-from_sort_by_key (λ (one : PlacedLink). one.link) sorted c.sort_unstable_by_key.ensures.sorted (λ a r q k. search rules))
