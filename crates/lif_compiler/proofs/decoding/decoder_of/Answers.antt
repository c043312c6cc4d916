use Rattle.std.specs.Prelude.{◌<◌, List, All, Option, ℕ, length, map}
use Rattle.std.proofs.Common.{◌≡◌, arith, sym, ap, subst, ◌∙◌}
use Rattle.std.proofs.Math.Path.{ap₂}
use Rattle.std.proofs.lemmas.List.Elements.{All-same}
use Rattle.linear_algebra.specs.Elements.{numbers}
use Rattle.lif_compiler.specs.ReadOff.{AreSorted, entries_of_paths}
use Rattle.lif_compiler.proofs.ReadOffLaws.{IsReadOff-made, paths_below, sorted_count}
use Rattle.lif_compiler.specs.declared.decoding.PlacedLink.{PlacedLink}
use Rattle.lif_compiler.proofs.decoding.decoder_of.Goals as goal

pub entries_of-requires-clause-paths : goal.entries_of-requires-clause-paths
entries_of-requires-clause-paths g c =
    let basis = c.args.basis.now in
    let sorted = c.in_ok-sorted.sorted.items in
    let is : AreSorted basis.frontier sorted = subst (λ (frontier : List (Option ℕ)). AreSorted frontier sorted) c.as_slice.ensures c.in_ok-sorted.ensures in
    let P : PlacedLink → Type 0 = λ one. one.path < length basis.inverses.rows in
    All-same P c.deref-2.result.now sorted c.deref-2.ensures.value
    (subst (λ (n : ℕ). All (λ (one : PlacedLink). one.path < n) sorted) (sym basis.basis.inverses_high) (paths_below basis.frontier c.requires.reached sorted is))

pub entries_of-requires-clause-few_links : goal.entries_of-requires-clause-few_links
entries_of-requires-clause-few_links g c =
    let basis = c.args.basis.now in
    let sorted = c.in_ok-sorted.sorted.items in
    let is : AreSorted basis.frontier sorted = subst (λ (frontier : List (Option ℕ)). AreSorted frontier sorted) c.as_slice.ensures c.in_ok-sorted.ensures in
    let count : length c.deref-2.result.now ≡ length basis.frontier = ap length c.deref-2.ensures.value ∙ sorted_count basis.frontier c.requires.reached sorted is in
    omega (arith, count, basis.few_paths)

pub returns : goal.returns
returns g c =
    let basis = c.args.basis.now in
    let sorted = c.in_ok-sorted.sorted.items in
    let is : AreSorted basis.frontier sorted = subst (λ (frontier : List (Option ℕ)). AreSorted frontier sorted) c.as_slice.ensures c.in_ok-sorted.ensures in
    let inverses = map (numbers g.F.Field.number) basis.inverses.rows in
    IsReadOff-made basis.frontier c.requires.reached sorted is g.F.Field.SIZE inverses c.in_ok-links.links c.in_ok-entries.entries
    (c.in_ok-links.ensures ∙ ap (map (λ (one : PlacedLink). one.link)) c.deref.ensures.value)
    (c.in_ok-entries.ensures.value
    ∙ ap₂ (λ (n : ℕ) (some : List PlacedLink). entries_of_paths n inverses (map (λ (one : PlacedLink). one.path) some)) basis.basis.inverses_wide c.deref-2.ensures.value)
    c.in_ok-entries.ensures.below
