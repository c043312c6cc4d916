use Rattle.std.specs.Prelude.{◌≡◌, ◌<◌, ◌++◌, ◌∷◌, [], List, ℕ, length, map, slice_index, slice_index_or, take}
use Rattle.std.proofs.Common.{arith, ap, sym, subst, ◌∙◌, get_or, append_assoc}
use Rattle.std.proofs.lemmas.List.Elements.{All-push, All-same}
use Rattle.linear_algebra.specs.Elements.{numbers}
use Rattle.lif_compiler.specs.ReadOff.{row_of_entries}
use Rattle.lif_compiler.proofs.ReadOffLaws.{entry_number, row_of_entries-more}
use Rattle.lif_compiler.specs.declared.decoding.PlacedLink.{PlacedLink}
use Rattle.lif_compiler.proofs.decoding.push_row.Goals as goal

pub loop-one-preserved : goal.loop-one-preserved
loop-one-preserved g c =
    let sorted = c.args.sorted.now in
    let rows = c.args.inverses.now.rows in
    let inverses = map (numbers g.F.Field.number) rows in
    let row = c.args.row in
    let k = c.loop-one.one-index in
    let none : PlacedLink = record { link = 0; path = 0 } in
    let path = (get_or sorted k none).path in
    let before = row_of_entries inverses (map (λ (one : PlacedLink). one.path) (take k sorted)) row in
    let x = c.number.result in
    let below = c.requires.paths k none c.loop-one-test.true in
    let wide : row < length (get_or rows path []) = subst (λ (l : List g.row.F.Denot). row < length l) c.row-inverse.ensures.value (omega (arith, c.row-inverse.ensures.width, c.requires.row)) in
    let here : c.index-inverse-row.result ≡ get_or (get_or rows path []) row c.index-inverse-row.result =
    c.index-inverse-row.is ∙ ap (λ (l : List g.row.F.Denot). get_or l row c.index-inverse-row.result) c.row-inverse.ensures.value in
    let value : slice_index (slice_index_or inverses path []) row ≡ x =
    entry_number g.F.Field.number rows path row c.index-inverse-row.result below wide here ∙ sym c.number.ensures.value in
    let Small : ℕ → Type 0 = λ entry. entry < g.F.Field.SIZE in
    let small : x < g.F.Field.SIZE =
    subst Small (sym c.number.ensures.value) (g.met.F.Field.number_below c.index-inverse-row.result c.number.ensures.element) in
    record {
      added = c.in_ok-push.ensures.items ∙ ap (λ (l : List ℕ). l ++ x ∷ []) c.loop-one.invariant.added
          ∙ append_assoc c.args.entries.now.items before (x ∷ [])
          ∙ ap (λ (l : List ℕ). c.args.entries.now.items ++ l) (ap (λ y. before ++ y ∷ []) (sym value) ∙ sym (row_of_entries-more inverses sorted k row none c.loop-one-test.true));
      below = All-same Small c.push.new.self.items (c.loop-one.entries.items ++ x ∷ []) c.in_ok-push.ensures.items
          (All-push Small c.loop-one.entries.items x c.loop-one.invariant.below small);
    }
