use Rattle.std.specs.Prelude.{◌++◌, List, ℕ, map}
use Rattle.std.proofs.Common.{ap, sym, ◌∙◌}
use Rattle.linear_algebra.specs.Elements.{numbers}
use Rattle.lif_compiler.specs.ReadOff.{row_of_entries}
use Rattle.lif_compiler.proofs.ReadOffLaws.{entries_of_paths-more}
use Rattle.lif_compiler.specs.declared.decoding.PlacedLink.{PlacedLink}
use Rattle.lif_compiler.proofs.decoding.entries_of.Goals as goal

pub loop-row-preserved : goal.loop-row-preserved
loop-row-preserved g c =
    let inverses = map (numbers g.F.Field.number) c.args.inverses.now.rows in
    let paths = map (λ (one : PlacedLink). one.path) c.args.sorted.now in
    record {
      value = c.in_ok-push_row.ensures.added ∙ ap (λ (l : List ℕ). l ++ row_of_entries inverses paths c.loop-row.row) c.loop-row.invariant.value
          ∙ sym (entries_of_paths-more inverses paths c.loop-row.row);
      below = c.in_ok-push_row.ensures.below;
    }
