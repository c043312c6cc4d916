use Rattle.std.proofs.Common.{◌≡◌, ◌+◌, ◌++◌, ◌∙◌, ◌∷◌, [], All, ap, length, sym, subst}
use Rattle.std.proofs.lemmas.List.{length_push}
use Rattle.std.proofs.lemmas.List.Elements.{All-push}
use Rattle.due_sums.specs.Counts.{IsFresh}
use Rattle.due_sums.proofs.due_sums.fresh_tables.Goals as goal

pub loop-preserved : goal.loop-preserved
loop-preserved c =
    let tables = c.loop.tables.items in
    let table = c.in_ok-new.field-0 in
    let pushed : c.push.new.self.items ≡ tables ++ table ∷ [] = c.in_ok-push.ensures.items in
    let Fresh = IsFresh c.args.inputs c.args.groups.now in
    record {
      count = ap length pushed ∙ length_push tables table ∙ ap (λ n. n + 1) c.loop.invariant.count;
      fresh = subst (All Fresh) (sym pushed) (All-push Fresh tables table c.loop.invariant.fresh c.in_ok-new.ensures);
    }
