use Rattle.std.proofs.Common.{◌∙◌}
use Rattle.due_sums.proofs.TableLaws.{IsFresh-counted, few_inputs}
use Rattle.due_sums.proofs.due_sums.Table.clear.Goals as goal

pub count_all-requires-clause-few_inputs : goal.count_all-requires-clause-few_inputs
count_all-requires-clause-few_inputs c = few_inputs c.args.inputs c.args.groups.now c.requires.groups c.ranges.inputs.fits

pub returns : goal.returns
returns c =
    let was = c.args.self.now.missing in
    IsFresh-counted c.args.inputs c.args.groups.now c.clear.new.self was c.count_all.new.missing
    (c.clear.ensures.count ∙ c.requires.table.rows) c.clear.ensures.none (c.count_all.auto.missing ∙ c.deref_mut.ensures.len)
    (was.ok.0 ∙ c.requires.table.whole) c.count_all.ensures
