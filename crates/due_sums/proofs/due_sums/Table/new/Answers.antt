use Rattle.std.proofs.Common.{◌∙◌, arith}
use Rattle.due_sums.proofs.TableLaws.{IsFresh-counted, few_inputs}
use Rattle.due_sums.proofs.due_sums.Table.new.Goals as goal

pub count_all-requires-clause-few_inputs : goal.count_all-requires-clause-few_inputs
count_all-requires-clause-few_inputs c = few_inputs c.args.inputs c.args.groups.now c.requires c.ranges.inputs.fits

pub returns : goal.returns
returns c =
    IsFresh-counted c.args.inputs c.args.groups.now c.in_ok-new.field-0 c.in_ok-missing.missing c.count_all.new.missing
    c.in_ok-new.ensures.count c.in_ok-new.ensures.none (c.count_all.auto.missing ∙ c.deref_mut.ensures.len)
    (omega (arith, c.in_ok-missing.ensures.len)) c.count_all.ensures
