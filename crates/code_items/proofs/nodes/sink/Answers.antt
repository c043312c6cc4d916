use Rattle.code_items.proofs.nodes.sink.Goals as goal

pub returns-clause-marked : goal.returns-clause-marked
returns-clause-marked c = c.mark.ensures c.args.nodes c.args.earlier.now c.requires
