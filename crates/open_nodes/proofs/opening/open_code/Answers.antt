use Rattle.open_nodes.proofs.opening.open_code.Goals as goal

pub returns-in-Err : goal.returns-in-Err
returns-in-Err c = c.unread.ensures c.args.bytes.now c.in-Err.ensures.refused c.in-Err.ensures.none
