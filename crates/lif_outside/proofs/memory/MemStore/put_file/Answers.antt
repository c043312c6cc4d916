use Rattle.lif_outside.proofs.Contents.{insert_writes}
use Rattle.lif_outside.proofs.memory.MemStore.put_file.Goals as goal

pub returns-clause-ok : goal.returns-clause-ok
returns-clause-ok c =
    insert_writes c.in_ok-from_str.field-0 _ _ c.args.self.now.files c.insert.new.self c.in_ok-content.content c.in_ok-from_str.ensures.ok c.in_ok-content.ensures.items c.in_ok-insert.ensures.updates
