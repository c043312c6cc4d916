use Rattle.std.proofs.Common.{[], subst, rules}
use Rattle.lif_outside.specs.Memory.{contents, SetsFile}
use Rattle.lif_outside.proofs.Contents.{set_writes, insert_writes}
use Rattle.lif_outside.proofs.memory.parts.empty_file.Goals as goal

pub returns-in-Some-clause-ok : goal.returns-in-Some-clause-ok
returns-in-Some-clause-ok c =
    let file = c.clear.new.self in
    set_writes _ _ c.args.files.now (c.get_mut.follows.lender file) file c.clear.ensures.items ((c.get_mut.follows.holds file).3 (search rules))

pub returns-clause-ok : goal.returns-clause-ok
returns-clause-ok c =
    subst (λ old. SetsFile c.args.path.now [] (contents old) (contents c.insert.new.self)) c.get_mut.follows.holds-at-none (insert_writes c.in_ok-from_str.field-0 _ _ c.get_mut.follows.lender-at-none c.insert.new.self c.new.result c.in_ok-from_str.ensures.ok c.new.ensures.items c.in_ok-insert.ensures.updates)
