use Rattle.std.proofs.Common.{◌≡◌, ◌≤◌, ◌-◌, Some, length, min, sym, ◌∙◌, arith, rules}
use Rattle.lif_outside.specs.Memory.{contents, files_in}
use Rattle.lif_outside.proofs.MemoryCalls.{read_done}
use Rattle.lif_outside.proofs.memory.MemStoreStore.read.Goals as goal

pub returns-clause-call : goal.returns-clause-call
returns-clause-call c =
    let old = c.args.self.now in
    let mid = c.count_call.new.self in
    let found : contents mid.files c.args.path.now ≡ Some c.deref.result.now = search rules in
    let before : files_in old c.args.path.now ≡ Some c.deref.result.now = sym (c.count_call.ensures.files c.args.path.now) ∙ found in
    let count : c.read_part.result ≡ min mid.most (min (length c.args.into.now) (length c.deref.result.now - c.args.at)) = c.read_part.ensures.count in
    let fits : c.read_part.result ≤ length c.read_part.new.into = omega (arith, c.read_part.auto.into, count) in
    read_done old mid c.args.path.now c.args.at (length c.args.into.now) mid.most c.read_part.result c.deref.result.now c.read_part.new.into c.count_call.ensures.files (omega arith) before
    mid.some_room count c.read_part.ensures.front fits
