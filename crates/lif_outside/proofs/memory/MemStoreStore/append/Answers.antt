-- The file that was lent is set to what it held and what was added, and no other path changes.
use Rattle.std.proofs.Common.{◌≡◌, [], Some, ◌++◌, ap, ◌∙◌, arith, rules}
use Rattle.std.specs.Prelude.{unwrap_or}
use Rattle.std.proofs.lemmas.Grind.{common_steps}
use Rattle.lif_outside.specs.Counts.{one_more}
use Rattle.lif_outside.specs.Memory.{contents, files_in, SetsFile}
use Rattle.lif_outside.proofs.Contents.{set_writes, append_sets}
use Rattle.lif_outside.proofs.MemoryCalls.{append_done, append_fails}
use Rattle.lif_outside.proofs.memory.MemStoreStore.append.Goals as goal
use Rattle.lif_outside.proofs.memory.MemStoreStore.append.Goals.{After-add_bytes-added}

found : (c : After-add_bytes-added) → contents c.count_call-listed.new.self.files c.args.path.now ≡ Some c.in-Some.file.now.items
found c = search rules

-- what the files are, where `more` was added
adds : (c : After-add_bytes-added) (more : _) → c.add_bytes-added.new.file.items ≡ c.in-Some.file.now.items ++ more
    → SetsFile c.args.path.now (unwrap_or (files_in c.args.self.now c.args.path.now) [] ++ more) (files_in c.args.self.now) (contents (c.get_mut.follows.lender c.add_bytes-added.new.file))
adds c more is =
    let file = c.add_bytes-added.new.file in
    let set = set_writes _ _ c.count_call-listed.new.self.files (c.get_mut.follows.lender file) file is ((c.get_mut.follows.holds file).3 (search rules)) in
    append_sets _ _ more _ _ _ c.count_call-listed.ensures.files (found c) set

pub returns-then-is_some-clause-call : goal.returns-then-is_some-clause-call
returns-then-is_some-clause-call c =
    let part = c.add_bytes-added.ensures.prefix in
    append_fails c.args.self.now _ c.args.path.now c.args.bytes.now part.0 (adds (goal.at-returns-then-is_some-clause-call c).After-add_bytes-added _ part.1) (omega arith)
    (c.failed.ensures.after ∙ ap one_more c.count_call-listed.ensures.faults)

pub returns-clause-call : goal.returns-clause-call
returns-clause-call c =
    let all : c.add_bytes-added.new.file.items ≡ c.in-Some.file.now.items ++ c.args.bytes.now = grind (arith, common_steps) in
    append_done c.args.self.now _ c.args.path.now c.args.bytes.now (adds (goal.at-returns-clause-call c).After-add_bytes-added _ all) (omega arith)
