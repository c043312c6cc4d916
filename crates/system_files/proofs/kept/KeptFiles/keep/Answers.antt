use Rattle.std.proofs.Common.{◌≡◌, None, string_bytes}
use Rattle.system_files.specs.Kept.{handle_of}
use Rattle.system_files.proofs.Handles.{none_stays, then_same, one_set, others_set}
use Rattle.system_files.proofs.kept.KeptFiles.keep.Goals as goal

pub returns-in-Ok-clause-kept : goal.returns-in-Ok-clause-kept
returns-in-Ok-clause-kept g c =
    let made = c.make_room.new.self in
    let none : handle_of made c.args.path.now ≡ None = none_stays c.requires (c.make_room.ensures c.args.path.now) in
    let same : string_bytes c.in-Ok.path ≡ c.args.path.now = c.in-Ok.ensures.ok in
    rw same at (one_set made.files c.insert-kept.new.self c.insert-kept.result c.in-Ok.path c.args.handle c.insert-kept.ensures.updates c.insert-kept.ensures.err (rw same none))

pub returns-in-Ok-clause-others : goal.returns-in-Ok-clause-others
returns-in-Ok-clause-others g c = λ other apart.
    let made = c.make_room.new.self in
    let same : string_bytes c.in-Ok.path ≡ c.args.path.now = c.in-Ok.ensures.ok in
    then_same (c.make_room.ensures other)
    (others_set made.files c.insert-kept.new.self c.insert-kept.result c.in-Ok.path c.args.handle c.insert-kept.ensures.updates c.insert-kept.ensures.err other (rw same apart))
