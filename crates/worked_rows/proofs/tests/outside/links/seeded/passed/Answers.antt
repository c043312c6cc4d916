use Rattle.std.proofs.Common.{arith, refl}
use Rattle.lif_outside.specs.Seeded.{always, held_by}
use Rattle.worked_rows.proofs.tests.RoomLaws.{room-put, room-taken}
use Rattle.worked_rows.proofs.tests.outside.links.seeded.passed.Goals as goal

pub put-requires : goal.put-requires
put-requires c =
    room-taken (always c.args.links.now) c.in-Ok-Some.flight c.in-Ok-Some.field-0 (held_by c.args.links.now) (held_by c.take.new.self)
    c.in-Ok-Some.field-0-is c.in-Ok-Some.ensures.call.follows refl c.requires

pub returns-in-Ok : goal.returns-in-Ok
returns-in-Ok c =
    let room = room-taken (always c.args.links.now) c.in-Ok-Some.flight c.in-Ok-Some.field-0 (held_by c.args.links.now) (held_by c.take.new.self)
    c.in-Ok-Some.field-0-is c.in-Ok-Some.ensures.call.follows refl c.requires in
    omega (
      arith,
      room-put (always c.take.new.self) _ 1 (held_by c.take.new.self) (held_by c.put.new.self) c.in-Ok.ensures.call.follows
          (omega arith) (omega (arith, room)),
    )
