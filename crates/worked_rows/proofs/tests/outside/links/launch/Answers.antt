use Rattle.std.proofs.Common.{arith}
use Rattle.worked_rows.proofs.tests.RoomLaws.{room-put}
use Rattle.worked_rows.proofs.tests.outside.links.launch.Goals as goal

pub returns-in-Ok : goal.returns-in-Ok
returns-in-Ok g c =
    room-put (g.L.Links.faithful c.args.links.now) _ c.args.free.now _ _ (g.met.L.Links.accounts _ c.args.links.now c.put.new.self c.in-Ok.ensures).follows
    (omega (arith, c.if-free-eq0.false)) c.requires
