use Rattle.std.specs.Prelude.{◌≡◌, ◌≤◌, []}
use Rattle.std.proofs.Common.{subst, sym}
use Rattle.coded_traffic.specs.Traffic.{room_for}
use Rattle.node_program.specs.declared.code.Code.{Code}
use Rattle.worked_nodes.proofs.tests.OpenedLaws.{just_opened}
use Rattle.worked_nodes.proofs.tests.faults.is_carried.Goals as goal
use Rattle.worked_nodes.proofs.tests.faults.is_carried.Goals.{In-Ok}

-- the links were just opened
opened_here : (g : _) (c : In-Ok g)
    → (g.K.Links.flying c.open.new.links ≡ []) × (room_for c.args.checked.now ≤ g.K.Links.room c.open.new.links)
opened_here g c =
    just_opened g.K.Links 0 (room_for c.args.checked.now) c.args.links.now c.open.new.links g.met.K.Links.accounts c.in-Ok.ensures.opened

pub carry-requires-clause-nothing_flies : goal.carry-requires-clause-nothing_flies
carry-requires-clause-nothing_flies g c = (opened_here g (goal.at.carry-requires-clause-nothing_flies g c).In-Ok).0

pub carry-requires-clause-room : goal.carry-requires-clause-room
carry-requires-clause-room g c =
    subst (λ (code : Code). room_for code ≤ g.K.Links.room c.open.new.links) (sym c.in-Ok.ensures.code)
    (opened_here g (goal.at.carry-requires-clause-room g c).In-Ok).1
