use Rattle.std.specs.Prelude.{◌≡◌, ◌≤◌, []}
use Rattle.std.proofs.Common.{subst, sym}
use Rattle.coded_traffic.specs.Traffic.{room_for}
use Rattle.node_program.specs.declared.code.Code.{Code}
use Rattle.worked_nodes.proofs.tests.OpenedLaws.{just_opened}
use Rattle.worked_nodes.proofs.tests.carrying.carries_over.Goals as goal
use Rattle.worked_nodes.proofs.tests.carrying.carries_over.Goals.{In-Ok-open}

-- the links were just opened
opened_here : (g : _) (c : In-Ok-open g)
    → (g.K.Links.flying c.open.new.links ≡ []) × (room_for c.args.checked.now ≤ g.K.Links.room c.open.new.links)
opened_here g c =
    just_opened g.K.Links c.args.course.seed (room_for c.args.checked.now) c.args.links.now c.open.new.links g.met.K.Links.accounts c.in-Ok-open.ensures.opened

pub carries_windows-requires-clause-nothing_flies : goal.carries_windows-requires-clause-nothing_flies
carries_windows-requires-clause-nothing_flies g c κs within = (opened_here g (goal.at.carries_windows-requires-clause-nothing_flies g c).In-Ok-open).0

pub carries_windows-requires-clause-room : goal.carries_windows-requires-clause-room
carries_windows-requires-clause-room g c κs within =
    subst (λ (code : Code). room_for code ≤ g.K.Links.room c.open.new.links) (sym c.in-Ok-open.ensures.code)
    (opened_here g (goal.at.carries_windows-requires-clause-room g c).In-Ok-open).1
