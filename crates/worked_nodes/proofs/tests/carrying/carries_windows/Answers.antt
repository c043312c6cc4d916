use Rattle.std.specs.Prelude.{◌≤◌}
use Rattle.std.proofs.Common.{◌∙◌, arith, refl, subst}
use Rattle.coded_traffic.specs.Traffic.{room_for}
use Rattle.node_program.specs.declared.code.Code.{Code}
use Rattle.worked_nodes.proofs.tests.carrying.carries_windows.Goals as goal

-- a window more
pub windows-preserved : goal.windows-preserved
windows-preserved g c =
    let before = c.windows.invariant in
    let after = c.if-not-carries_window.ensures in
    record {
      same_code = after.code ∙ before.same_code;
      works = after.works refl;
      nothing_flies = after.nothing_flies refl;
      room = subst (λ (code : Code). room_for code ≤ g.K.Links.room c.carries_window.new.links) before.same_code (after.room refl);
      next = omega (arith, after.next, before.next);
    }
