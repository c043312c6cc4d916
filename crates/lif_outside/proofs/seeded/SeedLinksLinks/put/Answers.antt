use Rattle.std.proofs.Common.{refl}
use Rattle.std.proofs.Math.Nat.{le_refl}
use Rattle.lif_outside.specs.MoveLaws.{one_move, is_put}
use Rattle.lif_outside.specs.Seeded.{held_by, no_faults, always, untold}
use Rattle.lif_outside.specs.ToldLaws.{becomes_untold}
use Rattle.lif_outside.proofs.PushLaws.{pushed}
use Rattle.lif_outside.proofs.seeded.SeedLinksLinks.put.Goals as goal

pub returns-clause-call : goal.returns-clause-call
returns-clause-call c =
    one_move held_by always no_faults untold untold _ _ _
    (is_put _ _ _ (pushed _ _ _ _ c.push.ensures.items c.if-is_err.ensures.negation) refl (record { same_room = refl; same_seed = refl }))
    refl becomes_untold becomes_untold (le_refl 0) (λ is. absurd cc) (λ is. refl)
