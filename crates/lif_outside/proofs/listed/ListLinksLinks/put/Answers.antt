use Rattle.std.specs.Prelude.{Some}
use Rattle.std.proofs.Common.{refl, sym}
use Rattle.std.proofs.lemmas.Bool.{false≢true}
use Rattle.std.proofs.lemmas.List.{append-nil}
use Rattle.std.proofs.Math.Nat.{le_refl}
use Rattle.lif_outside.specs.Listed.{held_in, sent_in, given_in, faults_in, faithful_ones}
use Rattle.lif_outside.specs.MoveLaws.{one_move, is_put}
use Rattle.lif_outside.specs.Moves.{put}
use Rattle.lif_outside.specs.ToldLaws.{becomes_told, becomes_same}
use Rattle.lif_outside.proofs.PushLaws.{pushed}
use Rattle.lif_outside.proofs.listed.ListLinksLinks.put.Goals as goal

pub returns-clause-call : goal.returns-clause-call
returns-clause-call c =
    one_move held_in faithful_ones faults_in sent_in given_in (put (record { link = c.args.link; frame = c.args.frame.now })) c.args.self.now _
    (is_put _ _ _ (pushed _ _ _ _ c.push-2.ensures.items c.if-is_err-2.ensures.negation) refl (record { same_room = refl; same_seed = refl }))
    refl (becomes_told (pushed _ _ _ _ c.push.ensures.items c.if-is_err.ensures.negation)) (becomes_same {f = Some c.args.self.now.given.items} (λ held. sym (append-nil held))) (le_refl c.args.self.now.faults) (λ is. absurd (false≢true is)) (λ is. refl)
