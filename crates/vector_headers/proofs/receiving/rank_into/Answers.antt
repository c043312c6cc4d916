use Rattle.std.proofs.Common.{◌≡◌, ◌<◌, ℕ, List, ap, get_or, length, subst, sym, take, ◌∙◌}
use Rattle.std.specs.Prelude.{reverse}
use Rattle.std.proofs.lemmas.List.{take_all}
use Rattle.linear_algebra.specs.Elements.{numbers}
use Rattle.vector_headers.specs.Ranks.{AreAccepted}
use Rattle.vector_headers.specs.Receiving.{rank_over, vectors_over}
use Rattle.vector_headers.specs.Rows.{Holding, rows_of_piece}
use Rattle.vector_headers.proofs.RankLaws.{IsKept-accepted}
use Rattle.vector_headers.proofs.ReceivingLaws.{AreAccepted-came, reverse-more}
use Rattle.vector_headers.proofs.receiving.rank_into.Goals as goal
use Rattle.vector_headers.proofs.receiving.rank_into.Goals.{After-rank}

pub loop-link-preserved : goal.loop-link-preserved
loop-link-preserved g c =
    let fabric = c.args.fabric.now in
    let ins = c.args.ins.now in
    let at = c.loop-link.link-index in
    let old = c.loop-link.blind in
    let new = c.accept.new.self in
    let told = c.accept.ensures in
    let before = c.loop-link.invariant in
    let below : at < length ins = c.loop-link-test.true in
    let field = before.field ∙ c.clear.ensures.field ∙ c.requires.field in
    let rate = before.rate ∙ c.clear.ensures.rate ∙ c.requires.rate in
    let Are : List ℕ → Type 0 = λ links. AreAccepted fabric.code.field fabric.code.rate (vectors_over fabric.code fabric.failed links) (rows_of_piece new 0) in
    record {
      field = told.field ∙ before.field;
      rate = told.rate ∙ before.rate;
      accepted = subst Are (sym (reverse-more ins at below))
          (AreAccepted-came fabric (reverse (take at ins)) (get_or ins at 0) 0 old new c.accept.result (numbers g.F.Field.number c.vector.result.now) field rate c.vector.ensures.value
          (record { raised = told.raised; spans = told.spans; same = λ e. ap (λ (held : Holding). rows_of_piece held 0) (told.same e); count = told.count }) before.accepted);
    }

-- the rank of all links
whole : (g : _) (c : After-rank g) → c.rank.result ≡ rank_over c.args.fabric.now.code c.args.fabric.now.failed c.args.ins.now
whole g c =
    let fabric = c.args.fabric.now in
    let ins = c.args.ins.now in
    let Are : List ℕ → Type 0 = λ links. AreAccepted fabric.code.field fabric.code.rate (vectors_over fabric.code fabric.failed (reverse links)) (rows_of_piece c.loop-link.blind 0) in
    c.rank.ensures.value
    ∙ (IsKept-accepted fabric.code.field fabric.code.rate (vectors_over fabric.code fabric.failed (reverse ins)) (rows_of_piece c.loop-link.blind 0)
    (subst Are (take_all c.loop-link.link-index ins c.loop-link-test.false) c.loop-link.invariant.accepted)).count

pub returns-clause-over : goal.returns-clause-over
returns-clause-over g c = whole g (goal.at.returns-clause-over g c).After-rank

pub returns-clause-into : goal.returns-clause-into
returns-clause-into g c = λ node are.
    let fabric = c.args.fabric.now in
    whole g (goal.at.returns-clause-into g c).After-rank ∙ ap (λ (links : List ℕ). rank_over fabric.code fabric.failed links) are
