use Rattle.std.proofs.Common.{ℕ, Bool, List, false, replicate, subst, true}
use Rattle.std.proofs.lemmas.List.{take_all}
use Rattle.net_model.proofs.FailedLaws.{marked-from_none}
use Rattle.net_model.specs.Renumbering.{AreMarked}
use Rattle.vector_headers.proofs.fabric_parts.fail_table.Goals as goal

pub returns-clause-table : goal.returns-clause-table
returns-clause-table c =
    let failed = c.args.failed.now in
    let links = c.args.links in
    let Marked : List ℕ → List Bool → Type 0 = λ listed before. AreMarked listed true before c.loop-link.fails.items in
    let marked : Marked failed c.in_ok-fails.fails.items = subst (λ listed. Marked listed c.in_ok-fails.fails.items) (take_all c.loop-link.link-index failed c.loop-link-test.false) c.loop-link.invariant.1 in
    let all : Marked failed (replicate links false) = subst (Marked failed) (c.in_ok-fails.ensures.items_if_clones_equal (λ y same. same)) marked in
    record { link = λ e within. marked-from_none failed links c.loop-link.fails.items all e }
