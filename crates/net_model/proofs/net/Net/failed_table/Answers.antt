use Rattle.std.proofs.Common.{◌≡◌, ◌∙◌, Bool, List, ap, arith, drop, false, length, nat_lt, replicate, slice_index_or, subst, sym, true}
use Rattle.std.specs.List.{list_all}
use Rattle.std.proofs.lemmas.List.{length-replicate, take_at}
use Rattle.net_model.proofs.FailedLaws.{failed_below, failed_links-at, marked-from_none}
use Rattle.net_model.specs.Lists.{is_among}
use Rattle.net_model.specs.Renumbering.{AreMarked}
use Rattle.net_model.proofs.net.Net.failed_table.Goals as goal
use Rattle.net_model.proofs.net.Net.failed_table.Goals.{After-deref_mut}

-- before the marks are made there is none
none : (c : After-deref_mut) → c.deref_mut.result.now ≡ replicate (length c.args.self.now.links) false
none c = c.deref_mut.ensures.value ∙ c.in_ok-failed.ensures.items_if_clones_equal (λ y same. same) ∙ ap (λ n. replicate n false) c.len.ensures

pub mark-requires : goal.mark-requires
mark-requires c =
    let net = c.args.self.now in
    let count : length c.deref_mut.result.now ≡ length net.links =
    ap length (none (goal.at.mark-requires c).After-deref_mut) ∙ length-replicate (length net.links) false in
    subst (λ n. list_all (λ link. nat_lt link n) c.as_slice.result.now ≡ true) (sym count)
    (sym (ap (list_all (λ link. nat_lt link (length net.links)))
    (failed_links-at net.patterns c.args.pattern c.at-pattern.result.now c.as_slice.result.now c.at-pattern.ensures c.as_slice.ensures))
    ∙ failed_below net.patterns (length net.links) c.args.pattern net.network.pattern_links)

pub returns-clause-count : goal.returns-clause-count
returns-clause-count c = omega (arith, c.in_ok-failed.ensures.len, c.len.ensures)

pub returns-clause-entries : goal.returns-clause-entries
returns-clause-entries c = λ link.
    let net = c.args.self.now in
    let marks = c.mark.new.marks in
    let long : length marks ≡ c.in_ok-failed.failed.len = omega (arith, c.mark.auto.marks, c.deref_mut.ensures.len) in
    ap (λ (marks : List Bool). slice_index_or marks link false) (take_at marks (drop (length marks) c.in_ok-failed.failed.items) c.in_ok-failed.failed.len long)
    ∙ marked-from_none c.as_slice.result.now (length net.links) marks
    (subst (λ before. AreMarked c.as_slice.result.now true before marks) (none (goal.at.returns-clause-entries c).After-deref_mut) c.mark.ensures) link
    ∙ sym (ap (λ links. is_among links link)
    (failed_links-at net.patterns c.args.pattern c.at-pattern.result.now c.as_slice.result.now c.at-pattern.ensures c.as_slice.ensures))
