use Rattle.std.proofs.Common.{◌≡◌, ◌++◌, ◌∷◌, ◌∙◌, [], List, ℕ, ap, arith, length, subst, sym}
use Rattle.std.proofs.lemmas.Result.{IfOk-weaker}
use Rattle.net_model.specs.Renumbering.{HasEachOnce, IsRenumbered}
use Rattle.net_reader.proofs.RisingOrder.{range_with_len-more}
use Rattle.two_sources.proofs.CopyLaws.{HasEachOnce-same_order, same-renumbered, same_order}
use Rattle.two_sources.proofs.separating.copied.Goals as goal

pub loop-link-preserved : goal.loop-link-preserved
loop-link-preserved c =
    let link = c.loop-link.link in
    c.in_ok-push.ensures.items ∙ ap (λ (before : List ℕ). before ++ link ∷ []) c.loop-link.invariant
    ∙ sym (range_with_len-more 0 link link (omega arith))

pub renumbered-requires : goal.renumbered-requires
renumbered-requires c =
    let count = length c.args.net.now.links in
    let last : c.loop-link.link ≡ count = omega arith in
    let is : c.deref.result.now ≡ same_order count = c.deref.ensures.value ∙ c.loop-link.invariant ∙ ap same_order last in
    subst (HasEachOnce count) (sym is) (HasEachOnce-same_order count)

pub returns : goal.returns
returns c =
    let net = c.args.net.now in
    let count = length net.links in
    let last : c.loop-link.link ≡ count = omega arith in
    let is : c.deref.result.now ≡ same_order count = c.deref.ensures.value ∙ c.loop-link.invariant ∙ ap same_order last in
    IfOk-weaker c.renumbered.result _ _
    (λ copy renumbered. same-renumbered net copy c.requires (subst (λ order. IsRenumbered order net.field net copy) is renumbered))
    c.renumbered.ensures
