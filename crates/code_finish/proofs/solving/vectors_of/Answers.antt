use Rattle.std.proofs.Common.{Bool, List, ap, false, length, ◌∙◌}
use Rattle.std.specs.Prelude.{slice_index_or}
use Rattle.std.proofs.lemmas.Result.{IfOk-weaker}
use Rattle.link_rows.specs.LinkRows.{IsFailTable}
use Rattle.net_model.specs.Failed.{failed_links}
use Rattle.code_finish.proofs.solving.vectors_of.Goals as goal

pub returns : goal.returns
returns c =
    let draft = c.args.draft.now in
    let coding = c.coding.result in
    let failed = failed_links draft.net.patterns c.args.pattern in
    let table : IsFailTable failed (length coding.net.now.links) c.deref.result.now =
    record { link = λ e below. ap (λ (fails : List Bool). slice_index_or fails e false) c.deref.ensures.value ∙ c.in_ok-failed.ensures.entries e } in
    IfOk-weaker c.vector_rows.result _ _
    (λ rows are. rw (c.coding.ensures.net, c.coding.ensures.rate, c.coding.ensures.field, c.coding.ensures.operands) at (are failed table))
    c.vector_rows.ensures
