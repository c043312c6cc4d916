use Rattle.std.proofs.Common.{sym, ap, ◌∙◌, arith}
use Rattle.std.proofs.lemmas.Result.{err_from_is_err_and}
use Rattle.code_items.specs.DraftParts.{DraftParts}
use Rattle.code_items.specs.Parts.{draft_seen}
use Rattle.code_items.proofs.Readers.{ok_of}
use Rattle.code_file.proofs.DraftLaws.{AreDraftParts-from_draft_parts_of, IsDraftFileOf-from_draft_parts_of, draft_not_refused}
use Rattle.code_file.proofs.Refusals.{memory_alone}
use Rattle.code_file.proofs.drafts.read_draft.Goals as goal

pub returns-in_err-parts-clause-none : goal.returns-in_err-parts-clause-none
returns-in_err-parts-clause-none c = λ draft is.
    let p = err_from_is_err_and c.from_residual.result c.from_residual.ensures.1 in
    let why = c.in_err-parts.field-0.0 in
    rw (p.1, p.2) (memory_alone why (λ other. draft_not_refused c.args.bytes.now draft why is (c.in_err-parts.ensures other)))

pub draft_of-requires : goal.draft_of-requires
draft_of-requires c =
    AreDraftParts-from_draft_parts_of c.args.bytes.now (draft_seen c.in_ok-parts.parts) (λ i. omega (arith, c.type_inv.bytes i)) c.in_ok-parts.ensures

pub returns-clause-ok : goal.returns-clause-ok
returns-clause-ok c =
    IsDraftFileOf-from_draft_parts_of c.in_ok-parts.parts.version c.args.bytes.now c.draft_of.result (λ i. omega (arith, c.type_inv.bytes i))
    (c.in_ok-parts.ensures ∙ ap (λ (parts : DraftParts). ok_of parts) (sym c.draft_of.ensures))
