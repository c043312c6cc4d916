use Rattle.std.proofs.Common.{sym, ap, ◌∙◌, arith}
use Rattle.std.proofs.lemmas.Result.{err_from_is_err_and}
use Rattle.code_file.specs.Reading.{Contents}
use Rattle.code_items.proofs.Readers.{ok_of}
use Rattle.code_file.proofs.ReadingLaws.{AreContents-from_contents_of, IsFileOf-from_contents_of, file_not_refused}
use Rattle.code_file.specs.Parts.{contents_seen}
use Rattle.code_file.proofs.Refusals.{memory_alone}
use Rattle.code_file.proofs.reading.read_code.Goals as goal

pub returns-in_err-parts-clause-none : goal.returns-in_err-parts-clause-none
returns-in_err-parts-clause-none c = λ code is.
    let p = err_from_is_err_and c.from_residual.result c.from_residual.ensures.1 in
    let why = c.in_err-parts.field-0.0 in
    rw (p.1, p.2) (memory_alone why (λ other. file_not_refused c.args.bytes.now code why is (c.in_err-parts.ensures other)))

pub code_of-requires : goal.code_of-requires
code_of-requires c =
    (AreContents-from_contents_of c.args.bytes.now (contents_seen c.in_ok-parts.parts) (λ i. omega (arith, c.type_inv.bytes i)) c.in_ok-parts.ensures).1

pub returns-clause-ok : goal.returns-clause-ok
returns-clause-ok c =
    IsFileOf-from_contents_of c.in_ok-parts.parts.draft.version c.args.bytes.now c.code_of.result (λ i. omega (arith, c.type_inv.bytes i))
    (c.in_ok-parts.ensures ∙ ap (λ (contents : Contents). ok_of contents) (sym c.code_of.ensures))
