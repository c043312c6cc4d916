use Rattle.std.proofs.Common.{◌≡◌, ◌≢◌, ◌<◌, [], arith, below_more, get_or-set_other, get_or-set_same, length, sym, ◌∙◌}
use Rattle.std.proofs.lemmas.List.{ext_get_or}
use Rattle.generation_frame.specs.Blocks.{row_bytes}
use Rattle.coded_traffic.proofs.RowLaws.{row_lies_within}
use Rattle.linear_algebra.proofs.EntryLaws.{get_or-rows_of}
use Rattle.linear_algebra.proofs.MatrixLaws.{length-rows_of}
use Rattle.linear_algebra.specs.Matrices.{rows_of}
use Rattle.vector_headers.proofs.fabric_parts.copy_rows.Goals as goal

pub row_at-requires : goal.row_at-requires
row_at-requires c = row_lies_within c.args.block.now (length c.args.rows.now) c.loop-place.place c.requires (omega arith)

pub loop-place-preserved : goal.loop-place-preserved
loop-place-preserved c =
    below_more _ _
    (λ k h. let ne : k ≢ c.loop-place.place = omega arith in rw get_or-set_other (c.loop-place.invariant k h))
    (let lt : c.loop-place.place < length c.loop-place.rows = omega arith in rw get_or-set_same c.row_at.ensures)

pub returns : goal.returns
returns c =
    let block = c.args.block.now in
    let count = length c.args.rows.now in
    let rows = c.loop-place.rows in
    let long : length rows ≡ count = omega arith in
    ext_get_or [] rows (rows_of count row_bytes block) (long ∙ sym (length-rows_of count row_bytes block))
    (λ e inside.
    let below : e < count = omega (arith, inside, long) in
    c.loop-place.invariant e (omega arith) ∙ sym (get_or-rows_of count row_bytes e block below))
