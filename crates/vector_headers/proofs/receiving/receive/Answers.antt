use Rattle.std.proofs.Common.{◌∙◌}
use Rattle.generation_frame.specs.Blocks.{row_bytes}
use Rattle.linear_algebra.proofs.EntryLaws.{concat-rows_of}
use Rattle.vector_headers.specs.Receiving.{rows_carried}
use Rattle.vector_headers.proofs.receiving.receive.Goals as goal

pub returns-clause-block : goal.returns-clause-block
returns-clause-block g c = λ one is.
    let code = c.args.fabric.now.code in
    let told = c.take_links.ensures in
    c.block.ensures (rows_carried code one) (told.admitted one is) ∙ concat-rows_of code.rate row_bytes one.block (told.block one is).size
