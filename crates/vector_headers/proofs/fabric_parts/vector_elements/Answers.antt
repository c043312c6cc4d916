use Rattle.std.proofs.lemmas.Result.{IfOk-weaker}
use Rattle.vector_headers.proofs.fabric_parts.vector_elements.Goals as goal

pub narrowed-requires-clause-count : goal.narrowed-requires-clause-count
narrowed-requires-clause-count g c = (c.in_ok-wide.ensures c.requires.table.0 c.requires.table.1).count

pub returns : goal.returns
returns g c =
    IfOk-weaker c.narrowed.result _ _ (λ vectors are failed table. are failed (c.in_ok-wide.ensures failed table)) c.narrowed.ensures
