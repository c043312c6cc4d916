use Rattle.std.proofs.Common.{◌≡◌}
use Rattle.std.specs.Prelude.{◌==◌, ◌&&◌, filter}
use Rattle.std.specs.List.{range_with_len}
use Rattle.net_model.specs.Walks.{head_of}
use Rattle.vector_headers.specs.Fabric.{is_live_at}
use Rattle.vector_headers.proofs.receiving.ins_where.Given as goal

-- those of the links so far that are live and lead into the node
abbrev pub invariant-loop-link : goal.invariant-loop-link
invariant-loop-link g l =
    l.ins.items ≡ filter (λ link. is_live_at l.fn.fabric link && (head_of l.fn.fabric.code.net.links link == l.node)) (range_with_len 0 l.link)
