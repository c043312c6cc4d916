use Rattle.std.proofs.Common.{◌≡◌, length, take, true}
use Rattle.net_model.specs.Renumbering.{AreMarked}
use Rattle.vector_headers.proofs.fabric_parts.fail_table.Given as goal

-- the links so far are marked
abbrev pub invariant-loop-link : goal.invariant-loop-link
invariant-loop-link l = (length l.fails.items ≡ l.fn.links) × AreMarked (take l.link-index l.failed) true l.initial.fails.items l.fails.items
