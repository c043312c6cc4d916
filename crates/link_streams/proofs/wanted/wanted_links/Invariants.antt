use Rattle.std.proofs.Common.{◌≡◌, take}
use Rattle.std.specs.Prelude.{filter}
use Rattle.node_program.specs.CodeValue.{is_live_in}
use Rattle.link_streams.proofs.wanted.wanted_links.Given as goal

-- of the decoder's links before, those that are live
abbrev pub invariant-loop-link : goal.invariant-loop-link
invariant-loop-link l = l.links.items ≡ filter (is_live_in l.fn.code l.fn.demand.pattern) (take l.link-index l.link-items)
