use Rattle.std.specs.Vec.Iter.{into_iter_items, into_iter_len}
use Rattle.net_reader.proofs.AddedLinks.{AreAdded}
use Rattle.net_reader.proofs.state.add_links.Given as goal

-- the links of the names so far are added
abbrev pub invariant-loop-name : goal.invariant-loop-name
invariant-loop-name l =
    AreAdded l.tail l.head l.fn.link_names l.fn.links.items l.fn.names.items l.yielded (into_iter_items l.name-iterator) (into_iter_len l.name-iterator) l.link_names l.links.items
