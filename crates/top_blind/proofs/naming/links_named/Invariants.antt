use Rattle.std.proofs.Common.{◌≡◌, filter, map, string_bytes}
use Rattle.std.specs.List.{list_any, range_with_len}
use Rattle.std.specs.Str.{bytes_eq}
use Rattle.name_texts.specs.Names.{link_name}
use Rattle.top_blind.proofs.naming.links_named.Given as goal

-- those of the links so far that are named
abbrev pub invariant-loop-link : goal.invariant-loop-link
invariant-loop-link l = l.links.items ≡ filter (λ link. list_any (bytes_eq (link_name l.net link)) (map string_bytes l.words)) (range_with_len 0 l.link)
