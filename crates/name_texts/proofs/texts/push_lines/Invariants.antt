use Rattle.std.proofs.Common.{◌≡◌, ◌++◌, map, take}
use Rattle.name_texts.specs.Names.{link_name, on_lines}
use Rattle.name_texts.proofs.texts.push_lines.Given as goal

abbrev pub invariant-loop-link : goal.invariant-loop-link
invariant-loop-link l = l.text.items ≡ l.fn.text.items ++ on_lines (map (link_name l.net) (take l.link-index l.links))
