use Rattle.std.proofs.Common.{◌≡◌, ◌++◌, take}
use Rattle.name_texts.specs.Names.{links_text}
use Rattle.name_texts.proofs.texts.push_links.Given as goal

abbrev pub invariant-loop-link : goal.invariant-loop-link
invariant-loop-link l = l.text.items ≡ l.fn.text.items ++ links_text l.net (take l.link-index l.links)
