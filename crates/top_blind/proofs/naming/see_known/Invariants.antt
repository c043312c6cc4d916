use Rattle.std.proofs.Common.{◌≡◌, None, find, map, string_bytes, take}
use Rattle.std.specs.Option.{is_none}
use Rattle.top_base.specs.Named.{link_named}
use Rattle.top_blind.proofs.naming.see_known.Given as goal

-- every word before is a link's name
abbrev pub invariant-loop-word : goal.invariant-loop-word
invariant-loop-word l = find (λ word. is_none (link_named l.net word)) (take l.word-index (map string_bytes l.words.links.now)) ≡ None
