use Rattle.std.proofs.Common.{◌≡◌, ◌++◌, codes, take}
use Rattle.std.specs.List.{flat_map}
use Rattle.name_texts.specs.Names.{links_text}
use Rattle.report_text.proofs.report.push_paths.Given as goal

abbrev pub invariant-loop-path : goal.invariant-loop-path
invariant-loop-path l = l.text.items ≡ l.fn.text.items ++ flat_map (λ path. codes "path" ++ links_text l.net path ++ codes "\n") (take l.path-index l.paths)
