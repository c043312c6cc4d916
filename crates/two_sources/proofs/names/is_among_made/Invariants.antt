use Rattle.std.proofs.Common.{◌≡◌, false}
use Rattle.std.specs.List.{list_any}
use Rattle.std.specs.Str.{bytes_eq}
use Rattle.net_reader.specs.Bundles.{made_names}
use Rattle.two_sources.proofs.names.is_among_made.Given as goal

-- the name is none of those so far
abbrev pub invariant-loop-before : goal.invariant-loop-before
invariant-loop-before l = list_any (bytes_eq l.name) (made_names l.bundle l.before) ≡ false
