use Rattle.std.proofs.Common.{◌≡◌, take, None}
use Rattle.top_nodes.specs.Files.{first_lacking}
use Rattle.top_nodes.proofs.reading.see_whole.Given as goal

-- no stream before lacks a place
abbrev pub invariant-loop-place : goal.invariant-loop-place
invariant-loop-place l = first_lacking l.net l.count (take l.place l.streams) ≡ None
