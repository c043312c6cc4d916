use Rattle.std.proofs.Common.{◌≡◌, [], map, replicate, string_bytes}
use Rattle.std.specs.Prelude.{vec_len}
use Rattle.top_runs.proofs.showing.no_paths.Given as goal

-- so many empty paths
abbrev pub invariant-loop : goal.invariant-loop
invariant-loop l = record { empty : map string_bytes l.paths.items ≡ replicate l.counter []; count : vec_len l.paths ≡ l.counter }
