use Rattle.std.proofs.Common.{◌≡◌, All, map, string_bytes, take, vec_len}
use Rattle.top_blind.specs.Blind.{paths_among, ranks_text}
use Rattle.top_blind.specs.Ranked.{HasRank}
use Rattle.top_blind.proofs.receivers.find_receivers.Given as goal

-- the lines of the sinks so far, and the paths and the links of those that have the rank
abbrev pub invariant-loop-place : goal.invariant-loop-place
invariant-loop-place g l = record {
  field : l.blind.field ≡ l.fabric.code.field;
  rate : l.blind.rate ≡ l.fabric.code.rate;
  lines : l.found.lines.items ≡ ranks_text l.fabric.code l.fabric.failed (take l.place l.fabric.code.net.sinks);
  paths : map string_bytes l.found.paths.items ≡ paths_among l.prefix l.fabric.code l.fabric.failed (take l.place l.fabric.code.net.sinks);
  each : vec_len l.found.ins ≡ vec_len l.found.paths;
  ranked : All (λ links. HasRank l.fabric.code l.fabric.failed links.items) l.found.ins.items;
}
