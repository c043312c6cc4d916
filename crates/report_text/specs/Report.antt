-- The report of certificates.
use Rattle.std.specs.Prelude.{◌≡◌, ◌<◌, ◌≤◌, ◌+◌, ◌-◌, ◌*◌, ◌^◌, ℕ, List, All, ◌++◌, codes, decimal, flat_map, length, min, sum_by}
use Rattle.net_model.specs.declared.net.Net.{Net}
use Rattle.cut_witness.specs.declared.cert.Cert.{Cert}
use Rattle.name_texts.specs.Names.{demand_text, links_text, side_text}

abbrev pub head_text : ℕ → List ℕ
head_text rate = codes "rate " ++ decimal rate ++ codes "\n"

-- the line of a path, and the lines of paths
abbrev pub path_text : Net → List ℕ → List ℕ
path_text net path = codes "path" ++ links_text net path ++ codes "\n"

abbrev pub paths_text : Net → List (List ℕ) → List ℕ
paths_text net paths = flat_map (path_text net) paths

-- a demand and its cut's size
abbrev pub title_text : Net → Cert → List ℕ
title_text net cert =
    codes "demand " ++ demand_text net cert.demand ++ codes " cut " ++ decimal cert.value

-- the lines of a demand: its cut's size, its side, the links that cross it, and its paths
abbrev pub entry_text : Net → Cert → List ℕ
entry_text net cert =
    title_text net cert ++ codes "\nside" ++ side_text net cert.side
    ++ codes "\ncross" ++ links_text net cert.cut ++ codes "\n" ++ paths_text net cert.paths

-- all of it
abbrev pub report_of : Net → ℕ → List Cert → List ℕ
report_of net rate certs = head_text rate ++ flat_map (entry_text net) certs

-- the certificate names what the network has
pub record IsPrintable (net : Net) (cert : Cert) : Type 0 where
  pub sink : cert.demand.sink < length net.sinks
  pub pattern : cert.demand.pattern < length net.patterns
  pub side : length cert.side ≡ length net.nodes
  pub cut : All (λ link. link < length net.links) cert.cut
  pub paths : All (All (λ link. link < length net.links)) cert.paths

-- room for each name and each path of a certificate and for its words, as far as the machine counts
abbrev pub room_of : Cert → ℕ → ℕ → ℕ → ℕ
room_of cert name path words =
    let names = sum_by length cert.paths + length cert.cut + length cert.side + 2 in
    min (names * name + length cert.paths * path + words) (2 ^ 64 - 1)

-- the lines of a certificate fit there, as far as the machine counts
abbrev pub IsRoomFor : Cert → ℕ → Type 0
IsRoomFor cert room =
    (net : Net) → cert.value < 2 ^ 32 → length cert.side ≡ length net.nodes
    → min (length (entry_text net cert)) (2 ^ 64 - 1) ≤ room
