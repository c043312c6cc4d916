-- How long an entry of a report is.
use Rattle.std.proofs.Common.{◌≡◌, ◌≤◌, ◌<◌, ◌+◌, ◌*◌, ◌^◌, ℕ, List, [], ◌∷◌, ◌++◌, codes, decimal, length, min, arith, length-append}
use Rattle.std.specs.List.{flat_map, sum_by}
use Rattle.std.proofs.lemmas.List.Sums.{sum_by-cons}
use Rattle.std.proofs.lemmas.Fmt.{length-decimal-le}
use Rattle.net_model.specs.declared.net.Net.{Net}
use Rattle.cut_witness.specs.declared.cert.Cert.{Cert}
use Rattle.name_texts.specs.Names.{links_text}
use Rattle.name_texts.proofs.TextLaws.{demand_text-short, links_text-short, side_text-short}
use Rattle.report_text.specs.Report.{entry_text}

-- the lines of paths
abbrev path_text : Net → List ℕ → List ℕ
path_text net path = codes "path" ++ links_text net path ++ codes "\n"

paths_text-short : (net : Net) (paths : List (List ℕ)) → length (flat_map (path_text net) paths) ≤ 33 * sum_by length paths + 5 * length paths
paths_text-short net [] = omega arith
paths_text-short net (path ∷ paths) =
    let more = sum_by-cons length path paths in
    simp length-append (omega (arith, paths_text-short net paths, links_text-short net path, more))

-- an entry has no more bytes than this
pub entry_text-short : (net : Net) (cert : Cert) → cert.value < 2 ^ 32 → length cert.side ≡ length net.nodes
    → length (entry_text net cert) ≤ 33 * (sum_by length cert.paths + length cert.cut + length cert.side + 2) + 5 * length cert.paths + 64
entry_text-short net cert small whole =
    let value : length (decimal cert.value) ≤ 10 = length-decimal-le 10 cert.value (omega arith) (omega arith) (omega arith) in
    let demand = simp length-append at (demand_text-short net cert.demand) in
    simp length-append (omega (arith, demand, side_text-short net cert.side, links_text-short net cert.cut, paths_text-short net cert.paths))

module _ (cap sum part a : ℕ) where
  -- sums and products of capped numbers
  pub added : (b : ℕ) → sum ≡ min (part + b) cap → part ≡ min a cap → sum ≡ min (a + b) cap
  added b is so_far = omega arith

  pub times_name_room : sum ≡ min (part * 33) cap → part ≡ min a cap → sum ≡ min (a * 33) cap
  times_name_room is so_far = omega arith

-- the room of lines may be capped before it is added
pub lines_too : (cap all names lines : ℕ) → all ≡ min (names + min lines cap + 64) cap → all ≡ min (names + lines + 64) cap
lines_too cap all names lines is = omega arith

-- what holds names, lines of paths and words holds an entry of no more bytes
pub holds : (cap all names lines length : ℕ) → length ≤ names + lines + 64 → all ≡ min (names + lines + 64) cap → min length cap ≤ all
holds cap all names lines length short is = omega arith
