-- The paths of the streams of a node's links are distinct, and its links are links of the network.
use Rattle.std.proofs.Common.{◌≡◌, ◌≢◌, ◌<◌, ◌&&◌, ◌==◌, ◌∷◌, [], ℕ, zero, suc, All, List, map, length, get_or, sym, refl, ◌∙◌, arith}
use Rattle.std.specs.Prelude.{slice_get}
use Rattle.std.specs.List.{AllPairs, range_with_len}
use Rattle.std.specs.Option.{option_map_or}
use Rattle.std.proofs.lemmas.Bool.{and_parts}
use Rattle.std.proofs.lemmas.List.{append_cancel_left, get_or-map, length-map}
use Rattle.std.proofs.lemmas.List.FromFn.{get_or-range_with_len, length-range_with_len}
use Rattle.std.proofs.lemmas.List.Kept.{AllPairs-filter}
use Rattle.std.proofs.lemmas.Map.Made.{AllPairs-from_IsDistinct}
use Rattle.std.proofs.lemmas.Slice.Eq.{bytes_eq-Decides}
use Rattle.std.specs.Str.{bytes_eq}
use Rattle.lif_outside.specs.Files.{AreDistinct}
use Rattle.name_texts.specs.Names.{link_name}
use Rattle.net_model.proofs.ListLaws.{IsDistinct-from_are_distinct}
use Rattle.net_model.specs.Walks.{head_of, tail_of}
use Rattle.net_model.specs.declared.Link.{Link}
use Rattle.net_model.specs.declared.net.Net.{Net}
use Rattle.node_plans.proofs.ListLaws.{filter_range-each}
use Rattle.node_plans.specs.Plans.{ins_of, outs_of}
use Rattle.node_program.specs.CodeValue.{is_live_in}
use Rattle.node_program.specs.declared.code.Code.{Code}
use Rattle.top_base.proofs.OutputLaws.{distinct_in_pairs, one_place}
use Rattle.top_nodes.specs.Files.{stream_path, stream_paths}

-- the links into a node, and those out of it
pub ins_within : (code : Code) (pattern node : ℕ) → All (λ link. link < length code.net.links) (ins_of code pattern node)
ins_within code pattern node k d within =
    (filter_range-each (λ link. is_live_in code pattern link && (head_of code.net.links link == node)) (length code.net.links) k d within).0

pub outs_within : (code : Code) (pattern node : ℕ) → All (λ link. link < length code.net.links) (outs_of code pattern node)
outs_within code pattern node k d within =
    (filter_range-each (λ link. is_live_in code pattern link && (tail_of code.net.links link == node)) (length code.net.links) k d within).0

-- the name of a link is the one at its place
name_at : (links : List Link) (link : ℕ) → option_map_or (λ (one : Link). one.name) (slice_get links link) [] ≡ get_or (map (λ (one : Link). one.name) links) link []
name_at [] link = refl
name_at (first ∷ links) zero = refl
name_at (first ∷ links) (suc link) = name_at links link

-- paths of links that are equal are those of one link
one_link : (prefix : List ℕ) (net : Net) (a b : ℕ) → a < length net.links → b < length net.links → stream_path prefix net a ≡ stream_path prefix net b → a ≡ b
one_link prefix net a b first second same =
    let names = map (λ (one : Link). one.name) net.links in
    let tails : 46 ∷ link_name net a ≡ 46 ∷ link_name net b = append_cancel_left prefix (46 ∷ link_name net a) (46 ∷ link_name net b) same in
    let equal : link_name net a ≡ link_name net b = cc in
    let long = length-map net.links (λ (one : Link). one.name) in
    one_place names a b [] (AllPairs-from_IsDistinct bytes_eq-Decides names (IsDistinct-from_are_distinct bytes_eq names (and_parts _ _ net.network.link_names).1)) (omega (arith, long, first)) (omega (arith, long, second))
    (sym (name_at net.links a) ∙ equal ∙ name_at net.links b)

-- no two numbers of a range are equal
range_apart : (n : ℕ) → AllPairs (λ a b. a ≢ b) (range_with_len 0 n)
range_apart n i j d before within same =
    let long = length-range_with_len 0 n in
    let first : i < n = omega (arith, long) in
    let second : j < n = omega (arith, long) in
    omega (arith, before, same, get_or-range_with_len 0 n i d first, get_or-range_with_len 0 n j d second)

pub outs_distinct : (prefix : List ℕ) (code : Code) (pattern node : ℕ) → AreDistinct (stream_paths prefix code.net (outs_of code pattern node))
outs_distinct prefix code pattern node =
    let outs = outs_of code pattern node in
    let path = stream_path prefix code.net in
    let apart : AllPairs (λ a b. a ≢ b) outs =
    AllPairs-filter (λ a b. a ≢ b) (λ link. is_live_in code pattern link && (tail_of code.net.links link == node)) (range_with_len 0 (length code.net.links)) (range_apart (length code.net.links)) in
    distinct_in_pairs (stream_paths prefix code.net outs) (λ i j d before within same.
    let short : j < length outs = omega (arith, length-map outs path) in
    let first : i < length outs = omega arith in
    let here = get_or-map path outs i 0 d first in
    let there = get_or-map path outs j 0 d short in
    apart i j 0 before short (one_link prefix code.net _ _ (outs_within code pattern node i 0 first) (outs_within code pattern node j 0 short) (sym here ∙ same ∙ there)))
