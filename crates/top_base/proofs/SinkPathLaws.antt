-- The paths of the sinks' files are distinct.
use Rattle.std.proofs.Common.{◌≡◌, ◌≢◌, ◌<◌, ◌∷◌, [], ℕ, nat_eq, List, length, sym, ◌∙◌, arith}
use Rattle.std.specs.List.{AllPairs}
use Rattle.std.specs.Str.{bytes_eq}
use Rattle.std.proofs.lemmas.Bool.{and_parts}
use Rattle.std.proofs.lemmas.Bool.Decides.{Decides-eqb}
use Rattle.std.proofs.lemmas.List.{append_cancel_left, get_or-map, length-map}
use Rattle.std.proofs.lemmas.Map.Made.{AllPairs-from_IsDistinct}
use Rattle.std.proofs.lemmas.Option.{unwrap_or-slice_get}
use Rattle.std.proofs.lemmas.Slice.Eq.{bytes_eq-Decides}
use Rattle.lif_outside.specs.Files.{AreDistinct}
use Rattle.name_texts.proofs.NameLaws.{sink_in_range}
use Rattle.name_texts.specs.Names.{node_name}
use Rattle.net_model.proofs.ListLaws.{IsDistinct-from_are_distinct}
use Rattle.net_model.specs.declared.net.Net.{Net}
use Rattle.top_base.proofs.OutputLaws.{distinct_in_pairs, one_place}
use Rattle.top_base.specs.Paths.{dotted_path, output_paths}

-- paths of nodes that are equal are those of one node
one_node : (prefix : List ℕ) (net : Net) (a b : ℕ) → a < length net.nodes → b < length net.nodes → dotted_path prefix (node_name net a) ≡ dotted_path prefix (node_name net b) → a ≡ b
one_node prefix net a b first second same =
    let tails : 46 ∷ node_name net a ≡ 46 ∷ node_name net b = append_cancel_left prefix (46 ∷ node_name net a) (46 ∷ node_name net b) same in
    let names : node_name net a ≡ node_name net b = cc in
    one_place net.nodes a b [] (AllPairs-from_IsDistinct bytes_eq-Decides net.nodes (IsDistinct-from_are_distinct bytes_eq net.nodes (and_parts _ _ net.network.node_names).1)) first second
    (sym (unwrap_or-slice_get net.nodes a []) ∙ names ∙ unwrap_or-slice_get net.nodes b [])

pub distinct_outputs : (prefix : List ℕ) (net : Net) → AreDistinct (output_paths prefix net)
distinct_outputs prefix net =
    let path = λ (sink : ℕ). dotted_path prefix (node_name net sink) in
    let apart : AllPairs (λ a b. a ≢ b) net.sinks = AllPairs-from_IsDistinct Decides-eqb net.sinks (IsDistinct-from_are_distinct nat_eq net.sinks net.network.distinct_sinks) in
    distinct_in_pairs (output_paths prefix net) (λ i j d before within same.
    let short : j < length net.sinks = omega (arith, length-map net.sinks path) in
    let first : i < length net.sinks = omega arith in
    let here = get_or-map path net.sinks i 0 d first in
    let there = get_or-map path net.sinks j 0 d short in
    apart i j 0 before short (one_node prefix net _ _ (sink_in_range net i first) (sink_in_range net j short) (sym here ∙ same ∙ there)))
