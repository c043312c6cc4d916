-- The two paths of each sink's files are distinct, and those of all sinks.
use Rattle.std.specs.Prelude.{flat_map}
use Rattle.std.proofs.Common.{◌≡◌, ◌≢◌, ◌*◌, ◌++◌, ◌∷◌, [], ℕ, List, Contains, get_or, length, take, refl, sym, ap, ◌∙◌, ⊎_elim, arith}
use Rattle.std.proofs.Math.Seq.{take-append_seam}
use Rattle.std.proofs.lemmas.List.{append_cancel_left, length-append, length-map}
use Rattle.std.proofs.lemmas.List.Elements.{Contains-append_left, Contains-append_right, Contains-append_cases}
use Rattle.lif_outside.specs.AccountLaws.{contains_none, contains_one}
use Rattle.lif_outside.specs.Files.{AreDistinct}
use Rattle.name_texts.specs.Names.{node_name}
use Rattle.net_model.specs.declared.net.Net.{Net}
use Rattle.top_base.proofs.SinkPathLaws.{distinct_outputs}
use Rattle.top_base.specs.Paths.{both_of, both_paths, dotted_path, output_paths}

-- texts that are one with ends of one length begin alike
same_begin : (one other end last : List ℕ) → length end ≡ length last → one ++ end ≡ other ++ last → one ≡ other
same_begin one other end last as_long same =
    let long : length one ≡ length other = omega (arith, length-append one end, length-append other last, ap length same) in
    sym (take-append_seam one end) ∙ ap (take (length one)) same ∙ ap (λ n. take n (other ++ last)) long ∙ take-append_seam other last

-- the two paths behind one differ
one_digit : (path : List ℕ) (first second : ℕ) → dotted_path path (first ∷ []) ≡ dotted_path path (second ∷ []) → first ≡ second
one_digit path first second same = ap (λ end. get_or end 1 0) (append_cancel_left path (46 ∷ first ∷ []) (46 ∷ second ∷ []) same)

apart : (path : List ℕ) → dotted_path path (50 ∷ []) ≢ dotted_path path (49 ∷ [])
apart path same = absurd (omega (arith, one_digit path 50 49 same))

-- a path that is one of the two tells of which they are
of_one : (path other : List ℕ) (digit : ℕ) → Contains (both_of path) (dotted_path other (digit ∷ [])) → path ≡ other
of_one path other digit there = ⊎_elim
    (λ first. same_begin path other (46 ∷ 49 ∷ []) (46 ∷ digit ∷ []) refl (contains_one _ _ first))
    (λ second. same_begin path other (46 ∷ 50 ∷ []) (46 ∷ digit ∷ []) refl (contains_one _ _ second))
    (Contains-append_cases (dotted_path path (49 ∷ []) ∷ []) (dotted_path path (50 ∷ []) ∷ []) (dotted_path other (digit ∷ [])) there)

-- and one of those of many paths, that it is among them
of_many : (paths : List (List ℕ)) (other : List ℕ) (digit : ℕ) → Contains (flat_map both_of paths) (dotted_path other (digit ∷ [])) → Contains paths other
of_many [] other digit there = absurd (contains_none _ there)
of_many (path ∷ paths) other digit there = ⊎_elim
    (λ here. Contains-append_left (path ∷ []) paths other (0, omega arith, of_one path other digit here))
    (λ later. Contains-append_right (path ∷ []) paths other (of_many paths other digit later))
    (Contains-append_cases (both_of path) (flat_map both_of paths) (dotted_path other (digit ∷ [])) there)

both_distinct : (paths : List (List ℕ)) → AreDistinct paths → AreDistinct (flat_map both_of paths)
both_distinct [] distinct = tt
both_distinct (path ∷ paths) distinct = (
  λ there. ⊎_elim
      (λ second. apart path (contains_one _ _ second))
      (λ later. distinct.0 (of_many paths path 49 later))
      (Contains-append_cases (dotted_path path (50 ∷ []) ∷ []) (flat_map both_of paths) (dotted_path path (49 ∷ [])) there),
  (λ there. distinct.0 (of_many paths path 50 there), both_distinct paths distinct.1),
)

pub distinct_both : (prefix : List ℕ) (net : Net) → AreDistinct (both_paths prefix net)
distinct_both prefix net = both_distinct (output_paths prefix net) (distinct_outputs prefix net)

-- there are two for each
two_each : (paths : List (List ℕ)) → length (flat_map both_of paths) ≡ 2 * length paths
two_each [] = refl
two_each (path ∷ paths) = omega (arith, two_each paths)

pub length_both : (prefix : List ℕ) (net : Net) → length (both_paths prefix net) ≡ 2 * length net.sinks
length_both prefix net =
    two_each (output_paths prefix net) ∙ ap (λ n. 2 * n) (length-map net.sinks (λ sink. dotted_path prefix (node_name net sink)))
