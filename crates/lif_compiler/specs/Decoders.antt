-- The decoder of a basis. Its links lie on different paths, each link carries the vector of its
-- path, and the column of a link has the entries of its path's inverse vector.
use Rattle.std.specs.Prelude.{◌≡◌, ℕ, ◌+◌, ◌*◌, ◌<◌, ◌==◌, IsTrue, List, [], All, Option, None, Some, length, map, slice_get, slice_index, slice_index_or, if◌then◌else◌}
use Rattle.std.specs.List.{range_with_len}
use Rattle.std.specs.List.Sorted.{IsPermutation}
use Rattle.gf_tables.specs.declared.kind.FieldKind.{FieldKind}
use Rattle.std.specs.declared.cmp.PartialEq.{Ghosts as EqualityWords}
use Rattle.gf_tables.specs.declared.field.Field.{Ghosts as FieldWords}
use Rattle.linear_algebra.specs.Elements.{numbers}
use Rattle.linear_algebra.specs.Matrices.{column}
use Rattle.linear_algebra.specs.Rows.{AreRows, dot}
use Rattle.net_model.specs.Demands.{pattern_of_demand}
use Rattle.net_model.specs.Failed.{failed_links}
use Rattle.net_model.specs.Lists.{is_rising}
use Rattle.net_model.specs.declared.net.Net.{Net}
use Rattle.node_program.specs.Value.{global_vector}
use Rattle.node_program.specs.declared.Decoder.{Decoder}
use Rattle.node_program.specs.declared.Operand.{Operand}
use Rattle.sink_basis.specs.declared.basis.Basis.{Basis}

-- the entry of the identity matrix at two places
abbrev pub unit_entry : ℕ → ℕ → ℕ
unit_entry i j = if i == j then 1 else 0

-- so many vectors of that length and as many inverse vectors: the product of place i of the
-- inverses and place j of the vectors is 1 for i = j and 0 otherwise
pub record AreInverse (field : FieldKind) (rate : ℕ)
    (vectors inverses : List (List ℕ)) : Type 0 where
  pub vectors_high : length vectors ≡ rate
  pub vector_rows : AreRows field rate vectors
  pub inverses_high : length inverses ≡ rate
  pub spans : (i j : ℕ) → i < rate → j < rate
      → dot field (column i inverses) (column j vectors) ≡ unit_entry i j

-- Entries that stand row by row, for links that lie on paths, each path with one of the links:
-- entry j of row i is place i of the inverse vector of the path of link j.
pub record AreInverseEntries (rate : ℕ) (inverses : List (List ℕ))
    (paths entries : List ℕ) : Type 0 where
  pub each_path : IsPermutation (range_with_len 0 rate) paths
  pub entry : (i j : ℕ) → i < rate → j < rate
      → slice_index entries (i * rate + j)
      ≡ slice_index (slice_index_or inverses (slice_index paths j) []) i

-- what a link carries under a demand's pattern
abbrev pub vector_for_demand : Net → FieldKind → List (List Operand) → ℕ → ℕ → ℕ → List ℕ
vector_for_demand net field operands demand rate link =
    global_vector net field operands (failed_links net.patterns (pattern_of_demand net demand)) rate
    link

-- A demand's decoder that comes from a basis: each of its links carries the vector of its path
-- under the demand's pattern, and its entries are of the inverse vectors.
pub record IsBasisDecoder (net : Net) (rate : ℕ) (field : FieldKind)
    (operands : List (List Operand)) (demand : ℕ) (decoder : Decoder) : Type 0 where
  pub vectors : List (List ℕ)
  pub inverses : List (List ℕ)
  pub paths : List ℕ
  pub basis : AreInverse field rate vectors inverses
  pub entries : AreInverseEntries rate inverses paths decoder.entries
  pub vector : (j : ℕ) → j < rate
      → vector_for_demand net field operands demand rate (slice_index decoder.links j)
      ≡ slice_index_or vectors (slice_index paths j) []

-- A decoder that is read off a frontier on which each path has a link: its links are those of the
-- paths, in rising order, and its entries, which are below a size, are of the inverse vectors of
-- the paths.
pub record IsReadOff (size rate : ℕ) (frontier : List (Option ℕ)) (inverses : List (List ℕ))
    (decoder : Decoder) : Type 0 where
  pub paths : List ℕ
  pub links_are : map Some decoder.links ≡ map (λ path. slice_index_or frontier path None) paths
  pub rising : IsTrue (is_rising decoder.links)
  pub entries : AreInverseEntries rate inverses paths decoder.entries
  pub entry_count : length decoder.entries ≡ rate * rate
  pub below : All (λ entry. entry < size) decoder.entries

module _ {X : Type 0} {F : FieldWords X} {E : EqualityWords X} where
  -- a decoder that is read off a basis
  abbrev pub IsReadOffBasis : Basis X F E → Decoder → Type 0
  IsReadOffBasis basis decoder =
      IsReadOff F.SIZE (length basis.frontier) basis.frontier
      (map (numbers F.number) basis.inverses.rows) decoder

  -- decoders that are read off bases, each off the one at its place
  abbrev pub AreReadOff : List (Basis X F E) → List Decoder → Type 0
  AreReadOff bases decoders = (k : ℕ) (basis : Basis X F E) (decoder : Decoder)
      → slice_get bases k ≡ Some basis → slice_get decoders k ≡ Some decoder
      → IsReadOffBasis basis decoder
