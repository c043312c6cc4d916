-- The bases of the demands, in one list.
use Rattle.std.specs.Prelude.{◌≡◌, ℕ, List, [], None, Option, length, map, replicate, slice_index_or}
use Rattle.std.specs.declared.cmp.PartialEq.{Ghosts as EqualityWords}
use Rattle.field_vectors.specs.Elements.{identity_of}
use Rattle.field_vectors.specs.Grid.{Grid, IsMatrix}
use Rattle.gf_tables.specs.declared.field.Field.{Ghosts as FieldWords}
use Rattle.sink_basis.specs.declared.basis.Basis.{Basis}
use Rattle.lif_compiler.specs.Tables.{grid_at}

module _ {X : Type 0} {F : FieldWords X} {E : EqualityWords X} where
  -- the frontier of a demand's basis
  abbrev pub frontier_in : List (Basis X F E) → ℕ → List (Option ℕ)
  frontier_in bases demand = slice_index_or (map (λ basis. basis.frontier) bases) demand []

  -- its vectors
  abbrev pub vectors_in : List (Basis X F E) → ℕ → Grid X
  vectors_in bases demand = grid_at (map (λ basis. basis.vectors) bases) demand

  -- its inverse vectors
  abbrev pub inverses_in : List (Basis X F E) → ℕ → Grid X
  inverses_in bases demand = grid_at (map (λ basis. basis.inverses) bases) demand

  -- the vectors of a basis and their inverse vectors are matrices of elements
  abbrev pub HasMatrices : Basis X F E → Type 0
  HasMatrices basis = IsMatrix F.is_element basis.vectors × IsMatrix F.is_element basis.inverses

  -- a basis has a frontier place for each of so many paths
  abbrev pub HasWidth : ℕ → Basis X F E → Type 0
  HasWidth rate basis = length basis.frontier ≡ rate

  -- it has a link on none of them
  abbrev pub HasNoLinks : ℕ → Basis X F E → Type 0
  HasNoLinks rate basis = basis.frontier ≡ replicate rate None

  -- its vectors are the unit vectors
  abbrev pub HasUnitVectors : ℕ → Basis X F E → Type 0
  HasUnitVectors rate basis = basis.vectors.rows ≡ identity_of F.zero F.one rate
