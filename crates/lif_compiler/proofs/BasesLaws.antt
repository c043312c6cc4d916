-- Laws of the bases of the demands: what stands at a demand, and the laws of their field.
use Rattle.std.specs.Prelude.{◌≡◌, ◌<◌, ℕ, List, [], length}
use Rattle.std.specs.declared.cmp.PartialEq.{Ghosts as EqualityWords}
use Rattle.std.proofs.Common.{get_or}
use Rattle.std.proofs.lemmas.List.{get_or-map}
use Rattle.gf_tables.specs.Field.{IsField, IsNumbering}
use Rattle.gf_tables.specs.Kind.{IsOfKind}
use Rattle.gf_tables.specs.declared.field.Field.{Ghosts as FieldWords}
use Rattle.sink_basis.specs.declared.basis.Basis.{Basis}
use Rattle.lif_compiler.specs.Bases.{frontier_in, inverses_in, vectors_in}
use Rattle.lif_compiler.specs.Compiled.{marked_kind}

-- the laws of a field, and its kind
pub record LawsOf {X : Type 0} (F : FieldWords X) : Type 0 where
  pub field : IsField F.is_element F.zero F.one F.add F.mul F.inv
  pub numbering : IsNumbering F.is_element F.zero F.one F.add F.mul F.number F.of_number F.SIZE F.product
  pub of_kind : IsOfKind (marked_kind F.MARK) F.SIZE F.BYTES F.MARK F.product

module _ {X : Type 0} {F : FieldWords X} {E : EqualityWords X} (bases : List (Basis X F E)) (demand : ℕ) (basis : Basis X F E) (within : demand < length bases) where
  -- the frontier, the vectors and the inverse vectors at a demand are those of its basis
  pub frontier_in-at : frontier_in bases demand ≡ (get_or bases demand basis).frontier
  frontier_in-at = get_or-map (λ (one : Basis X F E). one.frontier) bases demand basis [] within

  pub vectors_in-at : vectors_in bases demand ≡ (get_or bases demand basis).vectors
  vectors_in-at = get_or-map (λ (one : Basis X F E). one.vectors) bases demand basis (record { columns = 0; rows = [] }) within

  pub inverses_in-at : inverses_in bases demand ≡ (get_or bases demand basis).inverses
  inverses_in-at = get_or-map (λ (one : Basis X F E). one.inverses) bases demand basis (record { columns = 0; rows = [] }) within
