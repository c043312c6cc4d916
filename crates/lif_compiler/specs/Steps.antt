-- What a visit changes: the vectors of a link under all patterns, and the bases of the demands
-- whose paths it is on.
use Rattle.std.specs.Prelude.{◌≡◌, ◌≢◌, ◌<◌, ◌≤◌, ℕ, All, Bool, true, false, not, List, Some, count_by, if◌then◌else◌, length, slice_get, slice_set, sum_by}
use Rattle.std.specs.List.{range_with_len}
use Rattle.std.specs.Cmp.Lexicographic.{pointwise}
use Rattle.std.specs.declared.cmp.PartialEq.{Ghosts as EqualityWords}
use Rattle.field_vectors.specs.Grid.{Grid, row_of, with_row}
use Rattle.gf_tables.specs.declared.field.Field.{Ghosts as FieldWords}
use Rattle.gf_tables.specs.declared.kind.FieldKind.{FieldKind}
use Rattle.net_model.specs.Failed.{is_failed_in}
use Rattle.net_model.specs.declared.net.Net.{Net}
use Rattle.node_program.specs.Carried.{IsCarried, carry_steps}
use Rattle.node_program.specs.Value.{leaves_source}
use Rattle.node_program.specs.declared.Operand.{Operand}
use Rattle.sink_basis.specs.Renewal.{renewal_steps}
use Rattle.sink_basis.specs.declared.basis.Basis.{Basis}
use Rattle.lif_compiler.specs.Bases.{frontier_in, inverses_in, vectors_in}
use Rattle.lif_compiler.specs.Tables.{grid_at, vectors_for}
use Rattle.lif_compiler.specs.declared.hops.Hop.{Hop}

-- operands whose numbers are below a bound
abbrev pub AreFromBelow : ℕ → List Operand → Type 0
AreFromBelow bound operands = All (λ operand. operand.from < bound) operands

-- a link that fails carries zero, and stays as it was; any other carries the sum of its operands'
-- vectors
abbrev pub IsCarriedUnless : {A : Type 0}
    → Bool → FieldKind → (A → ℕ) → Bool → List Operand → ℕ → Grid A → Grid A → Type 0
IsCarriedUnless true field number leaves operands link old new = new ≡ old
IsCarriedUnless false field number leaves operands link old new =
    IsCarried field number leaves operands link old new

-- its steps: none where it fails
abbrev pub carry_steps_unless : Bool → Bool → ℕ → ℕ → ℕ
carry_steps_unless true leaves operands columns = 0
carry_steps_unless false leaves operands columns = carry_steps leaves operands columns

-- under how many patterns a link carries, since it doesn't fail
abbrev pub carrying_patterns : Net → ℕ → ℕ
carrying_patterns net link =
    count_by (λ pattern. not (is_failed_in net.patterns pattern link))
    (range_with_len 0 (length net.patterns))

-- so under each of the first patterns, and nothing is changed under the others
pub record AreCarriedTo {A : Type 0} (field : FieldKind) (number : A → ℕ) (net : Net) (link : ℕ)
    (operands : List Operand) (count : ℕ) (old new : List (Grid A)) : Type 0 where
  pub each_pattern : length new ≡ length old
  pub made : (pattern : ℕ) → pattern < count → pattern < length old
      → IsCarriedUnless (is_failed_in net.patterns pattern link) field number
      (leaves_source net link) operands link (grid_at old pattern) (grid_at new pattern)
  pub others : (pattern : ℕ) → count ≤ pattern → grid_at new pattern ≡ grid_at old pattern

-- so under each pattern
abbrev pub AreCarried : {A : Type 0}
    → FieldKind → (A → ℕ) → Net → ℕ → List Operand → List (Grid A) → List (Grid A) → Type 0
AreCarried field number net link operands old new =
    AreCarriedTo field number net link operands (length old) old new

-- none of the first hops is of the demand
abbrev pub IsApart : List Hop → ℕ → ℕ → Type 0
IsApart hops count demand = (k : ℕ) (hop : Hop) → k < count
    → slice_get hops k ≡ Some hop → hop.demand ≢ demand

-- The link is on the frontier of the paths of the first hops, with the vector that it has under the
-- pattern of the demand. Nothing else is changed.
pub record AreAdvancedTo {X : Type 0} {F : FieldWords X} {E : EqualityWords X} (link : ℕ)
    (vectors : List (Grid X)) (hops : List Hop) (count : ℕ)
    (old new : List (Basis X F E)) : Type 0 where
  pub same_count : length new ≡ length old
  pub links_at : (k : ℕ) (hop : Hop) → k < count → slice_get hops k ≡ Some hop
      → frontier_in new hop.demand ≡ slice_set (frontier_in old hop.demand) hop.path (Some link)
  pub vectors_at : (k : ℕ) (hop : Hop) → k < count → slice_get hops k ≡ Some hop
      → vectors_in new hop.demand
      ≡ with_row (vectors_in old hop.demand) hop.path (row_of (vectors_for vectors hop.demand) link)
  pub links_other : (demand : ℕ) → IsApart hops count demand
      → frontier_in new demand ≡ frontier_in old demand
  pub vectors_other : (demand : ℕ) → IsApart hops count demand
      → vectors_in new demand ≡ vectors_in old demand

-- so by all hops
abbrev pub AreAdvanced : {X : Type 0} {F : FieldWords X} {E : EqualityWords X}
    → ℕ → List (Grid X) → List Hop → List (Basis X F E) → List (Basis X F E) → Type 0
AreAdvanced link vectors hops old new = AreAdvancedTo link vectors hops (length hops) old new

module _ {X : Type 0} {F : FieldWords X} {E : EqualityWords X} where
  -- the steps in which a basis is advanced by a hop: those of a renewal, and none where the vector
  -- is the path's already
  abbrev pub advance_steps : ℕ → List (Grid X) → List (Basis X F E) → Hop → ℕ
  advance_steps link vectors bases hop =
      let vector = row_of (vectors_for vectors hop.demand) link in
      if pointwise E.eq (row_of (vectors_in bases hop.demand) hop.path) vector
      then 0
      else renewal_steps F.number F.zero F.add F.mul hop.path vector
      (inverses_in bases hop.demand)

  -- those of all hops
  abbrev pub advances_steps : ℕ → List (Grid X) → List (Basis X F E) → List Hop → ℕ
  advances_steps link vectors bases hops = sum_by (advance_steps link vectors bases) hops
