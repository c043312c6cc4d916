-- A code in the making, of which the links up to a place have operands: the products by which the
-- coefficients of the next link are chosen.
use Rattle.std.specs.Prelude.{◌≡◌, ◌≢◌, ℕ, Bool, List, Some, length, map, slice_get}
use Rattle.std.specs.declared.cmp.PartialEq.{Ghosts as EqualityWords}
use Rattle.field_vectors.specs.Grid.{Grid}
use Rattle.gf_tables.specs.Kind.{IsOfKind}
use Rattle.gf_tables.specs.declared.field.Field.{Ghosts as FieldWords}
use Rattle.gf_tables.specs.declared.kind.FieldKind.{FieldKind}
use Rattle.linear_algebra.specs.Rows.{AreElements, dot}
use Rattle.net_model.specs.declared.net.Net.{Net}
use Rattle.node_program.specs.Carried.{numbers_at, source_vector}
use Rattle.node_program.specs.Value.{leaves_source}
use Rattle.node_program.specs.declared.Operand.{Operand}
use Rattle.lif_compiler.specs.Bases.{inverses_in}
use Rattle.lif_compiler.specs.Compiled.{marked_kind}
use Rattle.lif_compiler.specs.Operands.{AreSources, befores, operands_of}
use Rattle.lif_compiler.specs.Tables.{vectors_for}
use Rattle.lif_compiler.specs.declared.hops.Hop.{Hop}
use Rattle.lif_compiler.specs.declared.partial_code.PartialCode.{PartialCode}

module _ {X : Type 0} {F : FieldWords X} {E : EqualityWords X} where
  -- the vector of a source of a link, by whether that leaves the source, under the pattern of a
  -- demand
  abbrev pub vector_of_source : Bool → PartialCode X F E → ℕ → ℕ → List ℕ
  vector_of_source leaves code demand from =
      source_vector leaves code.rate
      (numbers_at F.number (vectors_for code.vectors.items demand)) from

  -- its product with the inverse vector of a hop's path
  abbrev pub product_of : FieldKind → Bool → PartialCode X F E → Hop → ℕ → ℕ
  product_of kind leaves code hop from =
      dot kind (vector_of_source leaves code hop.demand from)
      (numbers_at F.number (inverses_in code.bases.items hop.demand) hop.path)

  -- those of all sources
  abbrev pub products_of : FieldKind → Bool → List ℕ → PartialCode X F E → Hop → List ℕ
  products_of kind leaves sources code hop = map (product_of kind leaves code hop) sources

  -- on the path of each hop over a link, what comes before the link has such a product that isn't
  -- zero
  abbrev pub HaveProducts : Net → ℕ → List Hop → PartialCode X F E → Type 0
  HaveProducts net link hops code = (k : ℕ) (hop : Hop) → slice_get hops k ≡ Some hop
      → product_of (marked_kind F.MARK) (leaves_source net link) code hop hop.before ≢ 0

  -- a table for a link, with a row for each hop, of its products with the sources
  pub record IsTable (kind : FieldKind) (net : Net) (link : ℕ) (sources : List ℕ) (hops : List Hop)
      (code : PartialCode X F E) (table : Grid X) : Type 0 where
    pub columns : table.columns ≡ length sources
    pub height : length table.rows ≡ length hops
    pub row : (k : ℕ) (hop : Hop) → slice_get hops k ≡ Some hop
        → numbers_at F.number table k ≡ products_of kind (leaves_source net link) sources code hop

  -- so by the kind of the field
  abbrev pub IsTableFor : Net → ℕ → List ℕ → List Hop → PartialCode X F E → Grid X → Type 0
  IsTableFor net link sources hops code table =
      (kind : FieldKind) → IsOfKind kind F.SIZE F.BYTES F.MARK F.product
      → IsTable kind net link sources hops code table

  -- Operands that are chosen for a link: its sources with coefficients by which no hop's products
  -- come to zero.
  pub record AreChosenBy (net : Net) (link : ℕ) (hops : List Hop) (code : PartialCode X F E)
      (operands : List Operand) : Type 0 where
    pub sources : List ℕ
    pub are_sources : AreSources (befores hops) sources
    pub times : List ℕ
    pub each_source : length times ≡ length sources
    pub elements : AreElements (marked_kind F.MARK) times
    pub operands_are : operands ≡ operands_of sources times
    pub nonzero : (k : ℕ) (hop : Hop) → slice_get hops k ≡ Some hop
        → dot (marked_kind F.MARK) times
        (products_of (marked_kind F.MARK) (leaves_source net link) sources code hop) ≢ 0
