-- Steps of the table of products.
use Rattle.std.specs.Prelude.{◌≡◌, ◌≢◌, ◌<◌, ◌+◌, ℕ, true, false, Bool, List, [], All, Some, length, map, slice_get, slice_index, slice_index_or, slice_set, ◌%◌}
use Rattle.std.proofs.Common.{sym, ap, ◌∙◌, arith, below_more, inl, inr, subst}
use Rattle.std.proofs.lemmas.Bool.{cases_eq}
use Rattle.std.proofs.Math.Path.{ap₂}
use Rattle.std.proofs.lemmas.List.{ext_get_or, get_or_default, get_or-map, get_or-set_other, get_or-set_same, length-map, length-replicate, length-set, map-set}
use Rattle.field_vectors.specs.Elements.{dot_of}
use Rattle.field_vectors.specs.Grid.{Grid, IsMatrix, entry_of, grid_of, row_of, with_row}
use Rattle.field_vectors.proofs.GridLaws.{length-row_of, row_of-elements, row_of-with_other, row_of-with_row}
use Rattle.field_vectors.proofs.NumberLaws.{get_or-numbers, number-dot_of, numbers-IsRow}
use Rattle.std.specs.declared.cmp.PartialEq.{Ghosts as EqualityWords}
use Rattle.gf_tables.specs.declared.field.Field.{Ghosts as FieldWords}
use Rattle.gf_tables.specs.Field.{IsField, IsNumbering}
use Rattle.gf_tables.specs.Kind.{IsOfKind}
use Rattle.gf_tables.specs.declared.kind.FieldKind.{FieldKind}
use Rattle.linear_algebra.proofs.DotLaws.{dot-comm, dot-unit_row}
use Rattle.linear_algebra.specs.Elements.{numbers}
use Rattle.linear_algebra.proofs.RowLaws.{unit_row-IsRow}
use Rattle.linear_algebra.specs.Rows.{dot, unit_row}
use Rattle.node_program.specs.Carried.{numbers_at, source_vector}
use Rattle.sink_basis.specs.declared.basis.Basis.{Basis}
use Rattle.lif_compiler.specs.Bases.{inverses_in}
use Rattle.lif_compiler.specs.Tables.{vectors_for}
use Rattle.lif_compiler.proofs.BasesLaws.{inverses_in-at}
use Rattle.lif_compiler.specs.declared.hops.Hop.{Hop}

-- the first entries of a row are these, and nothing else is changed
pub record IsFilledTo {A : Type 0} (number : A → ℕ) (row : ℕ) (Entry : ℕ → ℕ → Type 0) (columns : ℕ) (old new : Grid A) : Type 0 where
  pub same_columns : new.columns ≡ old.columns
  pub same_height : length new.rows ≡ length old.rows
  pub width : length (row_of new row) ≡ old.columns
  pub others : (other : ℕ) → other ≢ row → row_of new other ≡ row_of old other
  pub entries : (column : ℕ) → column < columns → Entry column (slice_index (numbers_at number new row) column)

-- one more entry
pub filled_more : {A : Type 0} (number : A → ℕ) (row : ℕ) (Entry : ℕ → ℕ → Type 0) (column : ℕ) (old m new : Grid A) (value : A) → row < length old.rows → column < old.columns
    → IsFilledTo number row Entry column old m → new ≡ with_row m row (slice_set (row_of m row) column value) → Entry column (number value)
    → IsFilledTo number row Entry (column + 1) old new
filled_more number row Entry column old m new value below within so_far is entry =
    let wide : length (row_of m row) ≡ old.columns = so_far.width in
    let tall : row < length m.rows = omega (arith, so_far.same_height) in
    let changed = slice_set (row_of m row) column value in
    let at_row : row_of new row ≡ changed = ap (λ m. row_of m row) is ∙ row_of-with_row m row changed tall in
    let shown : numbers_at number new row ≡ slice_set (numbers_at number m row) column (number value) = ap (numbers number) at_row ∙ map-set number (row_of m row) column value in
    let inside : column < length (numbers_at number m row) = omega (arith, length-map (row_of m row) number) in
    record {
      same_columns = ap (λ m. m.columns) is ∙ so_far.same_columns;
      same_height = ap (λ m. length m.rows) is ∙ length-set m.rows row changed ∙ so_far.same_height;
      width = ap length at_row ∙ length-set (row_of m row) column value ∙ wide;
      others = λ other apart. ap (λ m. row_of m other) is ∙ row_of-with_other m row other changed apart ∙ so_far.others other apart;
      entries = below_more (λ k. Entry k (slice_index (numbers_at number new row) k)) column
          (λ k before.
          let apart : k ≢ column = λ same. absurd (omega arith) in
          subst (Entry k) (sym (ap (λ xs. slice_index xs k) shown ∙ get_or-set_other (numbers_at number m row) column k (number value) 0 apart)) (so_far.entries k before))
          (subst (Entry column) (sym (ap (λ xs. slice_index xs column) shown ∙ get_or-set_same (numbers_at number m row) column (number value) 0 inside)) entry);
    }

-- a row whose entries are all known
pub filled_row : {A : Type 0} (number : A → ℕ) (row : ℕ) (f : ℕ → ℕ) (sources : List ℕ) (old new : Grid A) → old.columns ≡ length sources
    → IsFilledTo number row (λ column entry. entry ≡ f (slice_index sources column)) (length sources) old new → numbers_at number new row ≡ map f sources
filled_row number row f sources old new wide is =
    let long : length (numbers_at number new row) ≡ length sources = length-map (row_of new row) number ∙ is.width ∙ wide in
    ext_get_or 0 (numbers_at number new row) (map f sources) (long ∙ sym (length-map sources f))
    (λ k within.
    let inside : k < length sources = omega (arith, long) in
    is.entries k inside ∙ sym (get_or-map f sources k 0 0 inside))

-- the rows of the first hops are made
pub record IsTableTo {A : Type 0} (number : A → ℕ) (Row : Hop → List ℕ → Type 0) (hops : List Hop) (columns count : ℕ) (table : Grid A) : Type 0 where
  pub same_columns : table.columns ≡ columns
  pub height : length table.rows ≡ length hops
  pub rows : (k : ℕ) (hop : Hop) → k < count → slice_get hops k ≡ Some hop → Row hop (numbers_at number table k)

-- at first none is made
pub table_first : {A : Type 0} (number : A → ℕ) (Row : Hop → List ℕ → Type 0) (hops : List Hop) (columns : ℕ) (zero : A) (table : Grid A) → table ≡ grid_of (length hops) columns zero → IsTableTo number Row hops columns 0 table
table_first {A} number Row hops columns zero table is = record {
  same_columns = ap (λ (m : Grid A). m.columns) is;
  height = ap (λ (m : Grid A). length m.rows) is ∙ length-replicate (length hops) _;
  rows = λ k hop below there. absurd (omega arith);
}

-- one more row
pub table_more : {A : Type 0} (number : A → ℕ) (Row : Hop → List ℕ → Type 0) (hops : List Hop) (columns k : ℕ) (hop : Hop) (old new : Grid A) → IsTableTo number Row hops columns k old → slice_get hops k ≡ Some hop
    → new.columns ≡ old.columns → length new.rows ≡ length old.rows → ((other : ℕ) → other ≢ k → row_of new other ≡ row_of old other) → Row hop (numbers_at number new k) → IsTableTo number Row hops columns (k + 1) new
table_more number Row hops columns k hop old new so_far here wide tall others made = record {
  same_columns = wide ∙ so_far.same_columns;
  height = tall ∙ so_far.height;
  rows = λ j other below there. elim (cases_eq j k) [
    | inl same ↦
        (let both : Some other ≡ Some hop = sym there ∙ ap (slice_get hops) same ∙ here in
        let one : hop ≡ other = cc in
        subst (λ j. Row other (numbers_at number new j)) (sym same) (subst (λ hop. Row hop (numbers_at number new k)) one made))
    | inr apart ↦ subst (Row other) (ap (numbers number) (sym (others j apart))) (so_far.rows j other (omega arith) there)
  ];
}

module _ {A : Type 0} {P : A → Type 0} {nought one : A} {add mul : A → A → A} {inv : A → A} (F : IsField P nought one add mul inv)
    {number : A → ℕ} {of_number : ℕ → A} {size : ℕ} {product : ℕ → ℕ → ℕ} (N : IsNumbering P nought one add mul number of_number size product)
    (kind : FieldKind) {bytes mark : ℕ} (K : IsOfKind kind size bytes mark product) where
  -- the product with a unit vector is an entry
  pub unit_product : (leaves : Bool) (width : ℕ) (vectors inverses : Grid A) (path from : ℕ) → leaves ≡ true → IsMatrix P inverses → path < length inverses.rows → inverses.columns ≡ width → from < width
      → number (entry_of nought inverses path from) ≡ dot kind (source_vector leaves width (numbers_at number vectors) from) (numbers_at number inverses path)
  unit_product leaves width vectors inverses path from is kept below wide within =
      let row = row_of inverses path in
      let shown = numbers number row in
      let fits = numbers-IsRow F N kind K width row (length-row_of inverses path kept below ∙ wide) (row_of-elements inverses path kept below) in
      sym (get_or-numbers F N kind K row from) ∙ sym (dot-unit_row kind width from shown within fits)
      ∙ dot-comm kind shown (unit_row width from) fits.elements (unit_row-IsRow kind width from).elements
      ∙ ap (λ (leaves : Bool). dot kind (source_vector leaves width (numbers_at number vectors) from) shown) (sym is)

  -- the product with a link's vector is that of two rows
  pub link_product : (leaves : Bool) (width : ℕ) (vectors inverses : Grid A) (path from : ℕ) (x y : List A) → leaves ≡ false → All P x → All P y → x ≡ row_of vectors from → y ≡ row_of inverses path
      → number (dot_of nought add mul x y) ≡ dot kind (source_vector leaves width (numbers_at number vectors) from) (numbers_at number inverses path)
  link_product leaves width vectors inverses path from x y is p q x_is y_is =
      number-dot_of F N kind K x y p q ∙ ap₂ (dot kind) (ap (numbers number) x_is) (ap (numbers number) y_is)
      ∙ ap (λ (leaves : Bool). dot kind (source_vector leaves width (numbers_at number vectors) from) (numbers_at number inverses path)) (sym is)

-- the inverse vectors of a basis that was read
pub inverses_read : {X : Type 0} {F : FieldWords X} {E : EqualityWords X} (bases : List (Basis X F E)) (demand : ℕ) (basis : Basis X F E) → demand < length bases
    → basis ≡ slice_index_or bases demand basis → basis.inverses ≡ inverses_in bases demand
inverses_read {X} {F} {E} bases demand basis within is = ap (λ (one : Basis X F E). one.inverses) is ∙ sym (inverses_in-at bases demand basis within)

-- the vectors for a demand that were read
pub vectors_read : {A : Type 0} (vectors : List (Grid A)) (demand count : ℕ) (m : Grid A) → 0 < length vectors → count ≡ length vectors → m ≡ slice_index_or vectors (demand % count) m → m ≡ vectors_for vectors demand
vectors_read vectors demand count m some same is =
    let within : demand % length vectors < length vectors = omega arith in
    is ∙ ap (λ n. slice_index_or vectors (demand % n) m) same ∙ get_or_default vectors (demand % length vectors) m (record { columns = 0; rows = [] }) within

-- products of the same matrices are the same
pub products_same : {A : Type 0} (kind : FieldKind) (number : A → ℕ) (leaves leaves' : Bool) (width rate : ℕ) (sources : List ℕ) (m m' i i' : Grid A) (path : ℕ) → leaves ≡ leaves' → width ≡ rate → m ≡ m' → i ≡ i'
    → map (λ from. dot kind (source_vector leaves width (numbers_at number m) from) (numbers_at number i path)) sources
    ≡ map (λ from. dot kind (source_vector leaves' rate (numbers_at number m') from) (numbers_at number i' path)) sources
products_same {A} kind number leaves leaves' width rate sources m m' i i' path l w v n =
    let products : Bool → ℕ → Grid A → Grid A → List ℕ = λ leaves width m i. map (λ from. dot kind (source_vector leaves width (numbers_at number m) from) (numbers_at number i path)) sources in
    ap (λ leaves. products leaves width m i) l ∙ ap (λ width. products leaves' width m i) w ∙ ap (λ m. products leaves' rate m i) v ∙ ap (λ i. products leaves' rate m' i) n
