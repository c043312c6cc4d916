-- What the table of products is made of, by which the coefficients of a link are chosen: a row for
-- each hop over it, a column for each source.
use Rattle.std.specs.Prelude.{◌≡◌, ◌<◌, ◌%◌, ℕ, Bool, true, false, List, [], All, length, replicate, slice_index_or, if◌then◌else◌}
use Rattle.field_vectors.specs.Grid.{Grid, grid_of}
use Rattle.gf_tables.specs.declared.kind.FieldKind.{FieldKind}
use Rattle.linear_algebra.specs.Rows.{dot}
use Rattle.net_model.specs.declared.net.Net.{Net}
use Rattle.node_program.specs.Carried.{numbers_at, source_vector}
use Rattle.node_program.specs.Value.{leaves_source}
use Rattle.lif_compiler.specs.declared.hops.Hop.{Hop}

-- the matrix at a place
abbrev pub grid_at : {A : Type 0} → List (Grid A) → ℕ → Grid A
grid_at grids place = slice_index_or grids place (record { columns = 0; rows = [] })

-- so many matrices whose entries are all one value
abbrev pub grids_of : {A : Type 0} → ℕ → ℕ → ℕ → A → List (Grid A)
grids_of count rows columns value = replicate count (grid_of rows columns value)

-- matrices of so many rows and columns
abbrev pub AreOfShape : {A : Type 0} → ℕ → ℕ → List (Grid A) → Type 0
AreOfShape rows columns grids = All (λ m. (length m.rows ≡ rows) × (m.columns ≡ columns)) grids

-- each hop is one of a demand and a path that there are
abbrev pub AreAmong : ℕ → ℕ → List Hop → Type 0
AreAmong demands rate hops = All (λ hop. (hop.demand < demands) × (hop.path < rate)) hops

-- each source is a row of the source's block, where the link leaves the source, or a link
abbrev pub AreNamed : Bool → ℕ → ℕ → List ℕ → Type 0
AreNamed leaves rate links sources = All (λ from. from < (if leaves then rate else links)) sources

-- the same of the sources of a link
abbrev pub CanFeed : Net → ℕ → ℕ → List ℕ → Type 0
CanFeed net rate link sources = AreNamed (leaves_source net link) rate (length net.links) sources

-- the matrix of the vectors under the pattern of a demand, where there is one for each pattern
abbrev pub vectors_for : {A : Type 0} → List (Grid A) → ℕ → Grid A
vectors_for vectors demand = grid_at vectors (demand % length vectors)

-- the product of the vector of a source of a link, by whether that leaves the source, with a row of
-- other vectors
abbrev pub product_by : {A : Type 0}
    → FieldKind → (A → ℕ) → Bool → Grid A → Grid A → ℕ → ℕ → ℕ
product_by kind number leaves vectors inverses path from =
    dot kind (source_vector leaves vectors.columns (numbers_at number vectors) from)
    (numbers_at number inverses path)

-- the steps of such a product with vectors of so many places: a step for each place, and none where
-- the link leaves the source, since the product is an entry then
abbrev pub product_steps : Bool → ℕ → ℕ
product_steps true width = 0
product_steps false width = width
