-- Tables by which it is looked up whether a link fails.
use Rattle.std.specs.Prelude.{◌≡◌, ℕ, Bool, false, List, Some, Vec, length, slice_get, slice_index_or, vec_len}
use Rattle.std.specs.Global.{Global}
use Rattle.net_model.specs.Failed.{is_failed_in}
use Rattle.net_model.specs.declared.net.Net.{Net}

-- for each link, whether it fails in a pattern
pub record IsFailedTable (net : Net) (pattern : ℕ) (table : Vec Bool Global) : Type 0 where
  pub each_link : vec_len table ≡ length net.links
  pub at : (link : ℕ)
      → slice_index_or table.items link false ≡ is_failed_in net.patterns pattern link

-- so for each of the first patterns
pub record AreFailedTablesTo (net : Net) (count : ℕ) (tables : List (Vec Bool Global))
    : Type 0 where
  pub each_pattern : length tables ≡ count
  pub at : (pattern : ℕ) (table : Vec Bool Global)
      → slice_get tables pattern ≡ Some table → IsFailedTable net pattern table

-- for each pattern, for each link whether it fails
abbrev pub AreFailedTables : Net → List (Vec Bool Global) → Type 0
AreFailedTables net tables = AreFailedTablesTo net (length net.patterns) tables
