-- Steps of the tables by which it is looked up whether a link fails.
use Rattle.std.specs.Prelude.{◌≡◌, ◌<◌, ◌+◌, ℕ, Bool, List, [], ◌∷◌, ◌++◌, Vec, length}
use Rattle.std.specs.Global.{Global}
use Rattle.std.proofs.Common.{refl, sym, ◌∙◌, arith, get_or, inl, inr, length-append, subst}
use Rattle.std.proofs.lemmas.Bool.{cases_eq}
use Rattle.std.proofs.lemmas.List.{get_or_append_left, get_or_push}
use Rattle.std.proofs.lemmas.Option.{get_or_from_slice_get, slice_get_read, slice_get_within}
use Rattle.net_model.specs.declared.net.Net.{Net}
use Rattle.lif_compiler.specs.Failing.{AreFailedTables, AreFailedTablesTo, IsFailedTable}

-- no tables
pub tables_none : (net : Net) (tables : List (Vec Bool Global)) → tables ≡ [] → AreFailedTablesTo net 0 tables
tables_none net tables none =
    subst (AreFailedTablesTo net 0) (sym none) (record {
      each_pattern = refl;
      at = λ pattern table there. let within = slice_get_within [] pattern table there in absurd (omega arith);
    })

-- one table more
pub tables_more : (net : Net) (count : ℕ) (tables : List (Vec Bool Global)) (table : Vec Bool Global) → AreFailedTablesTo net count tables → IsFailedTable net count table
    → AreFailedTablesTo net (count + 1) (tables ++ table ∷ [])
tables_more net count tables table so_far here =
    let all = tables ++ table ∷ [] in
    let many : length all ≡ count + 1 = omega (arith, length-append tables (table ∷ []), so_far.each_pattern) in
    record {
      each_pattern = many;
      at = λ pattern one there. elim (cases_eq pattern count) [
        | inl same ↦
            (let is : table ≡ one = sym (get_or_push tables table table pattern (so_far.each_pattern ∙ sym same)) ∙ get_or_from_slice_get all pattern one table there in
            subst (IsFailedTable net pattern) is (subst (λ pattern. IsFailedTable net pattern table) (sym same) here))
        | inr apart ↦
            (let below : pattern < length tables = omega (arith, slice_get_within all pattern one there, many, so_far.each_pattern, apart) in
            let is : one ≡ get_or tables pattern one = sym (get_or_from_slice_get all pattern one one there) ∙ get_or_append_left tables (table ∷ []) one pattern below in
            so_far.at pattern one (slice_get_read tables (length tables) pattern one refl below is))
      ];
    }

-- the table that is read for a pattern
pub table_read : (net : Net) (tables : List (Vec Bool Global)) (pattern : ℕ) (table : Vec Bool Global) → AreFailedTables net tables → pattern < length tables → table ≡ get_or tables pattern table → IsFailedTable net pattern table
table_read net tables pattern table are within is = are.at pattern table (slice_get_read tables (length tables) pattern table refl within is)
