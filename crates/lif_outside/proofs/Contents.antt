-- What a map from paths to bytes holds after one file is set.
use Rattle.std.proofs.Common.{◌≡◌, ℕ, List, ◌++◌, [], Some, String, Vec, BTreeMap, Global, option_map, string_bytes, string_cmp, nat_cmp, bytes_eq, is_some, unwrap_or, IsSome, sym, ap, subst, ◌∙◌, inl, inr}
use Rattle.std.specs.BTreeMap.{UpdatesBy, Updates}
use Rattle.std.specs.Cmp.Lexicographic.{slice_cmp}
use Rattle.std.proofs.lemmas.Bool.{cases_Bool, cond-false, false_from_ne_true, false≢true}
use Rattle.std.proofs.lemmas.Map.Text.{btree_map_updates_text}
use Rattle.std.proofs.lemmas.Slice.Eq.{bytes_eq-Decides}
use Rattle.lif_outside.specs.Files.{Files, SameFiles}
use Rattle.lif_outside.specs.Memory.{contents, SetsFile}

-- a file that is there, or not, is set to one with these bytes
pub set_writes : (path bytes : List ℕ) (old new : BTreeMap (String Global) (Vec ℕ Global)) (file : Vec ℕ Global) → file.items ≡ bytes → UpdatesBy string_cmp (λ key. slice_cmp nat_cmp path (string_bytes key)) old new (Some file) → SetsFile path bytes (contents old) (contents new)
set_writes path bytes old new file holds set = record {
  holds = ap (option_map (λ found. found.items)) set.1 ∙ ap Some holds;
  others = λ other apart.
      let differs = false_from_ne_true (bytes_eq path other) (λ same. apart (sym ((bytes_eq-Decides path other).0 same))) in
      ap (option_map (λ found. found.items)) (btree_map_updates_text path old new (Some file) set other ∙ cond-false _ _ _ differs);
}

-- a file with these bytes is inserted
pub insert_writes : (key : String Global) (path bytes : List ℕ) (old new : BTreeMap (String Global) (Vec ℕ Global)) (file : Vec ℕ Global) → string_bytes key ≡ path → file.items ≡ bytes → Updates string_cmp old new key (Some file) → SetsFile path bytes (contents old) (contents new)
insert_writes key path bytes old new file named holds set =
    subst (λ name. SetsFile name bytes (contents old) (contents new)) named (set_writes (string_bytes key) bytes old new file holds set)

-- what is there stays there
pub writes_keep : (path bytes : List ℕ) (old new : Files) → SetsFile path bytes old new → (other : List ℕ) → IsSome (old other) → IsSome (new other)
writes_keep path bytes old new writes other there =
    let same = bytes_eq-Decides other path in
    elim (cases_Bool (bytes_eq other path)) [
      | inl is ↦ ap is_some (ap new (same.0 is) ∙ writes.holds)
      | inr not ↦ ap is_some (writes.others other (λ e. false≢true (sym not ∙ same.1 e))) ∙ there
    ]

-- a file that is there is set to what it held and these bytes, and every other is as before
pub append_sets : (path held more : List ℕ) (old mid new : Files) → SameFiles old mid → mid path ≡ Some held → SetsFile path (held ++ more) mid new
    → SetsFile path (unwrap_or (old path) [] ++ more) old new
append_sets path held more old mid new same found set = record {
  holds = set.holds ∙ ap (λ file. Some (unwrap_or file [] ++ more)) (sym found ∙ same path);
  others = λ other apart. set.others other apart ∙ same other;
}
