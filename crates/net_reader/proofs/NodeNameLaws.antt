-- The names of the nodes and of the links of a text are names.
use Rattle.std.specs.Prelude.{◌≡◌, ℕ, true, List, [], Option, Some, Result, Ok, Err, IfOk, slice_get, unwrap_or}
use Rattle.std.specs.List.{flat_map, list_all}
use Rattle.std.proofs.Common.{refl, subst}
use Rattle.std.proofs.lemmas.Bool.{and_parts}
use Rattle.std.proofs.lemmas.Option.{slice_get_within}
use Rattle.net_model.specs.Name.{is_name, IsName}
use Rattle.net_model.proofs.NetworkLaws.{node_name}
use Rattle.net_reader.proofs.GoodLaws.{AreGood, AreGood-none, read_lines-good}
use Rattle.net_reader.specs.Lines.{lines_of}
use Rattle.net_reader.proofs.NameLaws.{distinct_from-are_names}
use Rattle.net_reader.specs.Statements.{Statement, link_names, nodes_in, nodes_of}
use Rattle.net_reader.specs.Text.{link_names_of, names_read, node_names_of, read_lines}
use Rattle.net_reader.specs.declared.refusal.ReadRefusal.{ReadRefusal}

-- those of good statements are, so what is read of them is
module _ (names : List Statement → List (List ℕ)) (valid : (statements : List Statement) → AreGood statements → list_all is_name (names statements) ≡ true) where
  read_valid : (read : Result (List Statement) ReadRefusal) → IfOk read AreGood → list_all is_name (names_read names read) ≡ true
  read_valid (Err refusal) good = refl
  read_valid (Ok statements) good = valid statements good

  text_valid : (text : List ℕ) → list_all is_name (names_read names (read_lines [] 1 (lines_of text))) ≡ true
  text_valid text = read_valid (read_lines [] 1 (lines_of text)) (read_lines-good [] 1 (lines_of text) AreGood-none)

-- one of names is a name
one_valid : (names : List (List ℕ)) (number : ℕ) (name : List ℕ) → list_all is_name names ≡ true → slice_get names number ≡ Some name → IsName name
one_valid names number name all found =
    subst (λ (at : Option (List ℕ)). IsName (unwrap_or at [])) found (node_name names number (slice_get_within names number name found) all)

-- ---- nodes

nodes_valid : (statements : List Statement) → AreGood statements → list_all is_name (nodes_of statements) ≡ true
nodes_valid statements good = (and_parts _ _ (distinct_from-are_names (flat_map nodes_in statements) good.nodes_named)).0

-- the name of a node is a name
pub node_name-valid : (text : List ℕ) (node : ℕ) (name : List ℕ) → slice_get (node_names_of text) node ≡ Some name → IsName name
node_name-valid text node name found = one_valid (node_names_of text) node name (text_valid nodes_of nodes_valid text) found

-- ---- links

links_valid : (statements : List Statement) → AreGood statements → list_all is_name (link_names statements) ≡ true
links_valid statements good = (and_parts _ _ good.links_named).0

-- the name of a link is a name
pub link_name-valid : (text : List ℕ) (link : ℕ) (name : List ℕ) → slice_get (link_names_of text) link ≡ Some name → IsName name
link_name-valid text link name found = one_valid (link_names_of text) link name (text_valid link_names links_valid text) found
