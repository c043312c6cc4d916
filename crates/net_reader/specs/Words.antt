-- Words that are borrowed from a text.
use Rattle.std.specs.Prelude.{◌≡◌, ℕ, List, Option, map, slice_get}
use Rattle.std.specs.Borrow.{Bor}
use Rattle.net_reader.specs.Text.{link_names_of, node_names_of}

-- the bytes of each word
abbrev pub texts_of : List (Bor (List ℕ)) → List (List ℕ)
texts_of words = map (λ word. word.now) words

-- what was found is the name of the node, or of the link, of this number in a text
abbrev pub IsNodeName : List ℕ → ℕ → Option (List ℕ) → Type 0
IsNodeName text node found = found ≡ slice_get (node_names_of text) node

abbrev pub IsLinkName : List ℕ → ℕ → Option (List ℕ) → Type 0
IsLinkName text link found = found ≡ slice_get (link_names_of text) link
