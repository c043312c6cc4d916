-- What the texts of the examples stand for.
use Rattle.std.specs.Prelude.{ℕ, List, [], ◌∷◌, ◌++◌, None, Some, codes}
use Rattle.net_model.specs.declared.Link.{Link}
use Rattle.net_model.specs.declared.Pattern.{Pattern}
use Rattle.net_model.specs.declared.net.FieldChoice.TheVariants as choice
use Rattle.net_model.specs.declared.net.Net.{Net}
use Rattle.net_reader.specs.Text.{Parts, parts_of}

abbrev link : List ℕ → ℕ → ℕ → Link
link name tail head = record { name = name; tail = tail; head = head }

abbrev pattern : List ℕ → List ℕ → Pattern
pattern name links = record { name = name; links = links }

-- the parts of a network, whose codes may be over any field
abbrev pub of_any_field : Net → Parts
of_any_field net = record (parts_of net) { field = choice.Any }

-- two links side by side, each of which may fail
abbrev pub two_links : Parts
two_links = record {
  nodes = codes "s" ∷ codes "t" ∷ [];
  links = link (codes "p") 0 1 ∷ link (codes "q") 0 1 ∷ [];
  source = 0;
  sinks = 1 ∷ [];
  patterns = pattern (codes "none") [] ∷ pattern (codes "f1") (0 ∷ []) ∷ pattern (codes "f2") (1 ∷ []) ∷ [];
  field = choice.Any;
  wanted = None;
}

-- the same with a link back, and with a pattern of both first links; both have the name of a node
abbrev pub both_links : Parts
both_links = record two_links {
  links = two_links.links ++ link (codes "s") 1 0 ∷ [];
  patterns = two_links.patterns ++ pattern (codes "s") (0 ∷ 1 ∷ []) ∷ [];
}

-- three cores between a head end and two edges, where the link to any one core may fail
abbrev pub three_cores : Parts
three_cores = record {
  nodes = codes "head" ∷ codes "edge1" ∷ codes "edge2" ∷ codes "c1" ∷ codes "c2" ∷ codes "c3" ∷ [];
  links =
      link (codes "h-c1") 0 3 ∷ link (codes "h-c2") 0 4 ∷ link (codes "h-c3") 0 5
      ∷ link (codes "c1-e1") 3 1 ∷ link (codes "c2-e1") 4 1 ∷ link (codes "c3-e1") 5 1
      ∷ link (codes "c1-e2") 3 2 ∷ link (codes "c2-e2") 4 2 ∷ link (codes "c3-e2") 5 2 ∷ [];
  source = 0;
  sinks = 1 ∷ 2 ∷ [];
  patterns = pattern (codes "none") [] ∷ pattern (codes "no-c1") (0 ∷ []) ∷ pattern (codes "no-c2") (1 ∷ []) ∷ pattern (codes "no-c3") (2 ∷ []) ∷ [];
  field = choice.Any;
  wanted = None;
}

-- a bundle of two links and a link beside it, with a pattern of the bundle and one of each link, and a wanted rate
abbrev pub three_links : Parts
three_links = record {
  nodes = codes "s" ∷ codes "t" ∷ [];
  links = link (codes "l.1") 0 1 ∷ link (codes "l.2") 0 1 ∷ link (codes "m") 0 1 ∷ [];
  source = 0;
  sinks = 1 ∷ [];
  patterns =
      pattern (codes "none") [] ∷ pattern (codes "f") (0 ∷ 1 ∷ [])
      ∷ pattern (codes "l.1") (0 ∷ []) ∷ pattern (codes "l.2") (1 ∷ []) ∷ pattern (codes "m") (2 ∷ []) ∷ [];
  field = choice.Any;
  wanted = Some 2;
}
