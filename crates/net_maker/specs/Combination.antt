-- Combination networks: a source, n nodes in the middle, and a sink behind each k of them.
use Rattle.std.specs.Prelude.{◌≡◌, ℕ, ◌+◌, List, [], ◌∷◌, ◌++◌, codes, decimal, map, None}
use Rattle.std.specs.List.{range_with_len}
use Rattle.net_model.specs.declared.Link.{Link}
use Rattle.net_model.specs.declared.Pattern.{Pattern}
use Rattle.net_model.specs.declared.net.FieldChoice.TheVariants.{Any}
use Rattle.net_model.specs.declared.net.Net.{Net}
use Rattle.net_maker.specs.Subsets.{binomial, subsets_of}

-- a letter and a number
abbrev pub numbered : ℕ → ℕ → List ℕ
numbered letter number = letter ∷ decimal number

-- `s`, then `m1` to `mn`, then `t1`, `t2` and so on, so many
abbrev pub node_names : ℕ → ℕ → List (List ℕ)
node_names n count = codes "s" ∷ map (numbered 109) (range_with_len 1 n) ++ map (numbered 116) (range_with_len 1 count)

-- `aI`, from the source to a middle node
abbrev pub entry_link : ℕ → Link
entry_link middle = record { name = numbered 97 middle; tail = 0; head = middle }

-- `bJ-I`, from a middle node `mI` to a sink `tJ`
abbrev pub pair_name : ℕ → ℕ → List ℕ
pair_name sink middle = numbered 98 sink ++ 45 ∷ decimal middle

abbrev pub sink_link : ℕ → ℕ → ℕ → Link
sink_link n sink middle = record { name = pair_name sink middle; tail = middle; head = n + sink }

-- the links into sinks from a number on, each of which has its set of middle nodes
abbrev pub sink_links : ℕ → ℕ → List (List ℕ) → List Link
sink_links n sink [] = []
sink_links n sink (middles ∷ rest) = map (sink_link n sink) middles ++ sink_links n (sink + 1) rest

-- those from the source, then for each sink those into it
abbrev pub links : ℕ → ℕ → List Link
links n k = map entry_link (range_with_len 1 n) ++ sink_links n 1 (subsets_of 1 n k)

-- the nodes behind the middle ones, so many
abbrev pub sinks : ℕ → ℕ → List ℕ
sinks n count = range_with_len (n + 1) count

-- `none` alone
abbrev pub patterns : List Pattern
patterns = record { name = codes "none"; links = [] } ∷ []

pub record IsCombination (n k : ℕ) (net : Net) : Type 0 where
  pub nodes : net.nodes ≡ node_names n (binomial n k)
  pub links : net.links ≡ links n k
  pub source : net.source ≡ 0
  pub sinks : net.sinks ≡ sinks n (binomial n k)
  pub patterns : net.patterns ≡ patterns
  pub field : net.field ≡ Any
  pub wanted : net.wanted ≡ None
