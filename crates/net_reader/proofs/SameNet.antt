-- A network is given by its parts.
use Rattle.std.specs.Prelude.{◌≡◌}
use Rattle.std.proofs.Common.{ap, subst}
use Rattle.std.proofs.Props.{props}
use Rattle.net_model.specs.Network.{IsNetwork, IsWanted}
use Rattle.net_model.specs.declared.net.Net.{Net}
use Rattle.net_reader.specs.Text.{Parts, parts_of}

-- what is made of parts, and of laws of them that have one proof at most, is given by the parts
pub same_by_parts : {A B : Type 0} (Laws : A → Type 0) (made : (parts : A) → Laws parts → B) → ((parts : A) → IsProp (Laws parts))
    → (one other : A) (laws : Laws one) (laws' : Laws other) → one ≡ other → made one laws ≡ made other laws'
same_by_parts {A} Laws made prop one other laws laws' same =
    subst (λ (parts : A). (beside : Laws parts) → made one laws ≡ made parts beside) same (λ beside. ap (made one) (prop one laws beside)) laws'

-- the laws of a network, and of its wanted rate
abbrev Laws : Parts → Type 0
Laws parts = IsNetwork parts.nodes parts.links parts.source parts.sinks parts.patterns × IsWanted parts.wanted

abbrev net_of : (parts : Parts) → Laws parts → Net
net_of parts laws = record { nodes = parts.nodes; links = parts.links; source = parts.source; sinks = parts.sinks; patterns = parts.patterns; field = parts.field; wanted = parts.wanted; network = laws.0; rate = laws.1 }

-- they have one proof at most
laws-prop : (parts : Parts) → IsProp (Laws parts)
laws-prop parts = hlevel props

-- networks of the same parts are equal
pub same_net : (one other : Net) → parts_of one ≡ parts_of other → one ≡ other
same_net one other = same_by_parts Laws net_of laws-prop (parts_of one) (parts_of other) (one.network, one.rate) (other.network, other.rate)
