-- What the compiler makes of a network: a code of the wanted rate, or else of the network's, which no code of it
-- exceeds, and certificates of the network's rate.
use Rattle.std.specs.Prelude.{◌≡◌, ◌<◌, ◌≤◌, ◌+◌, ℕ, List, Bool, true, false, length, slice_get, slice_index, All, Some, unwrap_or}
use Rattle.gf_tables.specs.Product.{kind_of_mark, size_of}
use Rattle.gf_tables.specs.declared.kind.FieldKind.{FieldKind}
use Rattle.gf_tables.specs.declared.kind.FieldKind.TheVariants.{Eight}
use Rattle.net_model.specs.Demands.{demand_count}
use Rattle.net_model.specs.Renumbering.{HasEachOnce, IsRenumbered, old_number}
use Rattle.net_model.specs.Walks.{IsAcyclic}
use Rattle.net_model.specs.declared.net.FieldChoice.{FieldChoice}
use Rattle.net_model.specs.declared.net.Net.{Net}
use Rattle.failure_patterns.specs.Rate.{rate_used}
use Rattle.cut_witness.specs.Certificate.{AreCertificates, IsLeastValue}
use Rattle.cut_witness.specs.declared.cert.Cert.{Cert}
use Rattle.node_program.specs.Code.{choice_of}
use Rattle.node_program.specs.Decoding.{IsAccepted}
use Rattle.node_program.specs.Value.{leaves_source, operands_at}
use Rattle.node_program.specs.declared.Operand.{Operand}
use Rattle.node_program.specs.declared.code.Code.{Code}
use Rattle.topo_order.specs.Order.{order_of}

-- the kind of field that a mark in code files stands for: every kind is that of its own mark
abbrev pub marked_kind : ℕ → FieldKind
marked_kind mark = unwrap_or (kind_of_mark mark) Eight

-- a path of some certificate, among so many of its first
pub record IsPrintedPath (rate : ℕ) (certs : List Cert) (number : ℕ) (path : List ℕ) : Type 0 where
  pub demand : ℕ
  pub cert : Cert
  pub of_demand : slice_get certs demand ≡ Some cert
  pub of_first : number < rate
  pub path_there : slice_get cert.paths number ≡ Some path

-- a link stands directly before another on such a path
pub record StandsBefore (rate : ℕ) (certs : List Cert) (before link : ℕ) : Type 0 where
  pub number : ℕ
  pub path : List ℕ
  pub printed : IsPrintedPath rate certs number path
  pub place : ℕ
  pub within : place + 1 < length path
  pub first : slice_index path place ≡ before
  pub second : slice_index path (place + 1) ≡ link

-- a link is the first of such a path, which has this number
pub record IsFirstOf (rate : ℕ) (certs : List Cert) (number link : ℕ) : Type 0 where
  pub path : List ℕ
  pub printed : IsPrintedPath rate certs number path
  pub some : 0 < length path
  pub first : slice_index path 0 ≡ link

-- what an operand is of a link, by whether that leaves the source: the number of a path that the
-- link begins, or else a link directly before it
abbrev pub Feeds : Bool → List ℕ → ℕ → List Cert → ℕ → ℕ → Type 0
Feeds true order rate certs from link = IsFirstOf rate certs from (old_number order link)
Feeds false order rate certs from link =
    StandsBefore rate certs (old_number order from) (old_number order link)

-- an operand of a link of a code comes from the printed paths, whose links have their old numbers
abbrev pub IsOfPaths : List ℕ → List Cert → Code → ℕ → Operand → Type 0
IsOfPaths order certs code link operand =
    Feeds (leaves_source code.net link) order code.rate certs operand.from link

-- a code whose network is this one, with its links in some order, over any field
pub record IsCodeOf (net : Net) (code : Code) : Type 0 where
  pub order : List ℕ
  pub once : HasEachOnce (length net.links) order
  pub choice : FieldChoice
  pub network : IsRenumbered order choice net code.net

-- An accepted code of the network, with its links in order. The least value is that of the certificates of all
-- demands, and no accepted code of the network has a rate above it, wanted or not. The code's rate is the wanted one,
-- where there is one, and else the least value. Its operands come from the certificates' paths.
pub record IsCompiled (net : Net) (field : FieldKind) (code : Code)
    (certs : List Cert) : Type 0 where
  pub acyclic : IsAcyclic net.links
  pub served : demand_count net ≤ size_of field
  pub certified : AreCertificates net certs
  pub network : IsRenumbered (order_of net.links) (choice_of field) net code.net
  pub over : code.field ≡ field
  pub least : ℕ
  pub is_least : IsLeastValue certs least
  pub rate : code.rate ≡ rate_used net least
  pub within : code.rate ≤ least
  pub accepted : IsAccepted code
  pub greatest : (other : Code) → IsCodeOf net other → IsAccepted other → other.rate ≤ least
  pub of_paths : (link : ℕ) → link < length net.links
      → All (IsOfPaths (order_of net.links) certs code link) (operands_at code.operands link)
