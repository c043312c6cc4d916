-- Certificates: for each demand a flow and a cut of equal size, which is left by the least side.
use Rattle.std.specs.Prelude.{◌≡◌, ◌<◌, ◌≤◌, ◌+◌, ℕ, List, IsTrue, Some, length, slice_get, Result, Ok, Vec}
use Rattle.std.specs.declared.alloc.AllocError.{AllocError}
use Rattle.std.specs.Global.{Global}
use Rattle.net_model.specs.Demands.{demand_count}
use Rattle.net_model.specs.Flows.{IsFlow, IsLeastSide, crossing, flow_network}
use Rattle.net_model.specs.Lists.{is_rising}
use Rattle.net_model.specs.declared.Demand.{Demand}
use Rattle.net_model.specs.declared.net.Net.{Net}
use Rattle.failure_patterns.specs.Batches.{batch_start}
use Rattle.failure_patterns.specs.Demands.{demand_of}
use Rattle.unit_flow.specs.Greatest.{first_links}
use Rattle.cut_witness.specs.declared.cert.Cert.{Cert}

-- the demand is one of the network's
pub record IsDemand (net : Net) (demand : Demand) : Type 0 where
  pub sink : demand.sink < length net.sinks
  pub pattern : demand.pattern < length net.patterns

-- paths that are a flow of the demand, its least side, and the links that leave it, as many as the
-- paths
pub record IsCertificate (net : Net) (cert : Cert) : Type 0 where
  pub demand : IsDemand net cert.demand
  pub flow : IsFlow (flow_network net cert.demand) cert.paths
  pub least_side : IsLeastSide (flow_network net cert.demand) cert.side
  pub crosses : cert.cut ≡ crossing (flow_network net cert.demand) cert.side
  pub paths_value : length cert.paths ≡ cert.value
  pub cut_value : length cert.cut ≡ cert.value
  pub rising : IsTrue (is_rising (first_links cert.paths))

-- each is that of a demand: the first of the demand of this number, and so on in order
pub record AreCertificatesFrom (net : Net) (first : ℕ) (certs : List Cert) : Type 0 where
  pub at : (place : ℕ) (cert : Cert) → slice_get certs place ≡ Some cert
      → IsCertificate net cert × (cert.demand ≡ demand_of net (first + place))

-- one for each demand, in order
pub record AreCertificates (net : Net) (certs : List Cert) : Type 0 where
  pub each_demand : length certs ≡ demand_count net
  pub are : AreCertificatesFrom net 0 certs

-- those of a batch, where all demands are cut into so many
pub record IsBatch (net : Net) (batches batch : ℕ) (certs : List Cert) : Type 0 where
  pub count : batch_start batch batches (demand_count net) + length certs
      ≡ batch_start (batch + 1) batches (demand_count net)
  pub are : AreCertificatesFrom net (batch_start batch batches (demand_count net)) certs

-- for each batch, by its number, its certificates or want of memory
abbrev pub AreBatches : Net → ℕ → List (Result (Vec Cert Global) AllocError) → Type 0
AreBatches net batches made =
    (batch : ℕ) (certs : Vec Cert Global) → slice_get made batch ≡ Some (Ok certs)
    → IsBatch net batches batch certs.items

-- some certificate has that value, and none has a smaller one
pub record IsLeastValue (certs : List Cert) (value : ℕ) : Type 0 where
  pub attained : (number : ℕ) × (cert : Cert) × (slice_get certs number ≡ Some cert)
      × (cert.value ≡ value)
  pub least : (number : ℕ) (cert : Cert) → slice_get certs number ≡ Some cert → value ≤ cert.value
