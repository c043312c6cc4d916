-- What is made of a combination network.
use Rattle.std.specs.Prelude.{◌≡◌, ◌≤◌, ℕ, List, None}
use Rattle.cut_witness.specs.declared.cert.Cert.{Cert}
use Rattle.failure_patterns.specs.Rate.{IsRate}
use Rattle.lif_compiler.specs.Compiled.{IsCompiled}
use Rattle.net_maker.specs.Combination.{IsCombination}
use Rattle.net_model.specs.Limits.{highest_rate}
use Rattle.net_model.specs.Walks.{IsAcyclic}
use Rattle.net_model.specs.declared.net.Net.{Net}
use Rattle.node_program.specs.declared.code.Code.{Code}
use Rattle.top_tools.specs.Compile.Made.{IsServedBy}

-- a network without a cycle that has this rate, and of which no other is wanted, for which a code is made
pub record HasRate (net : Net) (rate : ℕ) : Type 0 where
  pub no_wanted : net.wanted ≡ None
  pub acyclic : IsAcyclic net.links
  pub is_rate : IsRate net rate
  pub some_rate : 1 ≤ rate
  pub low_rate : rate ≤ highest_rate

-- a code that is compiled of the network with a sink behind each k of n nodes, over the field that serves its demands: it is
-- accepted, and its rate is k, the size of each sink's least cut
pub record IsCombinationCode (n k : ℕ) (code : Code) : Type 0 where
  pub net : Net
  pub combination : IsCombination n k net
  pub served : IsServedBy net code.field
  pub certs : List Cert
  pub compiled : IsCompiled net code.field code certs
  pub rate : code.rate ≡ k
