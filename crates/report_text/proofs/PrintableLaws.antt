-- Every certificate can be printed.
use Rattle.std.specs.Prelude.{◌<◌, ℕ, List, All, length}
use Rattle.std.proofs.Common.{sym, subst}
use Rattle.net_model.proofs.FlowLaws.{crossing-below}
use Rattle.net_model.specs.Flows.{flow_network}
use Rattle.net_model.proofs.WalkLaws.{IsWalk-below}
use Rattle.net_model.specs.declared.net.Net.{Net}
use Rattle.cut_witness.specs.Certificate.{IsCertificate}
use Rattle.cut_witness.specs.declared.cert.Cert.{Cert}
use Rattle.report_text.specs.Report.{IsPrintable}

pub IsPrintable-certificate : (net : Net) (cert : Cert) → IsCertificate net cert → IsPrintable net cert
IsPrintable-certificate net cert is =
    let Below : List ℕ → Type 0 = λ links. All (λ link. link < length net.links) links in
    record {
      sink = is.demand.sink;
      pattern = is.demand.pattern;
      side = is.least_side.crossed.is_side.whole;
      cut = subst Below (sym is.crosses) (crossing-below (flow_network net cert.demand) cert.side);
      paths = λ place none within. IsWalk-below net.links _ (is.flow.each place none within).walk;
    }
