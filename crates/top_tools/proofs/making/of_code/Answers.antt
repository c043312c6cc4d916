use Rattle.std.proofs.Common.{◌≡◌, ◌≤◌, ap, subst, sym, ◌∙◌}
use Rattle.code_file.proofs.SizeLaws.{bytes_of-within}
use Rattle.code_file.specs.Items.{bytes_of}
use Rattle.code_file.specs.Limits.{fitting_members}
use Rattle.cut_witness.proofs.CertificateLaws.{IsRate-least_value}
use Rattle.failure_patterns.proofs.RateLaws.{IsRate-unique}
use Rattle.lif_compiler.proofs.InOrderLaws.{HasEachOnce-order_of}
use Rattle.net_model.proofs.MemberLaws.{member_count-renumbered}
use Rattle.node_program.specs.Code.{choice_of}
use Rattle.report_text.specs.Report.{report_of}
use Rattle.top_base.specs.Lines.{compiled_line}
use Rattle.top_tools.proofs.MadeLaws.{same_count}
use Rattle.top_tools.proofs.making.of_code.Goals as goal
use Rattle.top_tools.specs.Compile.Ready.{files_of}
use Rattle.topo_order.specs.Order.{order_of}

pub returns : goal.returns
returns g c = λ given.
    let net = c.args.net.now in
    let code = c.args.code.now in
    let report = c.in_ok-report_of.field-0.items in
    let certs = c.args.certs.now in
    let compiled = c.requires.compiled in
    let least : c.rate.result ≡ compiled.least =
    IsRate-unique net c.rate.result compiled.least (IsRate-least_value net certs c.rate.result compiled.certified c.rate.ensures)
    (IsRate-least_value net certs compiled.least compiled.certified compiled.is_least) in
    record {
      field = code.field;
      served = c.requires.served;
      code = code;
      certs = certs;
      compiled = compiled;
      within = bytes_of-within code (subst (λ n. n ≤ fitting_members) (sym (member_count-renumbered net code.net (order_of net.links) (choice_of code.field) (HasEachOnce-order_of net.links compiled.acyclic) compiled.network)) c.requires.members);
      files_are = ap (λ bytes. files_of given bytes report) c.in_ok-write_code.ensures ∙ ap (files_of given (bytes_of code)) (c.in_ok-report_of.ensures ∙ ap (λ rate. report_of net rate certs) least);
      line_is = c.compiled.ensures ∙ ap (compiled_line code.rate code.field) (same_count (order_of net.links) (choice_of code.field) net code.net compiled.network);
    }
