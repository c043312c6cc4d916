use Rattle.std.proofs.Common.{◌≡◌, ◌≤◌, ◌∷◌, [], map, slice_get, ap, subst, sym, ◌∙◌, arith}
use Rattle.std.proofs.lemmas.Bool.{lt-ltb}
use Rattle.code_file.proofs.SizeLaws.{bytes_of-within}
use Rattle.code_file.specs.Items.{bytes_of}
use Rattle.code_file.specs.Limits.{fitting_members}
use Rattle.cut_witness.proofs.CertificateLaws.{IsRate-least_value}
use Rattle.failure_patterns.proofs.RateLaws.{IsRate-unique}
use Rattle.lif_compiler.proofs.InOrderLaws.{HasEachOnce-order_of}
use Rattle.lif_compiler.specs.Compiled.{marked_kind}
use Rattle.net_model.proofs.MemberLaws.{member_count-renumbered}
use Rattle.net_model.specs.Demands.{demand_count}
use Rattle.net_model.specs.Failed.{member_count}
use Rattle.net_model.specs.Walks.{leaves_source}
use Rattle.net_model.specs.declared.net.Net.{Net}
use Rattle.node_program.specs.Code.{choice_of}
use Rattle.node_program.specs.declared.code.Code.{Code}
use Rattle.report_text.specs.Report.{report_of}
use Rattle.top_base.specs.Given.{twin_given_in}
use Rattle.top_base.specs.Lines.{twinned_line}
use Rattle.top_tools.proofs.MadeLaws.{same_count}
use Rattle.top_tools.proofs.twinning.of_code.Goals as goal
use Rattle.topo_order.specs.Order.{order_of}
use Rattle.two_sources.proofs.JoinedLaws.{compiled-first_links, compiled-names, compiled-rate}
use Rattle.two_sources.proofs.SeparatedLaws.{separated-operands}
use Rattle.two_sources.specs.Separated.{HasFirstLinks, IsSeparated}

pub separate-requires-clause-first : goal.separate-requires-clause-first
separate-requires-clause-first g c =
    let words = c.args.words.now in
    let net = c.args.net.now in
    let joins = c.requires.joined.1 in
    let first =
    compiled-first_links joins.second words.r1 words.r2 c.requires.joined.0 net joins.is_joined (marked_kind g.F.Field.MARK) c.args.code
    c.args.certs.now c.requires.compiled in
    subst (λ (code : Code). HasFirstLinks code.net code.rate) (sym c.in_ok-checked.ensures) first

pub returns : goal.returns
returns g c = λ old joins.
    let given = twin_given_in c.args.words.now in
    let net = c.args.net.now in
    let kind = marked_kind g.F.Field.MARK in
    let whole = c.args.code in
    let code = c.in_ok-code.code in
    let certs = c.args.certs.now in
    let compiled = c.requires.compiled in
    let separated : IsSeparated whole code =
    subst (λ (one : Code). IsSeparated one code) c.in_ok-checked.ensures c.in_ok-code.ensures.separated in
    let first = compiled-first_links joins.second given.r1 given.r2 old net joins.is_joined kind whole certs compiled in
    let members : member_count code.net.patterns ≡ member_count net.patterns =
    ap (λ (one : Net). member_count one.patterns) separated.net
    ∙ member_count-renumbered net whole.net (order_of net.links) (choice_of kind) (HasEachOnce-order_of net.links compiled.acyclic)
    compiled.network in
    let demands : demand_count code.net ≡ demand_count net =
    ap demand_count separated.net ∙ same_count (order_of net.links) (choice_of kind) net whole.net compiled.network in
    let over : code.field ≡ kind = separated.field ∙ compiled.over in
    let least : c.rate.result ≡ compiled.least =
    IsRate-unique net c.rate.result compiled.least (IsRate-least_value net certs c.rate.result compiled.certified c.rate.ensures)
    (IsRate-least_value net certs compiled.least compiled.certified compiled.is_least) in
    let bytes : c.in_ok-write_code.field-0.items ≡ bytes_of code = c.in_ok-write_code.ensures in
    let text : c.in_ok-report_of.field-0.items ≡ report_of net compiled.least certs =
    c.in_ok-report_of.ensures ∙ ap (λ rate. report_of net rate certs) least in
    record {
      joined = net;
      joins = joins;
      field = kind;
      served = c.requires.served;
      whole = whole;
      certs = certs;
      compiled = compiled;
      code = code;
      separated = separated;
      is_twin = record {
        accepted = c.in_ok-code.ensures.accepted;
        rate = separated.rate ∙ compiled-rate joins.second given.r1 given.r2 old net joins.is_joined kind whole certs compiled;
        named = λ link below.
            ap (λ (one : Net). slice_get (map (λ l. l.name) one.links) link) separated.net
            ∙ compiled-names joins.second given.r1 given.r2 old net joins.is_joined kind whole certs compiled link
            (omega (arith, below, separated.rate));
        carries = λ link below. record {
          leaves =
              ap (λ (one : Net). leaves_source one link) separated.net ∙ first link
              ∙ lt-ltb link whole.rate (omega (arith, below, separated.rate));
          alone = separated-operands whole first code separated link below;
        };
      };
      within = bytes_of-within code (subst (λ n. n ≤ fitting_members) (sym members) c.requires.members);
      files_are = λ i. (given.code, bytes i) ∷ (given.report, text i) ∷ [];
      line_is = c.twinned.ensures ∙ (λ i. twinned_line given.r1 given.r2 (over i) (demands i));
    }
