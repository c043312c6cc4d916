-- Steps of a code's making from certificates.
use Rattle.std.specs.Prelude.{◌≡◌, ◌≤◌, ℕ, IsTrue, List, [], All, length}
use Rattle.std.proofs.Common.{sym, ap, ◌∙◌, arith, get_or, subst}
use Rattle.std.proofs.lemmas.List.Elements.{All-weaker}
use Rattle.std.proofs.lemmas.Option.{slice_get-get_or, unwrap_or-slice_get}
use Rattle.counted_steps.specs.Steps.{RoseByAtMost}
use Rattle.cut_bound.proofs.HighestLaws.{accepted-at_most_rate}
use Rattle.cut_witness.proofs.CertificateLaws.{IsRate-least_value}
use Rattle.cut_witness.specs.Certificate.{AreCertificates, IsLeastValue}
use Rattle.cut_witness.specs.declared.cert.Cert.{Cert}
use Rattle.failure_patterns.proofs.RateLaws.{IsRate-unique}
use Rattle.failure_patterns.specs.Rate.{IsRate, rate_used}
use Rattle.gf_tables.specs.Product.{size_of}
use Rattle.gf_tables.specs.declared.kind.FieldKind.{FieldKind}
use Rattle.net_model.specs.Demands.{demand_count}
use Rattle.net_model.specs.Renumbering.{HasEachOnce, IsRenumbered, renumbered_links}
use Rattle.net_model.proofs.RenumberingLaws.{length-renumbered_links}
use Rattle.net_model.specs.Walks.{IsAcyclic}
use Rattle.net_model.specs.declared.net.Net.{Net}
use Rattle.node_program.specs.Code.{are_in_order, choice_of}
use Rattle.node_program.specs.Decoding.{IsAccepted}
use Rattle.node_program.specs.Value.{leaves_source, operands_at}
use Rattle.node_program.specs.declared.Decoder.{Decoder}
use Rattle.node_program.specs.declared.Operand.{Operand}
use Rattle.node_program.specs.declared.code.Code.{Code}
use Rattle.topo_order.specs.Order.{order_of}
use Rattle.lif_compiler.specs.Compiled.{Feeds, IsCodeOf, IsCompiled, IsOfPaths}
use Rattle.lif_compiler.specs.Hops.{HaveHops}
use Rattle.lif_compiler.proofs.InOrderLaws.{HasEachOnce-order_of, are_in_order-renumbered}
use Rattle.lif_compiler.proofs.OriginLaws.{AreRoutes-renumbered, Feeds-of_hop, demand_count-renumbered}
use Rattle.lif_compiler.proofs.WorkLaws.{rate_within}
use Rattle.lif_compiler.specs.Rating.{IsRateUsed}
use Rattle.lif_compiler.specs.Routes.{routes_of_certs}
use Rattle.lif_compiler.specs.Visits.{AreVisitable, IsFilled, IsOfHop}
use Rattle.lif_compiler.specs.Work.{choice_bound}
use Rattle.lif_compiler.specs.declared.hops.Hop.{Hop}

-- the order of a network without a cycle has each link once
pub order_once : (net : Net) (order : List ℕ) → order ≡ order_of net.links → IsAcyclic net.links → HasEachOnce (length net.links) order
order_once net order is acyclic = subst (HasEachOnce (length net.links)) (sym is) (HasEachOnce-order_of net.links acyclic)

-- certificates have one least value
IsLeastValue-unique : (certs : List Cert) (least other : ℕ) → IsLeastValue certs least → IsLeastValue certs other → least ≡ other
IsLeastValue-unique certs least other one two =
    let below = one.least two.attained.0 two.attained.1 two.attained.2 in
    let above = two.least one.attained.0 one.attained.1 one.attained.2 in
    omega (arith, below, above, one.attained.3, two.attained.3)

-- a code that is made by certificates has the rate that they give
pub rate-compiled : {net : Net} {kind : FieldKind} {code : Code} {certs : List Cert} {rate : ℕ} → IsCompiled net kind code certs → IsRateUsed net certs rate → code.rate ≡ rate
rate-compiled {net} {kind} {code} {certs} {rate} compiled used =
    compiled.rate ∙ ap (rate_used net) (IsLeastValue-unique certs compiled.least used.least compiled.is_least used.is_least) ∙ sym used.used

-- each certificate has as many paths as the rate says
pub enough_paths : (net : Net) (certs : List Cert) (rate : ℕ) → AreCertificates net certs → IsRateUsed net certs rate → All (λ cert. rate ≤ length cert.paths) certs
enough_paths net certs rate are used = λ k d within.
    let there = slice_get-get_or certs k d within in
    omega (arith, used.within, used.is_least.least k (get_or certs k d) there, (are.are.at k (get_or certs k d) there).0.paths_value)

module _ (net new : Net) (certs : List Cert) (order : List ℕ) (rate : ℕ) (kind : FieldKind) (order_is : order ≡ order_of net.links) (acyclic : IsAcyclic net.links) (are : AreCertificates net certs) (used : IsRateUsed net certs rate)
    (renumbered : IsRenumbered order (choice_of kind) net new) where
  once : HasEachOnce (length net.links) order
  once = order_once net order order_is acyclic

  enough : All (λ cert. rate ≤ length cert.paths) certs
  enough = enough_paths net certs rate are used

  -- the new network's links are in order, and as many
  pub new_order : IsTrue (are_in_order [] new.links)
  new_order =
      subst (λ links. IsTrue (are_in_order [] links)) (sym (renumbered.links ∙ ap (renumbered_links net.links) order_is)) (are_in_order-renumbered net.links acyclic)

  pub new_count : length new.links ≡ length net.links
  new_count = ap length renumbered.links ∙ length-renumbered_links net.links once

  -- as much work is done for it
  pub new_ticks : (old next : ℕ) → RoseByAtMost (choice_bound (length new.links) (demand_count new) rate) old next → RoseByAtMost (choice_bound (length net.links) (demand_count net) rate) old next
  new_ticks old next rose =
      let demands = demand_count-renumbered net new certs order rate (choice_of kind) are once renumbered enough in
      subst (λ demands. RoseByAtMost (choice_bound (length net.links) demands rate) old next) demands
      (subst (λ links. RoseByAtMost (choice_bound links (demand_count new) rate) old next) new_count rose)

  -- its links can be visited
  pub can_visit_all : (hops : List (List Hop)) → length hops ≡ length order → HaveHops (routes_of_certs order rate certs) hops → AreVisitable new rate (routes_of_certs order rate certs) hops
  can_visit_all hops count over = record {
    routes_fit = AreRoutes-renumbered net new certs order rate (choice_of kind) are once renumbered enough;
    each_link = count ∙ once.whole ∙ sym new_count;
    hops_over = over;
  }

  -- no accepted code of the network has a rate above the least value
  pub at_most_least : (other : Code) → IsCodeOf net other → IsAccepted other → other.rate ≤ used.least
  at_most_least other of accepted =
      accepted-at_most_rate net of.order of.choice used.least other of.once of.network (IsRate-least_value net certs used.least are used.is_least) accepted

  -- a code that is made so is one of the network
  pub compiled : (size : ℕ) → size ≡ size_of kind → demand_count net ≤ size → (operands : List (List Operand)) (decoders : List Decoder)
      → IsFilled new kind rate (routes_of_certs order rate certs) operands decoders → (code : Code) → code.net ≡ new → code.rate ≡ rate → code.field ≡ kind → code.operands ≡ operands → code.decoders ≡ decoders → IsCompiled net kind code certs
  compiled size same served operands decoders filled code of_net of_rate of_field of_operands of_decoders = record {
    acyclic = acyclic;
    served = omega (arith, served, same);
    certified = are;
    network = subst (λ order. IsRenumbered order (choice_of kind) net code.net) order_is (subst (IsRenumbered order (choice_of kind) net) (sym of_net) renumbered);
    over = of_field;
    least = used.least;
    is_least = used.is_least;
    rate = of_rate ∙ used.used;
    within = omega (arith, of_rate, used.within);
    accepted = filled.accepted code of_net of_rate of_field of_operands of_decoders;
    greatest = at_most_least;
    of_paths = λ link below.
        let of_hops = filled.of_hops link (omega (arith, new_count)) in
        let of_these : All (IsOfHop (routes_of_certs order rate certs) link) (operands_at code.operands link) =
        subst (λ (own : List Operand). All (IsOfHop (routes_of_certs order rate certs) link) own)
        (sym (unwrap_or-slice_get operands link []) ∙ ap (λ (table : List (List Operand)). operands_at table link) (sym of_operands)) of_hops in
        All-weaker (IsOfHop (routes_of_certs order rate certs) link) (IsOfPaths (order_of net.links) certs code link)
        (λ operand from.
        subst (λ order. IsOfPaths order certs code link operand) order_is
        (subst (λ rate. Feeds (leaves_source code.net link) order rate certs operand.from link) (sym of_rate)
        (Feeds-of_hop net new certs order rate (choice_of kind) are once renumbered enough new_order link operand from (leaves_source code.net link) (ap (λ net. leaves_source net link) of_net))))
        (operands_at code.operands link) of_these;
  }

-- what is counted at the rate of a network's codes is counted at the network's
pub rate_ticks : (net : Net) (certs : List Cert) (used old new : ℕ) → AreCertificates net certs → IsRateUsed net certs used → RoseByAtMost (choice_bound (length net.links) (demand_count net) used) old new
    → (rate : ℕ) → IsRate net rate → RoseByAtMost (choice_bound (length net.links) (demand_count net) rate) old new
rate_ticks net certs used old new are is_used rose rate is =
    let same = IsRate-unique net is_used.least rate (IsRate-least_value net certs is_used.least are is_used.is_least) is in
    rate_within (length net.links) (demand_count net) used rate old new (omega (arith, is_used.within, same)) rose
