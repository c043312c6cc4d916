use Rattle.std.proofs.Common.{◌∙◌, ◌<◌, All, length, ap, subst, sym}
use Rattle.cut_witness.specs.declared.cert.Cert.{Cert}
use Rattle.gf_tables.specs.declared.kind.FieldKind.{FieldKind}
use Rattle.net_model.specs.Renumbering.{HasEachOnce}
use Rattle.node_program.specs.Code.{IsCode}
use Rattle.lif_compiler.specs.Compiled.{marked_kind}
use Rattle.lif_compiler.specs.Hops.{HaveHops}
use Rattle.lif_compiler.specs.Routes.{routes_of_certs}
use Rattle.lif_compiler.proofs.RouteLaws.{AreCertificates-below, routes-apart}
use Rattle.lif_compiler.proofs.BuildSteps.{can_visit_all, compiled, enough_paths, new_order, new_ticks, order_once}
use Rattle.lif_compiler.proofs.compiling.build.Goals as goal

pub hops_of-requires-clause-order : goal.hops_of-requires-clause-order
hops_of-requires-clause-order g c =
    let once = order_once c.args.net.now c.args.order.now c.requires.order c.requires.acyclic in
    subst (λ bound. HasEachOnce bound c.args.order.now) (sym once.whole) once

pub hops_of-requires-clause-links : goal.hops_of-requires-clause-links
hops_of-requires-clause-links g c =
    let once = order_once c.args.net.now c.args.order.now c.requires.order c.requires.acyclic in
    subst (λ bound. All (λ (cert : Cert). All (All (λ link. link < bound)) cert.paths) c.args.certs.now) (sym once.whole) (AreCertificates-below c.args.net.now c.args.certs.now c.requires.certified)

pub hops_of-requires-clause-enough : goal.hops_of-requires-clause-enough
hops_of-requires-clause-enough g c = enough_paths c.args.net.now c.args.certs.now c.args.rate c.requires.certified c.requires.used

pub hops_of-requires-clause-apart : goal.hops_of-requires-clause-apart
hops_of-requires-clause-apart g c =
    routes-apart c.args.net.now c.args.certs.now c.args.order.now c.args.rate c.requires.certified (order_once c.args.net.now c.args.order.now c.requires.order c.requires.acyclic)

pub in_order-requires : goal.in_order-requires
in_order-requires g c = order_once c.args.net.now c.args.order.now c.requires.order c.requires.acyclic

pub fill-requires-clause-order : goal.fill-requires-clause-order
fill-requires-clause-order g c =
    new_order c.args.net.now c.in_ok-net.net c.args.certs.now c.args.order.now c.args.rate (marked_kind g.F.Field.MARK) c.requires.order c.requires.acyclic c.requires.certified c.requires.used c.in_ok-net.ensures

pub fill-requires-clause-ready : goal.fill-requires-clause-ready
fill-requires-clause-ready g c =
    let routes = routes_of_certs c.args.order.now c.args.rate c.args.certs.now in
    let visitable = can_visit_all c.args.net.now c.in_ok-net.net c.args.certs.now c.args.order.now c.args.rate (marked_kind g.F.Field.MARK) c.requires.order c.requires.acyclic c.requires.certified c.requires.used c.in_ok-net.ensures c.deref.result.now
    (ap length c.deref.ensures.value ∙ c.in_ok-hops.ensures.count) (subst (HaveHops routes) (sym c.deref.ensures.value) c.in_ok-hops.ensures.hops) in
    (routes, visitable)

pub of-requires : goal.of-requires
of-requires g c =
    let routes = routes_of_certs c.args.order.now c.args.rate c.args.certs.now in
    let visitable = can_visit_all c.args.net.now c.in_ok-net.net c.args.certs.now c.args.order.now c.args.rate (marked_kind g.F.Field.MARK) c.requires.order c.requires.acyclic c.requires.certified c.requires.used c.in_ok-net.ensures c.deref.result.now
    (ap length c.deref.ensures.value ∙ c.in_ok-hops.ensures.count) (subst (HaveHops routes) (sym c.deref.ensures.value) c.in_ok-hops.ensures.hops) in
    subst (λ (kind : FieldKind). IsCode c.in_ok-net.net c.args.rate kind c.in_ok-operands.operands c.in_ok-operands.decoders) (sym c.kind_of.ensures) (c.in_ok-operands.ensures.filled routes visitable).is_code

pub returns-clause-compiled : goal.returns-clause-compiled
returns-clause-compiled g c =
    let net = c.args.net.now in
    let new = c.in_ok-net.net in
    let routes = routes_of_certs c.args.order.now c.args.rate c.args.certs.now in
    let visitable = can_visit_all net new c.args.certs.now c.args.order.now c.args.rate (marked_kind g.F.Field.MARK) c.requires.order c.requires.acyclic c.requires.certified c.requires.used c.in_ok-net.ensures c.deref.result.now
    (ap length c.deref.ensures.value ∙ c.in_ok-hops.ensures.count) (subst (HaveHops routes) (sym c.deref.ensures.value) c.in_ok-hops.ensures.hops) in
    let made = c.of.ensures in
    compiled net new c.args.certs.now c.args.order.now c.args.rate (marked_kind g.F.Field.MARK) c.requires.order c.requires.acyclic c.requires.certified c.requires.used c.in_ok-net.ensures g.F.Field.SIZE c.requires.field.size c.requires.few_demands
    c.in_ok-operands.operands c.in_ok-operands.decoders (c.in_ok-operands.ensures.filled routes visitable) c.of.result made.net made.rate (made.field ∙ c.kind_of.ensures) made.operands made.decoders

pub returns-in_err-operands-clause-ticks : goal.returns-in_err-operands-clause-ticks
returns-in_err-operands-clause-ticks g c =
    new_ticks c.args.net.now c.in_ok-net.net c.args.certs.now c.args.order.now c.args.rate (marked_kind g.F.Field.MARK) c.requires.order c.requires.acyclic c.requires.certified c.requires.used c.in_ok-net.ensures
    c.args.steps.now c.fill.new.steps c.fill.ensures.ticks

pub returns-clause-ticks : goal.returns-clause-ticks
returns-clause-ticks g c =
    new_ticks c.args.net.now c.in_ok-net.net c.args.certs.now c.args.order.now c.args.rate (marked_kind g.F.Field.MARK) c.requires.order c.requires.acyclic c.requires.certified c.requires.used c.in_ok-net.ensures
    c.args.steps.now c.fill.new.steps c.fill.ensures.ticks
