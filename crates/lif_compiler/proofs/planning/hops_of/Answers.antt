use Rattle.std.proofs.Common.{◌≡◌, ◌<◌, List, [], All, Some, ℕ, Vec, Global, length, drop, get_or, map, slice_get, slice_index, take, unwrap_or, sym, ◌∙◌, ap, arith, subst}
use Rattle.std.proofs.lemmas.List.{length-map, take_at}
use Rattle.std.proofs.lemmas.List.Elements.{All-take}
use Rattle.std.proofs.lemmas.Result.{IfOk-weaker}
use Rattle.cut_witness.specs.declared.cert.Cert.{Cert}
use Rattle.lif_compiler.specs.Hops.{AreHops}
use Rattle.lif_compiler.specs.Planning.{Gains, hops_of_demand, hops_of_demands}
use Rattle.lif_compiler.specs.Routes.{ArePathsBelow, IsInverse, renumbered_paths, routes_of_certs}
use Rattle.lif_compiler.proofs.PlanningLaws.{Gains_next, mapped_read, AreHops-added}
use Rattle.lif_compiler.proofs.RouteSteps.{inverse_below, new_paths}
use Rattle.lif_compiler.specs.declared.hops.Hop.{Hop}
use Rattle.lif_compiler.proofs.planning.hops_of.Goals as goal

-- the links of the paths of a certificate that was read
below_at : (bound : ℕ) (certs : List Cert) (number : ℕ) (cert : Cert) → number < length certs → cert ≡ get_or certs number cert → All (λ cert. ArePathsBelow bound cert.paths) certs → ArePathsBelow bound cert.paths
below_at bound certs number cert within is below = subst (λ (cert : Cert). ArePathsBelow bound cert.paths) (sym is) (below number cert within)

pub add_demand-requires-clause-old : goal.add_demand-requires-clause-old
add_demand-requires-clause-old c =
    let order = c.args.order.now in
    let certs = c.args.certs.now in
    let demand = c.loop-demand.demand in
    let within : demand < length certs = omega arith in
    let table = c.deref.result.now in
    let inverse : IsInverse order table = subst (IsInverse order) (sym c.deref.ensures.value) c.in_ok-new_numbers.ensures in
    let below = below_at (length order) certs demand c.index-certs-demand.result within c.index-certs-demand.is c.requires.links in
    All-take (All (λ link. link < length table)) c.args.rate c.as_slice.result.now
    (subst (ArePathsBelow (length table)) (sym c.as_slice.ensures) (subst (λ bound. ArePathsBelow bound c.index-certs-demand.result.paths) (sym inverse.whole) below))

pub add_demand-requires-clause-new : goal.add_demand-requires-clause-new
add_demand-requires-clause-new c =
    let order = c.args.order.now in
    let table = c.deref.result.now in
    let inverse : IsInverse order table = subst (IsInverse order) (sym c.deref.ensures.value) c.in_ok-new_numbers.ensures in
    let size : length c.deref_mut.result.now ≡ length order = ap length c.deref_mut.ensures.value ∙ c.loop-demand.invariant.whole ∙ c.in_ok-hops.ensures.count in
    subst (λ bound. All (λ link. link < bound) table) (sym size) (inverse_below order table c.requires.order inverse)

pub loop-demand-preserved : goal.loop-demand-preserved
loop-demand-preserved c =
    let order = c.args.order.now in
    let rate = c.args.rate in
    let certs = c.args.certs.now in
    let routes = routes_of_certs order rate certs in
    let demand = c.loop-demand.demand in
    let cert = c.index-certs-demand.result in
    let old = c.loop-demand.hops.items in
    let new = c.add_demand.new.hops in
    let within : demand < length certs = omega arith in
    let route : Cert → List (List ℕ) = λ cert. renumbered_paths order (take rate cert.paths) in
    let hops : ℕ → List (ℕ × Hop) = λ demand. hops_of_demand demand (unwrap_or (slice_get routes demand) []) in
    let table = c.deref.result.now in
    let inverse : IsInverse order table = subst (IsInverse order) (sym c.deref.ensures.value) c.in_ok-new_numbers.ensures in
    let below = below_at (length order) certs demand cert within c.index-certs-demand.is c.requires.links in
    let paths =
    ap (λ (paths : List (List ℕ)). map (map (slice_index table)) (take rate paths)) c.as_slice.ensures
    ∙ new_paths order table inverse (take rate cert.paths) (All-take (All (λ link. link < length order)) rate cert.paths below)
    ∙ mapped_read route certs demand [] cert within c.index-certs-demand.is in
    let added = c.in_ok-add_demand.ensures in
    let size : length new ≡ c.loop-demand.hops.len = added.whole ∙ c.deref_mut.ensures.len in
    Gains_next hops demand c.in_ok-hops.hops.items old _ c.loop-demand.invariant
    (subst (Gains (hops demand) old) (sym (take_at new (drop (length new) old) c.loop-demand.hops.len size))
    (subst (λ lists. Gains (hops demand) lists new) c.deref_mut.ensures.value (subst (λ paths. Gains (hops_of_demand demand paths) c.deref_mut.result.now new) paths added)))

pub returns-clause-hops : goal.returns-clause-hops
returns-clause-hops c =
    let routes = routes_of_certs c.args.order.now c.args.rate c.args.certs.now in
    let all : length routes ≡ c.loop-demand.demand = omega (arith, length-map c.args.certs.now (λ (cert : Cert). renumbered_paths c.args.order.now (take c.args.rate cert.paths))) in
    let added : Gains (hops_of_demands routes (length routes)) c.in_ok-hops.hops.items c.loop-demand.hops.items =
    subst (λ count. Gains (hops_of_demands routes count) c.in_ok-hops.hops.items c.loop-demand.hops.items) (sym all) c.loop-demand.invariant in
    let Made : Vec (List Hop) Global → Type 0 = λ hops. hops.items ≡ map (λ (list : Vec Hop Global). list.items) c.loop-demand.hops.items in
    let Good : Vec (List Hop) Global → Type 0 = λ hops. (link : ℕ) (at : List Hop) → slice_get hops.items link ≡ Some at → AreHops routes link at in
    IfOk-weaker c.finished.result Made Good
    (λ hops made link at there.
    AreHops-added routes c.in_ok-hops.hops.items c.loop-demand.hops.items c.requires.apart c.in_ok-hops.ensures.empty added link at (ap (λ (lists : List (List Hop)). slice_get lists link) (sym made) ∙ there))
    c.finished.ensures
