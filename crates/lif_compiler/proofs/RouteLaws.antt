-- Laws of routes: those of a demand are a flow of the network with new numbers, of so many paths.
use Rattle.std.specs.Prelude.{◌≡◌, ◌<◌, ◌≤◌, ℕ, true, List, [], ◌∷◌, ◌++◌, length, map, slice_get, take, drop, unwrap_or, IsTrue, Option, Some, All, nat_eq}
use Rattle.std.specs.List.{concat}
use Rattle.std.specs.Option.{option_map}
use Rattle.std.proofs.Common.{refl, sym, ◌∙◌, ap, arith, subst, get_or, inl, inr}
use Rattle.std.proofs.lemmas.Bool.{and_from, and_parts, not-true, not_from_false, or_parts}
use Rattle.std.proofs.lemmas.List.{length-map, length-take-le, take-append-drop}
use Rattle.std.proofs.lemmas.List.Elements.{All-from_get_or, All-take, All-weaker}
use Rattle.std.proofs.lemmas.List.Folds.{concat-append, list_any-append}
use Rattle.std.proofs.lemmas.Option.{get_or_from_slice_get, slice_get-get_or, slice_get-map, slice_get_cases, unwrap_or-slice_get}
use Rattle.cut_witness.specs.Certificate.{AreCertificates}
use Rattle.cut_witness.proofs.CertificateLaws.{AreCertificates-at}
use Rattle.cut_witness.specs.declared.cert.Cert.{Cert}
use Rattle.failure_patterns.specs.Demands.{demand_of}
use Rattle.net_model.specs.Demands.{demand_count}
use Rattle.net_model.specs.Flows.{FlowNetwork, IsFlow, IsPath, flow_network}
use Rattle.net_model.specs.Lists.{are_distinct}
use Rattle.net_model.specs.Renumbering.{HasEachOnce, new_number, renumbered_network}
use Rattle.net_model.proofs.RenumberingLaws.{IsFlow-new}
use Rattle.net_model.proofs.WalkLaws.{IsWalk-below}
use Rattle.net_model.specs.declared.net.Net.{Net}
use Rattle.lif_compiler.specs.Routes.{renumbered_paths, routes_of_certs}

-- the first of distinct numbers are distinct
are_distinct-front : (xs ys : List ℕ) → are_distinct nat_eq (xs ++ ys) ≡ true → are_distinct nat_eq xs ≡ true
are_distinct-front [] ys distinct = refl
are_distinct-front (x ∷ xs) ys distinct =
    let parts = and_parts _ _ distinct in
    let new = or_parts _ _ (sym (list_any-append (nat_eq x) xs ys) ∙ not-true _ parts.0) in
    and_from _ _ (not_from_false _ new.0) (are_distinct-front xs ys parts.1)

-- the first paths of a flow are a flow
pub IsFlow-take : (network : FlowNetwork) (count : ℕ) (paths : List (List ℕ)) → IsFlow network paths → IsFlow network (take count paths)
IsFlow-take network count paths is =
    let split : concat (take count paths) ++ concat (drop count paths) ≡ concat paths = sym (concat-append (take count paths) (drop count paths)) ∙ ap concat (take-append-drop count paths) in
    record {
      each = All-take (IsPath network) count paths is.each;
      disjoint = are_distinct-front (concat (take count paths)) (concat (drop count paths)) (ap (are_distinct nat_eq) split ∙ is.disjoint);
    }

-- each link of a flow is one of the network's
pub IsFlow-below : (network : FlowNetwork) (paths : List (List ℕ)) → IsFlow network paths → All (All (λ link. link < length network.links)) paths
IsFlow-below network paths is = All-weaker (IsPath network) (All (λ link. link < length network.links)) (λ path through. IsWalk-below network.links path through.walk) paths is.each

-- the links of the paths of certificates are those of the network
pub AreCertificates-below : (net : Net) (certs : List Cert) → AreCertificates net certs → All (λ cert. All (All (λ link. link < length net.links)) cert.paths) certs
AreCertificates-below net certs are number none within =
    let cert = get_or certs number none in
    IsFlow-below (flow_network net cert.demand) cert.paths (are.are.at number cert (slice_get-get_or certs number none within)).0.flow

-- the routes of the demands of a network, by its certificates
module _ (net : Net) (certs : List Cert) (order : List ℕ) (rate : ℕ) (are : AreCertificates net certs) where
  -- the certificate of a demand
  pub cert_of : (number : ℕ) → number < demand_count net → (cert : Cert) × (slice_get certs number ≡ Some cert)
  cert_of number within = elim (slice_get_cases certs number).1 [
    | inl found ↦ (found.0, found.2)
    | inr past ↦ absurd (omega (arith, are.each_demand, past.0))
  ]

  -- the routes of the demand of a certificate
  pub routes_there : (number : ℕ) (cert : Cert) → slice_get certs number ≡ Some cert → unwrap_or (slice_get (routes_of_certs order rate certs) number) [] ≡ renumbered_paths order (take rate cert.paths)
  routes_there number cert there =
      let route : Cert → List (List ℕ) = λ cert. renumbered_paths order (take rate cert.paths) in
      ap (λ (found : Option (List (List ℕ))). unwrap_or found []) (slice_get-map route certs number ∙ ap (option_map route) there)

  -- the routes of a demand are a flow of the network with new numbers
  pub IsFlow-routes : HasEachOnce (length net.links) order → (number : ℕ) → number < demand_count net
      → IsFlow (renumbered_network (flow_network net (demand_of net number)) order) (unwrap_or (slice_get (routes_of_certs order rate certs) number) [])
  IsFlow-routes once number within =
      let found = cert_of number within in
      let cert = found.0 in
      let good = AreCertificates-at net certs are number cert found.1 in
      let network = flow_network net (demand_of net number) in
      let flow : IsFlow network cert.paths = subst (λ demand. IsFlow (flow_network net demand) cert.paths) good.1 good.0.flow in
      subst (IsFlow (renumbered_network network order)) (sym (routes_there number cert found.1)) (IsFlow-new network once (take rate cert.paths) (IsFlow-take network rate cert.paths flow))

  -- they are as many as the rate says, where the certificate has as many paths
  pub length-routes : All (λ cert. rate ≤ length cert.paths) certs → (number : ℕ) → number < demand_count net → length (unwrap_or (slice_get (routes_of_certs order rate certs) number) []) ≡ rate
  length-routes enough number within =
      let found = cert_of number within in
      let cert = found.0 in
      let same : get_or certs number cert ≡ cert = get_or_from_slice_get certs number cert cert found.1 in
      let many : rate ≤ length cert.paths = subst (λ (cert : Cert). rate ≤ length cert.paths) same (enough number cert (omega (arith, are.each_demand))) in
      ap length (routes_there number cert found.1) ∙ length-map (take rate cert.paths) (map (new_number order)) ∙ length-take-le rate cert.paths many

  -- what holds of the routes of each demand
  All-routes : (P : List (List ℕ) → Type 0) → ((number : ℕ) → number < demand_count net → P (unwrap_or (slice_get (routes_of_certs order rate certs) number) [])) → All P (routes_of_certs order rate certs)
  All-routes P each =
      let routes = routes_of_certs order rate certs in
      let many : length routes ≡ demand_count net = length-map certs (λ cert. renumbered_paths order (take rate cert.paths)) ∙ are.each_demand in
      All-from_get_or P routes [] (λ number within. subst P (unwrap_or-slice_get routes number []) (each number (omega (arith, many))))

  -- no link stands twice in the routes of a demand
  pub routes-apart : HasEachOnce (length net.links) order → All (λ paths. IsTrue (are_distinct nat_eq (concat paths))) (routes_of_certs order rate certs)
  routes-apart once = All-routes (λ paths. IsTrue (are_distinct nat_eq (concat paths))) (λ number within. (IsFlow-routes once number within).disjoint)
