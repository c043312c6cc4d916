-- Steps of the visits of all links.
use Rattle.std.specs.Prelude.{◌≡◌, ◌<◌, ℕ, List, length, slice_index_or}
use Rattle.std.specs.declared.cmp.PartialEq.{Ghosts as EqualityWords}
use Rattle.std.proofs.Common.{◌∙◌, refl, sym, subst}
use Rattle.std.proofs.lemmas.Option.{slice_get_read}
use Rattle.gf_tables.specs.declared.field.Field.{Ghosts as FieldWords}
use Rattle.net_model.specs.declared.net.Net.{Net}
use Rattle.lif_compiler.specs.Hops.{AreHops, Routes}
use Rattle.lif_compiler.specs.Visits.{AreRoutes, AreVisitable, CanVisit, IsBegun, IsVisited, VisitsAll}
use Rattle.lif_compiler.specs.declared.hops.Hop.{Hop}
use Rattle.lif_compiler.specs.declared.partial_code.PartialCode.{PartialCode}

module _ {X : Type 0} {F : FieldWords X} {E : EqualityWords X} {net : Net} {rate : ℕ} {routes : Routes} {hops : List (List Hop)} (visitable : AreVisitable net rate routes hops) where
  -- the next link can be visited, with the list of its hops
  pub can_next : (code : PartialCode X F E) (link : ℕ) (item list : List Hop) → code.rate ≡ rate → length code.operands.items ≡ link → link < length hops
      → item ≡ slice_index_or hops link item → list ≡ item → IsVisited net routes code → CanVisit net routes list code
  can_next code link item list same count within is shown before = record {
    routes_fit = subst (λ rate. AreRoutes net rate routes) (sym same) visitable.routes_fit;
    hops_over = subst (λ link. AreHops routes link list) (sym count) (subst (AreHops routes link) (sym shown) (visitable.hops_over link item (slice_get_read hops (length hops) link item refl within is)));
    before = before;
  }

  -- what the visits of all links leave, at the rate that a code was begun with
  module _ (first new : PartialCode X F E) (begun_at : first.rate ≡ rate) (kept : new.rate ≡ first.rate) (begun : IsBegun net first) (visits : VisitsAll net hops first new) where
    pub routes_all : AreRoutes net new.rate routes
    routes_all = subst (λ rate. AreRoutes net rate routes) (sym (kept ∙ begun_at)) visitable.routes_fit

    pub visited_all : IsVisited net routes new
    visited_all =
        let here = subst (λ rate. AreVisitable net rate routes hops) (sym begun_at) visitable in
        visits routes here (begun routes here.routes_fit)
