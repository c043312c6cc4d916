use Rattle.std.proofs.Common.{◌≡◌, ◌<◌, ◌∷◌, ◌∙◌, List, [], ℕ, length, get_or, map, slice_index, slice_set, sym, arith, subst}
use Rattle.std.proofs.lemmas.List.{get_or-map, length-map}
use Rattle.lif_compiler.specs.Planning.{Gains, hop_of_place, hops_on_path}
use Rattle.lif_compiler.proofs.PlanningLaws.{Gains_next, Gains_one, before_place-next}
use Rattle.lif_compiler.specs.declared.hops.Hop.{Hop}
use Rattle.lif_compiler.proofs.planning.add_path.Goals as goal

pub loop-old-preserved : goal.loop-old-preserved
loop-old-preserved c =
    let demand = c.args.demand in
    let path = c.args.path in
    let table = c.args.new_numbers.now in
    let links = map (slice_index table) c.args.links.now in
    let place = c.loop-old.old-index in
    let old = get_or c.args.links.now place 0 in
    let link = slice_index table old in
    let here : get_or links place 0 ≡ link = get_or-map (slice_index table) c.args.links.now place 0 0 c.loop-old-test.true in
    let lists = c.loop-old.hops in
    let new = slice_set lists link c.push.new.self in
    let so_far = c.loop-old.invariant in
    let hop : ℕ → Hop = λ before. record { demand = demand; path = path; before = before } in
    let hops : ℕ → List (ℕ × Hop) = λ place. (get_or links place 0, hop_of_place demand path links place) ∷ [] in
    let Added : ℕ → Type 0 = λ before. Gains ((link, hop before) ∷ []) lists new in
    let At : ℕ → Type 0 = λ link. Gains ((link, hop_of_place demand path links place) ∷ []) lists new in
    let within : link < length lists = omega (arith, c.requires.new old 0 (c.requires.old place 0 c.loop-old-test.true), so_far.added.whole) in
    record {
      before = sym (before_place-next path links place ∙ here);
      added = Gains_next hops place c.args.hops.now lists new so_far.added
          (subst At (sym here) (subst Added so_far.before (Gains_one lists link (hop c.loop-old.before) c.index-hops-link.result c.push.new.self within c.in_ok-push.ensures.items)));
    }

pub returns : goal.returns
returns c =
    let links = map (slice_index c.args.new_numbers.now) c.args.links.now in
    let all : c.loop-old.old-index ≡ length links = omega (arith, length-map c.args.links.now (slice_index c.args.new_numbers.now)) in
    subst (λ count. Gains (hops_on_path c.args.demand c.args.path links count) c.args.hops.now c.loop-old.hops) all c.loop-old.invariant.added
