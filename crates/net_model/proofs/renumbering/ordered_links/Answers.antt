use Rattle.std.proofs.Common.{◌≡◌, ◌<◌, ◌++◌, ◌∷◌, ℕ, List, [], Some, Option, get_or, length, nat_lt, slice_get, unwrap_or, refl, ap, sym, ◌∙◌}
use Rattle.std.proofs.lemmas.Bool.{ltb-true}
use Rattle.std.proofs.lemmas.List.{map_more}
use Rattle.std.proofs.lemmas.Option.{slice_get_read}
use Rattle.item_list.proofs.Tests.{passes_at}
use Rattle.net_model.specs.declared.Link.{Link}
use Rattle.net_model.proofs.renumbering.ordered_links.Goals as goal

pub loop-old-preserved : goal.loop-old-preserved
loop-old-preserved c =
    let place = c.loop-old.old-index in
    let links = c.args.links.now in
    let order = c.args.order.now in
    let old = get_or order place 0 in
    let or_none : Option Link → Link = λ link. unwrap_or link (record { name = []; tail = 0; head = 0 }) in
    let below : old < length links = ltb-true old (length links) (passes_at (λ number. nat_lt number (length links)) order place 0 c.requires c.loop-old-test.true) in
    let there : slice_get links old ≡ Some c.index-links-old.result = slice_get_read links (length links) old c.index-links-old.result refl below c.index-links-old.is in
    c.in_ok-push.ensures.items ∙ ap (λ (link : Link). c.loop-old.ordered.items ++ link ∷ []) (c.in_ok-copied_link.ensures ∙ sym (ap or_none there))
    ∙ ap (λ (links_so_far : List Link). links_so_far ++ or_none (slice_get links old) ∷ []) c.loop-old.invariant
    ∙ sym (map_more (λ (number : ℕ). or_none (slice_get links number)) order place 0 c.loop-old-test.true)
