use Rattle.std.proofs.Common.{◌≡◌, ◌<◌, ◌∙◌, ◌+◌, ◌++◌, ◌∷◌, ℕ, List, [], ap, length, map, sym, arith}
use Rattle.std.proofs.lemmas.List.{append_assoc, map_push}
use Rattle.std.proofs.lemmas.List.FromFn.{get_or-map-range_with_len, length-map-range_with_len, map-range_with_len_more}
use Rattle.item_list.proofs.Tests.{passes_at}
use Rattle.net_model.specs.Name.{is_name}
use Rattle.net_model.specs.declared.Link.{Link}
use Rattle.net_reader.specs.Bundles.{made_name, made_names}
use Rattle.two_sources.specs.Joined.{bundle_links}
use Rattle.two_sources.proofs.joining.push_bundle.Goals as goal

-- one link more
with_one : (links before more : List Link) (bundle name : List ℕ) (count tail head : ℕ)
    → before ≡ links ++ bundle_links bundle count tail head
    → name ≡ made_name bundle (count + 1) → more ≡ before ++ record { name = name; tail = tail; head = head } ∷ []
    → more ≡ links ++ bundle_links bundle (count + 1) tail head
with_one links before more bundle name count tail head so_far is pushed =
    let link : List ℕ → Link = λ name. record { name = name; tail = tail; head = head } in
    let last = made_name bundle (count + 1) in
    let names = map-range_with_len_more (made_name bundle) 1 count (count + 1) (omega arith) in
    pushed ∙ (λ i. so_far i ++ link (is i) ∷ [])
    ∙ append_assoc links (bundle_links bundle count tail head) (link last ∷ [])
    ∙ ap (λ (l : List Link). links ++ l) (sym (ap (map link) names ∙ map_push link (made_names bundle count) last))

pub made_name-requires : goal.made_name-requires
made_name-requires c =
    let made = made_name c.args.bundle.now in
    let count = c.args.count in
    let before = c.loop-before.before in
    let names = made_names c.args.bundle.now count in
    let inside : before < length names = omega (arith, length-map-range_with_len made 1 count, c.loop-before-test.true) in
    let there = get_or-map-range_with_len made 1 count before (before + 1) [] c.loop-before-test.true (omega arith) in
    ap is_name (sym there) ∙ passes_at is_name names before [] c.requires inside

pub loop-before-preserved : goal.loop-before-preserved
loop-before-preserved c =
    with_one c.args.links.now.items c.loop-before.links.items _ c.args.bundle.now _ c.loop-before.before c.args.tail c.args.head
    c.loop-before.invariant c.in_ok-made_name.ensures c.in_ok-push.ensures.items
