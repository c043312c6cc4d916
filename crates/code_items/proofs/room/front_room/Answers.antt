use Rattle.std.proofs.Common.{◌≡◌, ◌+◌, ◌-◌, ◌*◌, ◌^◌, min, length, map, drop, refl, ap, ◌∙◌, arith}
use Rattle.std.specs.List.{flat_map}
use Rattle.code_items.specs.Items.{name_item, link_items, pattern_items, front_items}
use Rattle.code_items.specs.Room.{size_of_items}
use Rattle.code_items.proofs.Sizes.{add_capped, sum_capped, front-size}
use Rattle.code_items.proofs.room.front_room.Goals as goal

pub returns : goal.returns
returns c = λ mark version rate field four.
    let net = c.args.net.now in
    let cap = 2 ^ 64 - 1 in
    let n = size_of_items (map name_item net.nodes) in
    let l = size_of_items (flat_map link_items net.links) in
    let s = 2 * length net.sinks in
    let p = size_of_items (flat_map pattern_items (drop 1 net.patterns)) in
    let nodes : c.names_room-nodes.result ≡ min n cap = rw (← c.as_slice.ensures) c.names_room-nodes.ensures in
    let links : c.links_room-links.result ≡ min l cap = rw (← c.as_slice-2.ensures) c.links_room-links.ensures in
    let sinks : c.saturating_mul-sinks.result ≡ min s cap = c.saturating_mul-sinks.ensures ∙ ap (λ m. min m cap) (omega (arith, c.len.ensures)) in
    let patterns : c.patterns_room-patterns.result ≡ min p cap = rw (← c.listed.ensures) c.patterns_room-patterns.ensures in
    let one = sum_capped cap c.saturating_add.result c.names_room-nodes.result c.links_room-links.result n l (n + l) c.saturating_add.ensures nodes links refl in
    let two = sum_capped cap c.saturating_add-2.result c.saturating_add.result c.saturating_mul-sinks.result (n + l) s (n + l + s) c.saturating_add-2.ensures one sinks refl in
    let three = sum_capped cap c.saturating_add-3.result c.saturating_add-2.result c.patterns_room-patterns.result (n + l + s) p (n + l + s + p) c.saturating_add-3.ensures two patterns refl in
    add_capped cap c.saturating_add-4.result c.saturating_add-3.result (n + l + s + p) 17 (size_of_items (front_items mark version net rate field)) c.saturating_add-4.ensures three (front-size mark version rate field net four)
