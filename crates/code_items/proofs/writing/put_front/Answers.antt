use Rattle.std.proofs.Common.{◌∙◌, map, length, drop}
use Rattle.std.proofs.lemmas.Result.{on_ok_weaker}
use Rattle.std.specs.List.{flat_map}
use Rattle.gf_tables.specs.Product.{mark_of}
use Rattle.code_items.specs.Items.{number_item, name_item, link_items, pattern_items, front_items}
use Rattle.code_items.proofs.Joined.{front_joined}
use Rattle.code_items.proofs.writing.put_front.Goals as goal

pub returns : goal.returns
unfolding front_items
returns c =
    let net = c.args.net.now in
    let listed = drop 1 net.patterns in
    on_ok_weaker c.put_patterns.result (λ last. last
    ∙ rw (
      c.in_ok-put_number-5.ensures,
      c.in_ok-put_numbers.ensures,
      c.in_ok-put_number-4.ensures,
      c.in_ok-put_number-3.ensures,
      c.in_ok-put_links.ensures,
      c.in_ok-put_number-2.ensures,
      c.in_ok-put_names.ensures,
      c.in_ok-put_number.ensures,
      c.in_ok-put_head.ensures,
      c.len.ensures,
      c.len-2.ensures,
      c.len-3.ensures,
      c.listed-listed.ensures,
      c.as_slice.ensures,
      c.as_slice-2.ensures,
      c.as_slice-3.ensures,
    )
    (front_joined c.args.out.now.items c.args.mark.now c.args.version (mark_of c.args.field) c.args.rate (number_item (length net.nodes)) (map name_item net.nodes) (number_item (length net.links)) (flat_map link_items net.links)
    (number_item net.source) (number_item (length net.sinks)) (map number_item net.sinks) (number_item (length listed)) (flat_map pattern_items listed))) c.put_patterns.ensures
