use Rattle.std.proofs.Common.{◌<◌, ◌∙◌, ◌+◌, [], length, map, ap, sym, refl, arith}
use Rattle.std.specs.List.{list_any, range_with_len}
use Rattle.std.specs.Str.{bytes_eq}
use Rattle.std.proofs.lemmas.Bool.{or_from}
use Rattle.std.proofs.lemmas.List.FromFn.{get_or-map-range_with_len, length-map-range_with_len, map-range_with_len_more}
use Rattle.std.proofs.lemmas.List.Folds.{list_any-append, list_any_at}
use Rattle.net_reader.specs.Bundles.{made_name, made_names}
use Rattle.two_sources.proofs.names.is_among_made.Goals as goal

pub returns-then-is_made_name : goal.returns-then-is_made_name
returns-then-is_made_name c =
    let made = made_name c.args.bundle.now in
    let is = bytes_eq c.args.name.now in
    let before = c.loop-before.before in
    let count = c.args.count in
    let names = made_names c.args.bundle.now count in
    let inside : before < length names = omega (arith, length-map-range_with_len made 1 count, c.loop-before-test.true) in
    let there = get_or-map-range_with_len made 1 count before (before + 1) [] c.loop-before-test.true (omega arith) in
    sym (list_any_at is names before [] inside (ap is there ∙ sym c.is_made_name.ensures ∙ c.if-is_made_name.true))

pub loop-before-preserved : goal.loop-before-preserved
loop-before-preserved c =
    let made = made_name c.args.bundle.now in
    let is = bytes_eq c.args.name.now in
    let before = c.loop-before.before in
    ap (list_any is) (map-range_with_len_more made 1 before (before + 1) (omega arith))
    ∙ list_any-append is (map made (range_with_len 1 before)) _
    ∙ or_from _ _ c.loop-before.invariant (or_from _ _ (sym c.is_made_name.ensures ∙ c.if-is_made_name.false) refl)
