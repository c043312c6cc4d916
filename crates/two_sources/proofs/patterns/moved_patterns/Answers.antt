use Rattle.std.proofs.Common.{◌≡◌, ◌∙◌, ◌+◌, ◌++◌, ◌∷◌, [], Some, true, ap, length, map, nat_lt, refl, sym, take, arith}
use Rattle.std.specs.Prelude.{slice_get}
use Rattle.std.specs.List.{list_all}
use Rattle.std.proofs.lemmas.List.{map_more}
use Rattle.std.proofs.lemmas.Option.{slice_get_read}
use Rattle.net_model.proofs.FailedLaws.{failed_below, failed_links-at}
use Rattle.net_model.specs.declared.Pattern.{Pattern}
use Rattle.two_sources.proofs.PatternLaws.{below-moved}
use Rattle.two_sources.specs.Joined.{moved_pattern}
use Rattle.two_sources.proofs.patterns.moved_patterns.Goals as goal

pub moved_numbers-requires : goal.moved_numbers-requires
moved_numbers-requires c =
    let patterns = c.args.patterns.now in
    let place = c.loop-pattern.pattern-index in
    let pattern = c.pattern-item.result in
    let links = c.args.links in
    let numbers = c.as_slice.result.now in
    let there : slice_get patterns place ≡ Some pattern =
    slice_get_read patterns (length patterns) place pattern refl c.loop-pattern-test.true c.pattern-item.is in
    let below : list_all (λ link. nat_lt link links) numbers ≡ true =
    ap (list_all (λ link. nat_lt link links)) (sym (failed_links-at patterns place pattern numbers there c.as_slice.ensures))
    ∙ failed_below patterns links place c.requires.patterns in
    below-moved c.args.by links _ numbers (omega (arith, c.requires.few)) below

pub loop-pattern-preserved : goal.loop-pattern-preserved
loop-pattern-preserved c =
    let patterns = c.args.patterns.now in
    let place = c.loop-pattern.pattern-index in
    let pattern = c.pattern-item.result in
    let by = c.args.by in
    let name : c.in_ok-name.field-0 ≡ pattern.name = c.in_ok-name.ensures ∙ c.bytes.ensures.value in
    let links : c.in_ok-moved_numbers.field-0 ≡ map (λ number. by + number) pattern.links =
    c.in_ok-moved_numbers.ensures ∙ ap (map (λ number. by + number)) c.as_slice.ensures in
    c.in_ok-push.ensures.items
    ∙ (λ i. c.loop-pattern.invariant i ++ record { name = name i; links = links i } ∷ [])
    ∙ ap (λ (one : Pattern). map (moved_pattern by) (take place patterns) ++ moved_pattern by one ∷ []) c.pattern-item.is
    ∙ sym (map_more (moved_pattern by) patterns place pattern c.loop-pattern-test.true)
