use Rattle.std.specs.Prelude.{◌≡◌, ◌==◌, nat_eq}
use Rattle.std.specs.List.{dedup}
use Rattle.std.proofs.Common.{rules, sym, ◌∙◌, ap, subst}
use Rattle.std.proofs.lemmas.List.Filters.{dedup_is}
use Rattle.std.proofs.lemmas.List.Sorted.{list_any-IsPermutation}
use Rattle.net_model.specs.Lists.{is_among}
use Rattle.lif_compiler.specs.Operands.{AreSources, befores}
use Rattle.net_model.proofs.RisingLaws.{is_among-dedup, is_rising-dedup}
use Rattle.lif_compiler.proofs.operands.sources_of.Goals as goal

pub returns : goal.returns
returns c =
    let numbers = befores c.args.hops.now in
    let sorted = c.sort_unstable.new.self.items in
    let made : c.in_ok-sources.sources.items ≡ numbers = search rules in
    let once : c.dedup.new.self.items ≡ dedup nat_eq sorted = dedup_is nat_eq sorted c.dedup.new.self.items c.dedup.ensures.filtered in
    subst (AreSources numbers) (sym once) (record {
      rising = is_rising-dedup sorted c.sort_unstable.ensures.sorted;
      same = λ number.
          is_among-dedup sorted number
          ∙ sym (list_any-IsPermutation (λ one. one == number) c.in_ok-sources.sources.items sorted c.sort_unstable.ensures.permutation)
          ∙ ap (λ xs. is_among xs number) made;
    })
