use Rattle.std.proofs.Common.{ℕ, ◌+◌, ◌≤◌, List, length, Option, arith, ap, subst, sym, ◌∙◌}
use Rattle.std.specs.Prelude.{IfSome, nat_le}
use Rattle.std.specs.List.{list_all}
use Rattle.net_model.specs.Limits.{most_links}
use Rattle.net_model.specs.Name.{is_name}
use Rattle.net_reader.specs.Statements.{names_made}
use Rattle.net_reader.proofs.MadeNames.{made_names-are_names}
use Rattle.net_reader.proofs.bundles.makes_names.Goals as goal

pub returns : goal.returns
returns c =
    let counted = subst (λ (bundle : Option ℕ). IfSome bundle (λ count. (1 ≤ count) × (count ≤ most_links))) c.in-Some.is c.requires.count in
    ap (λ (digits : List ℕ). nat_le (length c.args.name.now + 1 + length digits) 32) c.format.ensures.text
    ∙ sym (made_names-are_names c.args.name.now c.in-Some.count c.requires.name counted.0 (omega (arith, counted.1)))
    ∙ ap (λ bundle. list_all is_name (names_made c.args.name.now bundle)) (sym c.in-Some.is)
