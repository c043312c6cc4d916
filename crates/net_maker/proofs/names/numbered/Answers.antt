use Rattle.std.proofs.Common.{◌≡◌, List, ℕ, subst, sym}
use Rattle.net_model.specs.Name.{IsName}
use Rattle.net_maker.specs.Combination.{numbered}
use Rattle.net_maker.proofs.NameLaws.{is_name-numbered}
use Rattle.net_maker.proofs.names.numbered.Goals as goal

pub name-requires : goal.name-requires
name-requires c =
    let made : c.deref.result.now ≡ numbered c.args.letter c.args.number = cc (c.in_ok-extend_from_slice.ensures.items, c.in_ok-text.ensures.items, c.format.ensures.text, c.as_bytes.ensures.value, c.deref.ensures.value) in
    subst (λ (l : List ℕ). IsName l) (sym made) (is_name-numbered c.args.letter c.args.number c.requires c.ranges.number.fits)
