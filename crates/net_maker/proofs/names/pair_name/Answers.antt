use Rattle.std.proofs.Common.{◌≡◌, ◌∙◌, List, ℕ, subst, sym}
use Rattle.net_model.specs.Name.{IsName}
use Rattle.net_maker.specs.Combination.{pair_name}
use Rattle.net_maker.proofs.NameLaws.{is_name-pair, pair_text}
use Rattle.net_maker.proofs.names.pair_name.Goals as goal

pub name-requires : goal.name-requires
name-requires c =
    let made : c.deref.result.now ≡ pair_name c.args.sink c.args.middle =
    pair_text c.in_ok-text.text.items c.extend_from_slice.new.self.items c.extend_from_slice-2.new.self.items c.push.new.self.items c.deref.result.now c.args.sink c.args.middle c.as_bytes.result.now c.as_bytes-2.result.now
    c.in_ok-text.ensures.items (c.as_bytes.ensures.value ∙ c.format.ensures.text) c.in_ok-extend_from_slice.ensures.items c.in_ok-push.ensures.items (c.as_bytes-2.ensures.value ∙ c.format-2.ensures.text) c.in_ok-extend_from_slice-2.ensures.items c.deref.ensures.value
    in
    subst (λ (l : List ℕ). IsName l) (sym made) (is_name-pair c.args.sink c.args.middle c.ranges.sink.fits c.ranges.middle.fits)
