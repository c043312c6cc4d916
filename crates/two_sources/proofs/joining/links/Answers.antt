use Rattle.std.proofs.Common.{refl, arith}
use Rattle.std.proofs.lemmas.Bool.{and_parts}
use Rattle.two_sources.specs.Joined.{first_bundle, second_bundle}
use Rattle.two_sources.proofs.NameLaws.{made_names-good}
use Rattle.two_sources.proofs.joining.links.Goals as goal

pub push_bundle-requires : goal.push_bundle-requires
push_bundle-requires c = (and_parts _ _ (made_names-good first_bundle c.args.r1 refl refl (omega (arith, c.requires)))).0

pub push_bundle-requires-2 : goal.push_bundle-requires-2
push_bundle-requires-2 c = (and_parts _ _ (made_names-good second_bundle c.args.r2 refl refl (omega (arith, c.requires)))).0
