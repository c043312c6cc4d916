use Rattle.std.specs.Fmt.{digits}
use Rattle.std.proofs.Common.{refl}
use Rattle.worked_rows.proofs.tests.texts.refused_forms.Goals as goal

pub returns-clause-made_name_taken : goal.returns-clause-made_name_taken
unfolding digits
returns-clause-made_name_taken c = refl

pub returns-clause-twice_by_bundle : goal.returns-clause-twice_by_bundle
unfolding digits
returns-clause-twice_by_bundle c = refl
