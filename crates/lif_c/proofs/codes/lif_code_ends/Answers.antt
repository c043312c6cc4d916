use Rattle.std.proofs.Common.{rules}
use Rattle.lif_c.proofs.CallLaws.{reads-code}
use Rattle.lif_c.proofs.codes.lif_code_ends.Goals.{in-Code+in-Ok, in-Code+in-Err, in_default-deref}
use Rattle.lif_c.proofs.codes.lif_code_ends.Goals as goal

pub returns : goal.returns
returns c = elim c.match-deref.branch [ in-Code+in-Ok w ↦ reads-code _ _ _ _ c.in-Some.opened.value w.in-Code.it _ (search rules) (search rules) (search rules) (search rules) | in-Code+in-Err w ↦ reads-code _ _ _ _ c.in-Some.opened.value w.in-Code.it _ (search rules) (search rules) (search rules) (search rules) | in_default-deref w ↦ search rules ]
