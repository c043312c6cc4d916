use Rattle.std.proofs.Common.{rules}
use Rattle.lif_c.proofs.CallLaws.{reads-code}
use Rattle.lif_c.proofs.codes.lif_code_sink.Goals.{in-Code, in_default-deref}
use Rattle.lif_c.proofs.codes.lif_code_sink.Goals as goal

pub returns : goal.returns
returns c = elim c.match-deref.branch [ in-Code w ↦ reads-code _ _ _ _ c.in-Some.opened.value w.in-Code.it _ (search rules) (search rules) (search rules) (search rules) | in_default-deref w ↦ search rules ]
