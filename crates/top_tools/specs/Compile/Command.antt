-- What the command `compile` does.
use Rattle.std.specs.Prelude.{ℕ, List}
use Rattle.lif_outside.specs.Events.{Event}
use Rattle.net_model.specs.declared.net.Net.{Net}
use Rattle.net_reader.specs.Text.{net_limit}
use Rattle.top_base.specs.Making.{RunsMaking, makes_files}
use Rattle.top_base.specs.Networks.{IsNetOf, RefusesNet}
use Rattle.top_base.specs.Performs.{Behaviour}
use Rattle.top_base.specs.Words.{Compile}
use Rattle.top_base.specs.declared.status.Status.{Status}
use Rattle.top_tools.specs.Compile.Given.{outputs_of}
use Rattle.top_tools.specs.Compile.Made.{IsGood, IsMade, RefusesMaking}

-- the calls after a network was read, by the status and the line
abbrev pub Compiles : Compile → Net → Status → List ℕ → List Event → Type 0
Compiles given = RunsMaking net_limit IsNetOf RefusesNet (IsMade given) IsGood RefusesMaking

-- NET is read, and CODE and REPORT are made of it
abbrev pub compile_command : Compile → Behaviour
compile_command given = makes_files net_limit IsNetOf RefusesNet (IsMade given) IsGood RefusesMaking given.net (outputs_of given)
