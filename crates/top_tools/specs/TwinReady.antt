-- What `twin` has before it makes a file.
use Rattle.std.specs.Prelude.{◌⊎◌, [], ◌∷◌}
use Rattle.net_model.specs.declared.net.Net.{Net}
use Rattle.top_base.specs.Inputs.{IsNoMemory}
use Rattle.top_base.specs.Words.{Twin}
use Rattle.top_base.specs.declared.outcome.Outcome.{Outcome}
use Rattle.top_tools.specs.Twin.{IsTwinned, Joins, RefusesTwin}
use Rattle.top_tools.specs.declared.making.Made.{Made}

-- these are the file of a code and a report of a joined network, and the line that is said of them, whichever network it was joined of
abbrev pub IsTwinReady : Twin → Net → Made → Type 0
IsTwinReady given joined made =
    (net : Net) → Joins given net joined
    → IsTwinned given net ((given.code, made.code.items) ∷ (given.report, made.report.items) ∷ []) made.line

-- the network is refused with this outcome, or there was no memory
abbrev pub RefusesOrLosesTwin : Twin → Net → Outcome → Type 0
RefusesOrLosesTwin given net outcome = RefusesTwin given net outcome.status outcome.line ⊎ IsNoMemory outcome
