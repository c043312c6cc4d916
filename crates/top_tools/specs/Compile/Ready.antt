-- What `compile` has before it makes a file.
use Rattle.std.specs.Prelude.{◌⊎◌, ℕ, List, [], ◌∷◌}
use Rattle.gf_tables.specs.Product.{size_of}
use Rattle.gf_tables.specs.declared.kind.FieldKind.{FieldKind}
use Rattle.lif_compiler.specs.Refused.{IsRefusal}
use Rattle.lif_compiler.specs.declared.refusal.CompileRefusal.{CompileRefusal}
use Rattle.lif_outside.specs.FileCalls.{Written}
use Rattle.net_model.specs.Walks.{IsAcyclic}
use Rattle.net_model.specs.declared.net.Net.{Net}
use Rattle.top_base.specs.Inputs.{IsNoMemory}
use Rattle.top_base.specs.Words.{Compile}
use Rattle.top_base.specs.declared.outcome.Outcome.{Outcome}
use Rattle.top_tools.specs.Compile.Made.{IsMade, IsServedBy, RefusesMaking}
use Rattle.top_tools.specs.declared.making.Made.{Made}

-- the bytes of a code and the text of a report, as they are written
abbrev pub files_of : Compile → List ℕ → List ℕ → List Written
files_of given code report = (given.code, code) ∷ (given.report, report) ∷ []

-- these are a code's file and a report of the network, and the line that is said of them
abbrev pub IsReady : Net → Made → Type 0
IsReady net made = (given : Compile) → IsMade given net (files_of given made.code.items made.report.items) made.line

-- a refusal of a network without a cycle whose demands a field serves
pub record IsUnmade (net : Net) (why : CompileRefusal) : Type 0 where
  pub acyclic : IsAcyclic net.links
  pub field : FieldKind
  pub served : IsServedBy net field
  pub refused : IsRefusal net (size_of field) why

-- the network is refused with this outcome, or there was no memory
abbrev pub RefusesOrLosesIt : Net → Outcome → Type 0
RefusesOrLosesIt net outcome = RefusesMaking net outcome.status outcome.line ⊎ IsNoMemory outcome
