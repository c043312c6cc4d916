-- What `compile` makes of a network without a cycle, and which networks it refuses.
use Rattle.std.specs.Prelude.{◌≡◌, ◌≤◌, ℕ, List, [], ◌∷◌, Some, length}
use Rattle.cut_witness.specs.declared.cert.Cert.{Cert}
use Rattle.code_file.specs.Items.{bytes_of}
use Rattle.code_file.specs.Limits.{code_limit}
use Rattle.failure_patterns.specs.Rate.{IsRate, rate_used}
use Rattle.gf_tables.specs.declared.kind.FieldKind.{FieldKind}
use Rattle.lif_compiler.specs.Compiled.{IsCompiled}
use Rattle.lif_compiler.specs.Refused.{IsRateOver, IsRateUnmet, IsZeroRate}
use Rattle.lif_outside.specs.FileCalls.{Written}
use Rattle.net_model.specs.Limits.{highest_rate}
use Rattle.net_model.specs.Demands.{demand_count}
use Rattle.net_model.specs.declared.net.Net.{Net}
use Rattle.node_program.specs.Code.{choice_of}
use Rattle.node_program.specs.declared.code.Code.{Code}
use Rattle.report_text.specs.Report.{report_of}
use Rattle.top_base.specs.Lines.{compiled_line, rate_over_line, rate_unmet_line, zero_rate_line}
use Rattle.top_base.specs.Words.{Compile}
use Rattle.top_base.specs.declared.status.Status.{Status}
use Rattle.top_base.specs.declared.status.Status.TheVariants.{RateOver, RateUnmet, TooManyDemands, ZeroRate}
use Rattle.top_tools.specs.Cuts.{IsCrowded, field_of}

-- the field of this kind serves the demands
abbrev pub IsServedBy : Net → FieldKind → Type 0
IsServedBy net field = field_of net ≡ Some (choice_of field)

-- a code of the network with certificates of its rate, whose file is within the limit of code files, and what is written and said of
-- them
pub record IsMade (given : Compile) (net : Net) (files : List Written) (line : List ℕ) : Type 0 where
  pub field : FieldKind
  pub served : IsServedBy net field
  pub code : Code
  pub certs : List Cert
  pub compiled : IsCompiled net field code certs
  pub within : length (bytes_of code) ≤ code_limit
  pub files_are : files ≡ (given.code, bytes_of code) ∷ (given.report, report_of net compiled.least certs) ∷ []
  pub line_is : line ≡ compiled_line code.rate field (demand_count net)

-- a network that a code is made of: a field serves its demands, its rate is at least 1, and the rate of its codes, which is the
-- wanted one or else its own, is at most its own and not too high
pub record IsGood (net : Net) (line : List ℕ) : Type 0 where
  pub field : FieldKind
  pub served : IsServedBy net field
  pub rate : ℕ
  pub is_rate : IsRate net rate
  pub some_rate : 1 ≤ rate
  pub met : rate_used net rate ≤ rate
  pub low_rate : rate_used net rate ≤ highest_rate
  pub line_is : line ≡ compiled_line (rate_used net rate) field (demand_count net)

-- a network that none is made of, by the status and the line: there are too many demands, or the rate is 0, below the wanted one,
-- or above 32
abbrev pub RefusesMaking : Net → Status → List ℕ → Type 0
RefusesMaking net (TooManyDemands count) line = IsCrowded net (record { status = TooManyDemands count; line = line })
RefusesMaking net (ZeroRate demand side) line = (field : FieldKind) × IsServedBy net field × IsZeroRate net demand side × (line ≡ zero_rate_line net demand side)
RefusesMaking net (RateUnmet demand side least) line =
    (field : FieldKind) × IsServedBy net field × IsRateUnmet net demand side least × (line ≡ rate_unmet_line net demand side least)
RefusesMaking net (RateOver demand least) line = (field : FieldKind) × IsServedBy net field × IsRateOver net demand least × (line ≡ rate_over_line net demand least)
RefusesMaking net status line = ⊥
