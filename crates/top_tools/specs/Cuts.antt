-- The command `cuts`.
use Rattle.std.specs.Prelude.{◌≡◌, ◌⊎◌, ℕ, List, IsNone, IsSome, Option}
use Rattle.net_model.specs.Demands.{demand_count}
use Rattle.net_model.specs.declared.net.FieldChoice.{FieldChoice}
use Rattle.net_model.specs.declared.net.Net.{Net}
use Rattle.failure_patterns.specs.UsedField.{used_field}
use Rattle.cut_witness.specs.Certificate.{AreCertificates, IsLeastValue}
use Rattle.cut_witness.specs.declared.cert.Cert.{Cert}
use Rattle.report_text.specs.Report.{report_of}
use Rattle.top_base.specs.Inspecting.{inspects}
use Rattle.top_base.specs.Lines.{too_many_demands_line}
use Rattle.net_reader.specs.Text.{net_limit}
use Rattle.top_base.specs.Networks.{IsNetOf, RefusesNet}
use Rattle.top_base.specs.Performs.{Behaviour}
use Rattle.top_base.specs.declared.outcome.Outcome.{Outcome}
use Rattle.top_base.specs.declared.status.Status.{Status}
use Rattle.top_base.specs.declared.status.Status.TheVariants.{Done, TooManyDemands}

-- the field that serves a network's demands, if one does
abbrev pub field_of : Net → Option FieldChoice
field_of net = used_field net.field (demand_count net)

-- a text is the report of certificates of all demands
pub record IsReport (net : Net) (text : List ℕ) : Type 0 where
  pub certs : List Cert
  pub are : AreCertificates net certs
  pub rate : ℕ
  pub least : IsLeastValue certs rate
  pub report : text ≡ report_of net rate certs

-- no field serves the demands, and their number is said
abbrev pub IsCrowded : Net → Outcome → Type 0
IsCrowded net outcome =
    IsNone (field_of net) × (outcome ≡ record { status = TooManyDemands (demand_count net); line = too_many_demands_line (demand_count net) })

-- a field does, and the report is said
abbrev pub IsReported : Net → Outcome → Type 0
IsReported net outcome = IsSome (field_of net) × (outcome.status ≡ Done) × IsReport net outcome.line

-- the outcome for a network without a cycle
abbrev pub IsWitnessed : Net → Outcome → Type 0
IsWitnessed net outcome = IsCrowded net outcome ⊎ IsReported net outcome

-- the status that is owed: by the network and its field alone
abbrev pub OwesCuts : Net → Status → Type 0
OwesCuts net status =
    (IsNone (field_of net) × (status ≡ TooManyDemands (demand_count net))) ⊎ (IsSome (field_of net) × (status ≡ Done))

-- what the command does: NET is read
abbrev pub cuts_command : List ℕ → Behaviour
cuts_command path = inspects net_limit IsNetOf RefusesNet IsWitnessed OwesCuts path
