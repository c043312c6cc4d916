-- The command `twin`.
use Rattle.std.specs.Prelude.{◌≡◌, ◌≤◌, ◌<◌, ◌+◌, ℕ, List, [], ◌∷◌, IsSome, IsTrue, None, Some, length, map, slice_get}
use Rattle.cut_witness.specs.declared.cert.Cert.{Cert}
use Rattle.code_file.specs.Items.{bytes_of}
use Rattle.code_file.specs.Limits.{code_limit}
use Rattle.coded_traffic.specs.RowLinks.{CarriesRow}
use Rattle.gf_tables.specs.declared.kind.FieldKind.{FieldKind}
use Rattle.lif_compiler.specs.Compiled.{IsCompiled}
use Rattle.lif_outside.specs.FileCalls.{Written}
use Rattle.net_model.specs.Demands.{demand_count}
use Rattle.net_model.specs.declared.net.Net.{Net}
use Rattle.net_reader.specs.Text.{net_limit}
use Rattle.node_program.specs.Decoding.{IsAccepted}
use Rattle.node_program.specs.declared.code.Code.{Code}
use Rattle.report_text.specs.Report.{report_of}
use Rattle.top_base.specs.Lines.{twin_refused_line, twinned_line}
use Rattle.top_base.specs.Making.{makes_files}
use Rattle.top_base.specs.Named.{node_named}
use Rattle.top_base.specs.Networks.{IsNetOf, RefusesNet}
use Rattle.top_base.specs.Performs.{Behaviour}
use Rattle.top_base.specs.Words.{Twin}
use Rattle.top_base.specs.declared.status.Status.{Status}
use Rattle.top_base.specs.declared.status.Status.TheVariants.{TwinRefused}
use Rattle.top_base.specs.declared.status.TwinWhy.{TwinWhy}
use Rattle.top_base.specs.declared.status.TwinWhy.TheVariants.{NameTaken, TooMany, UnknownSecond}
use Rattle.top_tools.specs.Compile.Made.{IsGood, IsServedBy, RefusesMaking}
use Rattle.two_sources.specs.Joined.{IsJoined, IsTooMany, is_taken, super_links}
use Rattle.two_sources.specs.Separated.{IsSeparated}

-- the network that joins the source of NET and the node that SECOND names
pub record Joins (given : Twin) (net joined : Net) : Type 0 where
  pub second : ℕ
  pub named : node_named net given.second ≡ Some second
  pub is_joined : IsJoined second given.r1 given.r2 net joined

-- an accepted code of the rate of both, whose first links are those of the joined node, `super.1.1` and so on, in order: each leaves
-- the source and carries one row of the block alone, that of its own number
pub record IsTwinCode (given : Twin) (code : Code) : Type 0 where
  pub accepted : IsAccepted code
  pub rate : code.rate ≡ given.r1 + given.r2
  pub named : (link : ℕ) → link < code.rate → slice_get (map (λ l. l.name) code.net.links) link ≡ slice_get (super_links given.r1 given.r2) link
  pub carries : (link : ℕ) → link < code.rate → CarriesRow code link link

-- a code that is compiled of the joined network, and separated, with certificates of that network's rate, and what is written and
-- said of them
pub record IsTwinned (given : Twin) (net : Net) (files : List Written) (line : List ℕ) : Type 0 where
  pub joined : Net
  pub joins : Joins given net joined
  pub field : FieldKind
  pub served : IsServedBy joined field
  pub whole : Code
  pub certs : List Cert
  pub compiled : IsCompiled joined field whole certs
  pub code : Code
  pub separated : IsSeparated whole code
  pub is_twin : IsTwinCode given code
  pub within : length (bytes_of code) ≤ code_limit
  pub files_are : files ≡ (given.code, bytes_of code) ∷ (given.report, report_of joined compiled.least certs) ∷ []
  pub line_is : line ≡ twinned_line given.r1 given.r2 field (demand_count joined)

-- a network of which such a code is made: the joined one is a network that a code is made of
pub record CanTwin (given : Twin) (net : Net) (line : List ℕ) : Type 0 where
  pub joined : Net
  pub joins : Joins given net joined
  pub said : List ℕ
  pub good : IsGood joined said
  pub line_is : line ≡ twinned_line given.r1 given.r2 good.field (demand_count joined)

-- why none is joined: no node has the name SECOND, a name is taken, or there is no room
abbrev pub IsUnjoined : Twin → Net → TwinWhy → Type 0
IsUnjoined given net UnknownSecond = node_named net given.second ≡ None
IsUnjoined given net NameTaken = IsSome (node_named net given.second) × IsTrue (is_taken net given.r1 given.r2)
IsUnjoined given net TooMany = IsSome (node_named net given.second) × IsTooMany net given.r1 given.r2

-- a network of which none is made, by the status and the line: the two aren't joined, or the joined one is refused
abbrev pub RefusesTwin : Twin → Net → Status → List ℕ → Type 0
RefusesTwin given net (TwinRefused why) line = IsUnjoined given net why × (line ≡ twin_refused_line why)
RefusesTwin given net status line = (joined : Net) × Joins given net joined × RefusesMaking joined status line

-- NET is read, and CODE and REPORT are made of it
abbrev pub twin_command : Twin → Behaviour
twin_command given =
    makes_files net_limit IsNetOf RefusesNet (IsTwinned given) (CanTwin given) (RefusesTwin given) given.net (given.code ∷ given.report ∷ [])
