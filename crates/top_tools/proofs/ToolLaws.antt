-- What has to be known of the commands.
use Rattle.std.specs.Prelude.{◌≡◌, ◌≢◌, ℕ, List, [], ◌∷◌, IsTrue}
use Rattle.std.proofs.Common.{refl, sym, ap, ◌∙◌, ⊎_elim, arith}
use Rattle.std.proofs.lemmas.Bool.{false≢true}
use Rattle.cut_witness.proofs.CertificateLaws.{IsRate-least_value}
use Rattle.lif_outside.specs.Calls.{Calls}
use Rattle.lif_outside.specs.FileCalls.{Written}
use Rattle.lif_outside.specs.Writes.{paths_written}
use Rattle.net_model.specs.Demands.{demand_count}
use Rattle.net_model.specs.declared.net.Net.{Net}
use Rattle.net_reader.specs.Text.{net_limit}
use Rattle.topo_order.specs.Order.{order_of}
use Rattle.code_file.specs.Items.{IsFileOf}
use Rattle.code_file.specs.Limits.{code_limit}
use Rattle.node_program.specs.declared.code.Code.{Code}
use Rattle.top_base.specs.Accepting.{IsCodeOf, RefusesCode}
use Rattle.top_base.proofs.AcceptingLaws.{code_input}
use Rattle.top_base.specs.CodeFiles.{RefusesFile}
use Rattle.top_base.proofs.CodeFileLaws.{file_input}
use Rattle.top_base.proofs.InspectingLaws.{EndsWell, inspects_known, inspects_used}
use Rattle.top_base.specs.Inspecting.{OwesDone}
use Rattle.top_base.specs.Lines.{accepted_line, compiled_line, order_text}
use Rattle.top_base.specs.Making.{DueMaking}
use Rattle.top_base.proofs.MakingLaws.{MakesWell, makes_known, makes_used}
use Rattle.top_base.proofs.NetworkLaws.{net_input}
use Rattle.top_base.specs.Networks.{IsNetOf, RefusesNet}
use Rattle.top_base.specs.Outcome.{any_witness, is_of_inputs}
use Rattle.top_base.proofs.PerformingLaws.{IsKnown}
use Rattle.top_base.specs.Words.{Compile, Migrate}
use Rattle.top_base.specs.declared.outcome.Outcome.{Outcome}
use Rattle.top_base.specs.declared.status.Status.{Status}
use Rattle.top_base.specs.declared.status.Status.TheVariants.{Done, RateOver, RateUnmet, TooLong, TooManyDemands, Usage, ZeroRate}
use Rattle.top_tools.specs.Check.{IsChecked, check_command}
use Rattle.top_tools.specs.Compile.Command.{compile_command}
use Rattle.top_tools.specs.Compile.Given.{outputs_of}
use Rattle.top_tools.specs.Compile.Made.{IsGood, IsMade, RefusesMaking}
use Rattle.top_tools.specs.Cuts.{IsCrowded, IsWitnessed, OwesCuts, cuts_command}
use Rattle.top_tools.specs.CodeWriting.{DeclinesLong}
use Rattle.top_tools.specs.Migrate.{CanMigrate, IsMigrated, migrate_command}
use Rattle.top_tools.specs.Order.{IsOrdered, order_command}
use Rattle.top_tools.proofs.RefusalLaws.{same_due}

-- a command that is done, with one line, where its input was had, ends well
module _ {X : Type 0} (limit : ℕ) (Is : List ℕ → X → Type 0) (Refuses : List ℕ → Status → List ℕ → Type 0) (line : X → List ℕ) where
  done : (x : X) (outcome : Outcome) → outcome ≡ record { status = Done; line = line x } → outcome.status ≡ Done
  done x outcome is = ap (λ (o : Outcome). o.status) is

  pub ends_done : EndsWell limit Is Refuses (λ x outcome. outcome ≡ record { status = Done; line = line x }) OwesDone
  ends_done = record {
    of_inputs = λ x outcome is. ap is_of_inputs (done x outcome is);
    used = λ x outcome is used. let both : Done ≡ Usage = sym (done x outcome is) ∙ used in cc;
    alike = λ x outcome owed is is_owed. ap any_witness (done x outcome is ∙ sym is_owed);
  }

-- the command `check`
checks_well : EndsWell code_limit IsCodeOf RefusesCode IsChecked OwesDone
checks_well = ends_done code_limit IsCodeOf RefusesCode accepted_line

pub check_known : (path : List ℕ) → IsKnown (check_command path)
check_known path = inspects_known code_limit IsCodeOf RefusesCode IsChecked OwesDone code_input checks_well path

pub check_used : (path : List ℕ) (outcome : Outcome) (calls : Calls) → (check_command path).runs outcome calls → outcome.status ≢ Usage
check_used path = inspects_used code_limit IsCodeOf RefusesCode IsChecked OwesDone code_input checks_well path

-- the command `cuts`
counted : (net : Net) (outcome : Outcome) → IsCrowded net outcome → outcome.status ≡ TooManyDemands (demand_count net)
counted net outcome crowded = ap (λ (o : Outcome). o.status) crowded.1

cuts_well : EndsWell net_limit IsNetOf RefusesNet IsWitnessed OwesCuts
cuts_well = record {
  of_inputs = λ net outcome is. ⊎_elim (λ crowded. ap is_of_inputs (counted net outcome crowded)) (λ reported. ap is_of_inputs reported.1) is;
  used = λ net outcome is used. ⊎_elim
      (λ crowded. let both : TooManyDemands (demand_count net) ≡ Usage = sym (counted net outcome crowded) ∙ used in cc)
      (λ reported. let both : Done ≡ Usage = sym reported.1 ∙ used in cc)
      is;
  alike = λ net outcome owed is is_owed. ⊎_elim
      (λ crowded. ⊎_elim
      (λ many. ap any_witness (counted net outcome crowded ∙ sym many.1))
      (λ served. absurd (false≢true (sym crowded.0 ∙ served.0)))
      is_owed)
      (λ reported. ⊎_elim
      (λ many. absurd (false≢true (sym many.0 ∙ reported.0)))
      (λ served. ap any_witness (reported.1 ∙ sym served.1))
      is_owed)
      is;
}

pub cuts_known : (path : List ℕ) → IsKnown (cuts_command path)
cuts_known path = inspects_known net_limit IsNetOf RefusesNet IsWitnessed OwesCuts net_input cuts_well path

pub cuts_used : (path : List ℕ) (outcome : Outcome) (calls : Calls) → (cuts_command path).runs outcome calls → outcome.status ≢ Usage
cuts_used path = inspects_used net_limit IsNetOf RefusesNet IsWitnessed OwesCuts net_input cuts_well path

-- the command `order`
orders_well : EndsWell net_limit IsNetOf RefusesNet IsOrdered OwesDone
orders_well = ends_done net_limit IsNetOf RefusesNet (λ net. order_text net (order_of net.links))

pub order_known : (path : List ℕ) → IsKnown (order_command path)
order_known path = inspects_known net_limit IsNetOf RefusesNet IsOrdered OwesDone net_input orders_well path

pub order_used : (path : List ℕ) (outcome : Outcome) (calls : Calls) → (order_command path).runs outcome calls → outcome.status ≢ Usage
order_used path = inspects_used net_limit IsNetOf RefusesNet IsOrdered OwesDone net_input orders_well path

-- the command `compile`
module _ (given : Compile) where
  -- a network of which a code was made is good
  good : (net : Net) (files : List Written) (line : List ℕ) → IsMade given net files line → IsGood net line
  good net files line made = record {
    field = made.field;
    served = made.served;
    rate = made.compiled.least;
    is_rate = IsRate-least_value net made.certs made.compiled.least made.compiled.certified made.compiled.is_least;
    some_rate = omega (arith, made.code.code.draft.some_rate, made.compiled.within);
    met = omega (arith, made.compiled.rate, made.compiled.within);
    low_rate = omega (arith, made.compiled.rate, made.code.code.draft.low_rate);
    line_is = made.line_is ∙ ap (λ rate. compiled_line rate made.field (demand_count net)) made.compiled.rate;
  }

  -- networks that aren't compiled are refused with a status of their own
  of_inputs : (net : Net) (status : Status) (line : List ℕ) → RefusesMaking net status line → IsTrue (is_of_inputs status)
  of_inputs net (TooManyDemands count) line refused = refl
  of_inputs net (ZeroRate demand side) line refused = refl
  of_inputs net (RateUnmet demand side least) line refused = refl
  of_inputs net (RateOver demand least) line refused = refl
  of_inputs net status line refused = absurd refused

  compiles_well : MakesWell net_limit IsNetOf RefusesNet (IsMade given) IsGood RefusesMaking given.net (outputs_of given)
  compiles_well = record {
    written = λ net files line made. ap paths_written made.files_are;
    can = good;
    of_inputs = of_inputs;
    undone = λ net line refused. refused;
    used = λ net line refused. refused;
    alike = λ net status line status' line' one other. ap any_witness (same_due net status line status' line' one other);
  }

  pub compile_known : IsKnown (compile_command given)
  compile_known = makes_known net_limit IsNetOf RefusesNet (IsMade given) IsGood RefusesMaking given.net (outputs_of given) compiles_well net_input

  pub compile_used : (outcome : Outcome) (calls : Calls) → (compile_command given).runs outcome calls → outcome.status ≢ Usage
  compile_used = makes_used net_limit IsNetOf RefusesNet (IsMade given) IsGood RefusesMaking given.net (outputs_of given) compiles_well net_input

-- the command `migrate`
module _ (given : Migrate) where
  -- a code whose file was written is within the limit
  can_migrate : (code : Code) (files : List Written) (line : List ℕ) → IsMigrated given code files line → CanMigrate code line
  can_migrate code files line made = record { within = made.within; line_is = made.line_is }

  long_of_inputs : (code : Code) (status : Status) (line : List ℕ) → DeclinesLong code status line → IsTrue (is_of_inputs status)
  long_of_inputs code TooLong line long = refl
  long_of_inputs code status line long = absurd long

  -- one status is due: a file is within the limit or longer
  due_once : (code : Code) (status : Status) (line : List ℕ) (status' : Status) (line' : List ℕ) → DueMaking code_limit IsFileOf RefusesFile (IsMigrated given) CanMigrate DeclinesLong code status line
      → DueMaking code_limit IsFileOf RefusesFile (IsMigrated given) CanMigrate DeclinesLong code status' line' → status ≡ status'
  due_once code Done line Done line' one other = refl
  due_once code Done line TooLong line' one other = absurd (omega (arith, one.within, other.0))
  due_once code Done line status' line' one other = absurd other
  due_once code TooLong line Done line' one other = absurd (omega (arith, one.0, other.within))
  due_once code TooLong line TooLong line' one other = refl
  due_once code TooLong line status' line' one other = absurd other
  due_once code status line status' line' one other = absurd one

  migrates_well : MakesWell code_limit IsFileOf RefusesFile (IsMigrated given) CanMigrate DeclinesLong given.old (given.new ∷ [])
  migrates_well = record {
    written = λ code files line made. ap paths_written made.files_are;
    can = can_migrate;
    of_inputs = long_of_inputs;
    undone = λ code line long. long;
    used = λ code line long. long;
    alike = λ code status line status' line' one other. ap any_witness (due_once code status line status' line' one other);
  }

  pub migrate_known : IsKnown (migrate_command given)
  migrate_known = makes_known code_limit IsFileOf RefusesFile (IsMigrated given) CanMigrate DeclinesLong given.old (given.new ∷ []) migrates_well file_input

  pub migrate_used : (outcome : Outcome) (calls : Calls) → (migrate_command given).runs outcome calls → outcome.status ≢ Usage
  migrate_used = makes_used code_limit IsFileOf RefusesFile (IsMigrated given) CanMigrate DeclinesLong given.old (given.new ∷ []) migrates_well file_input
