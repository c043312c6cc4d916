use Rattle.std.proofs.Common.{◌≡◌, ◌≢◌, ℕ, Bool, false, List, [], ◌∷◌, length, map, option_to_list, Option, Some, None, Result, Ok, Err, IsOkUnless, if◌then◌else◌, refl, ap, sym, ◌∙◌, rules, tests}
use Rattle.std.specs.Borrow.{Bor}
use Rattle.name_index.specs.Seen.{has}
use Rattle.net_reader.specs.Gives.{Gives, Makes}
use Rattle.net_reader.specs.Parts.{parts_seen}
use Rattle.net_reader.specs.Statements.{Statement, has_fail_each, nodes_of, sink_names, source_names}
use Rattle.net_reader.specs.Text.{Parts, alone_fault, number_in, parts_in, unless_fault, whole_of, whole_said}
use Rattle.net_reader.specs.declared.parts.Parts as rust
use Rattle.net_reader.specs.declared.refusal.ReadRefusal.{ReadRefusal}
use Rattle.net_reader.specs.declared.refusal.ReadRefusal.TheVariants.{OutOfMemory, SinkIsSource}
use Rattle.net_reader.proofs.whole.whole_of.Goals as goal
use Rattle.net_reader.proofs.whole.whole_of.Goals.{then-state+in_default-alone_fault, else-state}

-- what is wrong where each link is to fail alone, if that is said
abbrev fault_where : List Statement → Bool → Option ReadRefusal
fault_where statements each = if each then alone_fault statements else None

-- Statements with a source, and with sinks other than it, stand for their parts, unless there is a fault.
said_with : (statements : List Statement) (source : List ℕ) (sinks : List (List ℕ)) (fault : Option ReadRefusal) → source_names statements ≡ source ∷ [] → sink_names statements ≡ sinks
    → length sinks ≢ 0 → has sinks source ≡ false → fault_where statements (has_fail_each statements) ≡ fault → whole_said statements ≡ unless_fault fault (parts_in statements source)
said_with statements source sinks fault is_source are_sinks some other is_fault =
    (λ i. whole_of statements (is_source i) (are_sinks i)) ∙ by sinks some other
  where
    by : (sinks : List (List ℕ)) → length sinks ≢ 0 → has sinks source ≡ false → whole_of statements (source ∷ []) sinks ≡ unless_fault fault (parts_in statements source)
    by [] some other = absurd (some refl)
    by (sink ∷ sinks) some other =
        ap (λ (b : Bool). if b then Err (SinkIsSource (number_in (nodes_of statements) source)) else unless_fault (fault_where statements (has_fail_each statements)) (parts_in statements source)) other
        ∙ ap (λ (found : Option ReadRefusal). unless_fault found (parts_in statements source)) is_fault

-- parts that were made are given, unless memory ran out
given : (result : Result rust.Parts ReadRefusal) (said : Result Parts ReadRefusal) (parts : Parts) → said ≡ Ok parts → Makes parts_seen result parts → IsOkUnless result OutOfMemory → Gives parts_seen result said
given (Ok made) said parts is makes refused = is ∙ ap (λ (seen : Parts). Ok seen) (sym makes)
given (Err why) said parts is makes refused = λ other. absurd (other refused)

-- the source that the state keeps is the only one
only_source : (kept : Option (Bor (List ℕ))) (source : Bor (List ℕ)) (names : List (List ℕ)) → map (λ name. name.now) (option_to_list kept) ≡ names → kept ≡ Some source → names ≡ source.now ∷ []
only_source kept source names same is = sym same ∙ ap (λ (one : Option (Bor (List ℕ))). map (λ name. name.now) (option_to_list one)) is

pub returns-in-Some-alone_fault : goal.returns-in-Some-alone_fault
returns-in-Some-alone_fault c = λ statements tables memory.
    said_with statements c.in-Some.source.now c.args.state.sinks (Some c.in-Some-alone_fault.refusal) (only_source _ _ _ tables.source c.in-Some.is) (sym tables.sinks) (search (rules, tests))
    (sym c.has.ensures ∙ c.if-has.false)
    (ap (fault_where statements) (sym tables.fails_each ∙ c.if-state.true) ∙ sym (c.alone_fault.ensures statements tables) ∙ c.in-Some-alone_fault.is)

pub returns : goal.returns
returns c = λ statements tables.
    let fault : fault_where statements (has_fail_each statements) ≡ None = elim c.if-state.branch [
      | then-state+in_default-alone_fault w ↦
          ap (fault_where statements) (sym tables.fails_each ∙ w.if-state.true) ∙ sym (w.alone_fault.ensures statements tables) ∙ w.in_default-alone_fault.is
      | else-state w ↦ ap (fault_where statements) (sym tables.fails_each ∙ w.if-state.false)
    ] in
    given c.parts_in.result (whole_said statements) (parts_in statements c.in-Some.source.now)
    (said_with statements c.in-Some.source.now c.args.state.sinks None (only_source _ _ _ tables.source c.in-Some.is) (sym tables.sinks) (search (rules, tests)) (sym c.has.ensures ∙ c.if-has.false) fault)
    (c.parts_in.ensures.gives statements tables) c.parts_in.ensures.refused
