-- What has to be known of inputs of a list that are read in order, and their calls.
use Rattle.std.specs.Prelude.{◌≡◌, ◌≢◌, ◌-◌, ℕ, List, [], ◌∷◌, ◌++◌, length, sum_by, Option, None, Some, Err, IsTrue, All}
use Rattle.std.proofs.Common.{refl, sym, ap, subst, ◌∙◌, inl, inr, arith}
use Rattle.std.proofs.lemmas.List.{append-nil, append_assoc}
use Rattle.std.proofs.lemmas.List.Elements.{All-head, All-tail}
use Rattle.std.proofs.lemmas.List.Sums.{sum_by-cons}
use Rattle.lif_outside.specs.Calls.{store_calls}
use Rattle.lif_outside.specs.Events.{Event}
use Rattle.lif_outside.specs.FileCalls.{ReadsWhole}
use Rattle.command_steps.proofs.StepLaws.{IsStep, reads_then_had, reads_then_lost, reads_then_step}
use Rattle.command_steps.specs.Listed.{IsTaken, LosesOne, ReadsAll, RefusesBytes, Wanted, reads_each}
use Rattle.command_steps.specs.Steps.{RunsOrForgets}
use Rattle.top_base.proofs.InputLaws.{IsInput, forgotten}
use Rattle.top_base.specs.Inputs.{IsNoMemory, Reads, is_refusal}
use Rattle.top_base.specs.Outcome.{any_witness}
use Rattle.top_base.specs.Performs.{Behaviour}
use Rattle.top_base.specs.declared.outcome.Outcome.{Outcome}

-- what its bytes are refused with has the status of a refusal
abbrev pub RefusesWell : Wanted → Type 0
RefusesWell wanted = (bytes : List ℕ) (outcome : Outcome) → wanted.refusal bytes ≡ Some outcome → IsTrue (is_refusal outcome.status)

-- ---- what has to be known

-- one result, and not another
some_same : {X : Type 0} (o : Option X) (one other : X) → o ≡ Some one → o ≡ Some other → one ≡ other
some_same o one other e f = cc

not_both : {X : Type 0} (o : Option X) (x : X) → o ≡ None → o ≡ Some x → ⊥
not_both o x e f = cc

pub taken_input : (limit : ℕ) (wanted : Wanted) → RefusesWell wanted → IsInput limit (IsTaken wanted) (RefusesBytes wanted)
taken_input limit wanted well = record {
  kind = λ bytes status line refuses. well bytes (record { status = status; line = line }) refuses;
  same = λ bytes one other is is_other. is.same ∙ sym is_other.same;
  apart = λ bytes taken status line is refuses. not_both (wanted.refusal bytes) (record { status = status; line = line }) is.good refuses;
  alike = λ bytes status line status' line' refuses refuses'.
      let same = some_same (wanted.refusal bytes) (record { status = status; line = line }) (record { status = status'; line = line' }) refuses refuses' in
      ap (λ (o : Outcome). any_witness o.status) same;
}

-- the rest comes behind as many inputs as are wanted
pub reads_each_step : (limit : ℕ) (wanted : List Wanted) (rest : List (List ℕ) → Behaviour) → All RefusesWell wanted → ((read : List (List ℕ)) → length read ≡ length wanted → IsStep (rest read))
    → IsStep (reads_each limit wanted rest)
reads_each_step limit [] rest well steps = steps [] refl
reads_each_step limit (one ∷ more) rest well steps =
    reads_then_step limit (IsTaken one) (RefusesBytes one) one.path (λ bytes. reads_each (limit - length bytes) more (λ others. rest (bytes ∷ others)))
    (taken_input limit one (All-head RefusesWell one more well))
    (λ bytes. reads_each_step (limit - length bytes) more (λ others. rest (bytes ∷ others)) (All-tail RefusesWell one more well)
    (λ others same. steps (bytes ∷ others) (omega (arith, same))))

-- ---- the calls of the whole

-- all were read, and then came the calls of the rest, or there was no memory
pub reads_each_had : (limit : ℕ) (wanted : List Wanted) (rest : List (List ℕ) → Behaviour) (read : List (List ℕ)) (outcome : Outcome) (first later : List Event) → ReadsAll limit wanted read first
    → RunsOrForgets (rest read) outcome later → RunsOrForgets (reads_each limit wanted rest) outcome (first ++ later)
reads_each_had limit [] rest [] outcome first later reads runs = subst (λ es. RunsOrForgets (rest []) outcome (es ++ later)) (sym reads) runs
reads_each_had limit [] rest (bytes ∷ others) outcome first later reads runs = absurd reads
reads_each_had limit (one ∷ more) rest [] outcome first later reads runs = absurd reads
reads_each_had limit (one ∷ more) rest (bytes ∷ others) outcome first later reads runs =
    let parts = reads.1 in
    let goes = λ (bytes : List ℕ). reads_each (limit - length bytes) more (λ others. rest (bytes ∷ others)) in
    let behind = reads_each_had (limit - length bytes) more (λ others. rest (bytes ∷ others)) others outcome parts.later later parts.holds_later runs in
    let are : parts.first ++ (parts.later ++ later) ≡ first ++ later = sym (append_assoc parts.first parts.later later) ∙ ap (λ es. es ++ later) (sym parts.events_are) in
    inl (subst (λ es. (reads_each limit (one ∷ more) rest).runs outcome (store_calls es)) are
    (reads_then_had limit (IsTaken one) (RefusesBytes one) one.path goes bytes outcome parts.first (parts.later ++ later)
    (bytes, parts.holds_first, record { same = refl; good = reads.0 }) behind))

-- or one couldn't be had
pub reads_each_lost : (limit : ℕ) (wanted : List Wanted) (rest : List (List ℕ) → Behaviour) (outcome : Outcome) (calls : List Event) → LosesOne limit wanted outcome calls
    → (reads_each limit wanted rest).runs outcome (store_calls calls)
reads_each_lost limit [] rest outcome calls loses = absurd loses
reads_each_lost limit (one ∷ more) rest outcome calls (inl reads) =
    reads_then_lost limit (IsTaken one) (RefusesBytes one) one.path (λ bytes. reads_each (limit - length bytes) more (λ others. rest (bytes ∷ others))) outcome calls reads
reads_each_lost limit (one ∷ more) rest outcome calls (inr loses) =
    let bytes = loses.0 in
    let parts = loses.2 in
    let goes = λ (bytes : List ℕ). reads_each (limit - length bytes) more (λ others. rest (bytes ∷ others)) in
    let behind = reads_each_lost (limit - length bytes) more (λ others. rest (bytes ∷ others)) outcome parts.later parts.holds_later in
    subst (λ es. (reads_each limit (one ∷ more) rest).runs outcome (store_calls es)) (sym parts.events_are)
    (reads_then_had limit (IsTaken one) (RefusesBytes one) one.path goes bytes outcome parts.first parts.later
    (bytes, parts.holds_first, record { same = refl; good = loses.1 }) (inl behind))

-- ---- the calls of a loop

-- what is left of the limit
abbrev pub left_of : ℕ → List (List ℕ) → ℕ
left_of limit read = limit - sum_by length read

-- behind one more
left_behind : (limit : ℕ) (bytes : List ℕ) (others : List (List ℕ)) → left_of (limit - length bytes) others ≡ left_of limit (bytes ∷ others)
left_behind limit bytes others = omega (arith, sum_by-cons length bytes others)

-- one more was read
pub reads_all_more : (limit : ℕ) (wanted : List Wanted) (read : List (List ℕ)) (first : List Event) → ReadsAll limit wanted read first → (one : Wanted) (bytes : List ℕ) (later : List Event)
    → one.refusal bytes ≡ None → ReadsWhole one.path (left_of limit read) bytes later → ReadsAll limit (wanted ++ one ∷ []) (read ++ bytes ∷ []) (first ++ later)
reads_all_more limit [] [] first reads one bytes later good whole =
    let same : left_of limit [] ≡ limit = omega arith in (
      good,
      record {
        first = later;
        later = [];
        events_are = ap (λ es. es ++ later) reads ∙ sym (append-nil later);
        holds_first = subst (λ n. ReadsWhole one.path n bytes later) same whole;
        holds_later = refl;
      },
    )
reads_all_more limit [] (other ∷ read) first reads one bytes later good whole = absurd reads
reads_all_more limit (other ∷ wanted) [] first reads one bytes later good whole = absurd reads
reads_all_more limit (other ∷ wanted) (came ∷ read) first reads one bytes later good whole =
    let parts = reads.1 in
    let within = subst (λ n. ReadsWhole one.path n bytes later) (sym (left_behind limit came read)) whole in (
      reads.0,
      record {
        first = parts.first;
        later = parts.later ++ later;
        events_are = ap (λ es. es ++ later) parts.events_are ∙ append_assoc parts.first parts.later later;
        holds_first = parts.holds_first;
        holds_later = reads_all_more (limit - length came) wanted read parts.later parts.holds_later one bytes later good within;
      },
    )

-- those before it were read, and the next one couldn't be had
pub loses_one_behind : (limit : ℕ) (front : List Wanted) (read : List (List ℕ)) (first : List Event) → ReadsAll limit front read first → (next : Wanted) (more : List Wanted) (outcome : Outcome) (calls : List Event)
    → Reads (left_of limit read) (IsTaken next) (RefusesBytes next) next.path (Err outcome) calls → LosesOne limit (front ++ next ∷ more) outcome (first ++ calls)
loses_one_behind limit [] [] first reads next more outcome calls loses =
    let same : left_of limit [] ≡ limit = omega arith in
    inl (subst (Reads limit (IsTaken next) (RefusesBytes next) next.path (Err outcome)) (ap (λ es. es ++ calls) (sym reads))
    (subst (λ n. Reads n (IsTaken next) (RefusesBytes next) next.path (Err outcome) calls) same loses))
loses_one_behind limit [] (other ∷ read) first reads next more outcome calls loses = absurd reads
loses_one_behind limit (other ∷ front) [] first reads next more outcome calls loses = absurd reads
loses_one_behind limit (other ∷ front) (came ∷ read) first reads next more outcome calls loses =
    let parts = reads.1 in
    let within = subst (λ n. Reads n (IsTaken next) (RefusesBytes next) next.path (Err outcome) calls) (sym (left_behind limit came read)) loses in
    inr (
      came,
      reads.0,
      record {
        first = parts.first;
        later = parts.later ++ calls;
        events_are = ap (λ es. es ++ calls) parts.events_are ∙ append_assoc parts.first parts.later calls;
        holds_first = parts.holds_first;
        holds_later = loses_one_behind (limit - length came) front read parts.later parts.holds_later next more outcome calls within;
      },
    )

-- those before were read, of which there is one at least, and then there was no memory: the last of them is forgotten
pub forgets_behind : (limit : ℕ) (front : List Wanted) (read : List (List ℕ)) (calls : List Event) → front ≢ [] → ReadsAll limit front read calls → (more : List Wanted) (outcome : Outcome) → IsNoMemory outcome
    → LosesOne limit (front ++ more) outcome calls
forgets_behind limit [] read calls some reads more outcome lost = absurd (some refl)
forgets_behind limit (one ∷ front) [] calls some reads more outcome lost = absurd reads
forgets_behind limit (one ∷ []) (bytes ∷ []) calls some reads more outcome lost =
    let parts = reads.1 in
    let are : parts.first ≡ calls = sym (append-nil parts.first) ∙ ap (λ es. parts.first ++ es) (sym parts.holds_later) ∙ sym parts.events_are in
    inl (subst (Reads limit (IsTaken one) (RefusesBytes one) one.path (Err outcome)) are
    (forgotten limit (IsTaken one) (RefusesBytes one) one.path bytes parts.first outcome (bytes, parts.holds_first, record { same = refl; good = reads.0 }) lost))
forgets_behind limit (one ∷ []) (bytes ∷ other ∷ others) calls some reads more outcome lost = absurd reads.1.holds_later
forgets_behind limit (one ∷ next ∷ front) (bytes ∷ others) calls some reads more outcome lost =
    let parts = reads.1 in
    inr (
      bytes,
      reads.0,
      record {
        first = parts.first;
        later = parts.later;
        events_are = parts.events_are;
        holds_first = parts.holds_first;
        holds_later = forgets_behind (limit - length bytes) (next ∷ front) others parts.later (λ e. cc) parts.holds_later more outcome lost;
      },
    )
