-- What has to be known of the command `twin`.
use Rattle.std.specs.Prelude.{◌≡◌, ◌≢◌, ◌⊎◌, ℕ, List, [], ◌∷◌, IsTrue, None, Some, is_some}
use Rattle.std.proofs.Common.{refl, sym, ap, subst, ◌∙◌, arith, inl, inr}
use Rattle.std.proofs.lemmas.Bool.{false≢true}
use Rattle.cut_witness.proofs.CertificateLaws.{IsRate-least_value}
use Rattle.lif_outside.specs.Calls.{Calls}
use Rattle.lif_outside.specs.FileCalls.{Written}
use Rattle.lif_outside.specs.Writes.{paths_written}
use Rattle.net_model.specs.Demands.{demand_count}
use Rattle.net_model.specs.declared.net.Net.{Net}
use Rattle.net_reader.specs.Text.{net_limit}
use Rattle.failure_patterns.specs.Rate.{rate_used}
use Rattle.top_base.proofs.MakingLaws.{MakesWell, makes_known, makes_used}
use Rattle.top_base.proofs.NetworkLaws.{net_input}
use Rattle.top_base.proofs.PerformingLaws.{IsKnown}
use Rattle.top_base.specs.Lines.{compiled_line}
use Rattle.top_base.specs.Making.{DueMaking, RunsMaking}
use Rattle.top_base.specs.Networks.{IsNetOf, RefusesNet}
use Rattle.top_base.specs.Outcome.{any_witness, is_of_inputs}
use Rattle.top_base.specs.Words.{Twin}
use Rattle.top_base.specs.declared.outcome.Outcome.{Outcome}
use Rattle.top_base.specs.declared.status.Status.{Status}
use Rattle.top_base.specs.declared.status.Status.TheVariants.{Done, RateOver, RateUnmet, TooManyDemands, TwinRefused, Usage, ZeroRate}
use Rattle.top_base.specs.declared.status.TwinWhy.{TwinWhy}
use Rattle.top_base.specs.declared.status.TwinWhy.TheVariants.{NameTaken, TooMany, UnknownSecond}
use Rattle.top_tools.proofs.CodeWritingLaws.{makes_none}
use Rattle.two_sources.proofs.FreeLaws.{joined-untaken, joined-room}
use Rattle.top_tools.proofs.RefusalLaws.{Due, same_due}
use Rattle.top_tools.specs.Compile.Made.{RefusesMaking}
use Rattle.top_tools.specs.Compile.Ready.{RefusesOrLosesIt}
use Rattle.top_tools.specs.Twin.{CanTwin, IsTwinned, IsUnjoined, Joins, RefusesTwin, twin_command}
use Rattle.top_tools.specs.TwinReady.{RefusesOrLosesTwin}
use Rattle.two_sources.proofs.JoinedLaws.{joined-once}
use Rattle.two_sources.specs.Joined.{IsJoined}

module _ (given : Twin) where
  -- a network of which a code was written is one of which a code is made
  can : (net : Net) (files : List Written) (line : List ℕ) → IsTwinned given net files line → CanTwin given net line
  can net files line made = record {
    joined = made.joined;
    joins = made.joins;
    said = compiled_line (rate_used made.joined made.compiled.least) made.field (demand_count made.joined);
    good = record {
      field = made.field;
      served = made.served;
      rate = made.compiled.least;
      is_rate = IsRate-least_value made.joined made.certs made.compiled.least made.compiled.certified made.compiled.is_least;
      some_rate = omega (arith, made.whole.code.draft.some_rate, made.compiled.within);
      met = omega (arith, made.compiled.rate, made.compiled.within);
      low_rate = omega (arith, made.compiled.rate, made.whole.code.draft.low_rate);
      line_is = refl;
    };
    line_is = made.line_is;
  }

  of_inputs : (net : Net) (status : Status) (line : List ℕ) → RefusesTwin given net status line → IsTrue (is_of_inputs status)
  of_inputs net (TwinRefused why) line refused = refl
  of_inputs net (TooManyDemands count) line refused = refl
  of_inputs net (ZeroRate demand side) line refused = refl
  of_inputs net (RateUnmet demand side least) line refused = refl
  of_inputs net (RateOver demand least) line refused = refl
  of_inputs net status line refused = absurd refused.2

  -- the network that comes of it is one
  same_joined : (net one other : Net) → Joins given net one → Joins given net other → one ≡ other
  same_joined net one other joins joins' =
      let both : Some joins.second ≡ Some joins'.second = sym joins.named ∙ joins'.named in
      let same : joins'.second ≡ joins.second = cc in
      joined-once joins.second given.r1 given.r2 net one joins.is_joined other
      (subst (λ second. IsJoined second given.r1 given.r2 net other) same joins'.is_joined)

  -- where none is joined, none comes of it
  unjoined_joins : (net : Net) (why : TwinWhy) (joined : Net) → IsUnjoined given net why → Joins given net joined → ⊥
  unjoined_joins net UnknownSecond joined unjoined joins = let both : None ≡ Some joins.second = sym unjoined ∙ joins.named in cc
  unjoined_joins net NameTaken joined unjoined joins =
      false≢true (sym (joined-untaken joins.second given.r1 given.r2 net joined joins.is_joined) ∙ unjoined.1)
  unjoined_joins net TooMany joined unjoined joins =
      false≢true (sym (joined-room joins.second given.r1 given.r2 net joined joins.is_joined) ∙ unjoined.1.full)

  -- and there is one reason
  one_reason : (net : Net) (why why' : TwinWhy) → IsUnjoined given net why → IsUnjoined given net why' → why ≡ why'
  one_reason net UnknownSecond UnknownSecond one other = refl
  one_reason net UnknownSecond NameTaken one other = absurd (false≢true (ap is_some (sym one) ∙ other.0))
  one_reason net UnknownSecond TooMany one other = absurd (false≢true (ap is_some (sym one) ∙ other.0))
  one_reason net NameTaken UnknownSecond one other = absurd (false≢true (ap is_some (sym other) ∙ one.0))
  one_reason net NameTaken NameTaken one other = refl
  one_reason net NameTaken TooMany one other = absurd (false≢true (sym other.1.free ∙ one.1))
  one_reason net TooMany UnknownSecond one other = absurd (false≢true (ap is_some (sym other) ∙ one.0))
  one_reason net TooMany NameTaken one other = absurd (false≢true (sym one.1.free ∙ other.1))
  one_reason net TooMany TooMany one other = refl

  -- a refusal of the joined network is one of the network
  of_joined : (net joined : Net) → Joins given net joined → (status : Status) (line : List ℕ) → RefusesMaking joined status line
      → RefusesTwin given net status line
  of_joined net joined joins (TwinRefused why) line refused = absurd refused
  of_joined net joined joins status line refused = (joined, joins, refused)

  pub joined_refused : (net joined : Net) → Joins given net joined → (outcome : Outcome) → RefusesOrLosesIt joined outcome
      → RefusesOrLosesTwin given net outcome
  joined_refused net joined joins outcome (inl refused) = inl (of_joined net joined joins outcome.status outcome.line refused)
  joined_refused net joined joins outcome (inr lost) = inr lost

  -- a refusal makes no call, and neither does want of memory
  pub refused_runs : (net : Net) (outcome : Outcome) → RefusesOrLosesTwin given net outcome
      → RunsMaking net_limit IsNetOf RefusesNet (IsTwinned given) (CanTwin given) (RefusesTwin given) net outcome.status outcome.line []
  refused_runs net =
      makes_none net_limit IsNetOf RefusesNet (IsTwinned given) (CanTwin given) (RefusesTwin given) net
      (λ line refused. refused.2) (λ line refused. refused.2) (λ line refused. refused.2)

  abbrev DueTwin : Net → Status → List ℕ → Type 0
  DueTwin = DueMaking net_limit IsNetOf RefusesNet (IsTwinned given) (CanTwin given) (RefusesTwin given)

  -- what is due is that none is joined, or what is due of the joined network
  due_in : (net : Net) (status : Status) (line : List ℕ) → DueTwin net status line
      → ((why : TwinWhy) × (status ≡ TwinRefused why) × IsUnjoined given net why)
      ⊎ ((joined : Net) × (said : List ℕ) × Joins given net joined × Due joined status said)
  due_in net Done line due = inr (due.joined, due.said, due.joins, due.good)
  due_in net (TwinRefused why) line due = inl (why, refl, due.0)
  due_in net status line due = inr (due.0, line, due.1, due.2)

  -- one status is due
  due_once : (net : Net) (status : Status) (line : List ℕ) (status' : Status) (line' : List ℕ)
      → DueTwin net status line → DueTwin net status' line' → status ≡ status'
  due_once net status line status' line' one other = elim (due_in net status line one) [
    | inl none ↦ elim (due_in net status' line' other) [
      | inl none' ↦ none.1 ∙ ap TwinRefused (one_reason net none.0 none'.0 none.2 none'.2) ∙ sym none'.1
      | inr some' ↦ absurd (unjoined_joins net none.0 some'.0 none.2 some'.2)
    ]
    | inr some ↦ elim (due_in net status' line' other) [
      | inl none' ↦ absurd (unjoined_joins net none'.0 some.0 none'.2 some.2)
      | inr some' ↦
          let same = same_joined net some'.0 some.0 some'.2 some.2 in
          same_due some.0 status some.1 status' some'.1 some.3 (subst (λ joined. Due joined status' some'.1) same some'.3)
    ]
  ]

  abbrev outputs : List (List ℕ)
  outputs = given.code ∷ given.report ∷ []

  twins_well : MakesWell net_limit IsNetOf RefusesNet (IsTwinned given) (CanTwin given) (RefusesTwin given) given.net outputs
  twins_well = record {
    written = λ net files line made. ap paths_written made.files_are;
    can = can;
    of_inputs = of_inputs;
    undone = λ net line refused. refused.2;
    used = λ net line refused. refused.2;
    alike = λ net status line status' line' one other. ap any_witness (due_once net status line status' line' one other);
  }

  pub twin_known : IsKnown (twin_command given)
  twin_known =
      makes_known net_limit IsNetOf RefusesNet (IsTwinned given) (CanTwin given) (RefusesTwin given) given.net outputs twins_well net_input

  pub twin_used : (outcome : Outcome) (calls : Calls) → (twin_command given).runs outcome calls → outcome.status ≢ Usage
  twin_used =
      makes_used net_limit IsNetOf RefusesNet (IsTwinned given) (CanTwin given) (RefusesTwin given) given.net outputs twins_well net_input
