use Rattle.std.proofs.Common.{◌≡◌, ◌≢◌, ℕ, suc, ◌<◌, ◌≤◌, Bool, true, false, List, length, get_or, ltb, eqb, Err, Ok, refl, sym, ◌∙◌, arith}
use Rattle.std.proofs.lemmas.Bool.{lt-ltb, le-ltb, ltb-true, ltb-false, eq-eqb, eqb-true, false_from_ne_true, not-true, not-false}
use Rattle.std.proofs.lemmas.List.{get_or_default}
use Rattle.std.proofs.lemmas.Result.{err_from_is_err_and}
use Rattle.node_program.specs.declared.Decoder.{Decoder}
use Rattle.code_items.specs.Reading.{Rest, same_conditions, refused_first}
use Rattle.code_items.specs.Gives.{left_of}
use Rattle.code_items.specs.Shared.{AreFirsts}
use Rattle.code_items.specs.Sharing.{shares}
use Rattle.code_items.specs.declared.refusal.CodeRefusal.TheVariants.{BadIndex, BadOperand, NotFirst}
use Rattle.code_items.proofs.Checks.{long_checked}
use Rattle.code_items.proofs.shared_decoders.read_same.Goals as goal
use Rattle.code_items.proofs.shared_decoders.read_same.Goals.{in-Some+in-Some-true, in_default}

module _ (sinks : List ℕ) (firsts : List Bool) (earlier : List Decoder) (are : AreFirsts firsts earlier) (sink at demand : ℕ) (x : ℕ × Rest) where
  -- no earlier demand has the number
  is_far : length firsts ≤ demand → refused_first (same_conditions sinks earlier sink at (suc demand)) x ≡ Err (BadIndex at)
  is_far past =
      let far : ltb demand (length earlier) ≡ false = le-ltb _ _ (omega (arith, are.size)) in
      rw far refl

  -- an earlier one that is of another sink
  of_other : demand < length firsts → get_or sinks demand 0 ≢ sink → refused_first (same_conditions sinks earlier sink at (suc demand)) x ≡ Err (BadOperand at)
  of_other here other =
      let near : ltb demand (length earlier) ≡ true = lt-ltb _ _ (omega (arith, are.size)) in
      let differs : eqb (get_or sinks demand 0) sink ≡ false = false_from_ne_true _ (λ same. other (eqb-true _ _ same)) in
      rw (near, differs) refl

  -- one that isn't the first with its decoder
  is_later : demand < length firsts → get_or sinks demand 0 ≡ sink → get_or firsts demand false ≡ false → refused_first (same_conditions sinks earlier sink at (suc demand)) x ≡ Err (NotFirst at)
  is_later here same later =
      let near : ltb demand (length earlier) ≡ true = lt-ltb _ _ (omega (arith, are.size)) in
      let equal : eqb (get_or sinks demand 0) sink ≡ true = eq-eqb _ _ same in
      let known : shares earlier demand ≡ true = not-false _ (sym (are.each demand (omega (arith, are.size))) ∙ later) in
      rw (near, equal, known) refl

  -- one that is
  is_first : demand < length firsts → get_or sinks demand 0 ≡ sink → get_or firsts demand false ≡ true → refused_first (same_conditions sinks earlier sink at (suc demand)) x ≡ Ok x
  is_first here same first =
      let near : ltb demand (length earlier) ≡ true = lt-ltb _ _ (omega (arith, are.size)) in
      let equal : eqb (get_or sinks demand 0) sink ≡ true = eq-eqb _ _ same in
      let known : shares earlier demand ≡ false = not-true _ (sym (are.each demand (omega (arith, are.size))) ∙ first) in
      rw (near, equal, known) refl

pub returns-in_err-same-clause-reads : goal.returns-in_err-same-clause-reads
returns-in_err-same-clause-reads c earlier are =
    let p = err_from_is_err_and c.from_residual.result c.from_residual.ensures.1 in
    rw (p.1, p.2) (λ other. rw (long_checked (left_of c.args.rest) (same_conditions c.args.sinks.now earlier c.args.sink c.args.rest.at), c.in_err-same.ensures other) refl)

pub returns-in-None-clause-reads : goal.returns-in-None-clause-reads
returns-in-None-clause-reads c earlier are other =
    let number : c.in_ok-same.same ≡ suc c.in-Some.demand = omega (arith, c.in-Some.ensures) in
    rw (long_checked (left_of c.args.rest) (same_conditions c.args.sinks.now earlier c.args.sink c.args.rest.at), c.in_ok-same.ensures, number)
    (is_far c.args.sinks.now c.args.firsts.now earlier are c.args.sink c.args.rest.at c.in-Some.demand _ (ltb-false _ _ (sym c.in-None.ensures.lookup.0)))

pub returns-in-Some-get-clause-reads : goal.returns-in-Some-get-clause-reads
returns-in-Some-get-clause-reads c earlier are other =
    let number : c.in_ok-same.same ≡ suc c.in-Some.demand = omega (arith, c.in-Some.ensures) in
    rw (long_checked (left_of c.args.rest) (same_conditions c.args.sinks.now earlier c.args.sink c.args.rest.at), c.in_ok-same.ensures, number)
    (of_other c.args.sinks.now c.args.firsts.now earlier are c.args.sink c.args.rest.at c.in-Some.demand _ (ltb-true _ _ (sym c.in-Some-get.ensures.lookup.0)) c.if-sinks-demand.true)

pub returns-in-Some-false-clause-reads : goal.returns-in-Some-false-clause-reads
returns-in-Some-false-clause-reads c earlier are other =
    let number : c.in_ok-same.same ≡ suc c.in-Some.demand = omega (arith, c.in-Some.ensures) in
    let here = ltb-true _ _ (sym c.in-Some-get.ensures.lookup.0) in
    let mark : get_or c.args.firsts.now c.in-Some.demand false ≡ false = get_or_default _ _ _ _ here ∙ sym c.in-Some-get.ensures.lookup.1 ∙ c.in-Some-false.field-0-test in
    rw (long_checked (left_of c.args.rest) (same_conditions c.args.sinks.now earlier c.args.sink c.args.rest.at), c.in_ok-same.ensures, number)
    (is_later c.args.sinks.now c.args.firsts.now earlier are c.args.sink c.args.rest.at c.in-Some.demand _ here c.if-sinks-demand.false mark)

pub returns-clause-reads : goal.returns-clause-reads
returns-clause-reads c earlier are =
    rw (long_checked (left_of c.args.rest) (same_conditions c.args.sinks.now earlier c.args.sink c.args.rest.at), c.in_ok-same.ensures)
    (elim c.match-checked_sub.branch [
      | in-Some+in-Some-true w ↦
          let number : c.in_ok-same.same ≡ suc w.in-Some.demand = omega (arith, w.in-Some.ensures) in
          let here = ltb-true _ _ (sym w.in-Some-get.ensures.lookup.0) in
          let mark : get_or c.args.firsts.now w.in-Some.demand false ≡ true = get_or_default _ _ _ _ here ∙ sym w.in-Some-get.ensures.lookup.1 ∙ w.in-Some-true.field-0-test in
          rw number (is_first c.args.sinks.now c.args.firsts.now earlier are c.args.sink c.args.rest.at w.in-Some.demand _ here w.if-sinks-demand.false mark)
      | in_default w ↦
          let none : c.in_ok-same.same ≡ 0 = omega (arith, w.in_default.ensures) in
          rw none refl
    ])
