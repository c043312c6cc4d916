use Rattle.std.proofs.Common.{arith, ◌≡◌, ◌+◌, ◌<◌, ◌∷◌, ◌++◌, ℕ, List, [], ap, length, subst, sym, ◌∙◌}
use Rattle.std.specs.Prelude.{cond, filter, reverse}
use Rattle.std.specs.List.{range_with_len}
use Rattle.std.proofs.lemmas.Bool.{false_from_ne_true}
use Rattle.std.proofs.lemmas.List.{append-nil, reverse-append}
use Rattle.gf_tables.specs.declared.kind.FieldKind.{FieldKind}
use Rattle.item_list.proofs.Ranges.{filter-range_more}
use Rattle.linear_algebra.specs.Elements.{elements_of}
use Rattle.linear_algebra.specs.Rows.{IsRow}
use Rattle.link_rows.specs.Vectors.{widened}
use Rattle.net_model.specs.Failed.{failed_links}
use Rattle.node_program.proofs.LinkLaws.{head_of-leads_into, leads_into-head_of}
use Rattle.node_program.proofs.VectorLaws.{IsRow-global_vector}
use Rattle.node_program.specs.Code.{leads_into}
use Rattle.code_finish.specs.Solved.{vectors_under}
use Rattle.code_finish.specs.Taken.{AreTaken}
use Rattle.code_finish.specs.declared.taking.Taken.{Taken}
use Rattle.code_finish.proofs.TakenLaws.{taken_none}
use Rattle.code_finish.proofs.solving.take_links.Goals as goal
use Rattle.code_finish.proofs.solving.take_links.Goals.{then-head-node+in_ok-take_in, else-head-node}

pub loop-link-init : goal.loop-link-init
loop-link-init g c =
    let draft = c.args.draft.now in
    record {
      field = c.clear.ensures.field;
      rate = c.clear.ensures.rate;
      taken = λ pattern are.
          rw (c.clear.ensures.rows, c.clear.ensures.links)
          (taken_none draft.field draft.rate draft.draft.low_rate (vectors_under draft pattern) (IsRow-global_vector draft.draft (failed_links draft.net.patterns pattern)));
    }

pub returns-in_err-take_in-clause-field : goal.returns-in_err-take_in-clause-field
returns-in_err-take_in-clause-field g c = c.take_in.ensures.field ∙ c.loop-link.invariant.field

pub returns-in_err-take_in-clause-rate : goal.returns-in_err-take_in-clause-rate
returns-in_err-take_in-clause-rate g c = c.take_in.ensures.rate ∙ c.loop-link.invariant.rate

pub loop-link-preserved : goal.loop-link-preserved
loop-link-preserved g c =
    let draft = c.args.draft.now in
    let node = c.args.node in
    let link = c.loop-link.link in
    let old = c.loop-link.taken in
    let before = c.loop-link.invariant in
    let within : link < length draft.net.links = omega (arith, c.loop-link-test.true, c.len-link-end.ensures) in
    let test = leads_into draft.net.links node in
    let so_far : List ℕ = filter test (range_with_len 0 link) in
    let more = filter-range_more test link in
    elim c.if-head-node.branch [
      | then-head-node+in_ok-take_in w ↦
          let told = w.take_in.ensures in
          let into = leads_into-head_of draft.net.links node link within (sym c.head.ensures.value ∙ w.if-head-node.true) in
          let links : reverse (filter test (range_with_len 0 (link + 1))) ≡ link ∷ reverse so_far =
          ap reverse (more ∙ ap (λ b. so_far ++ cond b (link ∷ []) []) into) ∙ reverse-append so_far (link ∷ [])
          in
          let Step : FieldKind → ℕ → Type 0 = λ field rate. (vector_of : ℕ → List ℕ) (earlier : List ℕ)
          → ((e : ℕ) → IsRow field rate (vector_of e)) → elements_of field w.row.result.now ≡ widened field (vector_of link)
          → AreTaken field rate vector_of earlier old.links.items old.span.rows
          → AreTaken field rate vector_of (link ∷ earlier) w.take_in.new.self.links.items w.take_in.new.self.span.rows
          in
          let step : Step draft.field draft.rate =
          subst (λ field. Step field draft.rate) (before.field ∙ c.requires.field)
          (subst (λ rate. Step old.field rate) (before.rate ∙ c.requires.rate) w.in_ok-take_in.ensures.taken)
          in
          record {
            field = ap (λ (taken : Taken g.row.W). taken.field) w.taken-is ∙ told.field ∙ before.field;
            rate = ap (λ (taken : Taken g.row.W). taken.rate) w.taken-is ∙ told.rate ∙ before.rate;
            taken = λ pattern are.
                rw (w.taken-is, links)
                (step (vectors_under draft pattern) (reverse so_far) (IsRow-global_vector draft.draft (failed_links draft.net.patterns pattern))
                (ap (elements_of draft.field) w.row.ensures ∙ are.vector link within) (before.taken pattern are));
          }
      | else-head-node w ↦
          let past = false_from_ne_true (test link) (λ into. w.if-head-node.false (c.head.ensures.value ∙ head_of-leads_into draft.net.links node link into)) in
          let links : filter test (range_with_len 0 (link + 1)) ≡ so_far =
          more ∙ ap (λ b. so_far ++ cond b (link ∷ []) []) past ∙ append-nil so_far
          in
          record {
            field = ap (λ (taken : Taken g.row.W). taken.field) w.taken-is ∙ before.field;
            rate = ap (λ (taken : Taken g.row.W). taken.rate) w.taken-is ∙ before.rate;
            taken = λ pattern are. rw (w.taken-is, links) (before.taken pattern are);
          }
    ]

pub returns-clause-field : goal.returns-clause-field
returns-clause-field g c = c.loop-link.invariant.field

pub returns-clause-rate : goal.returns-clause-rate
returns-clause-rate g c = c.loop-link.invariant.rate

pub returns-clause-taken : goal.returns-clause-taken
returns-clause-taken g c = λ pattern are.
    let draft = c.args.draft.now in
    let all : c.loop-link.link ≡ length draft.net.links = omega (arith, c.loop-link-test.false, c.loop-link.auto.link-end, c.len-link-end.ensures) in
    let Are : ℕ → Type 0 = λ links. AreTaken draft.field draft.rate (vectors_under draft pattern) (reverse (filter (leads_into draft.net.links c.args.node) (range_with_len 0 links))) c.loop-link.taken.links.items c.loop-link.taken.span.rows in
    subst Are all (c.loop-link.invariant.taken pattern are)
