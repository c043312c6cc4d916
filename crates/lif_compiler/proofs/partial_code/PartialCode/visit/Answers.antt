use Rattle.std.proofs.Common.{◌≡◌, ◌∙◌, All, length, arith, ap, refl, sym, subst}
use Rattle.item_list.proofs.Writes.{written_back}
use Rattle.lif_compiler.specs.Bases.{HasMatrices, HasWidth}
use Rattle.lif_compiler.specs.Operands.{befores}
use Rattle.lif_compiler.specs.PartialCodes.{HaveProducts}
use Rattle.lif_compiler.specs.Tables.{AreAmong, AreOfShape, CanFeed}
use Rattle.lif_compiler.specs.Compiled.{marked_kind}
use Rattle.lif_compiler.proofs.BasesLaws.{LawsOf}
use Rattle.lif_compiler.proofs.ReadySteps.{among, feeding, few_hops, item_of, own_product, shape, some_basis, widths}
use Rattle.lif_compiler.proofs.AdvanceSteps.{advanced_at}
use Rattle.lif_compiler.proofs.StandSteps.{visited_more}
use Rattle.lif_compiler.proofs.VisitSteps.{carried_here, carry_links, carry_rows, carry_shape, carry_times, carry_zeros, chosen_here, new_back, advance_nonzero, advance_shape}
use Rattle.lif_compiler.proofs.WorkLaws.{visit_begun_ticks, visit_ticks}
use Rattle.lif_compiler.proofs.partial_code.PartialCode.visit.Goals as goal

pub choose_operands-requires-clause-vectors : goal.choose_operands-requires-clause-vectors
choose_operands-requires-clause-vectors g c =
    let laws : LawsOf g.F.Field = record { field = g.met.F.Field.field; numbering = g.met.F.Field.numbering; of_kind = c.requires.field } in
    let can = c.requires.ready.1 in
    shape laws can

pub choose_operands-requires-clause-bases : goal.choose_operands-requires-clause-bases
choose_operands-requires-clause-bases g c =
    let laws : LawsOf g.F.Field = record { field = g.met.F.Field.field; numbering = g.met.F.Field.numbering; of_kind = c.requires.field } in
    let can = c.requires.ready.1 in
    widths laws can

pub choose_operands-requires-clause-hops : goal.choose_operands-requires-clause-hops
choose_operands-requires-clause-hops g c =
    let laws : LawsOf g.F.Field = record { field = g.met.F.Field.field; numbering = g.met.F.Field.numbering; of_kind = c.requires.field } in
    let can = c.requires.ready.1 in
    among laws can

pub choose_operands-requires-clause-few_hops : goal.choose_operands-requires-clause-few_hops
choose_operands-requires-clause-few_hops g c =
    let laws : LawsOf g.F.Field = record { field = g.met.F.Field.field; numbering = g.met.F.Field.numbering; of_kind = c.requires.field } in
    let can = c.requires.ready.1 in
    omega (arith, few_hops laws can, c.requires.few_demands)

pub choose_operands-requires-clause-named : goal.choose_operands-requires-clause-named
choose_operands-requires-clause-named g c =
    let laws : LawsOf g.F.Field = record { field = g.met.F.Field.field; numbering = g.met.F.Field.numbering; of_kind = c.requires.field } in
    let can = c.requires.ready.1 in
    let code = c.args.self.now in
    let link_is : c.len-link.result ≡ length code.operands.items = omega (arith, c.len-link.ensures) in
    subst (λ link. CanFeed c.args.net.now code.rate link (befores c.args.hops.now)) (sym link_is) (feeding laws can c.requires.next)

pub choose_operands-requires-clause-own : goal.choose_operands-requires-clause-own
choose_operands-requires-clause-own g c =
    let laws : LawsOf g.F.Field = record { field = g.met.F.Field.field; numbering = g.met.F.Field.numbering; of_kind = c.requires.field } in
    let can = c.requires.ready.1 in
    let code = c.args.self.now in
    let link_is : c.len-link.result ≡ length code.operands.items = omega (arith, c.len-link.ensures) in
    subst (λ link. HaveProducts c.args.net.now link c.args.hops.now code) (sym link_is)
    (λ k hop here. own_product laws can k hop here c.requires.matrices (item_of code.bases.items (some_basis laws can)))

pub carry_all-requires-clause-shape : goal.carry_all-requires-clause-shape
carry_all-requires-clause-shape g c =
    let laws : LawsOf g.F.Field = record { field = g.met.F.Field.field; numbering = g.met.F.Field.numbering; of_kind = c.requires.field } in
    let can = c.requires.ready.1 in
    carry_shape laws can c.requires.next c.len-link.result (omega (arith, c.len-link.ensures)) c.as_mut_slice.result.now c.as_mut_slice.ensures.value

pub carry_all-requires-clause-zeros : goal.carry_all-requires-clause-zeros
carry_all-requires-clause-zeros g c =
    let laws : LawsOf g.F.Field = record { field = g.met.F.Field.field; numbering = g.met.F.Field.numbering; of_kind = c.requires.field } in
    let can = c.requires.ready.1 in
    carry_zeros laws can c.requires.next c.len-link.result (omega (arith, c.len-link.ensures)) c.as_mut_slice.result.now c.as_mut_slice.ensures.value

pub carry_all-requires-clause-times : goal.carry_all-requires-clause-times
carry_all-requires-clause-times g c =
    let laws : LawsOf g.F.Field = record { field = g.met.F.Field.field; numbering = g.met.F.Field.numbering; of_kind = c.requires.field } in
    let can = c.requires.ready.1 in
    carry_times laws can c.requires.next c.len-link.result (omega (arith, c.len-link.ensures)) c.in_ok-operands.ensures.chosen c.as_slice.result.now c.as_slice.ensures

pub carry_all-requires-clause-rows : goal.carry_all-requires-clause-rows
carry_all-requires-clause-rows g c =
    let laws : LawsOf g.F.Field = record { field = g.met.F.Field.field; numbering = g.met.F.Field.numbering; of_kind = c.requires.field } in
    let can = c.requires.ready.1 in
    carry_rows laws can c.requires.next c.len-link.result (omega (arith, c.len-link.ensures)) c.in_ok-operands.ensures.chosen c.as_slice.result.now c.as_slice.ensures

pub carry_all-requires-clause-links : goal.carry_all-requires-clause-links
carry_all-requires-clause-links g c =
    let laws : LawsOf g.F.Field = record { field = g.met.F.Field.field; numbering = g.met.F.Field.numbering; of_kind = c.requires.field } in
    let can = c.requires.ready.1 in
    carry_links laws can c.requires.next c.len-link.result (omega (arith, c.len-link.ensures)) c.in_ok-operands.ensures.chosen c.as_slice.result.now c.as_slice.ensures

pub advance_all-requires-clause-shape : goal.advance_all-requires-clause-shape
advance_all-requires-clause-shape g c =
    let laws : LawsOf g.F.Field = record { field = g.met.F.Field.field; numbering = g.met.F.Field.numbering; of_kind = c.requires.field } in
    let can = c.requires.ready.1 in
    let code = c.args.self.now in
    let whole : code.vectors.len ≡ length code.vectors.items = omega (arith, c.as_mut_slice.ensures.len, ap length c.as_mut_slice.ensures.value) in
    let made_are = c.as_slice-2.ensures.value ∙ new_back laws can c.requires.next c.len-link.result (omega (arith, c.len-link.ensures)) c.in_ok-operands.ensures.chosen c.as_slice.result.now c.as_slice.ensures c.as_mut_slice.result.now c.as_mut_slice.ensures.value c.carry_all.new.vectors (c.carry_all.ensures.carried (marked_kind g.F.Field.MARK) c.requires.field) code.vectors.len whole in
    let count : length c.args.net.now.links ≡ c.len.result = omega (arith, c.len.ensures) in
    subst (λ count. AreOfShape count code.rate c.as_slice-2.result.now) count (advance_shape laws can c.requires.next c.len-link.result (omega (arith, c.len-link.ensures)) c.in_ok-operands.ensures.chosen c.as_slice.result.now c.as_slice.ensures c.as_mut_slice.result.now c.as_mut_slice.ensures.value c.carry_all.new.vectors (c.carry_all.ensures.carried (marked_kind g.F.Field.MARK) c.requires.field) c.as_slice-2.result.now made_are)

pub advance_all-requires-clause-frontiers : goal.advance_all-requires-clause-frontiers
advance_all-requires-clause-frontiers g c =
    let laws : LawsOf g.F.Field = record { field = g.met.F.Field.field; numbering = g.met.F.Field.numbering; of_kind = c.requires.field } in
    let can = c.requires.ready.1 in
    let code = c.args.self.now in
    subst (All (HasWidth code.rate)) (sym c.as_mut_slice-2.ensures.value) (widths laws can)

pub advance_all-requires-clause-matrices : goal.advance_all-requires-clause-matrices
advance_all-requires-clause-matrices g c =
    subst (All HasMatrices) (sym c.as_mut_slice-2.ensures.value) c.requires.matrices

pub advance_all-requires-clause-hops : goal.advance_all-requires-clause-hops
advance_all-requires-clause-hops g c =
    let laws : LawsOf g.F.Field = record { field = g.met.F.Field.field; numbering = g.met.F.Field.numbering; of_kind = c.requires.field } in
    let can = c.requires.ready.1 in
    let code = c.args.self.now in
    subst (λ bs. AreAmong (length bs) code.rate c.args.hops.now) (sym c.as_mut_slice-2.ensures.value) (among laws can)

pub advance_all-requires-clause-nonzero : goal.advance_all-requires-clause-nonzero
advance_all-requires-clause-nonzero g c =
    let laws : LawsOf g.F.Field = record { field = g.met.F.Field.field; numbering = g.met.F.Field.numbering; of_kind = c.requires.field } in
    let can = c.requires.ready.1 in
    let code = c.args.self.now in
    let whole : code.vectors.len ≡ length code.vectors.items = omega (arith, c.as_mut_slice.ensures.len, ap length c.as_mut_slice.ensures.value) in
    let made_are = c.as_slice-2.ensures.value ∙ new_back laws can c.requires.next c.len-link.result (omega (arith, c.len-link.ensures)) c.in_ok-operands.ensures.chosen c.as_slice.result.now c.as_slice.ensures c.as_mut_slice.result.now c.as_mut_slice.ensures.value c.carry_all.new.vectors (c.carry_all.ensures.carried (marked_kind g.F.Field.MARK) c.requires.field) code.vectors.len whole in
    advance_nonzero laws can c.requires.next c.len-link.result (omega (arith, c.len-link.ensures)) c.in_ok-operands.ensures.chosen c.as_slice.result.now c.as_slice.ensures c.as_mut_slice.result.now c.as_mut_slice.ensures.value c.carry_all.new.vectors (c.carry_all.ensures.carried (marked_kind g.F.Field.MARK) c.requires.field) c.as_slice-2.result.now made_are c.as_mut_slice-2.result.now c.as_mut_slice-2.ensures.value c.requires.matrices c.carry_all.ensures.kept

pub returns-clause-matrices : goal.returns-clause-matrices
returns-clause-matrices g c =
    let code = c.args.self.now in
    let made = c.advance_all.new.bases in
    let old = code.bases.items in
    let size : length made ≡ length old = c.advance_all.auto.bases ∙ ap length c.as_mut_slice-2.ensures.value in
    let made_are = written_back old made code.bases.len (omega (arith, c.as_mut_slice-2.ensures.len, ap length c.as_mut_slice-2.ensures.value)) size in
    subst (All HasMatrices) (sym made_are) c.advance_all.ensures.matrices

pub returns-clause-visited : goal.returns-clause-visited
returns-clause-visited g c =
    let laws : LawsOf g.F.Field = record { field = g.met.F.Field.field; numbering = g.met.F.Field.numbering; of_kind = c.requires.field } in
    let code = c.args.self.now in
    let link_is : c.len-link.result ≡ length code.operands.items = omega (arith, c.len-link.ensures) in
    let whole : code.vectors.len ≡ length code.vectors.items = omega (arith, c.as_mut_slice.ensures.len, ap length c.as_mut_slice.ensures.value) in
    let bases_are : c.as_mut_slice-2.result.now ≡ code.bases.items = c.as_mut_slice-2.ensures.value in
    let new = c.carry_all.new.vectors in
    let made = c.advance_all.new.bases in
    let size : length made ≡ length code.bases.items = c.advance_all.auto.bases ∙ ap length bases_are in
    let made_are = written_back code.bases.items made code.bases.len (omega (arith, c.as_mut_slice-2.ensures.len, ap length bases_are)) size in
    λ routes can.
    let chosen = chosen_here laws can c.requires.next c.len-link.result (omega (arith, c.len-link.ensures)) c.in_ok-operands.ensures.chosen in
    let carried = carried_here laws can c.requires.next c.len-link.result (omega (arith, c.len-link.ensures)) c.in_ok-operands.ensures.chosen c.as_slice.result.now c.as_slice.ensures c.as_mut_slice.result.now c.as_mut_slice.ensures.value c.carry_all.new.vectors (c.carry_all.ensures.carried (marked_kind g.F.Field.MARK) c.requires.field) in
    let new_are = new_back laws can c.requires.next c.len-link.result (omega (arith, c.len-link.ensures)) c.in_ok-operands.ensures.chosen c.as_slice.result.now c.as_slice.ensures c.as_mut_slice.result.now c.as_mut_slice.ensures.value c.carry_all.new.vectors (c.carry_all.ensures.carried (marked_kind g.F.Field.MARK) c.requires.field) code.vectors.len whole in
    let advanced = advanced_at link_is (c.as_slice-2.ensures.value ∙ new_are) bases_are c.args.hops.now made c.advance_all.ensures.advanced in
    visited_more laws can c.requires.next c.in_ok-operands.operands chosen new carried made advanced _ refl c.in_ok-push.ensures.items new_are made_are

pub returns-in_err-operands-clause-ticks : goal.returns-in_err-operands-clause-ticks
returns-in_err-operands-clause-ticks g c =
    let laws : LawsOf g.F.Field = record { field = g.met.F.Field.field; numbering = g.met.F.Field.numbering; of_kind = c.requires.field } in
    visit_begun_ticks laws c.requires.ready.1 c.args.steps.now c.choose_operands.new.steps c.choose_operands.ensures.ticks

pub returns-in_err-push-clause-ticks : goal.returns-in_err-push-clause-ticks
returns-in_err-push-clause-ticks g c =
    let laws : LawsOf g.F.Field = record { field = g.met.F.Field.field; numbering = g.met.F.Field.numbering; of_kind = c.requires.field } in
    visit_ticks laws c.requires.ready.1 c.args.steps.now c.choose_operands.new.steps c.choose_operands.ensures.ticks c.in_ok-operands.ensures.chosen c.as_slice.result.now c.as_slice.ensures
    c.as_mut_slice.result.now c.as_mut_slice.ensures.value c.carry_all.new.steps c.advance_all.new.steps c.carry_all.ensures.few_ticks c.advance_all.ensures.few_ticks

pub returns-clause-ticks : goal.returns-clause-ticks
returns-clause-ticks g c =
    let laws : LawsOf g.F.Field = record { field = g.met.F.Field.field; numbering = g.met.F.Field.numbering; of_kind = c.requires.field } in
    visit_ticks laws c.requires.ready.1 c.args.steps.now c.choose_operands.new.steps c.choose_operands.ensures.ticks c.in_ok-operands.ensures.chosen c.as_slice.result.now c.as_slice.ensures
    c.as_mut_slice.result.now c.as_mut_slice.ensures.value c.carry_all.new.steps c.advance_all.new.steps c.carry_all.ensures.few_ticks c.advance_all.ensures.few_ticks
