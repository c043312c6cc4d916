use Rattle.std.proofs.Common.{◌∙◌, ℕ, List, [], All, length, slice_index_or, arith, ap, subst, sym}
use Rattle.node_program.specs.Code.{IsCode}
use Rattle.node_program.specs.declared.Operand.{Operand}
use Rattle.lif_compiler.specs.Compiled.{marked_kind}
use Rattle.lif_compiler.specs.Decoders.{AreReadOff}
use Rattle.lif_compiler.specs.ReadOff.{AreApart, AreReached}
use Rattle.lif_compiler.specs.Visits.{IsFilled, IsOfHop}
use Rattle.lif_compiler.proofs.AllSteps.{routes_all, visited_all}
use Rattle.lif_compiler.proofs.BasesLaws.{LawsOf}
use Rattle.lif_compiler.proofs.FinalBasesLaws.{IsAccepted-made, IsCode-made, apart-bases, reached-bases}
use Rattle.lif_compiler.proofs.compiling.fill.Goals as goal

pub decoders_of-requires-clause-reached : goal.decoders_of-requires-clause-reached
decoders_of-requires-clause-reached g c =
    let visitable = c.requires.ready.1 in
    let begun = c.in_ok-code.ensures in
    let all = c.in_ok-visit_all.ensures in
    subst (λ bs. All (λ b. AreReached b.frontier) bs) (sym c.as_slice.ensures.value) (reached-bases (routes_all visitable c.in_ok-code.code c.visit_all.new.self begun.rate all.rate begun.visited all.visited) all.whole (visited_all visitable c.in_ok-code.code c.visit_all.new.self begun.rate all.rate begun.visited all.visited))

pub decoders_of-requires-clause-apart : goal.decoders_of-requires-clause-apart
decoders_of-requires-clause-apart g c =
    let visitable = c.requires.ready.1 in
    let begun = c.in_ok-code.ensures in
    let all = c.in_ok-visit_all.ensures in
    subst (λ bs. All (λ b. AreApart b.frontier) bs) (sym c.as_slice.ensures.value) (apart-bases (routes_all visitable c.in_ok-code.code c.visit_all.new.self begun.rate all.rate begun.visited all.visited) all.whole (visited_all visitable c.in_ok-code.code c.visit_all.new.self begun.rate all.rate begun.visited all.visited))

pub returns-clause-filled : goal.returns-clause-filled
returns-clause-filled g c = λ routes visitable.
    let F = g.F.Field in
    let L = g.met.F.Field in
    let laws : LawsOf F = record { field = L.field; numbering = L.numbering; of_kind = c.requires.field } in
    let net = c.args.net.now in
    let new = c.visit_all.new.self in
    let begun = c.in_ok-code.ensures in
    let all = c.in_ok-visit_all.ensures in
    let fit = routes_all visitable c.in_ok-code.code c.visit_all.new.self begun.rate all.rate begun.visited all.visited in
    let done = visited_all visitable c.in_ok-code.code c.visit_all.new.self begun.rate all.rate begun.visited all.visited in
    let whole = all.whole in
    let decoders = c.in_ok-decoders.decoders in
    let read = subst (λ bs. AreReadOff bs decoders) c.as_slice.ensures.value c.in_ok-decoders.ensures.each in
    let kind = marked_kind F.MARK in
    subst (λ (rate : ℕ). IsFilled net kind rate routes c.of.result decoders) (all.rate ∙ begun.rate)
    (record {
      is_code = subst (λ (operands : List (List Operand)). IsCode net new.rate kind operands decoders) (sym c.of.ensures)
          (IsCode-made fit whole done laws decoders read (c.in_ok-decoders.ensures.count ∙ ap length c.as_slice.ensures.value));
      accepted = λ made of_net of_rate of_field of_operands of_decoders.
          IsAccepted-made fit whole done laws decoders read all.matrices made of_net of_rate of_field (of_operands ∙ c.of.ensures) of_decoders;
      of_hops = λ link below.
          subst (λ (operands : List (List Operand)). All (IsOfHop routes link) (slice_index_or operands link [])) (sym c.of.ensures) (done.chosen.of_hops link (omega (arith, whole)));
    })
