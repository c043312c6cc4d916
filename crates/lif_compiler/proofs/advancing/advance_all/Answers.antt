use Rattle.std.proofs.Common.{◌*◌, ◌<◌, length, slice_index_or, arith, refl, ap, ◌∙◌, sym}
use Rattle.std.proofs.lemmas.List.{get_or_default}
use Rattle.std.proofs.lemmas.List.Elements.{All-set}
use Rattle.std.proofs.lemmas.Option.{slice_get-get_or}
use Rattle.field_vectors.specs.Grid.{Grid, row_of}
use Rattle.lif_compiler.specs.Bases.{HasMatrices}
use Rattle.lif_compiler.proofs.BasesLaws.{inverses_in-at, vectors_in-at}
use Rattle.lif_compiler.proofs.CountLaws.{hop_counted, hops_all, hops_counted}
use Rattle.lif_compiler.specs.declared.hops.Hop.{Hop}
use Rattle.lif_compiler.proofs.AdvanceSteps.{apart_before, inverses_more, advanced_more, advanced_nonzero, widths_more}
use Rattle.lif_compiler.proofs.TableSteps.{vectors_read}
use Rattle.lif_compiler.proofs.WorkLaws.{turns_more}
use Rattle.lif_compiler.proofs.advancing.advance_all.Goals as goal

pub advance-requires-clause-nonzero : goal.advance-requires-clause-nonzero
advance-requires-clause-nonzero g c =
    let F = g.F.Field in
    let hops = c.args.hops.now in
    let k = c.loop-hop.hop-index in
    let none : Hop = record { demand = 0; path = 0; before = 0 } in
    let hop = slice_index_or hops k none in
    let here = slice_get-get_or hops k none c.loop-hop-test.true in
    let among = c.requires.hops k none c.loop-hop-test.true in
    let advanced = c.loop-hop.invariant.advanced in
    let vectors = vectors_read c.args.vectors.now hop.demand (length c.args.vectors.now) c.index-vectors-demand.result c.requires.some_pattern refl c.index-vectors-demand.is in
    advanced_nonzero F.zero F.add F.mul _ _ _ _ _ (c.requires.nonzero k hop here)
    (c.row.ensures.value ∙ ap (λ (m : Grid g.row.F.Denot). row_of m c.args.link) vectors)
    (sym (inverses_in-at c.loop-hop.bases hop.demand c.index-bases-demand.result (omega (arith, among.0, c.loop-hop.auto.bases))) ∙ c.loop-hop.invariant.inverses hop.demand (apart_before hops k hop c.requires.once here))

pub loop-hop-preserved : goal.loop-hop-preserved
loop-hop-preserved g c =
    let hops = c.args.hops.now in
    let k = c.loop-hop.hop-index in
    let none : Hop = record { demand = 0; path = 0; before = 0 } in
    let hop = slice_index_or hops k none in
    let here = slice_get-get_or hops k none c.loop-hop-test.true in
    let among = c.requires.hops k none c.loop-hop-test.true in
    let so_far = c.loop-hop.invariant in
    let vectors = vectors_read c.args.vectors.now hop.demand (length c.args.vectors.now) c.index-vectors-demand.result c.requires.some_pattern refl c.index-vectors-demand.is in
    let row = c.row.ensures.value ∙ ap (λ (m : Grid g.row.F.Denot). row_of m c.args.link) vectors in
    let within : hop.demand < length c.loop-hop.bases = omega (arith, among.0, c.loop-hop.auto.bases) in
    let basis = slice_index_or c.loop-hop.bases hop.demand c.index-bases-demand.result in
    let is = get_or_default c.loop-hop.bases hop.demand c.index-bases-demand.result basis within in
    record {
      advanced = advanced_more hops k hop c.requires.once here c.args.bases.now c.loop-hop.bases basis c.advance.new.basis within is c.args.link c.args.vectors.now c.row.result.now
          so_far.advanced c.advance.ensures.frontier c.advance.ensures.vectors row;
      widths = widths_more hops k hop c.requires.once here c.args.bases.now c.loop-hop.bases basis c.advance.new.basis within is c.args.rate c.args.link so_far.widths c.advance.ensures.frontier;
      matrices = All-set HasMatrices c.loop-hop.bases hop.demand c.advance.new.basis c.advance.ensures.matrices so_far.matrices;
      ticks =
          hops_counted c.args.link c.args.vectors.now c.args.bases.now hops k none c.args.steps.now c.loop-hop.steps c.advance.new.steps (omega arith) so_far.ticks
          (hop_counted c.args.link c.args.vectors.now c.args.bases.now hop basis.vectors basis.inverses c.row.result.now c.loop-hop.steps c.advance.new.steps g.met.F.Field.equal
          (sym (vectors_in-at c.loop-hop.bases hop.demand c.index-bases-demand.result within) ∙ so_far.advanced.vectors_other hop.demand (apart_before hops k hop c.requires.once here))
          (sym (inverses_in-at c.loop-hop.bases hop.demand c.index-bases-demand.result within) ∙ so_far.inverses hop.demand (apart_before hops k hop c.requires.once here))
          row c.advance.ensures.same_vector c.advance.ensures.new_vector);
      few_ticks = turns_more k _ (3 * c.args.rate * c.args.rate) c.args.steps.now c.loop-hop.steps c.advance.new.steps (ap (λ h. 3 * h * h) (so_far.widths hop.demand c.index-bases-demand.result within)) so_far.few_ticks c.advance.ensures.few_ticks;
      inverses = inverses_more hops k hop c.requires.once here c.args.bases.now c.loop-hop.bases basis c.advance.new.basis within is so_far.inverses;
    }

pub returns-clause-ticks : goal.returns-clause-ticks
returns-clause-ticks g c =
    hops_all c.args.link c.args.vectors.now c.args.bases.now c.args.hops.now c.loop-hop.hop-index c.args.steps.now c.loop-hop.steps (omega arith) c.loop-hop.invariant.ticks
