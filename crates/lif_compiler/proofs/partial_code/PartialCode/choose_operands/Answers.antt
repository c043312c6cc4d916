use Rattle.std.proofs.Common.{◌≡◌, ◌<◌, ◌≤◌, ◌+◌, ◌*◌, ℕ, List, All, length, map, arith, ap, ◌∙◌, sym, subst}
use Rattle.std.specs.Prelude.{if◌then◌else◌}
use Rattle.std.proofs.lemmas.Nat.{mul-le}
use Rattle.std.proofs.lemmas.Result.{IfOk-weaker}
use Rattle.node_program.specs.Value.{leaves_source}
use Rattle.lif_compiler.specs.Compiled.{marked_kind}
use Rattle.lif_compiler.specs.Operands.{ArePlaces, AreSources, befores, operands_of}
use Rattle.lif_compiler.proofs.BasesLaws.{LawsOf}
use Rattle.lif_compiler.proofs.ChoosingSteps.{All-sources, chosen_by, few_either, few_sources, nonzero_at}
use Rattle.lif_compiler.specs.Tables.{product_steps}
use Rattle.lif_compiler.proofs.WorkLaws.{choice_ticks, sources-few, table_ticks}
use Rattle.lif_compiler.proofs.partial_code.PartialCode.choose_operands.Goals as goal

pub places_of-requires : goal.places_of-requires
places_of-requires g c = subst (AreSources (befores c.args.hops.now)) (sym c.deref.ensures.value) c.in_ok-sources.ensures

pub table_of-requires-clause-link : goal.table_of-requires-clause-link
table_of-requires-clause-link g c = c.requires.link

pub table_of-requires-clause-some_pattern : goal.table_of-requires-clause-some_pattern
table_of-requires-clause-some_pattern g c = c.requires.some_pattern

pub table_of-requires-clause-vectors : goal.table_of-requires-clause-vectors
table_of-requires-clause-vectors g c = c.requires.vectors

pub table_of-requires-clause-bases : goal.table_of-requires-clause-bases
table_of-requires-clause-bases g c = c.requires.bases

pub table_of-requires-clause-hops : goal.table_of-requires-clause-hops
table_of-requires-clause-hops g c = c.requires.hops

pub table_of-requires-clause-sources : goal.table_of-requires-clause-sources
table_of-requires-clause-sources g c =
    let bound : ℕ = if leaves_source c.args.net.now c.args.link then c.args.self.now.rate else length c.args.net.now.links in
    let Below : ℕ → Type 0 = λ from. from < bound in
    let P : List ℕ → Type 0 = λ sources. All Below sources in
    subst P (sym c.deref-2.ensures.value) (All-sources Below (befores c.args.hops.now) c.in_ok-sources.sources.items c.in_ok-sources.ensures c.requires.named)

pub table_of-requires-clause-few_sources : goal.table_of-requires-clause-few_sources
table_of-requires-clause-few_sources g c =
    let net = c.args.net.now in
    let bound : ℕ = if leaves_source net c.args.link then c.args.self.now.rate else length net.links in
    let Below : ℕ → Type 0 = λ from. from < bound in
    let few = few_sources (befores c.args.hops.now) c.in_ok-sources.sources.items bound c.in_ok-sources.ensures c.requires.named in
    let most : bound ≤ 8192 = few_either (leaves_source net c.args.link) c.args.self.now.rate (length net.links) 8192 (omega (arith, c.requires.low_rate)) net.network.few_links in
    omega (arith, few, most, ap length c.deref-2.ensures.value)

pub choose-requires-clause-few_rows : goal.choose-requires-clause-few_rows
choose-requires-clause-few_rows g c =
    let table = c.in_ok-table.ensures.table (marked_kind g.F.Field.MARK) c.requires.field in
    omega (arith, table.height, c.requires.few_hops)

pub choose-requires-clause-nonzero : goal.choose-requires-clause-nonzero
choose-requires-clause-nonzero g c =
    let F = g.F.Field in
    let L = g.met.F.Field in
    let hops = c.args.hops.now in
    let Places : List ℕ → List ℕ → Type 0 = ArePlaces (befores hops) in
    let places = subst (λ sources. Places sources c.deref-3.result.now) (c.deref.ensures.value ∙ sym c.deref-2.ensures.value) (subst (Places c.deref.result.now) (sym c.deref-3.ensures.value) c.in_ok-places.ensures) in
    let laws : LawsOf F = record { field = L.field; numbering = L.numbering; of_kind = c.requires.field } in
    nonzero_at laws c.in_ok-table.table (c.in_ok-table.ensures.table (marked_kind F.MARK) c.requires.field) c.deref-3.result.now places c.requires.own

pub operands_with-requires : goal.operands_with-requires
operands_with-requires g c =
    let table = c.in_ok-table.ensures.table (marked_kind g.F.Field.MARK) c.requires.field in
    omega (arith, c.in_ok-coefficients.ensures.choice.each_column, table.columns, ap length c.deref-5.ensures.value, ap length (c.deref-4.ensures.value ∙ sym c.deref-2.ensures.value))

pub returns-in_err-sources-clause-ticks : goal.returns-in_err-sources-clause-ticks
returns-in_err-sources-clause-ticks g c = record { not_below = omega arith; not_above = omega arith }

pub returns-in_err-places-clause-ticks : goal.returns-in_err-places-clause-ticks
returns-in_err-places-clause-ticks g c = record { not_below = omega arith; not_above = omega arith }

pub returns-clause-chosen : goal.returns-clause-chosen
returns-clause-chosen g c =
    let F = g.F.Field in
    let L = g.met.F.Field in
    let hops = c.args.hops.now in
    let sources = c.deref-2.result.now in
    let same : c.deref-4.result.now ≡ sources = c.deref-4.ensures.value ∙ sym c.deref-2.ensures.value in
    let are = subst (AreSources (befores hops)) (sym c.deref-2.ensures.value) c.in_ok-sources.ensures in
    let laws : LawsOf F = record { field = L.field; numbering = L.numbering; of_kind = c.requires.field } in
    IfOk-weaker c.operands_with.result _ _
    (λ operands is. chosen_by laws c.in_ok-table.table (c.in_ok-table.ensures.table (marked_kind F.MARK) c.requires.field) c.in_ok-coefficients.coefficients.items operands c.choose.ensures.kept are c.in_ok-coefficients.ensures.choice
    (is ∙ ap (λ (sources : List ℕ). operands_of sources (map F.number c.deref-5.result.now)) same ∙ ap (λ (times : List g.row.F.Denot). operands_of sources (map F.number times)) c.deref-5.ensures.value))
    c.operands_with.ensures

pub returns-in_err-table-clause-ticks : goal.returns-in_err-table-clause-ticks
returns-in_err-table-clause-ticks g c =
    let hops = c.args.hops.now in
    let are = subst (AreSources (befores hops)) (sym c.deref-2.ensures.value) c.in_ok-sources.ensures in
    table_ticks hops c.deref-2.result.now are c.args.self.now.rate c.args.steps.now c.table_of.new.steps c.table_of.ensures.few_ticks

pub returns-in_err-coefficients-clause-ticks : goal.returns-in_err-coefficients-clause-ticks
returns-in_err-coefficients-clause-ticks g c =
    let hops = c.args.hops.now in
    let are = subst (AreSources (befores hops)) (sym c.deref-2.ensures.value) c.in_ok-sources.ensures in
    let table = c.in_ok-table.ensures.table (marked_kind g.F.Field.MARK) c.requires.field in
    choice_ticks hops c.deref-2.result.now are c.args.self.now.rate c.args.steps.now _ _ c.table_of.new.steps c.choose.new.steps table.height table.columns c.table_of.ensures.few_ticks c.choose.ensures.ticks

pub returns-clause-ticks : goal.returns-clause-ticks
returns-clause-ticks g c =
    let hops = c.args.hops.now in
    let are = subst (AreSources (befores hops)) (sym c.deref-2.ensures.value) c.in_ok-sources.ensures in
    let table = c.in_ok-table.ensures.table (marked_kind g.F.Field.MARK) c.requires.field in
    choice_ticks hops c.deref-2.result.now are c.args.self.now.rate c.args.steps.now _ _ c.table_of.new.steps c.choose.new.steps table.height table.columns c.table_of.ensures.few_ticks c.choose.ensures.ticks

-- the sources of a link are as many, however they are found
as_many : (numbers mine sources : List ℕ) → AreSources numbers mine → AreSources numbers sources → length sources ≤ length mine
as_many numbers mine sources own other = sources-few mine sources (record { rising = other.rising; same = λ number. other.same number ∙ sym (own.same number) })

pub returns-clause-table_ticks : goal.returns-clause-table_ticks
returns-clause-table_ticks g c = λ sources other.
    let hops = c.args.hops.now in
    let mine = c.deref-2.result.now in
    let once = product_steps (leaves_source c.args.net.now c.args.link) c.args.self.now.rate in
    let own = subst (AreSources (befores hops)) (sym c.deref-2.ensures.value) c.in_ok-sources.ensures in
    let few = as_many (befores hops) mine sources own other in
    let most = mul-le (length hops) (length sources * once) (length hops) (length mine * once) (omega arith) (mul-le (length sources) once (length mine) once few (omega arith)) in
    let enough : c.args.steps.now + length hops * (length sources * once) ≤ c.choose.new.steps = omega (arith, c.in_ok-table.ensures.ticks, c.choose.ensures.ticks.not_below, most) in
    IfOk-weaker c.operands_with.result _ _ (λ operands is. enough) c.operands_with.ensures
