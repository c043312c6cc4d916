use Rattle.std.proofs.Common.{◌≡◌, ◌++◌, ◌∙◌, List, ℕ, ap, arith, sym, take, true}
use Rattle.std.specs.List.{concat}
use Rattle.std.proofs.lemmas.Bool.{lt-ltb}
use Rattle.std.proofs.lemmas.List.{take_all}
use Rattle.linear_algebra.specs.Elements.{elements_of}
use Rattle.linear_algebra.specs.Matrices.{rows_of, times_rows}
use Rattle.net_model.specs.Walks.{leaves_source}
use Rattle.two_sources.specs.Separated.{first_vectors}
use Rattle.two_sources.proofs.DecoderSteps.{concat-more, length-product, product-at, take-row_sum}
use Rattle.two_sources.proofs.decoders.separated_entries.Goals as goal

pub loop-link-preserved : goal.loop-link-preserved
loop-link-preserved c =
    let code = c.args.code.now in
    let rate = code.rate in
    let entries = c.args.entries.now in
    let link = c.loop-link.link in
    let matrix = rows_of rate rate entries in
    let product = times_rows code.field rate (first_vectors code) matrix in
    let leaves : leaves_source code.net link ≡ true = c.requires.first link ∙ lt-ltb link rate c.loop-link-test.true in
    c.in_ok-push_elements.ensures.pushed
    ∙ ap (λ (before : List ℕ). before ++ take rate (elements_of code.field c.carried-row.result)) c.loop-link.invariant
    ∙ ap (λ (row : List ℕ). concat (take link product) ++ row)
    (ap (take rate) c.carried-row.ensures
    ∙ take-row_sum code entries c.requires.count c.requires.elements c.matrix_rows-rows.result c.matrix_rows-rows.ensures link leaves
    ∙ sym (product-at code entries c.requires.count c.requires.elements link c.loop-link-test.true))
    ∙ concat-more product link (omega (arith, length-product code matrix, c.loop-link-test.true))

pub returns : goal.returns
returns c =
    let code = c.args.code.now in
    let matrix = rows_of code.rate code.rate c.args.entries.now in
    let product = times_rows code.field code.rate (first_vectors code) matrix in
    c.of.ensures ∙ c.loop-link.invariant
    ∙ ap concat (take_all c.loop-link.link product (omega (arith, length-product code matrix, c.loop-link-test.false)))
