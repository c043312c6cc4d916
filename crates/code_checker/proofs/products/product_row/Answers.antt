use Rattle.std.proofs.Common.{◌≡◌, ◌<◌, ◌≤◌, ◌+◌, ◌-◌, ◌*◌, ℕ, List, [], ap, arith, drop, get_or, length, map, refl, slice_index, subst, sym, take, ◌∙◌}
use Rattle.std.proofs.lemmas.List.{get_or-map, length-map}
use Rattle.linear_algebra.proofs.RowLaws.{AreRows-get_or}
use Rattle.linear_algebra.specs.Elements.{elements_of}
use Rattle.linear_algebra.specs.Rows.{combination, AreElements}
use Rattle.net_model.specs.Demands.{pattern_of_demand}
use Rattle.node_program.proofs.DecodingLaws.{AreRows-decoder_vectors}
use Rattle.node_program.specs.CodeValue.{vector_in}
use Rattle.node_program.specs.Decoding.{decoder_vectors}
use Rattle.code_checker.proofs.ProductSteps.{decoder_link_within, decoder_vector_at, length-decoder_vectors, product_row, row_entries}
use Rattle.field_rows.proofs.ElementLaws.{elements_of-zeros}
use Rattle.link_rows.proofs.SumSteps.{sum_all, sum_more}
use Rattle.link_rows.proofs.WideLaws.{combination-widened, length-widened, wide_room}
use Rattle.link_rows.specs.Vectors.{wide_width, widened}
use Rattle.code_checker.proofs.products.product_row.Goals as goal

pub loop-place-init : goal.loop-place-init
loop-place-init c = elements_of-zeros c.args.code.now.field 64 refl

pub loop-place-preserved : goal.loop-place-preserved
loop-place-preserved c =
    let code = c.args.code.now in
    let rate = code.rate in
    let field = code.field in
    let k = c.loop-place.place in
    let start = c.args.row * rate in
    let decoder = c.decoder_of-decoder.result.now in
    let found = c.decoder_of-decoder.ensures.value in
    let shape = c.decoder_of-decoder.ensures.shape in
    let links = c.as_slice-links.result.now in
    let coefficients : List ℕ = take (start + rate - start) (drop start c.as_slice.result.now) in
    let width : start + rate - start ≡ rate = omega arith in
    let same : coefficients ≡ take rate (drop start decoder.entries) =
    ap (λ n. take n (drop start c.as_slice.result.now)) width ∙ ap (λ (entries : List ℕ). take rate (drop start entries)) c.as_slice.ensures in
    let entries = row_entries code c.args.demand decoder found c.requires.demand c.args.row c.requires.row in
    let room : rate ≤ wide_width field = omega (arith, wide_room field, code.code.draft.low_rate) in
    let below : k < length coefficients = omega (arith, ap (length {A = ℕ}) same, entries.width, c.loop-place-test.true) in
    let inside : k < length decoder.links = omega (arith, shape.link_count, c.loop-place-test.true) in
    let within : k < length (decoder_vectors code c.args.demand) = omega (arith, length-decoder_vectors code c.args.demand decoder found, inside) in
    let At : List ℕ → Type 0 = λ all. slice_index all k < length code.net.links in
    let linked = subst At (sym c.as_slice-links.ensures) (decoder_link_within code c.args.demand k decoder shape c.loop-place-test.true) in
    let is : elements_of field c.row-vector.result.now ≡ widened field (get_or (decoder_vectors code c.args.demand) k []) =
    ap (elements_of field) c.row-vector.ensures ∙ c.requires.vectors.vector (slice_index links k) linked
    ∙ ap (λ (all : List ℕ). widened field (vector_in code (pattern_of_demand code.net c.args.demand) (slice_index all k))) c.as_slice-links.ensures
    ∙ ap (widened field) (sym (decoder_vector_at code c.args.demand decoder found k inside)) in
    let vectors = decoder_vectors code c.args.demand in
    let here : get_or (map (widened field) vectors) k [] ≡ widened field (get_or vectors k []) = get_or-map (widened field) vectors k [] [] within in
    let wide : length (get_or vectors k []) ≡ rate =
    (AreRows-get_or field rate k vectors within (AreRows-decoder_vectors code c.args.demand c.requires.demand)).width in
    let long : length (get_or (map (widened field) vectors) k []) ≡ wide_width field =
    ap (length {A = ℕ}) here ∙ length-widened field (get_or vectors k []) (omega (arith, wide, room)) in
    sum_more field (wide_width field) coefficients (map (widened field) vectors) k below (omega (arith, within, length-map vectors (widened field))) long
    (slice_index coefficients k) c.row-vector.result.now c.loop-place.sum c.add_scaled.new.into refl (is ∙ sym here) c.add_scaled.ensures.sum c.loop-place.invariant

pub returns : goal.returns
returns c =
    let code = c.args.code.now in
    let rate = code.rate in
    let field = code.field in
    let start = c.args.row * rate in
    let decoder = c.decoder_of-decoder.result.now in
    let found = c.decoder_of-decoder.ensures.value in
    let vectors = decoder_vectors code c.args.demand in
    let coefficients : List ℕ = take (start + rate - start) (drop start c.as_slice.result.now) in
    let width : start + rate - start ≡ rate = omega arith in
    let same : coefficients ≡ take rate (drop start decoder.entries) =
    ap (λ n. take n (drop start c.as_slice.result.now)) width ∙ ap (λ (entries : List ℕ). take rate (drop start entries)) c.as_slice.ensures in
    let entries = row_entries code c.args.demand decoder found c.requires.demand c.args.row c.requires.row in
    let room : rate ≤ wide_width field = omega (arith, wide_room field, code.code.draft.low_rate) in
    let all : length coefficients ≤ c.loop-place.place = omega (arith, ap (length {A = ℕ}) same, entries.width, c.loop-place-test.false) in
    let whole : length vectors ≤ c.loop-place.place =
    omega (arith, length-decoder_vectors code c.args.demand decoder found, c.decoder_of-decoder.ensures.shape.link_count, c.loop-place-test.false) in
    let Fit : List ℕ → Type 0 = AreElements field in
    sum_all field (wide_width field) coefficients (map (widened field) vectors) c.loop-place.place all (omega (arith, whole, length-map vectors (widened field)))
    c.loop-place.sum c.loop-place.invariant
    ∙ combination-widened field rate coefficients vectors room (subst Fit (sym same) entries.elements) (AreRows-decoder_vectors code c.args.demand c.requires.demand)
    ∙ ap (λ (row : List ℕ). widened field (combination field rate row vectors)) same
    ∙ ap (widened field) (product_row code c.args.demand decoder found c.args.row c.requires.row)
