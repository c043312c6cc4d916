use Rattle.std.specs.Prelude.{◌==◌, ◌≡◌, ◌+◌, ◌++◌, ◌∷◌, [], ℕ, List}
use Rattle.std.proofs.Common.{◌<◌, length, get_or, arith, ◌∙◌, ap, below_more, subst, sym}
use Rattle.std.proofs.lemmas.Bool.{eq-eqb}
use Rattle.std.proofs.lemmas.List.{get_or-map, get_or_append_left, get_or_push, length-map, length_push}
use Rattle.std.proofs.lemmas.List.Folds.{list_any_at}
use Rattle.lif_compiler.specs.Operands.{befores}
use Rattle.lif_compiler.specs.declared.hops.Hop.{Hop}
use Rattle.lif_compiler.proofs.operands.places_of.Goals as goal

-- what holds of the numbers of a list, where it holds of one more
more_at : (P : ℕ → ℕ → Type 0) (old new : List ℕ) (x n : ℕ) → new ≡ old ++ x ∷ [] → length old ≡ n → ((k : ℕ) → k < n → P k (get_or old k 0)) → P n x → (k : ℕ) → k < n + 1 → P k (get_or new k 0)
more_at P old new x n is long so_far here =
    let All : List ℕ → Type 0 = λ numbers. (k : ℕ) → k < n + 1 → P k (get_or numbers k 0) in
    subst All (sym is)
    (below_more (λ k. P k (get_or (old ++ x ∷ []) k 0)) n (λ k before. subst (P k) (sym (get_or_append_left old (x ∷ []) 0 k (omega arith))) (so_far k before)) (subst (P n) (sym (get_or_push old x 0 n long)) here))

pub place_of-requires-clause-there : goal.place_of-requires-clause-there
place_of-requires-clause-there c =
    let hops = c.args.hops.now in
    let k = c.loop-hop.hop-index in
    let none : Hop = record { demand = 0; path = 0; before = 0 } in
    let number = (get_or hops k none).before in
    let within : k < length (befores hops) = simp length-map (omega arith) in
    c.requires.same number ∙ list_any_at (λ one. one == number) (befores hops) k 0 within (eq-eqb _ _ (get_or-map (λ (hop : Hop). hop.before) hops k none 0 (omega arith)))

pub loop-hop-preserved : goal.loop-hop-preserved
loop-hop-preserved c =
    let hops = c.args.hops.now in
    let sources = c.args.sources.now in
    let k = c.loop-hop.hop-index in
    let so_far = c.loop-hop.invariant in
    let old = c.loop-hop.places.items in
    let place = c.place_of.result in
    let more = c.in_ok-push.ensures.items in
    let none : Hop = record { demand = 0; path = 0; before = 0 } in
    let here = c.place_of.ensures.here ∙ sym (get_or-map (λ (hop : Hop). hop.before) hops k none 0 (omega arith)) in
    record {
      each = omega (arith, ap length more, length_push old place, so_far.each);
      within = more_at (λ k place. place < length sources) old _ place k more so_far.each so_far.within c.place_of.ensures.within;
      there = more_at (λ k place. get_or sources place 0 ≡ get_or (befores hops) k 0) old _ place k more so_far.each so_far.there here;
    }

pub returns : goal.returns
returns c =
    let so_far = c.loop-hop.invariant in
    let all = length-map c.args.hops.now (λ (hop : Hop). hop.before) in
    record {
      each = omega (arith, so_far.each, all);
      within = λ k below. so_far.within k (omega (arith, all));
      there = λ k below. so_far.there k (omega (arith, all));
    }
