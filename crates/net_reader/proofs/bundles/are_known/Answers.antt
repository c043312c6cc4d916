use Rattle.std.proofs.Common.{◌≡◌, ◌<◌, ℕ, All, false, Bor, List, length, map, not, take, get_or, refl, ap, subst, sym, ◌∙◌, arith}
use Rattle.std.specs.List.{list_any}
use Rattle.std.proofs.lemmas.Bool.{eq-eqb, ne_eqb, not-false}
use Rattle.std.proofs.lemmas.List.{take_all, length-set}
use Rattle.std.proofs.lemmas.List.Elements.{All-set, All-replicate}
use Rattle.std.proofs.lemmas.Slice.Eq.{bytes_eq-Decides}
use Rattle.net_reader.specs.Bundles.{names_none}
use Rattle.net_reader.specs.State.{bundle_seen}
use Rattle.net_reader.specs.Words.{texts_of}
use Rattle.net_reader.proofs.Gathering.{known_more, names_none-count, no_word, one_unknown}
use Rattle.net_reader.proofs.bundles.are_known.Goals as goal
use Rattle.net_reader.proofs.bundles.are_known.Goals.{then-ne+else-named-eq0-2, else-ne}

pub loop-word-init : goal.loop-word-init
loop-word-init c =
    let bundles = map bundle_seen c.args.bundles.now.links.items in
    let known : names_none c.args.links.now bundles c.in-Some.first.now.now ≡ false =
    names_none-count c.args.links.now bundles c.in-Some.first.now.now c.named.result.0 c.named.result.1 c.named.ensures.numbers ∙ ne_eqb c.named.result.1 0 c.if-named-eq0.false in
    record {
      so_far = refl;
      kept = All-replicate (λ (word : Bor (List ℕ)). names_none c.args.links.now bundles word.now ≡ false) 256 c.in-Some.first.now known;
      size = refl;
    }

pub returns-then-named-eq0-2 : goal.returns-then-named-eq0-2
returns-then-named-eq0-2 c =
    let bundles = map bundle_seen c.args.bundles.now.links.items in
    let i = c.loop-word.word-index in
    sym (ap not (one_unknown c.args.links.now bundles c.args.words.now i c.loop-word-test.true
    (names_none-count c.args.links.now bundles (get_or c.args.words.now i no_word).now _ _ c.named-then-ne.ensures.numbers ∙ eq-eqb _ _ c.if-named-eq0-2.true)))

pub loop-word-preserved : goal.loop-word-preserved
loop-word-preserved c =
    let links = c.args.links.now in
    let bundles = map bundle_seen c.args.bundles.now.links.items in
    let i = c.loop-word.word-index in
    let end = c.from-end.result in
    let word = get_or c.args.words.now i no_word in
    let Known : Bor (List ℕ) → Type 0 = λ word. names_none links bundles word.now ≡ false in
    let within : end < length c.loop-word.known = omega (arith, c.loop-word.invariant.size, c.from-end.ensures, c.unwrap_or.type_inv) in
    elim c.if-ne.branch [
      | then-ne+else-named-eq0-2 w ↦
          let known : Known word = names_none-count links bundles word.now _ _ w.named-then-ne.ensures.numbers ∙ ne_eqb _ 0 w.if-named-eq0-2.false in
          record {
            so_far = known_more links bundles c.args.words.now i c.loop-word-test.true c.loop-word.invariant.so_far known;
            kept = subst (All Known) (sym w.known-is) (All-set Known c.loop-word.known end word known c.loop-word.invariant.kept);
            size = ap length w.known-is ∙ length-set c.loop-word.known end word ∙ c.loop-word.invariant.size;
          }
      | else-ne w ↦
          let same : (get_or c.loop-word.known end no_word).now ≡ word.now = (bytes_eq-Decides _ _).0 (not-false _ (sym c.ne.ensures ∙ w.if-ne.false)) in
          let known : Known word = ap (names_none links bundles) (sym same) ∙ c.loop-word.invariant.kept end no_word within in
          record {
            so_far = known_more links bundles c.args.words.now i c.loop-word-test.true c.loop-word.invariant.so_far known;
            kept = subst (All Known) (sym w.known-is) c.loop-word.invariant.kept;
            size = ap length w.known-is ∙ c.loop-word.invariant.size;
          }
    ]

pub returns : goal.returns
returns c =
    let all : take c.loop-word.word-index c.args.words.now ≡ c.args.words.now = take_all c.loop-word.word-index c.args.words.now c.loop-word-test.false in
    sym (ap not (ap (λ (words : List (Bor (List ℕ))). list_any (names_none c.args.links.now (map bundle_seen c.args.bundles.now.links.items)) (texts_of words)) (sym all) ∙ c.loop-word.invariant.so_far))
