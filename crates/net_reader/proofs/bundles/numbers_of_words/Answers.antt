use Rattle.std.proofs.Common.{◌≡◌, ◌+◌, ◌-◌, ℕ, Bor, List, length, map, not, take, drop, get_or, ap, subst, sym, ◌∙◌, arith}
use Rattle.std.specs.List.{list_any}
use Rattle.std.proofs.lemmas.Bool.{eq-eqb, ne_eqb}
use Rattle.std.proofs.lemmas.List.{length-drop, take_all}
use Rattle.net_reader.specs.Bundles.{names_none}
use Rattle.net_reader.specs.State.{bundle_seen}
use Rattle.net_reader.specs.Words.{texts_of}
use Rattle.net_reader.proofs.Gathering.{AreGathered, IsGathered-all, IsGathered-first, gathered_more, names_none-count, no_word, one_unknown, unknown_later}
use Rattle.net_reader.proofs.bundles.numbers_of_words.Goals as goal
use Rattle.net_reader.proofs.bundles.numbers_of_words.Goals.{After-len-in-loop-place}

-- the numbers with those of the word are gathered from the words so far and it
gathered : (c : After-len-in-loop-place) → AreGathered c.args.links.now (map bundle_seen c.args.bundles.now.links.items) (texts_of (take (c.loop-place.place + 1) c.args.words.now)) c.push_range.new.numbers.items
gathered c =
    gathered_more c.args.links.now (map bundle_seen c.args.bundles.now.links.items) c.args.words.now c.loop-place.place c.loop-place.numbers.items c.push_range.new.numbers.items c.named-first.result.0 c.named-first.result.1
    c.loop-place-test.true c.loop-place.invariant c.named-first.ensures.numbers (ne_eqb c.named-first.result.1 0 c.if-count-eq0.false) c.named-first.ensures.within c.in_ok-push_range.ensures

-- whether later words are unknown is whether any are
later : (c : After-len-in-loop-place) → list_any (names_none c.args.links.now (map bundle_seen c.args.bundles.now.links.items)) (texts_of (take (length c.args.words.now - (c.loop-place.place + 1)) (drop (c.loop-place.place + 1) c.args.words.now)))
    ≡ list_any (names_none c.args.links.now (map bundle_seen c.args.bundles.now.links.items)) (texts_of c.args.words.now)
later c =
    let next = c.loop-place.place + 1 in
    let unknown = names_none c.args.links.now (map bundle_seen c.args.bundles.now.links.items) in
    ap (λ (words : List (Bor (List ℕ))). list_any unknown (texts_of words)) (take_all (length c.args.words.now - next) (drop next c.args.words.now) (omega (arith, length-drop next c.args.words.now)))
    ∙ unknown_later c.args.links.now (map bundle_seen c.args.bundles.now.links.items) c.args.words.now next (gathered c).known

pub returns-then-count-eq0-clause-unknown : goal.returns-then-count-eq0-clause-unknown
returns-then-count-eq0-clause-unknown c =
    let links = c.args.links.now in
    let bundles = map bundle_seen c.args.bundles.now.links.items in
    let i = c.loop-place.place in
    sym (ap not (one_unknown links bundles c.args.words.now i c.loop-place-test.true
    (names_none-count links bundles (get_or c.args.words.now i no_word).now _ _ c.named-first.ensures.numbers ∙ eq-eqb _ _ c.if-count-eq0.true)))

pub returns-then-not-are_known-clause-unknown : goal.returns-then-not-are_known-clause-unknown
returns-then-not-are_known-clause-unknown c = sym c.if-not-are_known.true ∙ c.are_known.ensures ∙ ap not (later (goal.at.returns-then-not-are_known-clause-unknown c).After-len-in-loop-place)

pub returns-then-len-clause-unknown : goal.returns-then-len-clause-unknown
returns-then-len-clause-unknown c = sym c.if-not-are_known.false ∙ c.are_known.ensures ∙ ap not (later (goal.at.returns-then-len-clause-unknown c).After-len-in-loop-place)

pub returns-then-len-clause-numbers : goal.returns-then-len-clause-numbers
returns-then-len-clause-numbers c =
    IsGathered-first c.args.links.now (map bundle_seen c.args.bundles.now.links.items) c.args.words.now (c.loop-place.place + 1) c.push_range.new.numbers.items (gathered (goal.at.returns-then-len-clause-numbers c).After-len-in-loop-place)
    (omega (arith, c.if-len.true, c.len.ensures, c.len-in-loop-place.ensures.len, c.push_range.new.numbers.ok))

pub returns-then-len-clause-within : goal.returns-then-len-clause-within
returns-then-len-clause-within c = (gathered (goal.at.returns-then-len-clause-within c).After-len-in-loop-place).within

pub loop-place-preserved : goal.loop-place-preserved
loop-place-preserved c = gathered (goal.at.loop-place-preserved c).After-len-in-loop-place

pub returns-clause-numbers : goal.returns-clause-numbers
returns-clause-numbers c =
    let links = c.args.links.now in
    let bundles = map bundle_seen c.args.bundles.now.links.items in
    let all : take c.loop-place.place c.args.words.now ≡ c.args.words.now = take_all c.loop-place.place c.args.words.now c.loop-place-test.false in
    IsGathered-all links bundles (texts_of c.args.words.now) c.loop-place.numbers.items
    (subst (λ (words : List (Bor (List ℕ))). AreGathered links bundles (texts_of words) c.loop-place.numbers.items) all c.loop-place.invariant)
