use Rattle.std.specs.Prelude.{Some, remove, slice_get}
use Rattle.std.proofs.Common.{refl, sym, subst, ap, Bool, if◌then◌else◌, vec_len, ◌∙◌, ◌≡◌, ◌<◌, [], length, slice_index_or, arith}
use Rattle.std.proofs.Math.Nat.{le_refl}
use Rattle.std.proofs.lemmas.Bool.{eqb-true, false≢true}
use Rattle.std.proofs.lemmas.List.{append-nil, nil_from_length}
use Rattle.std.proofs.lemmas.Option.{slice_get_read}
use Rattle.lif_outside.specs.Counts.{one_more}
use Rattle.lif_outside.specs.Listed.{held_in, sent_in, given_in, faults_in, faithful_ones, keeps_next}
use Rattle.lif_outside.specs.MoveLaws.{one_move}
use Rattle.lif_outside.specs.Moves.{took, took_none, take_failed}
use Rattle.lif_outside.specs.Picks.{place_of}
use Rattle.lif_outside.specs.Spoils.{spoiled}
use Rattle.lif_outside.specs.ToldLaws.{becomes_told, becomes_same}
use Rattle.lif_outside.specs.declared.links.Flight.{Flight}
use Rattle.lif_outside.proofs.HostileLaws.{goes_or_stays, is_given, is_untaken, unpushed}
use Rattle.lif_outside.proofs.PushLaws.{pushed}
use Rattle.lif_outside.proofs.listed.ListLinksLinks.take.Goals as goal

pub returns-then-contains-clause-call : goal.returns-then-contains-clause-call
returns-then-contains-clause-call c =
    one_move held_in faithful_ones faults_in sent_in given_in take_failed c.args.self.now _
    (is_untaken _ _ _ c.args.self.now.keeps.items _ _ c.count_one-nth.ensures.later) refl
    (becomes_same {f = Some c.args.self.now.sent.items} (λ held. sym (append-nil held))) (becomes_same {f = Some c.args.self.now.given.items} (λ held. sym (append-nil held)))
    c.failed.ensures.later (λ is. omega (arith, c.failed.ensures.after)) (λ is. absurd (false≢true (sym is)))

-- where nothing was found, nothing flies
nothing_flies : (c : goal.After-self-then-is_empty-1) → c.args.self.now.flying.items ≡ []
nothing_flies c =
    let none : vec_len c.args.self.now.flying ≡ 0 = eqb-true _ _ (sym c.is_empty.ensures ∙ c.if-is_empty.true) in
    nil_from_length _ (sym c.args.self.now.flying.ok.0 ∙ none)

pub returns-then-is_empty-clause-call : goal.returns-then-is_empty-clause-call
returns-then-is_empty-clause-call c =
    one_move held_in faithful_ones faults_in sent_in given_in took_none c.args.self.now _
    (nothing_flies c, is_untaken _ _ _ c.args.self.now.keeps.items _ _ c.count_one-nth.ensures.later) refl
    (becomes_same {f = Some c.args.self.now.sent.items} (λ held. sym (append-nil held))) (becomes_same {f = Some c.args.self.now.given.items} (λ held. sym (append-nil held)))
    (le_refl c.args.self.now.faults) (λ is. absurd (false≢true is)) (λ is. refl)

pub returns-then-is_err-clause-call : goal.returns-then-is_err-clause-call
returns-then-is_err-clause-call c =
    one_move held_in faithful_ones faults_in sent_in given_in take_failed c.args.self.now _
    (is_untaken _ _ _ c.args.self.now.keeps.items _ _ c.count_one-nth.ensures.later) refl
    (becomes_same {f = Some c.args.self.now.sent.items} (λ held. sym (append-nil held))) (becomes_told (unpushed _ _ _ _ c.push.ensures.items c.if-is_err.ensures.negation))
    c.failed-then-is_err.ensures.later (λ is. omega (arith, c.failed-then-is_err.ensures.after)) (λ is. absurd (false≢true (sym is)))

-- how many fly
count : (c : goal.After-self-2-1) → c.len.result ≡ length c.args.self.now.flying.items
count c = c.len.ensures ∙ c.args.self.now.flying.ok.0

-- the place is that of a flying pair, and the one that the list says
within : (c : goal.After-self-2-1) → c.place_of-place.result < length c.args.self.now.flying.items
within c = subst (λ n. c.place_of-place.result < n) (count c) c.place_of-place.ensures.within

listed : (c : goal.After-self-2-1) → c.place_of-place.result ≡ place_of c.args.self.now.picks.items c.args.self.now.takes (length c.args.self.now.flying.items)
listed c =
    c.place_of-place.ensures.value ∙ ap (λ picks. place_of picks c.args.self.now.takes c.len.result) c.as_slice.ensures.value
    ∙ ap (λ n. place_of c.args.self.now.picks.items c.args.self.now.takes n) (count c)

-- the pair that flies there, and what is given of its frame
flew : (c : goal.After-self-2-1) → c.index.result.now ≡ slice_index_or c.args.self.now.flying.items c.place_of-place.result c.index.result.now
flew c = c.index.ensures

given : (c : goal.After-self-2-1) → c.spoiled.result ≡ spoiled c.args.self.now.spoils.items (one_more c.args.self.now.takes) c.index.result.now.frame
given c =
    c.spoiled.ensures ∙ ap (λ spoils. spoiled spoils c.count_one-nth.result c.index.result.now.frame) c.as_slice-2.ensures.value
    ∙ ap (λ nth. spoiled c.args.self.now.spoils.items nth c.index.result.now.frame) c.count_one-nth.ensures.value

pub returns-clause-call : goal.returns-clause-call
returns-clause-call c =
    one_move held_in faithful_ones faults_in sent_in given_in (took (record { link = c.index.result.now.link; frame = c.spoiled.result })) c.args.self.now _
    (is_given c.args.self.now.spoils.items (one_more c.args.self.now.takes) c.place_of-place.result c.index.result.now c.spoiled.result _ _ (within c) (flew c) (given c)
    (goes_or_stays c.keeps_next-is_kept.result c.args.self.now.flying.items _ _ _ c.args.self.now.keeps.items c.args.self.now.takes _ c.place_of-place.result c.index.result.now
    c.keeps_next-is_kept.ensures c.let_go.ensures.items c.count_one-nth.ensures.later c.count_one-nth.ensures.after (within c) (flew c))
    (record { same_room = refl; same_seed = refl }))
    refl (becomes_same {f = Some c.args.self.now.sent.items} (λ held. sym (append-nil held)))
    (becomes_told (pushed _ _ _ _ c.push.ensures.items c.if-is_err.ensures.negation)) (le_refl c.args.self.now.faults) (λ is. absurd (false≢true is)) (λ is. refl)

pub returns-clause-picked : goal.returns-clause-picked
returns-clause-picked c = λ flight is.
    let same : record { link = c.index.result.now.link; frame = c.spoiled.result } ≡ flight = cc in
    record {
      pair = c.index.result.now;
      flew = ap (λ place. slice_get c.args.self.now.flying.items place) (sym (listed c)) ∙ slice_get_read _ _ _ _ refl (within c) (flew c);
      same_link = ap (λ (f : Flight). f.link) (sym same);
      frame = ap (λ (f : Flight). f.frame) (sym same) ∙ given c;
      after = c.let_go.ensures.items ∙ ap (λ (b : Bool). if b then c.args.self.now.flying.items else remove c.args.self.now.flying.items c.place_of-place.result) c.keeps_next-is_kept.ensures
          ∙ ap (λ place. if keeps_next c.args.self.now then c.args.self.now.flying.items else remove c.args.self.now.flying.items place) (listed c);
    }
