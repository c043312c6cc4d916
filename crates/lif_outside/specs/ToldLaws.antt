-- What follows of content that is told.
use Rattle.std.specs.Prelude.{◌≡◌, Option, Some, None, is_some, true}
use Rattle.std.proofs.Common.{refl, ap, ◌∙◌, subst₂}
use Rattle.std.proofs.lemmas.Bool.{false≢true}
use Rattle.lif_outside.specs.Told.{Told, Becomes}

some_there : {X : Type 0} (o : Option X) → is_some o ≡ true → (x : X) × (o ≡ Some x)
some_there None e = absurd (false≢true e)
some_there (Some x) e = (x, refl)

-- where both are told
pub becomes_told : {X : Type 0} {old new : X} {R : X → X → Type 0} → R old new → Becomes (Some old) (Some new) R
becomes_told {R = R} r = record {
  tells = refl;
  related = λ _ _ f g. subst₂ R (cc) (cc) r;
}

-- where nothing is told
pub becomes_untold : {X : Type 0} {R : X → X → Type 0} → Becomes {X = X} None None R
becomes_untold = record { tells = refl; related = λ old new e f. absurd (false≢true (ap is_some e)) }

-- one change, and then another
pub becomes_then : {X : Type 0} {f g h : Option X} {R Q P : X → X → Type 0} → Becomes f g R → Becomes g h Q → ((a b c : X) → R a b → Q b c → P a c) → Becomes f h P
becomes_then {g = g} r q join = record {
  tells = q.tells ∙ r.tells;
  related = λ old new f h.
      let mid = some_there g (r.tells ∙ ap is_some f) in
      join old mid.0 new (r.related old mid.0 f mid.1) (q.related mid.0 new mid.1 h);
}

-- a weaker relation
pub becomes_weaker : {X : Type 0} {f g : Option X} {R Q : X → X → Type 0} → Becomes f g R → ((a b : X) → R a b → Q a b) → Becomes f g Q
becomes_weaker r weaker = record {
  tells = r.tells;
  related = λ old new f g. weaker old new (r.related old new f g);
}

-- no change, under a relation that each content has to itself
pub becomes_same : {X : Type 0} {f : Option X} {R : X → X → Type 0} → ((a : X) → R a a) → Becomes f f R
becomes_same {R = R} self = record {
  tells = refl;
  related = λ old new f g. subst₂ R refl (cc) (self old);
}

-- what holds of the content before a change, by the change
pub told_before : {X : Type 0} (f g : Option X) (R : X → X → Type 0) (P : X → Type 0) → Becomes f g R → ((old new : X) → R old new → P old) → Told f P
told_before None g R P change from = tt
told_before (Some old) g R P change from =
    let new = some_there g change.tells in
    from old new.0 (change.related old new.0 refl new.1)
